-- Lines that are taken, by what the code does for them.
use Rattle.std.proofs.Common.{◌≡◌, ◌∙◌, ◌++◌, ◌∷◌, [], ℕ, ℤ, Bool, true, false, List, Option, Some, None, Ok, Err, IfSome, inl, length, refl, sym, ap, subst, string_bytes}
use Rattle.std.specs.Global.{Vec}
use Rattle.std.specs.Prelude.{◌||◌, ⊤, IsSome, is_some, sum_by}
use Rattle.std.specs.Option.{option_map}
use Rattle.config_graph.specs.Graph.{IsGraph, requires_at}
use Rattle.config_graph.specs.Sound.{Sound}
use Rattle.config_graph.specs.declared.node.Made.{Made}
use Rattle.change_spec.specs.Statements.{change, start}
use Rattle.change_plan.specs.Room.{HasRoom, HasRoomFor}
use Rattle.change_plan.specs.declared.plan_data.Move.{Move}
use Rattle.change_script.specs.ScriptFiles.{is_file, is_start}
use Rattle.report_types.specs.declared.script.Body.{Body}
use Rattle.report_types.specs.declared.script.Body.TheVariants as bodies
use Rattle.cfg_io.specs.Shelf.{Files}
use Rattle.command_answers.specs.Answers.{description}
use Rattle.command_answers.specs.DescriptionFaults.{MayRefuse, fault_words}
use Rattle.command_answers.specs.declared.error.DescriptionFault.{DescriptionFault}
use Rattle.command_spec.specs.Courses.{came, refusal, Follows, here, gives, refused}
use Rattle.command_spec.specs.Lines.{GraphUse, calls, changes, does, starts, IsCallRefusal, Progress, of_lines, with_called_graph, with_description, with_statement}
use Rattle.darwin_types.specs.Checked as of_checked
use Rattle.darwin_types.specs.declared.checked.Checked.{Checked}
use Rattle.command_program.specs.Coming.{StopsFor}
use Rattle.command_program.specs.Refusals.{IsFaultOf}
use Rattle.command_program.specs.declared.answer.Stop.{Stop}
use Rattle.command_program.proofs.ComingLaws.{stops_in}
use Rattle.command_program.specs.Calls.{LeadsToChange, LeadsToStart}
use Rattle.command_program.specs.Leading.{LeadOn, Leads, Marks}
use Rattle.command_program.specs.Ways.{CanFollow, HasAdded, HasDescribed, IsAt, IsNoChange, IsAskedSoFar, last_graph, made_with_graph, with_start}
use Rattle.command_program.specs.declared.way.Way.{Way}
use Rattle.command_program.proofs.Calls.{begins, does_more, goes_on}
use Rattle.command_program.proofs.PlannedLines.{room_to_create}
use Rattle.change_spec.specs.Asked.{statement_of, made_with_change}
use Rattle.change_spec.specs.declared.steps.Replacement.{Replacement}
use Rattle.change_spec.specs.declared.steps.Start.{Start}
use Rattle.change_spec.specs.declared.steps.Step.{Step}
use Rattle.change_spec.specs.declared.steps.Step.TheVariants as steps

or_false : (b : Bool) → b ≡ (b || false)
or_false true = refl
or_false false = refl

or_true : (b : Bool) → true ≡ (b || true)
or_true true = refl
or_true false = refl

-- a file whose description is used
pub used_at : (way next : Way) (p : Progress) (file : List ℕ) (d : Checked) → IsAt way p → HasDescribed way file d next
    → IsAt next (with_description p file (of_checked.description d))
used_at way next p file d at has = record {
  file_is = sym has.file_is;
  used_is = ap (option_map of_checked.description) (sym has.used_is);
  made_is = at.made_is ∙ sym has.made_is;
  stands =
      subst (λ o. IsAskedSoFar o next.steps.items next.made p.statements p.graphs) (sym has.start_is)
      (subst (λ (v : Vec Step). IsAskedSoFar way.start v.items next.made p.statements p.graphs) (sym has.steps_are)
      (subst (λ m. IsAskedSoFar way.start way.steps.items m p.statements p.graphs) (sym has.made_is) at.stands));
}

pub used_marks : (way next : Way) (file name : List ℕ) (d : Checked) → HasDescribed way file d next → Marks way next (bodies.File name)
used_marks way next file name d has = record {
  described = ap is_some has.used_is ∙ or_true (is_some way.used);
  begun = ap is_some has.start_is ∙ or_false (is_some way.start);
}

-- a start
pub started : (way : Way) (p : Progress) (s : Start) (name : List ℕ) (args : List ℤ) → way.start ≡ None → Sound s.graph → HasRoomFor way.made s.graph
    → LeadsToStart p name args s → IsAt way p → (files : Option Files) → LeadOn {T = ⊤} files p (calls starts name args ∷ []) (with_start way s) (Ok tt)
started way p s name args none_ sound room leads at files =
    let q = with_called_graph p starts name args s.graph (made_with_graph p.made s.graph) in (
      q,
      record {
        file_is = at.file_is;
        used_is = at.used_is;
        made_is = ap (λ m. made_with_graph m s.graph) at.made_is;
        stands =
            subst (λ n. IsAskedSoFar (Some s) way.steps.items (made_with_graph way.made s.graph) (p.statements ++ start n args s.graph ∷ []) (s.graph ∷ p.graphs)) leads.name_is
            (subst (λ xs. IsAskedSoFar (Some s) way.steps.items (made_with_graph way.made s.graph) (p.statements ++ start s.name xs s.graph ∷ []) (s.graph ∷ p.graphs)) leads.args_are
            (begins s way.steps.items way.made p.statements p.graphs sound room (subst (λ o. IsAskedSoFar o way.steps.items way.made p.statements p.graphs) none_ at.stands)));
      },
      gives q [] (came q) leads.leads here,
    )

pub start_marks : (way : Way) (s : Start) (name : List ℕ) (args : List ℤ) → Marks way (with_start way s) (bodies.Start name args)
start_marks way s name args = record { described = or_false (is_some way.used); begun = or_true (is_some way.start) }

-- a step was added
added_at : (way next : Way) (step : Step) (p q : Progress) → HasAdded way step next.made next → q.file ≡ p.file → q.used ≡ p.used → IsAt way p → q.made ≡ next.made
    → IsAskedSoFar way.start (way.steps.items ++ step ∷ []) next.made q.statements q.graphs → IsAt next q
added_at way next step p q has file_same used_same at made_is stands = record {
  file_is = file_same ∙ at.file_is ∙ ap string_bytes (sym has.file_is);
  used_is = used_same ∙ at.used_is ∙ ap (option_map of_checked.description) (sym has.used_is);
  made_is = made_is;
  stands =
      subst (λ o. IsAskedSoFar o next.steps.items next.made q.statements q.graphs) (sym has.start_is)
      (subst (λ xs. IsAskedSoFar way.start xs next.made q.statements q.graphs) (sym has.steps_are) stands);
}

pub step_marks : (way next : Way) (step : Step) (m : Made) (body : Body) → HasAdded way step m next → is_file body ≡ false → is_start body ≡ false → Marks way next body
step_marks way next step m body has no_file no_start = record {
  described = ap is_some has.used_is ∙ or_false (is_some way.used) ∙ ap (λ b. is_some way.used || b) (sym no_file);
  begun = ap is_some has.start_is ∙ or_false (is_some way.start) ∙ ap (λ b. is_some way.start || b) (sym no_start);
}

-- a change
pub changed : (way next : Way) (p : Progress) (c : Replacement) (name : List ℕ) (args : List ℤ) (within : ℕ) (moves : List Move) → IsSome way.start
    → IfSome way.start (λ s. CanFollow (last_graph s.graph way.steps.items) way.made c) → IsGraph c.graph → LeadsToChange p name args within moves c
    → HasAdded way (steps.Change c) (made_with_change way.made c) next → IsAt way p → (files : Option Files) → LeadOn {T = ⊤} files p (calls (changes within moves) name args ∷ []) next (Ok tt)
changed way next p c name args within moves some follows_ is_graph leads has at files =
    let q = with_called_graph p (changes within moves) name args c.graph (made_with_change p.made c) in
    let told = goes_on way.start way.steps.items way.made p.statements p.graphs c some follows_ is_graph at.stands in
    let said_so : p.statements ++ change c.name c.args c.graph c.within c.moves ∷ [] ≡ p.statements ++ change name args c.graph within moves ∷ [] =
    λ i. p.statements ++ change (leads.name_is i) (leads.args_are i) c.graph (leads.within_is i) (leads.moves_are i) ∷ [] in
    let stands = subst (λ ss. IsAskedSoFar way.start (way.steps.items ++ steps.Change c ∷ []) (made_with_change way.made c) ss (c.graph ∷ p.graphs)) said_so told in (
      q,
      added_at way next (steps.Change c) p q (subst (λ m. HasAdded way (steps.Change c) m next) (sym has.made_is) has) refl refl at
          (ap (λ m. made_with_change m c) at.made_is ∙ sym has.made_is)
          (subst (λ m. IsAskedSoFar way.start (way.steps.items ++ steps.Change c ∷ []) m q.statements q.graphs) (sym has.made_is) stands),
      gives q [] (came q) leads.leads here,
    )

-- what the run does of itself
pub did : (way next : Way) (p : Progress) (step : Step) → IsSome way.start → IsNoChange step → HasAdded way step way.made next → IsAt way p
    → (files : Option Files) → LeadOn {T = ⊤} files p (does (statement_of step) ∷ []) next (Ok tt)
did way next p step some none_ has at files =
    let q = with_statement p (statement_of step) in
    let told = does_more way.start way.steps.items way.made p.statements p.graphs step some none_ at.stands in (
      q,
      added_at way next step p q (subst (λ m. HasAdded way step m next) (sym has.made_is) has) refl refl at (at.made_is ∙ sym has.made_is)
          (subst (λ m. IsAskedSoFar way.start (way.steps.items ++ step ∷ []) m q.statements q.graphs) (sym has.made_is) told),
      here,
    )

-- a line that is refused
pub call_refused :
    (T : Type 0) (way : Way) (p : Progress) (deed : GraphUse) (name : List ℕ) (args : List ℤ) (fault : DescriptionFault) (stop : Stop) → IsAt way p
    → MayRefuse (IsCallRefusal p deed name args) fault → StopsFor (IsFaultOf (string_bytes way.file) fault) stop → (files : Option Files)
    → LeadOn {T = T} files p (calls deed name args ∷ []) way (Err stop)
call_refused T way p deed name args fault stop at may stops_ files =
    stops_in (Leads {T = T} way) files (of_lines p (calls deed name args ∷ [])) [] (IsFaultOf (string_bytes way.file) fault) stop stops_
    (λ why is.
    subst (λ w. Follows files (of_lines p (calls deed name args ∷ [])) [] (refusal w)) (ap (λ f. description f (fault_words fault)) at.file_is ∙ sym is.1)
    (refused (fault_words fault) (may is.0)))
    (inl refl)

-- room for what a change creates
pub change_fits : (o : Option Start) (xs : List Step) (made : Made) (c : Replacement) → IsSome o → IfSome o (λ s. CanFollow (last_graph s.graph xs) made c)
    → HasRoom made (length c.plan.create) (sum_by (requires_at c.graph.nodes) c.plan.create)
change_fits None xs made c some f = absurd (cc some)
change_fits (Some s) xs made c some f = room_to_create (last_graph s.graph xs) c.graph c.moves made c.plan f.can_plan f.is_plan

pub stop_marks : (way : Way) → Marks way way bodies.Stop
stop_marks way = record { described = or_false (is_some way.used); begun = or_false (is_some way.start) }
