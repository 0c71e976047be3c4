-- A script has one run, and a check one verdict, where the shelf tells its files; and what a run wrote is consistent,
-- where it is checked for the same script by files that are still as they were.
use Rattle.std.proofs.Common.{◌≡◌, ◌∙◌, ℕ, List, Option, Some, sym, ap, refl, subst, inl, inr, ℤ, [], ◌∷◌}
use Rattle.cfg_io.specs.Shelf.{Files}
use Rattle.cfg_io.specs.Sink.{with_bytes}
use Rattle.change_spec.specs.Scripts.{StatementsOf, Above, SayAll, Says, nothing_above}
use Rattle.change_spec.specs.Serial.{Serial}
use Rattle.change_spec.specs.Statements.{Statement}
use Rattle.change_spec.proofs.SerialLaws.{one_serial}
use Rattle.change_script.specs.ScriptFiles.{IsScript}
use Rattle.report_types.specs.declared.report.Report.{Report}
use Rattle.report_types.specs.declared.script.Script.{Script}
use Rattle.change_script.proofs.ScriptFileLaws.{one_script}
use Rattle.change_round_laws.proofs.StatementLaws.{one_list}
use Rattle.command_answers.specs.Answers.{run_status}
use Rattle.command_answers.specs.declared.status.Status.{Status}
use Rattle.command_spec.specs.Commands.{can_be, can_not_be, IsJudged}
use Rattle.command_spec.specs.Outcomes.{IsScriptOf, Judged, RanShowing, Ends, EndsAs, IsVerdict, WasRunBy}
use Rattle.command_spec.specs.Schedules.{rounds, Schedule}
use Rattle.command_spec.specs.Scripts.{Elaborates}
use Rattle.command_spec.specs.Sorts.{TellsReport, limit_of, of_report, of_script}
use Rattle.command_spec.proofs.CourseLaws.{told_once}
use Rattle.command_spec.proofs.WayLaws.{one_elaborated}
use Rattle.config_graph.specs.Graph.{Graph}
use Rattle.report_types.specs.declared.script.Body.{Body}
use Rattle.report_types.specs.declared.script.ScriptLine.{ScriptLine}
use Rattle.change_spec.specs.Consistent.{Consistent}
use Rattle.std.proofs.lemmas.Option.{same_Some}
use Rattle.command_spec.specs.Files.{StillHolds}
use Rattle.command_spec.proofs.ReportLemmas.{AreConsistent}
use Rattle.report_types.specs.declared.script.Body.TheVariants as bodies
use Rattle.command_answers.specs.declared.status.Status.TheVariants as status

-- a script has one list of statements
pub one_statements :
    (f : Files) (script : Script) (first second : List Statement) → StatementsOf (Elaborates (Some f)) script first
    → StatementsOf (Elaborates (Some f)) script second → first ≡ second
one_statements f script first second = one_list (Elaborates (Some f)) (one_elaborated f) script first second

-- and so has that of a name
of_one_script :
    (f : Files) (name : List ℕ) (s t : Script) (ss ts : List Statement) → IsScriptOf (Some f) name s → IsScriptOf (Some f) name t
    → StatementsOf (Elaborates (Some f)) s ss → StatementsOf (Elaborates (Some f)) t ts → ss ≡ ts
of_one_script f name s t ss ts x y first second =
    let bytes = told_once f (limit_of of_script) name y.bytes x.bytes y.is_told x.is_told in
    let script = one_script y.bytes s t (subst (λ b. IsScript b s) bytes x.is_script) y.is_script in
    one_statements f t ss ts (subst (λ z. StatementsOf (Elaborates (Some f)) z ss) script first) second

pub one_run :
    (show : Report → List ℕ) (f : Files) (name : List ℕ) (own other : Status) (taken t also : Option (List ℕ)) → RanShowing rounds (λ r bytes. bytes ≡ show r) (Some f) name own taken t
    → RanShowing rounds (λ r bytes. bytes ≡ show r) (Some f) name other taken also → (own ≡ other) × (t ≡ also)
one_run show f name own other taken t also first second =
    let x = first.was_run in
    let y = second.was_run in
    let said = of_one_script f name x.script y.script x.statements y.statements x.is_script y.is_script x.have_graphs y.have_graphs in
    let same = one_serial y.statements x.report y.report (subst (λ ss. Serial ss x.report) said x.is_report.serial) y.is_report.serial in (
      x.ended ∙ ap (λ (r : Report). run_status r.status) same ∙ sym y.ended,
      first.written ∙ ap (with_bytes taken) (first.shown ∙ ap show same ∙ sym second.shown) ∙ sym second.written,
    )

-- ---- a check

pub one_verdict :
    (statements : List Statement) (report : Report) (own other : Status) (line also : List ℕ) → IsJudged statements report own line
    → IsJudged statements report other also → (own ≡ other) × (line ≡ also)
one_verdict statements report _ _ _ _ (can_be c) (can_be d) = (refl, refl)
one_verdict statements report _ _ _ _ (can_be c) (can_not_be not) = absurd (not c)
one_verdict statements report _ _ _ _ (can_not_be not) (can_be c) = absurd (not c)
one_verdict statements report _ _ _ _ (can_not_be not) (can_not_be nor) = (refl, refl)

-- From a law of texts of reports, as it stands there.
pub one_check :
    ((bytes : List ℕ) (r s : Report) → TellsReport bytes r → TellsReport bytes s → r ≡ s)
    → (f : Files) (name file : List ℕ) (own other : Status) (taken t also : Option (List ℕ)) → Judged (Some f) name file own taken t
    → Judged (Some f) name file other taken also → (own ≡ other) × (t ≡ also)
one_check one_report f name file own other taken t also x y =
    let said = of_one_script f name x.script y.script x.statements y.statements x.is_script y.is_script x.have_graphs y.have_graphs in
    let bytes = told_once f (limit_of of_report) file y.bytes x.bytes y.is_told x.is_told in
    let read = one_report y.bytes x.report y.report (subst (λ b. TellsReport b x.report) bytes x.is_report) y.is_report in
    let same = one_verdict y.statements y.report own other x.line y.line (subst (λ r. IsJudged y.statements r own x.line) read (subst (λ ss. IsJudged ss x.report own x.line) said x.is_judged)) y.is_judged in
    (same.0, x.written ∙ ap (with_bytes taken) same.1 ∙ sym y.written)

-- ---- what is said by one relation of elaboration is said by another

module _ (R S : List ℕ → List ℕ → List ℤ → Graph → Type 0) (leads : (file name : List ℕ) (args : List ℤ) (g : Graph) → R file name args g → S file name args g) where
  says_so : (body : Body) (above : Above) (own : List Statement) (next : Above) → Says R above body own next → Says S above body own next
  says_so (bodies.File name) above own next w = w
  says_so (bodies.Start name args) above own next w =
      record { graph = w.graph; elaborates = leads above.file name args w.graph w.elaborates; room = w.room; own_is = w.own_is; next_is = w.next_is }
  says_so (bodies.Run k) above own next w = w
  says_so (bodies.Change name args within moves) above own next w =
      record { graph = w.graph; elaborates = leads above.file name args w.graph w.elaborates; can_plan = w.can_plan; own_is = w.own_is; next_is = w.next_is }
  says_so (bodies.Finish n) above own next w = w
  says_so bodies.Show above own next w = w
  says_so bodies.Stop above own next w = w

  say_all_so : (lines : List ScriptLine) (above : Above) (ss : List Statement) → SayAll R lines above ss → SayAll S lines above ss
  say_all_so [] above ss x = x
  say_all_so (line ∷ lines) above ss x = record {
    own = x.own;
    rest = x.rest;
    next = x.next;
    says = says_so line.body above x.own x.next x.says;
    are = x.are;
    below = say_all_so lines x.next x.rest x.below;
  }

  statements_so : (script : Script) (ss : List Statement) → StatementsOf R script ss → StatementsOf S script ss
  statements_so script ss = say_all_so script.lines nothing_above ss

module _ (before after : Files) (still : StillHolds before after) where
  elaborates_still : (file name : List ℕ) (args : List ℤ) (g : Graph) → Elaborates (Some before) file name args g → Elaborates (Some after) file name args g
  elaborates_still file name args g e = record { text = e.text; is_told = record { told = still file e.text e.is_told.told; within = e.is_told.within }; has_graph = e.has_graph }

  module _ (schedule : Schedule) (name file : List ℕ) (own verdict : Status) (also u : Option (List ℕ))
      (ran : WasRunBy schedule (Some before) name own) (j : Judged (Some after) name file verdict also u) where
    -- the statements of the run are those by which the report is judged
    same_statements : ran.statements ≡ j.statements
    same_statements =
        let elab = Elaborates (Some after) in
        let bytes = told_once after (limit_of of_script) name j.is_script.bytes ran.is_script.bytes j.is_script.is_told (record { told = still name ran.is_script.bytes ran.is_script.is_told.told; within = ran.is_script.is_told.within }) in
        let script = one_script j.is_script.bytes ran.script j.script (subst (λ b. IsScript b ran.script) bytes ran.is_script.is_script) j.is_script.is_script in
        one_list elab (one_elaborated after) j.script ran.statements j.statements
        (subst (λ s. StatementsOf elab s ran.statements) script
        (statements_so (Elaborates (Some before)) elab elaborates_still ran.script ran.statements ran.have_graphs)) j.have_graphs

    -- so the report is consistent, where it is the one that was read
    pub checked_so :
        AreConsistent → ran.report ≡ j.report → Consistent j.statements j.report
    checked_so consistent same =
        subst (λ r. Consistent j.statements r) same
        (subst (λ ss. Consistent ss ran.report) same_statements (consistent schedule ran.statements ran.report ran.is_report))

-- ---- how such a check ends

-- what a verdict must be, a run ends with
pub ends_well : (own : Status) → (IsVerdict own → own ≡ status.Ok) → EndsAs IsVerdict own → Ends own status.Ok
ends_well own must (inl is) = inl (must is)
ends_well own must (inr other) = inr other

-- the bytes that were judged are those of the file
pub read_there :
    (after : Files) (files : Option Files) (tells : files ≡ Some after) (name file : List ℕ) (own : Status) (taken t : Option (List ℕ)) (j : Judged files name file own taken t) (text : List ℕ)
    → after file ≡ Some text → (subst (λ fs. Judged fs name file own taken t) tells j).bytes ≡ text
read_there after files tells name file own taken t j text holds =
    same_Some (subst (λ fs. Judged fs name file own taken t) tells j).bytes text (sym (subst (λ fs. Judged fs name file own taken t) tells j).is_told.told ∙ holds)
