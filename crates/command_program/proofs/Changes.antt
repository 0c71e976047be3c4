-- A change, from what its lines ask for.
use Rattle.std.proofs.Common.{◌≡◌, ◌∙◌, false, ℕ, ℤ, List, [], ◌∷◌, ◌++◌, Option, Some, None, Ok, IfSome, map, refl, sym, ap, subst}
use Rattle.std.specs.Str.{IsUtf8}
use Rattle.cfg_io.specs.Shelf.{Files}
use Rattle.config_graph.specs.Graph.{Graph}
use Rattle.change_plan.specs.declared.plan_data.Move.{Move}
use Rattle.change_spec.specs.Asked.{CanChange, CanDoAll, CanStart, after_start, statement_of, statements_of}
use Rattle.change_spec.specs.Statements.{Statement, change}
use Rattle.change_spec.specs.declared.steps.Replacement.{Replacement}
use Rattle.change_spec.specs.declared.steps.Start.{Start}
use Rattle.change_spec.specs.declared.steps.Step.{Step}
use Rattle.change_spec.specs.declared.steps.Step.TheVariants as steps
use Rattle.report_types.specs.declared.script.Body.TheVariants as bodies
use Rattle.report_types.specs.declared.script.ScriptLine.{ScriptLine}
use Rattle.command_words.specs.declared.words.Change.{Change}
use Rattle.command_spec.specs.Courses.{Follows, came}
use Rattle.command_spec.specs.Lines.{Progress, begun, of_lines}
use Rattle.command_spec.specs.Plans.{lines_of_change, statements_of_change}
use Rattle.command_spec.specs.Scripts.{lines_of_script}
use Rattle.command_spec.proofs.ChangeLineLaws.{leads_to}
use Rattle.command_spec.proofs.CourseLaws.{none_failed}
use Rattle.command_program.specs.Coming.{Comes}
use Rattle.command_program.specs.Fitting.{MayAllStand}
use Rattle.command_program.specs.Planning.{CanMake, HasOneChange, IsAsked, IsChangeOf, line_of, lines_of_other}
use Rattle.command_program.specs.Preparing.{CanRun, IsPrepared}
use Rattle.command_program.specs.declared.change_lines.Planned.{Planned}
use Rattle.command_program.specs.declared.preparing.Prepared.{Prepared}

-- ---- the lines

abbrev pub lines_by : Change → List ScriptLine
lines_by c =
    line_of (bodies.File c.file) ∷ line_of (bodies.Start c.call.top c.call.args)
    ∷ (lines_of_other c.other ++ line_of (bodies.Change c.target.top c.target.args 0 []) ∷ [])

pub pushed_lines :
    (c : Change) (none first second third all : List ScriptLine) → none ≡ [] → first ≡ none ++ line_of (bodies.File c.file) ∷ []
    → second ≡ first ++ line_of (bodies.Start c.call.top c.call.args) ∷ [] → third ≡ second ++ lines_of_other c.other
    → all ≡ third ++ line_of (bodies.Change c.target.top c.target.args 0 []) ∷ [] → all ≡ lines_by c
pushed_lines c none first second third all empty one two three four =
    four ∙ ap (λ ls. ls ++ line_of (bodies.Change c.target.top c.target.args 0 []) ∷ []) (three ∙ ap (λ ls. ls ++ lines_of_other c.other) (two ∙ ap (λ ls. ls ++ line_of (bodies.Start c.call.top c.call.args) ∷ []) (one ∙ ap (λ ls. ls ++ line_of (bodies.File c.file) ∷ []) empty)))

module _ (c : Change) where
  pub lines_say : (all : List ScriptLine) → all ≡ lines_by c → lines_of_script all ≡ lines_of_change c
  lines_say all is = ap lines_of_script is ∙ by c.other
    where
      by : (other : Option (List ℕ))
          → lines_of_script (line_of (bodies.File c.file) ∷ line_of (bodies.Start c.call.top c.call.args) ∷ (lines_of_other other ++ line_of (bodies.Change c.target.top c.target.args 0 []) ∷ []))
          ≡ lines_of_change (record c { other = other })
      by None = refl
      by (Some file) = refl

  pub lines_fit : (all : List ScriptLine) → all ≡ lines_by c → IsUtf8 c.file → IfSome c.other IsUtf8 → MayAllStand false false all
  lines_fit all is file other = subst (MayAllStand false false) (sym is) (by c.other other)
    where
      by : (other : Option (List ℕ)) → IfSome other IsUtf8
          → MayAllStand false false (line_of (bodies.File c.file) ∷ line_of (bodies.Start c.call.top c.call.args) ∷ (lines_of_other other ++ line_of (bodies.Change c.target.top c.target.args 0 []) ∷ []))
      by None _ = (file, ((refl, refl), ((refl, refl), refl)))
      by (Some name) utf8 = (file, ((refl, refl), (utf8, ((refl, refl), refl))))

-- ---- what they ask for

record OneStep (xs : List Step) (name : List ℕ) (args : List ℤ) (g : Graph) (moves : List Move) : Type 0 where
  c : Replacement
  are : xs ≡ steps.Change c ∷ []
  name_is : c.name ≡ name
  args_are : c.args ≡ args
  graph_is : c.graph ≡ g
  moves_are : c.moves ≡ moves

one_step : (xs : List Step) (name : List ℕ) (args : List ℤ) (g : Graph) (within : ℕ) (moves : List Move)
    → map statement_of xs ≡ change name args g within moves ∷ [] → OneStep xs name args g moves
one_step [] name args g within moves is = absurd (cc is)
one_step (steps.Change c ∷ []) name args g within moves is = record {
  c = c;
  are = refl;
  name_is = cc is;
  args_are = cc is;
  graph_is = cc is;
  moves_are = cc is;
}
one_step (steps.Change c ∷ y ∷ ys) name args g within moves is = absurd (cc is)
one_step (steps.Run k ∷ xs) name args g within moves is = absurd (cc is)
one_step (steps.Finish n ∷ xs) name args g within moves is = absurd (cc is)
one_step (steps.Show ∷ xs) name args g within moves is = absurd (cc is)

same_change : (c d : Replacement) (xs : List Step) → xs ≡ steps.Change c ∷ [] → xs ≡ steps.Change d ∷ [] → c ≡ d
same_change c d xs a b = cc (a, b)

record AsksSo (c : Change) (asked : Prepared) (statements : List Statement) : Type 0 where
  old : Graph
  new : Graph
  asked_are : statements_of asked.start asked.steps.items ≡ statements_of_change c old new
  said_are : statements ≡ statements_of_change c old new

-- by the statements to which the lines lead
asks : (files : Option Files) (c : Change) (asked : Prepared) (failing : List (List ℕ)) (p : Progress) → IsPrepared asked p
    → Follows files (of_lines begun (lines_of_change c)) failing (came p) → AsksSo c asked p.statements
asks files c asked failing p is lead =
    let l = leads_to files c p
    (subst (λ ns. Follows files (of_lines begun (lines_of_change c)) ns (came p)) (none_failed files (of_lines begun (lines_of_change c)) failing p lead) lead) in
    record { old = l.old; new = l.new; asked_are = sym is ∙ l.said_are; said_are = l.said_are }

tail_of : (s t : Statement) (ss ts : List Statement) → s ∷ ss ≡ t ∷ ts → ss ≡ ts
tail_of s t ss ts is = cc

module _ (c : Change) (asked : Prepared) where
  step_of : (statements : List Statement) (w : AsksSo c asked statements) → OneStep asked.steps.items c.target.top c.target.args w.new []
  step_of statements w = one_step asked.steps.items c.target.top c.target.args w.new 0 [] (tail_of _ _ _ _ w.asked_are)

  is_change : (planned : Planned) (p : Progress) → IsAsked asked planned → AsksSo c asked p.statements → IsChangeOf c planned p
  is_change planned p is w =
      let o = step_of p.statements w in
      let same = same_change planned.change o.c asked.steps.items is.1 o.are in
      let all = w.asked_are in
      let old : planned.start.graph ≡ w.old = ap (λ (s : Start). s.graph) is.0 ∙ cc all in
      let new : planned.change.graph ≡ w.new = ap (λ (r : Replacement). r.graph) same ∙ o.graph_is in
      record {
        from_name = ap (λ (s : Start). s.name) is.0 ∙ cc all;
        from_args = ap (λ (s : Start). s.args) is.0 ∙ cc all;
        to_name = ap (λ (r : Replacement). r.name) same ∙ o.name_is;
        to_args = ap (λ (r : Replacement). r.args) same ∙ o.args_are;
        said_are = w.said_are ∙ (λ i. statements_of_change c (sym old i) (sym new i));
      }

  module _ (files : Option Files) (failures failures' : List (List ℕ)) (by : Comes IsPrepared files (of_lines begun (lines_of_change c)) failures failures' (Ok asked)) where
    said_by : AsksSo c asked by.ends.0.statements
    said_by = asks files c asked by.failing by.ends.0 by.ends.1 by.ends.2

    pub has_one : HasOneChange asked
    has_one = let o = step_of by.ends.0.statements said_by in (o.c, o.are)

    pub comes_planned : (planned : Planned) → IsAsked asked planned → Comes (IsChangeOf c) files (of_lines begun (lines_of_change c)) failures failures' (Ok planned)
    comes_planned planned is = record {
      failing = by.failing;
      noted = by.noted;
      ends = (by.ends.0, is_change planned by.ends.0 is said_by, by.ends.2);
    }

    pub can_make : (planned : Planned) → IsAsked asked planned → CanRun asked → CanMake planned
    can_make planned is can =
        let o = step_of by.ends.0.statements said_by in
        let same = same_change planned.change o.c asked.steps.items is.1 o.are in
        record {
          can_start = subst CanStart (sym is.0) can.0;
          can_change = subst (λ (s : Start). CanChange (after_start s) planned.change) (sym is.0) (subst (CanDoAll (after_start asked.start)) is.1 can.1).0;
          no_moves = ap (λ (r : Replacement). r.moves) same ∙ o.moves_are;
        }
