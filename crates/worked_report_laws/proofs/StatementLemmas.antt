-- What follows for the lines of a script of two statements, and for those of a change whose graphs are known.
use Rattle.std.proofs.Common.{◌≡◌, ◌∙◌, ℕ, true, List, [], ◌∷◌, ◌++◌, map, sym, ap, subst}
use Rattle.std.specs.Prelude.{ℤ, ◌⊎◌}
use Rattle.base.proofs.PlaceLaws.{heads_are, tails_are}
use Rattle.config_graph.specs.Graph.{Graph}
use Rattle.config_graph.proofs.GraphByLaws.{one_graph}
use Rattle.change_plan.specs.Plans.{IsPlanOf}
use Rattle.change_plan.specs.declared.plan_data.Move.{Move}
use Rattle.change_plan.specs.declared.plan_data.Plan.{Plan}
use Rattle.change_plan_laws.specs.Commit.{ports_to_close}
use Rattle.quiesce_core.specs.Live.{AreLinked, IsGraphOf, IsLiveNode}
use Rattle.report_types.specs.declared.report.HistoryLine.{HistoryLine}
use Rattle.change_spec.specs.Changes.{IsChange, IsCommitted, IsGivenUp, opening_lines}
use Rattle.change_spec.specs.Follows.{AreRight, Follows, IsRight, IsStop, Part, lines_of, start_lines}
use Rattle.change_spec.specs.Planning.{can_be_planned, planned}
use Rattle.change_spec.specs.Scene.{config_after}
use Rattle.change_spec.specs.Statements.{Statement, start}
use Rattle.change_spec.proofs.PlanningLaws.{planned_so}
use Rattle.change_plan.proofs.PlanLaws.{one_plan}

-- the lines of a script's second statement, behind those of its start
pub record AfterStart (name : List ℕ) (args : List ℤ) (g : Graph) (s : Statement) (history : List HistoryLine) : Type 0 where
  pub lines : List HistoryLine
  pub stop : List HistoryLine
  pub right : IsRight (start_lines name args g ++ []) s lines
  pub stops : IsStop (start_lines name args g ++ (lines ++ [])) stop
  pub are : (start_lines name args g ++ (lines ++ [])) ++ stop ≡ history

parted : (name : List ℕ) (args : List ℤ) (g : Graph) (s : Statement) (history : List HistoryLine) (parts : List Part) (stop : List HistoryLine)
    → map (λ (p : Part). p.statement) parts ≡ start name args g ∷ s ∷ [] → AreRight parts → IsStop (lines_of parts) stop → lines_of parts ++ stop ≡ history → AfterStart name args g s history
parted name args g s history [] stop same right stops is = absurd (cc same)
parted name args g s history (p ∷ []) stop same right stops is = absurd (cc (tails_are p.statement (start name args g) [] (s ∷ []) same))
parted name args g s history (p ∷ (q ∷ [])) stop same right stops is =
    let later = tails_are p.statement (start name args g) (q.statement ∷ []) (s ∷ []) same in
    let first : p.lines ≡ start_lines name args g =
    subst (λ x. IsRight [] x p.lines) (heads_are p.statement (start name args g) (q.statement ∷ []) (s ∷ []) same) right.0 in
    let second : IsRight (p.lines ++ []) s q.lines = subst (λ x. IsRight (p.lines ++ []) x q.lines) (heads_are q.statement s [] [] later) right.1.0 in
    record {
      lines = q.lines;
      stop = stop;
      right = subst (λ ls. IsRight (ls ++ []) s q.lines) first second;
      stops = subst (λ ls. IsStop (ls ++ (q.lines ++ [])) stop) first stops;
      are = ap (λ ls. (ls ++ (q.lines ++ [])) ++ stop) (sym first) ∙ is;
    }
parted name args g s history (p ∷ (q ∷ (r ∷ parts))) stop same right stops is =
    absurd (cc (tails_are q.statement s (r.statement ∷ map (λ (x : Part). x.statement) parts) []
    (tails_are p.statement (start name args g) (q.statement ∷ r.statement ∷ map (λ (x : Part). x.statement) parts) (s ∷ []) same)))

pub after_start : (name : List ℕ) (args : List ℤ) (g : Graph) (s : Statement) (history : List HistoryLine) → Follows (start name args g ∷ s ∷ []) history → AfterStart name args g s history
after_start name args g s history f = parted name args g s history f.parts f.stop f.statements_are f.right f.stops f.history_is

-- the lines of a change whose graph and whose plan are known
pub record KnownChange (before : List HistoryLine) (name : List ℕ) (args : List ℤ) (old new : Graph) (plan : Plan) (within : ℕ) (lines : List HistoryLine) : Type 0 where
  pub rest : List HistoryLine
  pub are : lines ≡ opening_lines name args old plan (config_after before) ++ rest
  pub ends : IsCommitted old new plan within (config_after (before ++ opening_lines name args old plan (config_after before))) rest
      ⊎ IsGivenUp (ports_to_close old plan (config_after before)) within rest

pub known : (before : List HistoryLine) (name : List ℕ) (args : List ℤ) (old new : Graph) (within : ℕ) (moves : List Move) (lines : List HistoryLine)
    → IsGraphOf (config_after before) old → can_be_planned old new moves ≡ true → IsChange before name args new within moves lines
    → KnownChange before name args old new (planned old new moves) within lines
known before name args old new within moves lines stands can w =
    let c = config_after before in
    let same : w.old ≡ old = one_graph (IsLiveNode c) (AreLinked c) w.old old w.is_old stands in
    let plan : w.plan ≡ planned old new moves = one_plan old new moves w.plan (planned old new moves) (subst (λ g. IsPlanOf g new moves w.plan) same w.is_plan) (planned_so old new moves can) in
    subst (λ p. KnownChange before name args old new p within lines) plan
    (subst (λ g. KnownChange before name args g new w.plan within lines) same (record { rest = w.rest; are = w.are; ends = w.ends }))
