-- To be believed (definitions.md).
-- The lines of a change: it closes the ports of the nodes that its plan freezes, and waits for them to drain. Then
-- either it takes each step of the plan, or it reopens what it closed (Kramer and Magee 1990).
use Rattle.std.specs.Prelude.{◌≡◌, ◌≤◌, ◌<◌, ◌⊎◌, ℕ, ℤ, ◌+◌, List, [], ◌∷◌, ◌++◌, map, length, flat_map, All}
use Rattle.std.specs.List.Sorted.{IsStrictlyIncreasing}
use Rattle.config_graph.specs.Graph.{Graph}
use Rattle.change_plan.specs.Moves.{MayMoveAll}
use Rattle.change_plan.specs.Plans.{IsPlanOf}
use Rattle.change_plan.specs.declared.plan_data.Move.{Move}
use Rattle.change_plan.specs.declared.plan_data.Plan.{Plan}
use Rattle.change_plan_laws.specs.Commit.{commit_events, ports_to_close}
use Rattle.quiesce_core.specs.Live.{IsGraphOf}
use Rattle.quiesce_core.specs.State.{Configuration}
use Rattle.report_types.specs.declared.report.HistoryLine.{HistoryLine}
use Rattle.report_types.specs.declared.report.HistoryLine.TheVariants as to
use Rattle.change_spec.specs.Members.{lines_of_events}
use Rattle.change_spec.specs.Scene.{AreSeen, Seen, config_after, drained_line, root_line}

-- all that was seen, look after look
abbrev pub seen_in_all : List (List Seen) → List Seen
seen_in_all looks = flat_map (λ (seen : List Seen). seen) looks

abbrev pub PortsRise : List Seen → Type 0
PortsRise seen = IsStrictlyIncreasing (map (λ (d : Seen). d.port) seen)

-- one look, and one more after each round; in each of them the ports rise
pub record AreLooks (within : ℕ) (looks : List (List Seen)) : Type 0 where
  pub few : length looks ≤ within + 1
  pub rise : All PortsRise looks

abbrev pub drained_lines : List (List Seen) → List HistoryLine
drained_lines looks = map drained_line (seen_in_all looks)

-- what every change begins with, and what a commit ends it with, where the change finds this configuration
abbrev pub opening_lines : List ℕ → List ℤ → Graph → Plan → Configuration → List HistoryLine
opening_lines name args old plan c = to.Change name args ∷ map to.Close (ports_to_close old plan c)

abbrev pub commit_lines : Graph → Graph → Plan → Configuration → List HistoryLine
commit_lines old new plan c = lines_of_events (commit_events old new plan c) ++ to.Commit ∷ []

-- every closed port was seen drained, once, in one look or another; then the plan was carried out
pub record IsCommitted (old new : Graph) (plan : Plan) (within : ℕ) (c : Configuration) (lines : List HistoryLine) : Type 0 where
  pub looks : List (List Seen)
  pub are_looks : AreLooks within looks
  pub all_seen : AreSeen (ports_to_close old plan c) (seen_in_all looks)
  pub are : lines ≡ drained_lines looks ++ commit_lines old new plan c

abbrev pub pending_lines : ℕ → List Seen → List ℕ → List HistoryLine
pending_lines within left closed = to.Pending within ∷ map root_line left ++ map to.Reopen closed ++ to.Abandon ∷ []

-- every closed port was seen drained, or a root was seen there at last, and some had one
pub record IsGivenUp (closed : List ℕ) (within : ℕ) (lines : List HistoryLine) : Type 0 where
  pub looks : List (List Seen)
  pub left : List Seen
  pub are_looks : AreLooks within looks
  pub some_left : 0 < length left
  pub all_seen : AreSeen closed (seen_in_all looks ++ left)
  pub are : lines ≡ drained_lines looks ++ pending_lines within left closed

-- the lines of a change from the graph of these lines before it; each of its moves may be made
pub record IsChange (before : List HistoryLine) (name : List ℕ) (args : List ℤ) (new : Graph) (within : ℕ) (moves : List Move) (lines : List HistoryLine) : Type 0 where
  pub old : Graph
  pub is_old : IsGraphOf (config_after before) old
  pub plan : Plan
  pub moves_lead : MayMoveAll old new moves (length moves)
  pub is_plan : IsPlanOf old new moves plan
  pub rest : List HistoryLine
  pub are : lines ≡ opening_lines name args old plan (config_after before) ++ rest
  pub ends : IsCommitted old new plan within (config_after (before ++ opening_lines name args old plan (config_after before))) rest
      ⊎ IsGivenUp (ports_to_close old plan (config_after before)) within rest
