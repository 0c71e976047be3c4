-- For which change a port is closed: for the one whose line stands before the closes, and whose plan freezes the
-- port's node.
use Rattle.std.specs.Prelude.{◌≡◌, ℕ, ℤ, List, ◌∷◌, ◌++◌, map, IsTrue}
use Rattle.config_graph.specs.Graph.{Graph}
use Rattle.change_plan.specs.Plans.{IsPlanOf}
use Rattle.change_plan.specs.declared.plan_data.Move.{Move}
use Rattle.change_plan.specs.declared.plan_data.Plan.{Plan}
use Rattle.change_plan_laws.specs.Commit.{is_one_of, ports_to_close}
use Rattle.quiesce_core.specs.Live.{IsGraphOf}
use Rattle.quiesce_core.specs.State.{owner}
use Rattle.report_types.specs.declared.report.HistoryLine.{HistoryLine}
use Rattle.report_types.specs.declared.report.HistoryLine.TheVariants as to
use Rattle.change_spec.specs.Changes.{opening_lines}
use Rattle.change_spec.specs.Follows.{Part, lines_of}
use Rattle.change_spec.specs.Scene.{config_after}
use Rattle.change_spec.specs.Statements.{change}

-- Where `close p` stands behind these lines of the parts: among the closes with which a change begins. It is the change
-- whose line stands before them; its plan freezes the node whose port p is.
pub record IsClosedFor (parts : List Part) (front : List HistoryLine) (p : ℕ) : Type 0 where
  pub done : List Part
  pub lines : List HistoryLine
  pub later : List Part
  pub name : List ℕ
  pub args : List ℤ
  pub graph : Graph
  pub within : ℕ
  pub moves : List Move
  pub asked : parts ≡ done ++ record { statement = change name args graph within moves; lines = lines } ∷ later
  pub old : Graph
  pub is_old : IsGraphOf (config_after (lines_of done)) old
  pub plan : Plan
  pub is_plan : IsPlanOf old graph moves plan
  pub rest : List HistoryLine
  pub begins : lines ≡ opening_lines name args old plan (config_after (lines_of done)) ++ rest
  pub first : List ℕ
  pub last : List ℕ
  pub closes : ports_to_close old plan (config_after (lines_of done)) ≡ first ++ p ∷ last
  pub place : front ≡ lines_of done ++ to.Change name args ∷ map to.Close first
  pub frozen : IsTrue (is_one_of old plan.freeze (config_after (lines_of done)) (owner (config_after (lines_of done)) p))
