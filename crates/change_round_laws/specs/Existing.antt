-- On what it rests that a report of rounds exists: each change has a plan, and a `run` and a stop come to an end in
-- rounds.
use Rattle.std.specs.Prelude.{⊤, ℕ, List, [], ◌∷◌, map, IsTrue}
use Rattle.config_graph.specs.Graph.{Graph}
use Rattle.change_plan.specs.Plans.{IsPlanOf}
use Rattle.change_plan.specs.declared.plan_data.Plan.{Plan}
use Rattle.quiesce_laws.specs.Steps.{live_ports}
use Rattle.change_spec.specs.Scripts.{nothing_above}
use Rattle.change_spec.specs.Serial.{after_changes, is_none_left, run_ends}
use Rattle.change_spec.specs.Statements.{Statement, start, change, run, finish, show}
use Rattle.quiesce_core.specs.declared.event.Event.TheVariants.{Close}
use Rattle.node_turn_laws.specs.Reached.{IsReached}
use Rattle.node_turn_laws.specs.World.{World}

-- each change is planned from the graph that was named before it
abbrev pub HavePlansFrom : Graph → List Statement → Type 0
HavePlansFrom old [] = ⊤
HavePlansFrom old (start name args g ∷ rest) = HavePlansFrom g rest
HavePlansFrom old (change name args g within moves ∷ rest) =
    ((plan : Plan) × IsPlanOf old g moves plan) × HavePlansFrom g rest
HavePlansFrom old (run k ∷ rest) = HavePlansFrom old rest
HavePlansFrom old (finish n ∷ rest) = HavePlansFrom old rest
HavePlansFrom old (show ∷ rest) = HavePlansFrom old rest

abbrev pub HavePlans : List Statement → Type 0
HavePlans statements = HavePlansFrom nothing_above.graph statements

-- after some number of rounds so many transactions ended, or one moved nothing
abbrev pub RunsEnd : Type 0
RunsEnd = (w : World) (k : ℕ) → IsReached w → (j : ℕ) × IsTrue (run_ends w k j)

-- after some number of rounds all ports of live nodes were found drained, once they were closed
abbrev pub StopsEnd : Type 0
StopsEnd =
    (w : World) → IsReached w
    → (j : ℕ) × IsTrue (is_none_left (after_changes w (map Close (live_ports w.machine.config))) (live_ports w.machine.config) j)
