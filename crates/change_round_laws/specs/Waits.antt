-- To be believed (definitions.md).
-- Changes that are committed, by how long they may wait.
use Rattle.std.specs.Prelude.{◌≤◌, ⊤, ℕ, List, IsTrue}
use Rattle.change_spec.specs.Serial.{ChangesTo, Played, is_none_left, world_after}
use Rattle.change_spec.specs.Statements.{Statement, change}
use Rattle.report_types.specs.declared.report.HistoryLine.{HistoryLine}
use Rattle.quiesce_word.specs.Phases.{is_idle}
use Rattle.quiesce_core.specs.Rest.{rest}
use Rattle.quiesce_core.specs.State.{State, exchange}
use Rattle.node_turn_laws.specs.World.{World}

-- no transaction is open
abbrev pub IsAllIdle : State → Type 0
IsAllIdle s = (p : ℕ) → IsTrue (is_idle (exchange s p).phase)

-- Where a change may wait for at least as many rounds as are events left when its ports are closed, all its ports were
-- found drained when its wait ended: it is committed.
abbrev pub IsDrainedInTime : World → Statement → List HistoryLine → World → Type 0
IsDrainedInTime w (change name args g within moves) lines v =
    (c : ChangesTo w name args g within moves lines v) → rest c.waiting.machine ≤ within
    → IsTrue (is_none_left c.waiting c.closed c.rounds)
IsDrainedInTime w _ lines v = ⊤

abbrev pub DrainsInTime : List Played → Played → Type 0
DrainsInTime before p = IsDrainedInTime (world_after before) p.statement p.lines p.world

-- a change that may wait for at least so many rounds
abbrev pub IsPatient : ℕ → Statement → Type 0
IsPatient k (change name args g within moves) = k ≤ within
IsPatient k _ = ⊥

abbrev pub MayWait : ℕ → Played → Type 0
MayWait k p = IsPatient k p.statement
