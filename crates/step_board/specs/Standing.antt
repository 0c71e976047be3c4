-- For which records nodes on one thread stand, and what is left of them at their end.
use Rattle.std.specs.Prelude.{◌≡◌, List, map, length, All}
use Rattle.std.specs.List.{range_with_len}
use Rattle.change_board.specs.Collecting.{heir_of}
use Rattle.txn_records.specs.Entries.{config_of}
use Rattle.txn_records.specs.declared.entry.Entry.{Entry}
use Rattle.txn_records.specs.Records.{IsRecordOf, Moment, events}
use Rattle.change_spec.specs.Lawful.{EndsAs}
use Rattle.report_types.specs.declared.report.NodeLog.{NodeLog}
use Rattle.quiesce_core.specs.Runs.{done_by}
use Rattle.quiesce_core.specs.State.{State}
use Rattle.quiesce_core.specs.declared.event.Event.{Event}
use Rattle.step_board.specs.Going.{WentOn}
use Rattle.step_board.specs.Playing.{HasWholeRounds, played}
use Rattle.node_turn_laws.specs.World.{World, state_of}

-- the record is of rounds, and the nodes are as in the world behind it
pub record StandsFor {B : Type 0} (S : B → World → Type 0) (b : B) (r : List Entry) : Type 0 where
  pub rounds : HasWholeRounds r
  pub shows : S b (played r)

-- they are as in a world to which nodes went on behind it
pub record StandsBehindRounds {B : Type 0} (S : B → World → Type 0) (b : B) (r : List Entry) : Type 0 where
  pub rounds : HasWholeRounds r
  pub world : World
  pub went_on : WentOn (played r) world
  pub shows : S b world

-- the record and the logs, one a slot, are parts of one run
pub record AreParts (r : List Entry) (logs : List (List Event)) : Type 0 where
  pub moments : List Moment
  pub is_of : IsRecordOf r moments
  pub logs_are : logs ≡ map (λ n. done_by n (events moments)) (range_with_len 0 (length (config_of r).slots))

-- nodes took turns in whole rounds alone, and the logs, one a slot, are what these came to
pub record AreOfRounds (r : List Entry) (logs : List (List Event)) : Type 0 where
  pub rounds : HasWholeRounds r
  pub logs_are : logs ≡ map (λ n. done_by n (played r).events) (range_with_len 0 (length (played r).machine.config.slots))

-- one log a node, by slot, which ends with the numbers of the node's state, or tells to which node that went
pub record AreLogs {B : Type 0} (S : B → World → Type 0) (b : B) (s : State) (logs : List (List Event)) (given : List NodeLog) : Type 0 where
  pub slots : map (λ (l : NodeLog). l.slot) given ≡ range_with_len 0 (length s.config.slots)
  pub events_are : map (λ (l : NodeLog). l.events) given ≡ logs
  pub ends : (w : World) → S b w → All (λ (l : NodeLog). EndsAs (state_of w l.slot) (heir_of s.config l.slot) l.last) given
