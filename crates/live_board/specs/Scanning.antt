-- A scan on nodes that lie in the hall.
use Rattle.std.specs.List.{list_all}
use Rattle.std.specs.Prelude.{◌≡◌, ℕ, Bool, true, ◌&&◌, List, ◌++◌, Option, is_some}
use Rattle.atomic_table.specs.Seated.{TableId}
use Rattle.change_board.specs.Scans.{Found, IsSeenTwice, all_ports, ended_in, is_idle_if_live, is_seen_at_rest, ports_of, scan_entries}
use Rattle.change_board.specs.Sights.{Sight}
use Rattle.change_board.specs.declared.board.Scan.{Scan}
use Rattle.component_trait.specs.States.{NodeState}
use Rattle.live_board.specs.Lengths.{IsLast, is_as_last, length_in}
use Rattle.live_board.specs.Turning.{Reached, Ways}
use Rattle.state_handover.specs.declared.any_node.AnyNode.{AnyNode}
use Rattle.txn_records.specs.Entries.{config_of}
use Rattle.txn_records.specs.Records.{IsRecord}
use Rattle.txn_records.specs.declared.entry.Entry.{Entry}

-- What it adds to the record, and what it answers: all is done exactly where it saw all at rest, and the nodes with as
-- many events as are kept of the last scan; then the two saw the same. Where its looks at live ports found them idle,
-- its own are kept. What is kept tells of the record before, and then of the one behind. It reaches each live node, but
-- where the door finds none in its slot.
pub record IsScan (S : AnyNode → NodeState) (gates : TableId) (r r' : List Entry) (old new : Ways) (last last' : Option (List (Option ℕ))) (begins : Bool) (s : Scan) : Type 0 where
  pub known : IsRecord r'
  pub sights : List Sight
  pub found : List Found
  pub adds : r' ≡ r ++ scan_entries begins s.moved sights found
  pub at_ports : ports_of found ≡ all_ports (config_of r)
  pub ended : s.ended ≡ ended_in found
  pub done : s.done ≡ (is_seen_at_rest (config_of r) sights found && is_as_last (config_of r) last (length_in sights))
  pub twice : IsLast r last → s.done ≡ true → IsSeenTwice r sights
  pub kept : is_some last' ≡ list_all (is_idle_if_live (config_of r)) found
  pub last_is : IsLast r' last'
  pub reached : Reached S gates (config_of r) begins s.moved sights old new
