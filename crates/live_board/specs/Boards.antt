-- What contracts see of a board over the gates, and for which records it stands.
use Rattle.std.specs.Prelude.{◌≡◌, ℕ, ◌≤◌, Bool, List, [], length, Option, if◌then◌else◌}
use Rattle.std.specs.List.{list_all, range_with_len}
use Rattle.change_board.specs.Steps.{Room}
use Rattle.live_board.specs.Behind.{IsShallow}
use Rattle.live_board.specs.Heirs.{AreHeirs}
use Rattle.live_board.specs.Lengths.{IsLast}
use Rattle.live_board.specs.Turning.{Ways}
use Rattle.live_board.specs.Ended.{collected_logs}
use Rattle.quiesce_core.specs.State.{Configuration}
use Rattle.quiesce_core.specs.declared.event.Event.{Event}
use Rattle.txn_spec.specs.Views.{is_among}
use Rattle.txn_spec.specs.declared.view.NodeView.{NodeView}
use Rattle.txn_records.specs.Entries.{config_of}
use Rattle.txn_records.specs.Records.{IsRecord}
use Rattle.txn_records.specs.declared.entry.Entry.{Entry}

-- the record of its change's seat; the nodes whose seats that took in for good; for what there is room; how many
-- earlier nodes a line may have; which node took over the state of each; in which places, by slot, a removed node lies;
-- how often its door found each cell empty, and what its hand did; and what it keeps of its last scan
pub record BoardSeen : Type 0 where
  pub entries : List Entry
  pub nodes : List NodeView
  pub room : Room
  pub lines : ℕ
  pub heirs : List (Option ℕ)
  pub stored : List Bool
  pub ways : Ways
  pub last : Option (List (Option ℕ))

-- What is kept of the nodes made: the heir of each that has one; and a node in a slot below `sources` may be taken over
-- from, since there is a place for its heir, and room for one node more behind it.
pub record FitsNodes (c : Configuration) (sources lines : ℕ) (heirs : List (Option ℕ)) : Type 0 where
  pub heirs_are : AreHeirs c heirs
  pub places : sources ≤ length heirs
  pub shallow : IsShallow c sources lines
  pub made : sources ≤ length c.slots
  pub few : lines ≤ sources

-- It stands for the record of its seat alone, which is that of a run.
pub record StandsLive (b : BoardSeen) (r : List Entry) : Type 0 where
  pub is : r ≡ b.entries
  pub of_run : IsRecord r
  pub fits : FitsNodes (config_of r) b.room.sources b.lines b.heirs
  pub last : IsLast r b.last

-- What an act of the change on a port leaves as it was: which nodes were taken in, which removed ones lie in their
-- places, and what its door and its hand found.
pub record KeepsNodes (old new : BoardSeen) : Type 0 where
  pub nodes : new.nodes ≡ old.nodes
  pub stored : new.stored ≡ old.stored
  pub ways : new.ways ≡ old.ways

-- what was taken in, by slot; nothing counts before all were
abbrev pub taken_in : BoardSeen → List (List Event)
taken_in b = if list_all (is_among b.nodes) (range_with_len 0 (length (config_of b.entries).slots)) then collected_logs b.entries b.nodes else []
