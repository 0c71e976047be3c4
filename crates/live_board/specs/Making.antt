-- A node that is made at the gates.
use Rattle.std.specs.Prelude.{◌≡◌, ℕ, ◌+◌, ◌<◌, List, [], ◌∷◌, ◌++◌, map, length, Option, Some, None}
use Rattle.change_board.specs.Sights.{Sight, sight_entry}
use Rattle.config_graph.specs.declared.TheConstants.{MAX_NODES}
use Rattle.config_graph.specs.declared.node.Node.{Node}
use Rattle.live_hall.specs.Houses.{FitsCell}
use Rattle.live_hall.specs.declared.guest.Guest.{Guest}
use Rattle.live_board.specs.Lines.{IsMadeLine, WholeLine, last_slot, line_nodes, line_sight}
use Rattle.quiesce_core.specs.State.{Configuration}
use Rattle.quiesce_core.specs.declared.event.Event.TheVariants.{Make}
use Rattle.txn_gate.specs.Seats.{collected_in, record_of, table_of_change}
use Rattle.txn_gate.specs.declared.change_seat.ChangeSeat.{ChangeSeat}
use Rattle.txn_gate.specs.declared.gates.Gates.{Gates}
use Rattle.txn_records.specs.Entries.{config_of}
use Rattle.txn_records.specs.declared.entry.Entry.{Entry}
use Rattle.txn_records.specs.declared.entry.Entry.TheVariants.{Did}

-- The sights of one look at the node in slot n: of its line each node once, the earliest first.
pub record SightsLine (c : Configuration) (n : ℕ) (sights : List Sight) : Type 0 where
  pub line : WholeLine
  pub made : IsMadeLine c line.kind None (line_nodes line)
  pub is_last : last_slot line ≡ n
  pub sights_are : sights ≡ map line_sight (line_nodes line)

-- of the source of a node, if it has one
abbrev pub SightsSource : Configuration → Option ℕ → List Sight → Type 0
SightsSource c None sights = sights ≡ []
SightsSource c (Some n) sights = SightsLine c n sights

-- what a make adds to the record: its event, in the next slot, and then the sights of one look at the source
pub record AddsMake (r r' : List Entry) (node : Node) (from : Option ℕ) : Type 0 where
  pub sights : List Sight
  pub adds : r' ≡ r ++ Did (Make (length (config_of r).slots) node from) ∷ map sight_entry sights
  pub of_source : SightsSource (config_of r') from sights

-- The change made it in the next slot. It has done nothing, and is of these gates.
pub record Made (gates : Gates) (old new : ChangeSeat) (node : Node) (from : Option ℕ) (x : Guest) : Type 0 where
  pub here : table_of_change new ≡ table_of_change old
  pub entries : AddsMake (record_of old) (record_of new) node from
  pub nodes : collected_in new ≡ collected_in old
  pub spare : new.spare + 1 ≡ old.spare
  pub fits : FitsCell gates.words.shared.table_id (length (config_of (record_of old)).slots) x
  pub below : length (config_of (record_of old)).slots < MAX_NODES
