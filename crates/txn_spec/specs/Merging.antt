-- To be believed (definitions.md).
-- What the change learns of its record, that it is one of a run, and of the nodes whose seats it took in: of one, that
-- its record made it so, and that it services nothing once its record removed it; of all, that their events and its
-- record are one run.
use Rattle.std.specs.Prelude.{◌≡◌, ℕ, ◌<◌, false, List, Some, None, option_map, IsTrue}
use Rattle.atomic_table.specs.Table.{Step}
use Rattle.txn_records.specs.Entries.{config_of}
use Rattle.txn_records.specs.Records.{IsRecord, IsRecordOf, Moment, events}
use Rattle.txn_records.specs.declared.entry.Entry.{Entry}
use Rattle.txn_records.specs.declared.entry.Entry.TheVariants.{Looked}
use Rattle.quiesce_core.specs.Runs.{done_by}
use Rattle.quiesce_core.specs.State.{is_live, slot}
use Rattle.quiesce_core.specs.Words.{slot_fields_of}
use Rattle.txn_spec.specs.Steps.{Seat, noted}
use Rattle.txn_spec.specs.Traces.{port_at, HaveOwnSlots}
use Rattle.txn_spec.specs.Views.{change_of, is_among, log_in, node_of, notes}
use Rattle.txn_spec.specs.declared.view.NodeView.{NodeView}

-- the node is as the record made it; and where the record removed it, it services nothing
pub record IsOfRecord (r : List Entry) (n : NodeView) : Type 0 where
  pub made : option_map slot_fields_of (slot (config_of r) n.slot) ≡ Some n.made
  pub unserving : is_live (config_of r) n.slot ≡ false → n.known.service ≡ None

-- so many nodes were given their seats, and each of these was taken in
abbrev pub AreAllAmong : ℕ → List NodeView → Type 0
AreAllAmong seats nodes = (n : ℕ) → n < seats → IsTrue (is_among nodes n)

-- The record and the nodes' events, in order, merge into one run: it has no other event, each look stands where the
-- port's word is the one that was loaded, and each sight where the node's events so far are those that it has.
pub record MergeIntoRun (r : List Entry) (nodes : List NodeView) : Type 0 where
  pub moments : List Moment
  pub is_record : IsRecordOf r moments
  pub logs : (n : ℕ) → done_by n (events moments) ≡ log_in nodes n

-- a load by the change, whose record is one of a run, as no two nodes are of one slot whose seats it took in
abbrev pub Learns : Step (Unit {0}) → Seat → ℕ → Seat → Type 0
Learns st me found new = (new ≡ me) × IsRecord (change_of me.0).entries × HaveOwnSlots me.0.nodes

-- a load by the change, which took this node's seat in last
abbrev pub Meets : Step (Unit {0}) → Seat → ℕ → Seat → Type 0
Meets st me found new = (new ≡ me) × IsRecord (change_of me.0).entries × IsOfRecord (change_of me.0).entries (node_of me.0)

-- a look of the change, which took all seats in
abbrev pub MergesBy : ℕ → Seat → ℕ → Seat → Type 0
MergesBy p me found new = (new ≡ noted me (Looked p found))
    × MergeIntoRun (notes (change_of me.0) (Looked p found)).entries me.0.nodes

abbrev pub Merges : Step (Unit {0}) → Seat → ℕ → Seat → Type 0
Merges st = MergesBy (port_at st.word)
