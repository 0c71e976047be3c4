-- Of which records tables are.
use Rattle.std.specs.Prelude.{◌≡◌, ℕ, List, map, None}
use Rattle.std.specs.List.{list_any}
use Rattle.txn_records.specs.Entries.{config_of, events_in}
use Rattle.txn_records.specs.Notes.{is_found_drained}
use Rattle.txn_records.specs.declared.entry.Entry.{Entry}
use Rattle.quiesce_core.specs.State.{Configuration}
use Rattle.quiesce_core.specs.declared.state.Slot.{Slot}
use Rattle.quiesce_laws.specs.Events.{reopens}
use Rattle.txn_gate.specs.PortNotes.{note_in}
use Rattle.txn_gate.specs.Tabled.{Tabled, bare_node}
use Rattle.txn_gate.specs.declared.port_notes.PortNote.{PortNote}

-- a configuration without paths, arguments and sources
abbrev pub bare_slot : Slot → Slot
bare_slot m = record { node = bare_node m.node.kind; first_port = m.first_port; from = None; live = m.live }

abbrev pub bare : Configuration → Configuration
bare c = record { slots = map bare_slot c.slots; gates = c.gates }

-- what a record says of a port: whether it was reopened, and whether a look found it drained since it was last closed
-- or reopened
abbrev pub note_of : List Entry → ℕ → PortNote
note_of r p = record { reopened = list_any (reopens p) (events_in r); found = is_found_drained r p }

-- the tables have the configuration and the notes of this record
pub record IsTableOf (t : Tabled) (r : List Entry) : Type 0 where
  pub config : t.config ≡ bare (config_of r)
  pub notes : (p : ℕ) → note_in t.notes p ≡ note_of r p
