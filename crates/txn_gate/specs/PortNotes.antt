-- What is noted of ports.
use Rattle.std.specs.Prelude.{ℕ, Bool, false, not, ◌||◌, List, slice_index_or}
use Rattle.txn_gate.specs.declared.port_notes.PortNote.{PortNote}

abbrev pub fresh_note : PortNote
fresh_note = record { reopened = false; found = false }

-- whether the port is noted as drained
abbrev pub is_noted : PortNote → Bool
is_noted n = not n.reopened || n.found

abbrev pub note_in : List PortNote → ℕ → PortNote
note_in notes p = slice_index_or notes p fresh_note

abbrev pub noted_in : List PortNote → ℕ → Bool
noted_in notes p = is_noted (note_in notes p)
