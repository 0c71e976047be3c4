use Rattle.std.proofs.Common.{◌≡◌, ◌<◌, ℕ, true, length}
use Rattle.std.specs.Prelude.{slice_index_or}
use Rattle.quiesce_core.specs.State.{is_live}
use Rattle.txn_gate.specs.Seats.{record_of}
use Rattle.txn_records.specs.Entries.{config_of}
use Rattle.live_board.proofs.collecting.first_undone.Given as goal

-- each live one below is done
abbrev pub invariant-loop-slot : goal.invariant-loop-slot
invariant-loop-slot l = record {
  all : l.slot-end ≡ length (config_of (record_of l.seat)).slots;
  done : (n : ℕ) → n < l.slot → is_live (config_of (record_of l.seat)) n ≡ true → slice_index_or l.dones.items n true ≡ true;
}
