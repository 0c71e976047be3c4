use Rattle.std.proofs.Common.{◌≡◌, ◌<◌, ℕ, true, length}
use Rattle.live_board.specs.Lengths.{is_alike, length_at}
use Rattle.quiesce_core.specs.State.{is_live}
use Rattle.txn_gate.specs.Seats.{record_of}
use Rattle.txn_records.specs.Entries.{config_of}
use Rattle.live_board.proofs.comparing.are_same.Given as goal

-- each live one below is alike
abbrev pub invariant-loop-slot : goal.invariant-loop-slot
invariant-loop-slot l = record {
  all : l.slot-end ≡ length (config_of (record_of l.seat)).slots;
  alike : (n : ℕ) → n < l.slot → is_live (config_of (record_of l.seat)) n ≡ true → is_alike (length_at l.first.items n) (length_at l.lengths.items n) ≡ true;
}
