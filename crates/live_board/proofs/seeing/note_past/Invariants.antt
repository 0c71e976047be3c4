use Rattle.std.proofs.Common.{◌≡◌, List, ◌++◌, map, length}
use Rattle.std.specs.Prelude.{take}
use Rattle.change_board.specs.Sights.{Sight}
use Rattle.live_board.specs.Lengths.{AreLengths}
use Rattle.live_board.proofs.seeing.note_past.Given as goal

abbrev pub invariant-loop-at : goal.invariant-loop-at
invariant-loop-at l = record {
  lengths : (before : List Sight) → AreLengths before l.fn.lengths.items
      → AreLengths (before ++ map (λ p. record { slot = p.slot; events = p.log.items }) (take l.at l.past.items)) l.lengths.items;
  count : length l.lengths.items ≡ length l.fn.lengths.items;
  all : l.at-end ≡ length l.past.items;
}
