use Rattle.std.proofs.Common.{◌≡◌, ℕ, length, take, get_or, None}
use Rattle.change_lists.specs.Lists.{slot_of}
use Rattle.change_lists.proofs.lookups.list_slots.Given as goal

abbrev pub invariant-loop-slot : goal.invariant-loop-slot
invariant-loop-slot l = record {
  count : length l.slots.items ≡ l.count;
  noted : (i : ℕ) → get_or l.slots.items i None ≡ slot_of (take l.slot l.places) i;
}
