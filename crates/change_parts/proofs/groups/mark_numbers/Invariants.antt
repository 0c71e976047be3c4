use Rattle.std.proofs.Common.{◌≡◌, ℕ, eqb, false, length, take, get_or}
use Rattle.std.specs.List.{list_any}
use Rattle.change_parts.proofs.groups.mark_numbers.Given as goal

abbrev pub invariant-loop-number : goal.invariant-loop-number
invariant-loop-number l = record {
  count : length l.marks.items ≡ l.count;
  marked : (k : ℕ) → get_or l.marks.items k false ≡ list_any (λ j. eqb k j) (take l.number-index l.numbers);
}
