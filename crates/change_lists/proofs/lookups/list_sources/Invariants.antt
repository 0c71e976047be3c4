use Rattle.std.proofs.Common.{◌≡◌, ℕ, length, take, get_or, None}
use Rattle.change_lists.proofs.LookupLemmas.{old_of}
use Rattle.change_lists.proofs.lookups.list_sources.Given as goal

abbrev pub invariant-loop-shift : goal.invariant-loop-shift
invariant-loop-shift l = record {
  count : length l.sources.items ≡ l.count;
  noted : (j : ℕ) → get_or l.sources.items j None ≡ old_of (take l.shift-index l.moves) j;
}
