use Rattle.std.proofs.Common.{◌∙◌, ℕ, ◌+◌, cond, sym, ap, arith}
use Rattle.std.specs.Prelude.{◌==◌, sum_by}
use Rattle.std.proofs.lemmas.List.Sorted.{IsNonDecreasingBy-from_sort, sum_by-IsPermutation}
use Rattle.std.proofs.lemmas.Slice.Eq.{bytes_eq-Decides}
use Rattle.report_follows.proofs.SortedLemmas.{one_sorted, told_once}
use Rattle.report_follows.proofs.testing.are_seen.Goals as goal

pub returns : goal.returns
returns c =
    let sorted = c.sort_unstable.new.self.items in
    let closed = c.args.closed.now in
    let counts = λ (p : ℕ). sum_by-IsPermutation (λ q. cond (q == p) 1 0) c.args.seen.items sorted c.sort_unstable.ensures.permutation in
    let climbs = IsNonDecreasingBy-from_sort (λ x. x) sorted c.sort_unstable.ensures.sorted in
    let same = bytes_eq-Decides c.as_slice.result.now closed in
    told_once closed c.args.seen.items _ (
      λ e. λ p. sym (counts p) ∙ ap (λ xs. sum_by (λ q. cond (q == p) 1 0) xs) (sym c.as_slice.ensures.value ∙ same.0 (sym c.eq.ensures ∙ e)),
      λ all. c.eq.ensures ∙ same.1 (c.as_slice.ensures.value ∙ one_sorted sorted closed (λ k low. climbs k (k + 1) 0 (omega arith) low) c.requires.rise (λ p. counts p ∙ all p)),
    )
