-- Looks at ports, one more at a time.
use Rattle.std.proofs.Common.{◌≡◌, ◌∙◌, ◌+◌, ℕ, Bool, [], ◌∷◌, map, ap, arith}
use Rattle.std.specs.Prelude.{◌&&◌}
use Rattle.std.specs.List.{list_all, range_with_len, sum_by}
use Rattle.std.proofs.Math.Bool.{and-true}
use Rattle.std.proofs.lemmas.List.Folds.{list_all-append}
use Rattle.std.proofs.lemmas.List.FromFn.{map-range_with_len_more, sum_by-map-range_with_len_more}

module _ {A : Type 0} (f : ℕ → A) (k : ℕ) where
  pub all_more : (p : A → Bool) → list_all p (map f (range_with_len 0 (k + 1))) ≡ (list_all p (map f (range_with_len 0 k)) && p (f k))
  all_more p =
      ap (list_all p) (map-range_with_len_more f 0 k k (omega arith))
      ∙ list_all-append p (map f (range_with_len 0 k)) (f k ∷ [])
      ∙ ap (λ b. list_all p (map f (range_with_len 0 k)) && b) (and-true (p (f k)))

  pub sum_more : (v : A → ℕ) → sum_by v (map f (range_with_len 0 (k + 1))) ≡ sum_by v (map f (range_with_len 0 k)) + v (f k)
  sum_more v = sum_by-map-range_with_len_more v f 0 k k (omega arith)
