-- A text that is written behind an old one, line by line.
use Rattle.std.proofs.Common.{◌≡◌, ℕ, ◌+◌, ◌<◌, ◌≤◌, List, ◌++◌, length, take, get_or, sym, ◌∙◌, ap, suc, ◌-◌, Bool, not, inl, inr, [], ◌∷◌, drop, arith, refl}
use Rattle.std.specs.Prelude.{flat_map}
use Rattle.std.proofs.lemmas.List.{flat_map_more, take_all, take_more}
use Rattle.std.specs.List.{prefix_len, slice_split, onto_first}
use Rattle.std.proofs.lemmas.Bool.{cond-true, cond-false, cases_Bool}
use Rattle.base.proofs.PlaceLaws.{rest_is}

module _ {A : Type 0} (line : A → List ℕ) (xs : List A) (old : List ℕ) where
  -- one line more
  pub lines_more : (so_far new : List ℕ) (i : ℕ) (d : A) → i < length xs → so_far ≡ old ++ flat_map line (take i xs) → new ≡ so_far ++ line (get_or xs i d) → new ≡ old ++ flat_map line (take (i + 1) xs)
  lines_more so_far new i d low so_far_is new_is =
      let x = get_or xs i d in
      new_is ∙ ap (λ t. t ++ line x) so_far_is ∙ flat_map_more line old (take i xs) x ∙ ap (λ t. old ++ flat_map line t) (sym (take_more xs i d low))

  -- all lines
  pub lines_all : (new : List ℕ) (i : ℕ) → length xs ≤ i → new ≡ old ++ flat_map line (take i xs) → new ≡ old ++ flat_map line xs
  lines_all new i all new_is = new_is ∙ ap (λ t. old ++ flat_map line t) (take_all i xs all)

-- A byte that passes ends the first part.
pub cut_here : (p : ℕ → Bool) (bytes : List ℕ) → prefix_len (λ b. not (p b)) bytes < length bytes
    → slice_split p bytes ≡ take (prefix_len (λ b. not (p b)) bytes) bytes ∷ slice_split p (drop (prefix_len (λ b. not (p b)) bytes + 1) bytes)
cut_here p [] within = absurd (omega arith)
cut_here p (b ∷ bs) within =
    let n : ℕ = prefix_len (λ b. not (p b)) bs in
    elim (cases_Bool (p b)) [
      | inl holds ↦
          let none : prefix_len (λ b. not (p b)) (b ∷ bs) ≡ 0 = cond-false _ _ _ (ap not holds) in
          cond-true _ _ _ holds ∙ sym (ap (λ k. take k (b ∷ bs) ∷ slice_split p (drop (k + 1) (b ∷ bs))) none)
      | inr fails ↦
          let more : prefix_len (λ b. not (p b)) (b ∷ bs) ≡ suc n = cond-true _ _ _ (ap not fails) ∙ (let e : 1 + n ≡ suc n = omega arith in e) in
          let step : suc n + 1 ≡ suc (n + 1) = omega arith in
          cond-false _ _ _ fails ∙ ap (onto_first b) (cut_here p bs (omega arith)) ∙ sym (ap (λ k. take k (b ∷ bs) ∷ slice_split p (drop (k + 1) (b ∷ bs))) more ∙ ap (λ k. (b ∷ take n bs) ∷ slice_split p (drop k (b ∷ bs))) step)
    ]

-- Where no byte passes, the first part is all.
pub cut_none : (p : ℕ → Bool) (bytes : List ℕ) → length bytes ≤ prefix_len (λ b. not (p b)) bytes → slice_split p bytes ≡ bytes ∷ []
cut_none p [] all = refl
cut_none p (b ∷ bs) all =
    elim (cases_Bool (p b)) [
      | inl holds ↦ let none : prefix_len (λ b. not (p b)) (b ∷ bs) ≡ 0 = cond-false _ _ _ (ap not holds) in absurd (omega arith)
      | inr fails ↦
          let more : prefix_len (λ b. not (p b)) (b ∷ bs) ≡ 1 + prefix_len (λ b. not (p b)) bs = cond-true _ _ _ (ap not fails) in
          cond-false _ _ _ fails ∙ ap (onto_first b) (cut_none p bs (omega arith))
    ]

-- what the code's two parts round a byte are
pub cut_at : (p : ℕ → Bool) (bytes : List ℕ) (n : ℕ) → n ≡ prefix_len (λ b. not (p b)) bytes → n < length bytes
    → slice_split p bytes ≡ take n bytes ∷ slice_split p (take (length bytes - (n + 1)) (drop (n + 1) bytes))
cut_at p bytes n is within =
    let here = cut_here p bytes (omega arith) in
    let rest = rest_is bytes (n + 1) (omega arith) in
    rw (rest, is) here
