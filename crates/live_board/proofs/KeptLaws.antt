-- What a board keeps stays of its slots and gates.
use Rattle.std.proofs.Common.{◌≡◌, ◌∙◌, ℕ, zero, suc, ◌<◌, Bool, true, false, cond, List, [], ◌∷◌, ◌++◌, length, set, Option, Some, None, refl, sym, ap, subst, ⊎_elim}
use Rattle.std.specs.Prelude.{is_some, slice_get}
use Rattle.std.proofs.lemmas.List.{map-append, map-set}
use Rattle.std.proofs.lemmas.Option.{same_Some}
use Rattle.atomic_table.specs.Seated.{TableId}
use Rattle.base.proofs.PlaceLaws.{slice_get-set_cases, slice_get-snoc}
use Rattle.live_hall.specs.Houses.{FitsCell}
use Rattle.live_hall.specs.declared.guest.Guest.{Guest}
use Rattle.live_board.specs.Keeping.{AreKept, is_stored, stored}

module _ (gates : TableId) where
  pub kept_set : (xs : List (Option Guest)) (n : ℕ) (o : Option Guest) → AreKept gates xs → ((x : Guest) → o ≡ Some x → FitsCell gates n x) → AreKept gates (set xs n o)
  kept_set xs n o h fits i x at = ⊎_elim
      (λ (here : (i ≡ n) × (o ≡ Some x)). subst (λ j. FitsCell gates j x) (sym here.0) (fits x here.1))
      (λ (there : slice_get xs i ≡ Some (Some x)). h i x there)
      (slice_get-set_cases xs n o i (Some x) at)

  pub kept_pushed : (xs ys : List (Option Guest)) (b : Bool) → AreKept gates xs → ys ≡ cond b (xs ++ None ∷ []) xs → AreKept gates ys
  kept_pushed xs ys true h is i x at = ⊎_elim
      (λ (old : (i < length xs) × (slice_get xs i ≡ Some (Some x))). h i x old.1)
      (λ (new : (i ≡ length xs) × (None ≡ Some x)). absurd (none_of x new.1))
      (slice_get-snoc xs None (Some x) i (sym (ap (λ l. slice_get l i) is) ∙ at))
    where
      none_of : (y : Guest) → None ≡ Some y → ⊥
      none_of y e = cc
  kept_pushed xs ys false h is i x at = h i x (sym (ap (λ l. slice_get l i) is) ∙ at)

  pub fits_same : (n : ℕ) (x y : Guest) → FitsCell gates n x → Some x ≡ Some y → FitsCell gates n y
  fits_same n x y h is = subst (FitsCell gates n) (same_Some x y is) h

pub none_is : {A B : Type 0} (o : Option A) (x : A) → o ≡ None → o ≡ Some x → B
none_is o x none_ is = absurd (cc)

-- in which places one lies: with a place set, and with a place more
pub stored_set : (xs : List (Option Guest)) (n : ℕ) (o : Option Guest) (t : Bool) → is_some o ≡ t → stored (set xs n o) ≡ set (stored xs) n t
stored_set xs n o t is = map-set is_some xs n o ∙ ap (set (stored xs) n) is

none_pushed : (xs : List Bool) (n : ℕ) → is_stored (xs ++ false ∷ []) n ≡ is_stored xs n
none_pushed [] zero = refl
none_pushed [] (suc n) = refl
none_pushed (x ∷ xs) zero = refl
none_pushed (x ∷ xs) (suc n) = none_pushed xs n

pub stored_pushed : (xs ys : List (Option Guest)) (b : Bool) → ys ≡ cond b (xs ++ None ∷ []) xs → (n : ℕ) → is_stored (stored ys) n ≡ is_stored (stored xs) n
stored_pushed xs ys true is n = ap (λ l. is_stored (stored l) n) is ∙ ap (λ l. is_stored l n) (map-append is_some xs (None ∷ [])) ∙ none_pushed (stored xs) n
stored_pushed xs ys false is n = ap (λ l. is_stored (stored l) n) is
