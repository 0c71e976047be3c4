-- Lemmas on relations between each element of a list and each later one.
use Rattle.std.proofs.Common.{Bool, true, false, cond, eqb, filter, ◌≡◌, ℕ, List, [], ◌∷◌, ◌++◌, Option, Some, None, length, get_or, refl, ap, sym, subst, inl, inr, arith, Contains, slice_get, filter_map, ◌<◌, ◌∙◌}
use Rattle.std.specs.List.{cons_option, list_any, range_with_len}
use Rattle.std.specs.Prelude.{AllPairs}
use Rattle.std.proofs.lemmas.List.Elements.{All-append, Contains-get_or}
use Rattle.std.proofs.lemmas.List.FromFn.{get_or-range_with_len, length-range_with_len}
use Rattle.std.proofs.lemmas.Bool.{and_from, and_parts, eq-eqb, eqb-true, false≢true, or_cases}
use Rattle.std.specs.Option.{option_map_or}
use Rattle.change_parts.specs.Groupings.{LeadsIn, leads}
use Rattle.std.proofs.lemmas.List.Kept.{AllPairs-cons}
use Rattle.std.proofs.lemmas.Option.{get_or_from_slice_get, slice_get-get_or, slice_get_within}
use Rattle.std.proofs.lemmas.Map.Keys.{any_passes_from_place}
use Rattle.base.proofs.ContainsLaws.{Contains-at, Contains-here, Contains-there, at_some_place, All-from}
use Rattle.base.proofs.MapLaws.{All-filter_map}
use Rattle.base.proofs.OrderedLaws.{before_all, rest_rises}
use Rattle.change_plan.specs.Selects.{Selects}
use Rattle.change_plan.specs.Selects.Selects.{ends, takes, skips}
use Rattle.change_plan.proofs.SelectsLaws.{Selects-part}

module _ {A : Type 0} (R : A → A → Type 0) where
  pub none_paired : AllPairs R []
  none_paired i j d below within = absurd (omega (arith, within))

  -- told by places
  pub pairs_from : (xs : List A) → ((i j : ℕ) (x y : A) → i < j → slice_get xs i ≡ Some x → slice_get xs j ≡ Some y → R x y) → AllPairs R xs
  pairs_from xs are i j d below within =
      are i j (get_or xs i d) (get_or xs j d) below (slice_get-get_or xs i d (omega (arith, below, within))) (slice_get-get_or xs j d within)

  pub pairs_at : (xs : List A) → AllPairs R xs → (i j : ℕ) (x y : A) → i < j → slice_get xs i ≡ Some x → slice_get xs j ≡ Some y → R x y
  pairs_at xs pairs i j x y below at at' =
      subst (λ (p : A × A). R p.0 p.1) (λ k. (get_or_from_slice_get xs i x x at k, get_or_from_slice_get xs j y x at' k)) (pairs i j x below (slice_get_within xs j y at'))

  pub pairs_held : (xs : List A) → AllPairs R xs → AllPairs (λ x y. Contains xs x × Contains xs y × R x y) xs
  pairs_held xs pairs i j d below within = (Contains-get_or xs i d (omega (arith, below, within)), Contains-get_or xs j d within, pairs i j d below within)

  pub pairs_append : (xs ys : List A) → AllPairs R xs → AllPairs R ys → ((x y : A) → Contains xs x → Contains ys y → R x y) → AllPairs R (xs ++ ys)
  pairs_append [] ys rise rise' over = rise'
  pairs_append (x ∷ xs) ys rise rise' over =
      AllPairs-cons R x (xs ++ ys)
      (All-append (R x) xs ys (All-from xs (R x) (before_all R x xs rise)) (All-from ys (R x) (λ y held. over x y (Contains-here x xs) held)))
      (pairs_append xs ys (rest_rises R x xs rise) rise' (λ a b held held'. over a b (Contains-there x a xs held) held'))

  pub pairs_selected : (P : A → Type 0) (xs ys : List A) → Selects P xs ys → AllPairs R xs → AllPairs R ys
  pairs_selected P all part ends rise = rise
  pairs_selected P all part (skips {x = x} {xs = xs} {ys = ys} lacks s) rise = pairs_selected P xs ys s (rest_rises R x xs rise)
  pairs_selected P all part (takes {x = x} {xs = xs} {ys = ys} has s) rise =
      AllPairs-cons R x ys (All-from ys (R x) (λ y held. before_all R x xs rise y (Selects-part P xs ys s y held))) (pairs_selected P xs ys s (rest_rises R x xs rise))

module _ {A B : Type 0} (R : A → A → Type 0) (S : B → B → Type 0) (f : A → Option B) (imply : (x y : A) (a b : B) → R x y → f x ≡ Some a → f y ≡ Some b → S a b) where
  pub pairs_filter_map : (xs : List A) → AllPairs R xs → AllPairs S (filter_map f xs)
  pairs_filter_map [] rise = none_paired S
  pairs_filter_map (x ∷ xs) rise = by (f x) refl (pairs_filter_map xs (rest_rises R x xs rise))
    where
      by : (o : Option B) → f x ≡ o → AllPairs S (filter_map f xs) → AllPairs S (cons_option o (filter_map f xs))
      by None e rest = rest
      by (Some a) e rest =
          AllPairs-cons S a (filter_map f xs) (All-filter_map f (S a) xs (λ k y b at e'. imply x y a b (before_all R x xs rise y (Contains-at xs k y at)) e e')) rest

pub Selects-alike : {A : Type 0} (P Q : A → Type 0) (xs : List A) → ((x : A) → Contains xs x → P x → Q x) → ((x : A) → Contains xs x → Q x → P x) → (ys : List A) → Selects P xs ys → Selects Q xs ys
Selects-alike P Q all to from part ends = ends
Selects-alike P Q all to from part (takes {x = x} {xs = xs} {ys = ys} has s) =
    takes (to x (Contains-here x xs) has) (Selects-alike P Q xs (λ y held. to y (Contains-there x y xs held)) (λ y held. from y (Contains-there x y xs held)) ys s)
Selects-alike P Q all to from part (skips {x = x} {xs = xs} {ys = ys} lacks s) =
    skips (λ has. lacks (from x (Contains-here x xs) has)) (Selects-alike P Q xs (λ y held. to y (Contains-there x y xs held)) (λ y held. from y (Contains-there x y xs held)) ys s)

-- ---- marks for the numbers of a list

any_has : (k : ℕ) (xs : List ℕ) → list_any (λ j. eqb k j) xs ≡ true → Contains xs k
any_has k [] e = absurd (false≢true e)
any_has k (x ∷ xs) e =
    elim (or_cases (eqb k x) (list_any (λ j. eqb k j) xs) e) [
      | inl here ↦ subst (λ y. Contains (y ∷ xs) k) (eqb-true k x here) (Contains-here k xs)
      | inr later ↦ Contains-there x k xs (any_has k xs later)
    ]

has_any : (k : ℕ) (xs : List ℕ) → Contains xs k → list_any (λ j. eqb k j) xs ≡ true
has_any k xs held = let w = at_some_place xs k held in any_passes_from_place (λ j. eqb k j) xs w.0 k w.1 (eq-eqb k k refl)

-- ---- a selection by a test

pub selected_by : {A : Type 0} (p : A → Bool) (P : A → Type 0) → ((x : A) → p x ≡ true → P x) → ((x : A) → P x → p x ≡ true) → (xs : List A) → Selects P xs (filter p xs)
selected_by p P to from [] = ends
selected_by {A = A} p P to from (x ∷ xs) = by (p x) refl (selected_by p P to from xs)
  where
    by : (b : Bool) → p x ≡ b → Selects P xs (filter p xs) → Selects P (x ∷ xs) (cond b (x ∷ filter p xs) (filter p xs))
    by true e rest = takes (to x e) rest
    by false e rest = skips (λ has. false≢true (sym e ∙ from x has)) rest

-- numbers that are marked and the least of their class
pub leads_selected : (least changed : List ℕ) (marks : List Bool) → ((k : ℕ) → get_or marks k false ≡ list_any (λ j. eqb k j) changed) → (xs : List ℕ) → ((k : ℕ) → Contains xs k → k < length least) → Selects (LeadsIn least changed) xs (filter (leads least marks) xs)
leads_selected least changed marks are xs inside =
    Selects-alike (λ k. leads least marks k ≡ true) (LeadsIn least changed) xs to from (filter (leads least marks) xs)
    (selected_by (leads least marks) (λ k. leads least marks k ≡ true) (λ k e. e) (λ k e. e) xs)
  where
    to : (k : ℕ) → Contains xs k → leads least marks k ≡ true → LeadsIn least changed k
    to k held e =
        let both = and_parts (option_map_or (λ x. eqb x k) (slice_get least k) false) (get_or marks k false) e in
        let here : slice_get least k ≡ Some (get_or least k 0) = slice_get-get_or least k 0 (inside k held) in
        record { least_is = eqb-true (get_or least k 0) k (sym (ap (λ o. option_map_or (λ x. eqb x k) o false) here) ∙ both.0); changed_has = any_has k changed (sym (are k) ∙ both.1) }

    from : (k : ℕ) → Contains xs k → LeadsIn least changed k → leads least marks k ≡ true
    from k held w =
        let here : slice_get least k ≡ Some (get_or least k 0) = slice_get-get_or least k 0 (inside k held) in
        and_from (option_map_or (λ x. eqb x k) (slice_get least k) false) (get_or marks k false)
        (ap (λ o. option_map_or (λ x. eqb x k) o false) here ∙ eq-eqb (get_or least k 0) k w.least_is) (are k ∙ has_any k changed w.changed_has)

pub range_inside : (n k : ℕ) → Contains (range_with_len 0 n) k → k < n
range_inside n k (i, low, is) =
    let inside : i < n = subst (λ m. i < m) (length-range_with_len 0 n) low in
    omega (arith, inside, get_or-range_with_len 0 n i k inside, is)
