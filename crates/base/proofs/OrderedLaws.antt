-- An ordered list is told by what it contains.
use Rattle.std.proofs.Common.{◌≡◌, ◌∙◌, suc, List, [], ◌∷◌, refl, ap, sym, subst, inl, inr, arith}
use Rattle.std.specs.Prelude.{Contains, AllPairs}
use Rattle.base.proofs.ContainsLaws.{Contains-cons_cases, Contains-here, Contains-nil, Contains-there}

-- the first stands in the relation to each of the rest, and the rest is ordered
pub before_all : {A : Type 0} (R : A → A → Type 0) (x : A) (xs : List A) → AllPairs R (x ∷ xs) → (y : A) → Contains xs y → R x y
before_all R x xs rise y held = subst (R x) held.2 (rise 0 (suc held.0) y (omega arith) (omega (arith, held.1)))

pub rest_rises : {A : Type 0} (R : A → A → Type 0) (x : A) (xs : List A) → AllPairs R (x ∷ xs) → AllPairs R xs
rest_rises R x xs rise i j d below within = rise (suc i) (suc j) d (omega (arith, below)) (omega (arith, within))

-- what an ordered list contains after its first element is in the other list after the same first element
pub after_first :
    {A : Type 0} (R : A → A → Type 0) → ((x y : A) → R x y → R y x → ⊥) → (x y : A) (xs ys : List A) → AllPairs R (x ∷ xs) → x ≡ y
    → ((z : A) → Contains (x ∷ xs) z → Contains (y ∷ ys) z) → (z : A) → Contains xs z → Contains ys z
after_first R apart x y xs ys rise same all z held =
    elim (Contains-cons_cases y ys z (all z (Contains-there x z xs held))) [
      | inl first ↦ let itself = subst (R x) (first ∙ sym same) (before_all R x xs rise z held) in absurd (apart x x itself itself)
      | inr later ↦ later
    ]

-- two ordered lists with the same elements are one
pub one_order :
    {A : Type 0} (R : A → A → Type 0) → ((x y : A) → R x y → R y x → ⊥) → (xs ys : List A) → AllPairs R xs → AllPairs R ys
    → ((z : A) → Contains xs z → Contains ys z) → ((z : A) → Contains ys z → Contains xs z) → xs ≡ ys
one_order R apart [] [] rise rise' all all' = refl
one_order R apart [] (y ∷ ys) rise rise' all all' = absurd (Contains-nil y (all' y (Contains-here y ys)))
one_order R apart (x ∷ xs) [] rise rise' all all' = absurd (Contains-nil x (all x (Contains-here x xs)))
one_order R apart (x ∷ xs) (y ∷ ys) rise rise' all all' =
    ap (λ z. z ∷ xs) same
    ∙ ap (λ zs. y ∷ zs) (one_order R apart xs ys (rest_rises R x xs rise) (rest_rises R y ys rise') (after_first R apart x y xs ys rise same all) (after_first R apart y x ys xs rise' (sym same) all'))
  where
    same : x ≡ y
    same =
        elim (Contains-cons_cases y ys x (all x (Contains-here x xs))) [
          | inl is ↦ is
          | inr later ↦
              elim (Contains-cons_cases x xs y (all' y (Contains-here y ys))) [
                | inl is ↦ sym is
                | inr later' ↦ absurd (apart x y (before_all R x xs rise y later') (before_all R y ys rise' x later))
              ]
        ]
