-- An element that stands twice in a list stands twice in each reordering of it.
use Rattle.std.proofs.Common.{◌≡◌, ◌∙◌, inl, inr, suc, List, ◌∷◌, refl, sym, subst, arith}
use Rattle.std.specs.List.{Contains}
use Rattle.elaborator.specs.Faults.{Twice}
use Rattle.elaborator.proofs.TwiceLaws.{twice_there, twice_at}
use Rattle.elaborator.proofs.InstanceLaws.{twice_cases}
use Rattle.elaborator_laws.specs.Reordering.{Reordered, no_elements, kept, swapped, through}
use Rattle.elaborator_laws.proofs.Reorders.{like_in}
use Rattle.base.proofs.ContainsLaws.{Contains-cons_cases, Contains-here, Contains-there, at_some_place}

pub contains-same : {A : Type 0} (xs ys : List A) (z : A) → Reordered ◌≡◌ xs ys → Contains xs z → Contains ys z
contains-same xs ys z same there =
    let w = like_in ◌≡◌ (λ x y v is other. is ∙ other) xs ys z same there in
    subst (λ v. Contains ys v) (sym w.2) w.1

twice_first : {A : Type 0} (x : A) (xs : List A) (z : A) → x ≡ z → Contains xs z → Twice (x ∷ xs) z
twice_first x xs z is there =
    let at = at_some_place xs z there in
    subst (λ v. Twice (v ∷ xs) z) (sym is) (twice_at (z ∷ xs) 0 (suc at.0) z (omega arith) refl at.1)

pub twice-same : {A : Type 0} (xs ys : List A) (z : A) → Reordered ◌≡◌ xs ys → Twice xs z → Twice ys z
twice-same _ _ z no_elements two = two
twice-same _ _ z (kept x y xs ys is rest) two =
    elim (twice_cases x xs z two) [
      | inl first ↦ twice_first y ys z (sym is ∙ first.0) (contains-same xs ys z rest first.1)
      | inr later ↦ twice_there y ys z (twice-same xs ys z rest later)
    ]
twice-same _ _ z (swapped x y x' y' xs ys is is' rest) two =
    elim (twice_cases x (y ∷ xs) z two) [
      | inl first ↦
          elim (Contains-cons_cases y xs z first.1) [
            | inl second ↦ twice_first y' (x' ∷ ys) z (sym is' ∙ sym second) (subst (λ v. Contains (v ∷ ys) z) (sym first.0 ∙ is) (Contains-here z ys))
            | inr later ↦ twice_there y' (x' ∷ ys) z (twice_first x' ys z (sym is ∙ first.0) (contains-same xs ys z rest later))
          ]
      | inr more ↦
          elim (twice_cases y xs z more) [
            | inl second ↦ twice_first y' (x' ∷ ys) z (sym is' ∙ second.0) (Contains-there x' z ys (contains-same xs ys z rest second.1))
            | inr later ↦ twice_there y' (x' ∷ ys) z (twice_there x' ys z (twice-same xs ys z rest later))
          ]
    ]
twice-same _ _ z (through xs ys zs first then_) two = twice-same ys zs z then_ (twice-same xs ys z first two)
