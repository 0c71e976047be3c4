-- What can be told: by a test, and whether some element of a list has a property.
use Rattle.std.proofs.Common.{◌⊎◌, zero, suc, List, [], ◌∷◌, refl, sym, subst, inl, inr, arith, Contains, Bool, true, false, Decides}
use Rattle.std.proofs.lemmas.Bool.{false≢true}
use Rattle.base.specs.Telling.{CanTell}

pub told_by : {P : Type 0} (b : Bool) → Decides b P → CanTell P
told_by true d = inl (d.0 refl)
told_by false d = inr (λ has. false≢true (d.1 has))

-- some element of a list has a property, or none has
pub any_or_none :
    {A : Type 0} (P : A → Type 0) (xs : List A) → ((x : A) → Contains xs x → CanTell (P x))
    → ((x : A) × Contains xs x × P x) ⊎ ((x : A) → Contains xs x → P x → ⊥)
any_or_none P [] tell = inr (λ x there has. absurd (omega (arith, there.1)))
any_or_none {A = A} P (x ∷ xs) tell = by (tell x (0, omega arith, refl)) (any_or_none P xs (λ y there. tell y (later y there)))
  where
    later : (y : A) → Contains xs y → Contains (x ∷ xs) y
    later y (k, low, at) = (suc k, omega (arith, low), at)

    by :
        CanTell (P x) → ((y : A) × Contains xs y × P y) ⊎ ((y : A) → Contains xs y → P y → ⊥)
        → ((y : A) × Contains (x ∷ xs) y × P y) ⊎ ((y : A) → Contains (x ∷ xs) y → P y → ⊥)
    by (inl has) rest = inl (x, (0, omega arith, refl), has)
    by (inr lacks) (inl w) = inl (w.0, later w.0 w.1, w.2)
    by (inr lacks) (inr none) = inr neither
      where
        neither : (y : A) → Contains (x ∷ xs) y → P y → ⊥
        neither y (zero, low, at) has = lacks (subst P (sym at) has)
        neither y (suc k, low, at) has = none y (k, omega (arith, low), at) has
