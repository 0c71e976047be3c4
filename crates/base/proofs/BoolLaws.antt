-- What tests say that are put together of others.
use Rattle.std.proofs.Common.{◌≡◌, Bool, true, false, not, ◌||◌, refl, inl, inr, ◌⊎◌}
use Rattle.std.proofs.lemmas.Bool.{both_ways}

pub then_so : (a b : Bool) → (not a || b) ≡ true → a ≡ true → b ≡ true
then_so true b h e = h
then_so false b h e = absurd (both_ways false refl e)

pub or_nothing : (c : Bool) → (c || false) ≡ true → c ≡ true
or_nothing true e = refl
or_nothing false e = absurd cc

pub no_is_yes : (b : Bool) → false ≡ true → b ≡ true
no_is_yes b e = absurd cc

pub flip : (a b : Bool) → a ≡ not b → b ≡ not a
flip true true h = h
flip true false h = refl
flip false true h = refl
flip false false h = h

pub ⊎-swap : {P Q : Type 0} → P ⊎ Q → Q ⊎ P
⊎-swap (inl p) = inr p
⊎-swap (inr q) = inl q
