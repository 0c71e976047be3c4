-- To be believed (definitions.md).
-- The part of a list that has a property.
use Rattle.std.specs.Prelude.{List, [], ◌∷◌}

-- ys are those elements of xs that have P, in their order
pub data Selects {A : Type 0} (P : A → Type 0) : List A → List A → Type 0 where
  ends : Selects P [] []
  takes : {x : A} {xs ys : List A} → P x → Selects P xs ys → Selects P (x ∷ xs) (x ∷ ys)
  skips : {x : A} {xs ys : List A} → ¬ P x → Selects P xs ys → Selects P (x ∷ xs) ys
