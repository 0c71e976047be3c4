-- To be believed (definitions.md).
-- 'At each place of a list': a fact of each member together with the list of those before it. It can be evaluated on
-- a list, and grows at the list's end.
use Rattle.std.specs.Prelude.{List, [], ◌∷◌, ◌++◌, ⊤}

abbrev pub EachAfter : {A : Type 0} → (List A → A → Type 0) → List A → List A → Type 0
EachAfter P before [] = ⊤
EachAfter P before (x ∷ xs) = P before x × EachAfter P (before ++ x ∷ []) xs

abbrev pub Each : {A : Type 0} → (List A → A → Type 0) → List A → Type 0
Each P xs = EachAfter P [] xs
