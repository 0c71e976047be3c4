-- Two lists of which the same holds at each place.
use Rattle.std.specs.Prelude.{◌≡◌, ℕ, List, Some, slice_get}

-- P holds of each place that both lists have, and of what stands there
abbrev pub Paired : {X Y : Type 0} → (ℕ → X → Y → Type 0) → List X → List Y → Type 0
Paired {X} {Y} P xs ys = (k : ℕ) (x : X) (y : Y) → slice_get xs k ≡ Some x → slice_get ys k ≡ Some y → P k x y
