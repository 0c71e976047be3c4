-- What can be told of a statement: that it holds, or that it doesn't.
use Rattle.std.specs.Prelude.{◌⊎◌}

abbrev pub CanTell : Type 0 → Type 0
CanTell P = P ⊎ (P → ⊥)
