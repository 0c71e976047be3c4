-- What lies in a box.
use Rattle.std.specs.Prelude.{◌≡◌, true, Option, Some, None, is_some}
use Rattle.std.proofs.Common.{sym, true≢false}

-- what an option has, where it has something
abbrev pub what_is : {A : Type 0} → (o : Option A) → is_some o ≡ true → A
what_is (Some x) there = x
what_is None there = absurd (true≢false (sym there))
