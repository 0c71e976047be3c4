-- What an answer owes: its value is right, or its refusal has a cause that holds.
use Rattle.std.specs.Prelude.{◌≢◌, Result, MatchResult}

-- a refusal has a cause, unless it is the one that needs none, as want of memory
abbrev pub Refuses : {E : Type 0} → E → (E → Type 0) → E → Type 0
Refuses free Cause refusal = refusal ≢ free → Cause refusal

-- the value of an answer is right, or its refusal has a cause
abbrev pub Answers : {T E : Type 0} → E → (T → Type 0) → (E → Type 0) → Result T E → Type 0
Answers free IsRight Cause answer = MatchResult answer IsRight (Refuses free Cause)
