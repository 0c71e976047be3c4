-- To be believed (definitions.md).
-- The words that ask for a session: `apply N FILE`, and the other words of a change.
use Rattle.std.specs.Prelude.{◌≡◌, ◌≢◌, ℕ, List, [], ◌∷◌, codes}
use Rattle.std.specs.Str.Parse.{digits_value}
use Rattle.command_words.specs.CommandLine.{IsChange, IsNumber}
use Rattle.command_words.specs.declared.sessions.SessionWords.{SessionWords}

-- a file, and the words of a change
abbrev pub SaysChange : List (List ℕ) → SessionWords → Type 0
SaysChange [] asked = ⊥
SaysChange (file ∷ parts) asked = (file ≢ []) × (asked.change.file ≡ file) × IsChange parts asked.change

-- a number of rounds, and these
abbrev pub SaysSession : List (List ℕ) → SessionWords → Type 0
SaysSession [] asked = ⊥
SaysSession (count ∷ words) asked = IsNumber count × (asked.within ≡ digits_value 10 count) × SaysChange words asked

-- the words ask for the session
abbrev pub AsksToApply : List (List ℕ) → SessionWords → Type 0
AsksToApply [] asked = ⊥
AsksToApply (word ∷ words) asked = (word ≡ codes "apply") × SaysSession words asked

-- they ask for none
abbrev pub AskForNoSession : List (List ℕ) → Type 0
AskForNoSession words = (asked : SessionWords) → AsksToApply words asked → ⊥
