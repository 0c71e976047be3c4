-- To be believed (definitions.md).
-- The words of a command line, and which command they ask for: the first word names it, and the others are its body.
use Rattle.std.specs.Prelude.{◌≡◌, ◌≢◌, ◌⊎◌, ◌≤◌, ◌<◌, ◌^◌, ℕ, ℤ, List, [], ◌∷◌, ◌++◌, Option, None, Some, map, codes, slice_index, FitsSigned, Bool, true, not, ◌||◌, ◌==◌, bytes_eq}
use Rattle.std.specs.Int.{w32}
use Rattle.std.specs.List.{AllByRecursion, list_any}
use Rattle.std.specs.Str.Parse.{IsNumeral, digits_value, signed_digits_value, without_leading_sign}
use Rattle.command_words.specs.declared.big_texts.TheConstants.{MAX_LANES}
use Rattle.darwin_lexer.specs.Naming.{IsName}
use Rattle.command_words.specs.declared.words.TopCall.{TopCall}
use Rattle.command_words.specs.declared.keywords.Keyword.{Keyword}
use Rattle.command_words.specs.declared.keywords.Keyword.TheVariants as keywords
use Rattle.command_words.specs.declared.words.Change.{Change}
use Rattle.command_words.specs.declared.words.Cut.{Cut}
use Rattle.command_words.specs.declared.words.Cut.TheVariants as cuts
use Rattle.command_words.specs.declared.words.Command.{Command}
use Rattle.command_words.specs.declared.words.Command.TheVariants as commands
use Rattle.command_words.specs.Keywords.{word_of}

-- a `-` or none and then digits, with a value from -2147483648 to 2147483647
abbrev pub IsInteger : List ℕ → Type 0
IsInteger word =
    (slice_index word 0 ≢ 43) × IsNumeral 10 (without_leading_sign word) × FitsSigned w32 (signed_digits_value 10 word)

-- the value of such a word
abbrev pub integer_of : List ℕ → ℤ
integer_of word = signed_digits_value 10 word

-- one digit or more, and nothing else, with a value up to 4294967295
abbrev pub IsNumber : List ℕ → Type 0
IsNumber word = IsNumeral 10 word × (digits_value 10 word < 2 ^ 32)

-- one digit or more, and nothing else, with a value from 1 to the most
abbrev pub IsCount : ℕ → List ℕ → Type 0
IsCount most word = IsNumeral 10 word × (1 ≤ digits_value 10 word) × (digits_value 10 word ≤ most)

-- the option of observers, of which there are four at most: none where the words say nothing
abbrev pub SaysObservers : List (List ℕ) → ℕ → Type 0
SaysObservers [] observers = observers ≡ 0
SaysObservers (option ∷ words) observers =
    (option ≡ codes "--watch")
    × (count : List ℕ) × (words ≡ count ∷ []) × IsCount 4 count × (observers ≡ digits_value 10 count)

-- a number of workers, up to eight, and what is said of observers
abbrev pub SaysCounts : List (List ℕ) → ℕ → ℕ → Type 0
SaysCounts [] workers observers = ⊥
SaysCounts (count ∷ words) workers observers =
    IsCount 8 count × (workers ≡ digits_value 10 count) × SaysObservers words observers

-- the options of a run on threads: four workers and no observers where they say nothing
abbrev pub SaysThreads : List (List ℕ) → ℕ → ℕ → Type 0
SaysThreads [] workers observers = (workers ≡ 4) × (observers ≡ 0)
SaysThreads (option ∷ words) workers observers = (option ≡ codes "--workers") × SaysCounts words workers observers

-- the words of a component and its arguments
abbrev pub IsCall : List (List ℕ) → TopCall → Type 0
IsCall words call =
    (integers : List (List ℕ)) × (words ≡ call.top ∷ integers) × IsName call.top × AllByRecursion IsInteger integers
    × (call.args ≡ map integer_of integers)

-- a word that holds a dot or a slash, as no component's name does
abbrev pub is_file_name : List ℕ → Bool
is_file_name word = list_any (λ byte. (byte == 46) || (byte == 47)) word

-- the words of a component of another file: behind `--`, such a word names a file
abbrev pub IsOther : List (List ℕ) → Option (List ℕ) → TopCall → Type 0
IsOther [] other target = ⊥
IsOther (word ∷ words) other target = (is_file_name word ≡ true) × (other ≡ Some word) × IsCall words target

-- the words of a component of the same file, or of another
abbrev pub IsTarget : List (List ℕ) → Option (List ℕ) → TopCall → Type 0
IsTarget words None target = IsCall words target
IsTarget words (Some other) target = IsOther words (Some other) target

-- the words of a change behind its first file: those of two components, and `--` between them
abbrev pub IsChange : List (List ℕ) → Change → Type 0
IsChange words change =
    (first second : List (List ℕ)) × (words ≡ first ++ codes "--" ∷ second) × IsCall first change.call
    × IsTarget second change.other change.target

-- a file is named, by a word that isn't empty, and such words stand behind it
abbrev pub BehindFile : List ℕ → (List (List ℕ) → Type 0) → List (List ℕ) → Type 0
BehindFile file Is [] = ⊥
BehindFile file Is (word ∷ words) = (file ≡ word) × (word ≢ []) × Is words

-- the same of a number
abbrev pub BehindNumber : ℕ → (List (List ℕ) → Type 0) → List (List ℕ) → Type 0
BehindNumber n Is [] = ⊥
BehindNumber n Is (word ∷ words) = (n ≡ digits_value 10 word) × IsNumber word × Is words

-- nothing stands there
abbrev pub IsEnd : List (List ℕ) → Type 0
IsEnd words = words ≡ []

-- what stands behind the file of a roll: how many transactions are run, for how many rounds each part may wait, and the
-- change
abbrev pub IsRolled : ℕ → ℕ → Change → List (List ℕ) → Type 0
IsRolled run within change words = BehindNumber run (BehindNumber within (λ rest. IsChange rest change)) words

-- the word that asks for a change that is made so
abbrev pub cut_word : Cut → Keyword
cut_word cuts.Whole = keywords.Plan
cut_word cuts.InParts = keywords.Parts
cut_word (cuts.Rolled run within) = keywords.Roll

-- and what stands behind its file
abbrev pub IsCutSo : Cut → Change → List (List ℕ) → Type 0
IsCutSo cuts.Whole change words = IsChange words change
IsCutSo cuts.InParts change words = IsChange words change
IsCutSo (cuts.Rolled run within) change words = IsRolled run within change words

-- the word that names a command, where it is one of those that take others behind it
abbrev pub keyword : Command → Option Keyword
keyword (commands.Help topic) = None
keyword commands.Version = None
keyword (commands.Flat file call) = Some keywords.Flat
keyword (commands.Change cut change) = Some (cut_word cut)
keyword (commands.Replay file events) = Some keywords.Replay
keyword (commands.Upgrade file) = Some keywords.Upgrade
keyword (commands.Step script) = Some keywords.Step
keyword (commands.Live script workers observers) = Some keywords.Live
keyword (commands.Check script report) = Some keywords.Check
keyword (commands.Big lanes) = Some keywords.Big

-- the words behind it
abbrev pub IsBody : Command → List (List ℕ) → Type 0
IsBody (commands.Help topic) body = ⊥
IsBody commands.Version body = ⊥
IsBody (commands.Flat file call) body = BehindFile file (λ words. IsCall words call) body
IsBody (commands.Change cut change) body = BehindFile change.file (IsCutSo cut change) body
IsBody (commands.Replay file events) body = BehindFile file (BehindFile events IsEnd) body
IsBody (commands.Upgrade file) body = BehindFile file IsEnd body
IsBody (commands.Step script) body = BehindFile script IsEnd body
IsBody (commands.Live script workers observers) body =
    BehindFile script (λ words. SaysThreads words workers observers) body
IsBody (commands.Check script report) body = BehindFile script (BehindFile report IsEnd) body
IsBody (commands.Big lanes) body =
    (count : List ℕ) × (body ≡ count ∷ []) × IsCount MAX_LANES count × (lanes ≡ digits_value 10 count)

-- such a command has this word, and this body
abbrev pub HasBody : Keyword → List (List ℕ) → Command → Type 0
HasBody own body command = (keyword command ≡ Some own) × IsBody command body

-- the words ask for help: for all commands, or for the one whose word stands before `--help`
abbrev pub IsHelpOf : List (List ℕ) → Option Keyword → Type 0
IsHelpOf words None = (words ≡ codes "--help" ∷ []) ⊎ (words ≡ codes "-h" ∷ []) ⊎ (words ≡ codes "help" ∷ [])
IsHelpOf words (Some own) = words ≡ word_of own ∷ codes "--help" ∷ []

-- the words ask for the command
pub data Asks (words : List (List ℕ)) : Command → Type 0 where
  for_help : (topic : Option Keyword) → IsHelpOf words topic → Asks words (commands.Help topic)
  for_version : words ≡ codes "--version" ∷ [] → Asks words commands.Version
  -- What stands behind a command's word isn't `--help` alone, which asks for help.
  for_deed :
      (own : Keyword) (body : List (List ℕ)) (command : Command) → words ≡ word_of own ∷ body
      → body ≢ codes "--help" ∷ [] → HasBody own body command
      → Asks words command

-- the words ask for nothing
abbrev pub HasNoForm : List (List ℕ) → Type 0
HasNoForm words = (command : Command) → Asks words command → ⊥

-- what was found is such; and where nothing was found nothing is
abbrev pub IsFound : {A : Type 0} → (A → Type 0) → Option A → Type 0
IsFound Is (Some found) = Is found
IsFound {A} Is None = (a : A) → Is a → ⊥

-- whether a word doesn't part two calls
abbrev pub is_part : List ℕ → Bool
is_part word = not (bytes_eq word (codes "--"))
