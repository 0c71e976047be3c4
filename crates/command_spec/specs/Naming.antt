-- To be believed (definitions.md).
-- Which words name no file of the shelf.
use Rattle.std.specs.Prelude.{⊤, ℕ, Bool, List, Option, Some, None}
use Rattle.cfg_io.specs.Shelf.{Files}
use Rattle.command_words.specs.declared.words.Command.{Command}
use Rattle.command_spec.specs.Commands.{Shown, course_of, own_files}
use Rattle.command_spec.specs.Courses.{Course, ends, says, fetches, judges}
use Rattle.command_spec.specs.Known.{AsksOf}

-- the course fetches no file
abbrev pub FetchesNone : {A : Type 0} → Course A → Type 0
FetchesNone (ends x) = ⊤
FetchesNone (says Is) = ⊤
FetchesNone (fetches sort file Then) = ⊥
FetchesNone (judges B sort file Refused Gives Then) = (x : B) → Gives x → FetchesNone (Then x)

-- or goes by files of its own
abbrev pub FetchesNoneOf : Option Files → Course Shown → Type 0
FetchesNoneOf None course = FetchesNone course
FetchesNoneOf (Some own) course = ⊤

abbrev pub NamesNoFile : Command → Type 0
NamesNoFile command = FetchesNoneOf (own_files command) (course_of command)

-- they ask for nothing that the call knows, or for such a command
abbrev pub AskForNoFile : (Command → Bool) → List (List ℕ) → Type 0
AskForNoFile knows words = (command : Command) → AsksOf knows words command → NamesNoFile command
