-- To be believed (definitions.md).
-- Words that ask for one of the commands that a call knows.
use Rattle.std.specs.Prelude.{◌≡◌, ℕ, Bool, true, false, List}
use Rattle.command_words.specs.CommandLine.{Asks}
use Rattle.command_words.specs.declared.words.Command.{Command}
use Rattle.command_words.specs.declared.words.Command.TheVariants as commands

-- they ask for the command, and the call knows it
abbrev pub AsksOf : (Command → Bool) → List (List ℕ) → Command → Type 0
AsksOf knows words command = (knows command ≡ true) × Asks words command

-- they ask for none that it knows
abbrev pub HasNoForm : (Command → Bool) → List (List ℕ) → Type 0
HasNoForm knows words = (command : Command) → AsksOf knows words command → ⊥

-- the commands that run on one thread: all but `live`
abbrev pub on_one_thread : Command → Bool
on_one_thread (commands.Live script workers observers) = false
on_one_thread command = true

-- the command that runs on threads
abbrev pub on_threads : Command → Bool
on_threads (commands.Live script workers observers) = true
on_threads command = false

-- all commands
abbrev pub all_commands : Command → Bool
all_commands command = true
