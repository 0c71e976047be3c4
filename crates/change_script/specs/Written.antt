-- To be believed (definitions.md).
-- Which events a line can write.
use Rattle.std.specs.Prelude.{◌≡◌, ◌<◌, ◌^◌, ℕ, true, IfSome}
use Rattle.quiesce_core.specs.declared.event.Event.{Event}
use Rattle.quiesce_core.specs.declared.event.Event.TheVariants as events
use Rattle.change_script.specs.Tokens.{is_word}
use Rattle.change_script.specs.Paths.{is_path, path_fits}

abbrev pub IsNumber : ℕ → Type 0
IsNumber number = number < 2 ^ 32

abbrev pub AreNumbers : ℕ → ℕ → ℕ → Type 0
AreNumbers first second third = IsNumber first × IsNumber second × IsNumber third

-- Numbers are below 2^32, and the path of a node is one word that is a path.
abbrev pub CanBeWritten : Event → Type 0
CanBeWritten (events.Begin port serial value) = AreNumbers port serial value
CanBeWritten (events.Call port serial value) = AreNumbers port serial value
CanBeWritten (events.Take port serial value) = AreNumbers port serial value
CanBeWritten (events.Give port serial value) = AreNumbers port serial value
CanBeWritten (events.End port serial value) = AreNumbers port serial value
CanBeWritten (events.More port serial value) = AreNumbers port serial value
CanBeWritten (events.Ask port serial value) = AreNumbers port serial value
CanBeWritten (events.Hear port serial value) = AreNumbers port serial value
CanBeWritten (events.Miss port) = IsNumber port
CanBeWritten (events.Close port) = IsNumber port
CanBeWritten (events.Reopen port) = IsNumber port
CanBeWritten (events.Make slot node from) =
    IsNumber slot × (is_word node.path ≡ true) × (is_path node.path ≡ true) × (path_fits node.path ≡ true)
    × IfSome node.arg IsNumber × IfSome from IsNumber
CanBeWritten (events.Link port node provide) = AreNumbers port node provide
CanBeWritten (events.Unlink port) = IsNumber port
CanBeWritten (events.Remove node) = IsNumber node
