-- The text that writes an event file, which files can be written, and lines as they stand in a text.
use Rattle.std.specs.Prelude.{◌==◌, ℕ, ℤ, Bool, not, if◌then◌else◌, List, [], ◌∷◌, ◌++◌, codes}
use Rattle.std.specs.List.{AllByRecursion, flat_map, list_all}
use Rattle.change_script.specs.declared.event_files.EventFile.{EventFile}
use Rattle.change_script.specs.Lines.{Line, is_margin, is_statement, trimmed}
use Rattle.report_writing.specs.Reports.{ended, event_text, with_system}
use Rattle.change_script.specs.StatementTexts.{IsInteger, IsWrittenName}
use Rattle.change_script.specs.Written.{CanBeWritten}

-- `start C(ARGS)`
abbrev pub start_text : List ℕ → List ℤ → List ℕ
start_text name args = with_system (codes "start") name args

-- the line of the start and those of the events, each with its line feed
abbrev pub file_text : EventFile → List ℕ
file_text file = ended (start_text file.name file.args) ++ flat_map event_text file.events

-- The name is one word that is a name of the language, arguments are in range, and each event can be written.
abbrev pub CanBeFile : EventFile → Type 0
CanBeFile file = IsWrittenName file.name × AllByRecursion IsInteger file.args × AllByRecursion CanBeWritten file.events

-- no line feed is among the bytes
abbrev pub is_one_line : List ℕ → Bool
is_one_line bytes = list_all (λ byte. not (byte == 10)) bytes

-- spaces, tabs and carriage returns alone
abbrev pub are_margins : List ℕ → Bool
are_margins bytes = list_all is_margin bytes

-- what a line with this number says: itself without its margins, or nothing where it is empty then or a comment
abbrev pub said : ℕ → List ℕ → List Line
said number line = if is_statement (trimmed line) then (record { number = number; bytes = trimmed line } ∷ []) else []
