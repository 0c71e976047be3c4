-- To be believed (definitions.md).
-- Event files: a start and then events; or the first line that is at fault.
use Rattle.std.specs.Prelude.{◌≡◌, ◌⊎◌, ℕ, Bool, true, false, List, [], ◌∷◌, map, Option, Some, None, Result, Ok, Err}
use Rattle.quiesce_core.specs.declared.event.Event.{Event}
use Rattle.change_script.specs.declared.event_files.EventFile.{EventFile}
use Rattle.change_script.specs.declared.error.LineFault.{LineFault}
use Rattle.change_script.specs.declared.error.LineFault.TheVariants.{Bad, Big}
use Rattle.change_script.specs.declared.event_lines.EventLine.{EventLine}
use Rattle.change_script.specs.declared.event_lines.EventLine.TheVariants as statements
use Rattle.change_script.specs.declared.error.ScriptError.{ScriptError}
use Rattle.change_script.specs.declared.error.ScriptError.TheVariants as errors
use Rattle.change_script.specs.Lines.{Line, statements as lines_of}
use Rattle.change_script.specs.Tokens.{tokens}
use Rattle.change_script.specs.EventLines.{meaning}

-- what a line means
abbrev pub meaning_of_line : Line → Result EventLine LineFault
meaning_of_line line = meaning (tokens line.bytes)

abbrev pub of_event : Event → Result EventLine LineFault
of_event event = Ok (statements.Event event)

abbrev pub of_start : EventFile → Result EventLine LineFault
of_start file = Ok (statements.Start file.name file.args)

-- The lines of the text that say something are a start and then events, those of the file in order.
abbrev pub IsEventFile : List ℕ → EventFile → Type 0
IsEventFile text file = map meaning_of_line (lines_of text) ≡ of_start file ∷ map of_event file.events

-- what is wrong with a line of this number and meaning, by whether it is the first
abbrev pub fault_in : Bool → ℕ → Result EventLine LineFault → Option ScriptError
fault_in first number (Err Bad) = Some (errors.BadLine number)
fault_in first number (Err Big) = Some (errors.NumberTooBig number)
fault_in true number (Ok (statements.Event event)) = Some (errors.Order number)
fault_in false number (Ok (statements.Start name args)) = Some (errors.Order number)
fault_in first number (Ok statement) = None

abbrev pub fault_of : Bool → Line → Option ScriptError
fault_of first line = fault_in first line.number (meaning_of_line line)

-- what is wrong with each line
abbrev pub line_faults : List Line → List (Option ScriptError)
line_faults [] = []
line_faults (first ∷ rest) = fault_of true first ∷ map (fault_of false) rest

abbrev pub first_fault : List (Option ScriptError) → Option ScriptError
first_fault [] = None
first_fault (None ∷ rest) = first_fault rest
first_fault (Some fault ∷ rest) = Some fault

-- No line of the text says anything, or this is what is wrong with the first line at fault.
abbrev pub IsFirstFault : List ℕ → ScriptError → Type 0
IsFirstFault text fault = ((lines_of text ≡ []) × (fault ≡ errors.NoStart)) ⊎ (first_fault (line_faults (lines_of text)) ≡ Some fault)
