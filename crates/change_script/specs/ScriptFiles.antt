-- To be believed (definitions.md).
-- Scripts: which lines form one, or the first line that is at fault.
use Rattle.std.specs.Prelude.{◌≡◌, ℕ, Bool, true, false, not, ◌&&◌, ◌||◌, nat_le, if◌then◌else◌, List, [], ◌∷◌, ◌++◌, length, Option, Some, None, Result, Ok, Err}
use Rattle.std.specs.List.{flat_map, list_any}
use Rattle.std.specs.Option.{option_or}
use Rattle.report_types.specs.declared.script.Body.{Body}
use Rattle.report_types.specs.declared.script.Body.TheVariants as bodies
use Rattle.report_types.specs.declared.script.ScriptLine.{ScriptLine}
use Rattle.report_types.specs.declared.script.Script.{Script}
use Rattle.change_script.specs.declared.error.LineFault.{LineFault}
use Rattle.change_script.specs.declared.error.ScriptError.{ScriptError}
use Rattle.change_script.specs.declared.error.ScriptError.TheVariants as errors
use Rattle.change_script.specs.Faults.{fault_with}
use Rattle.change_script.specs.Lines.{Line, statements}
use Rattle.change_script.specs.EventFiles.{first_fault}
use Rattle.change_script.specs.ScriptLines.{meaning}

abbrev pub is_file : Body → Bool
is_file (bodies.File name) = true
is_file body = false

abbrev pub is_start : Body → Bool
is_start (bodies.Start name args) = true
is_start body = false

abbrev pub is_change : Body → Bool
is_change (bodies.Change name args within moves) = true
is_change body = false

abbrev pub is_finish : Body → Bool
is_finish (bodies.Finish within) = true
is_finish body = false

abbrev pub is_stop : Body → Bool
is_stop bodies.Stop = true
is_stop body = false

-- `start` and `change` look in a file.
abbrev pub needs_file : Body → Bool
needs_file body = is_start body || is_change body

-- `run`, `change`, `show` and `finish` need a system that was started.
abbrev pub needs_start : Body → Bool
needs_start (bodies.Run count) = true
needs_start (bodies.Change name args within moves) = true
needs_start bodies.Show = true
needs_start (bodies.Finish within) = true
needs_start body = false

-- whether one of the lines is such a statement
abbrev pub has : (Body → Bool) → List ScriptLine → Bool
has test lines = list_any (λ (line : ScriptLine). test line.body) lines

-- A statement can't stand below these: it needs a `use` or a `start` above, it is a second `start`, it stands behind
-- `end`, or it isn't `end` and stands behind `finish`.
abbrev pub is_out_of_order : List ScriptLine → Body → Bool
is_out_of_order above body =
    (needs_file body && not (has is_file above)) || (is_start body && has is_start above) || (needs_start body && not (has is_start above))
    || has is_stop above || (has is_finish above && not (is_stop body))

-- a script has at most 256 statements
abbrev pub is_full : List ScriptLine → Bool
is_full above = nat_le 256 (length above)

-- what is wrong with a line of this number and meaning below these: the form, a limit, the count of statements, or
-- the order, the first that is
abbrev pub fault_in : List ScriptLine → ℕ → Result Body LineFault → Option ScriptError
fault_in above number (Err fault) = Some (fault_with number fault)
fault_in above number (Ok body) =
    if is_full above then Some (errors.TooManyLines number) else (if is_out_of_order above body then Some (errors.Order number) else None)

abbrev pub fault_of : List ScriptLine → Line → Option ScriptError
fault_of above line = fault_in above line.number (meaning line.bytes)

-- the statement of a line, where it means one
abbrev pub said_with : ℕ → Result Body LineFault → List ScriptLine
said_with number (Err fault) = []
said_with number (Ok body) = record { number = number; body = body } ∷ []

abbrev pub said_by : Line → List ScriptLine
said_by line = said_with line.number (meaning line.bytes)

-- the statements of lines, in order
abbrev pub said : List Line → List ScriptLine
said lines = flat_map said_by lines

-- what is wrong with each line below these
abbrev pub line_faults : List ScriptLine → List Line → List (Option ScriptError)
line_faults above [] = []
line_faults above (line ∷ rest) = fault_of above line ∷ line_faults (above ++ said_by line) rest

abbrev pub ends_with_end : List ScriptLine → Bool
ends_with_end [] = false
ends_with_end (last ∷ []) = is_stop last.body
ends_with_end (first ∷ next ∷ more) = ends_with_end (next ∷ more)

-- what a script misses whose lines are right
abbrev pub lack : List ScriptLine → Option ScriptError
lack lines = if has is_start lines then (if ends_with_end lines then None else Some errors.NoEnd) else Some errors.NoStart

-- the first line at fault, or what the script misses
abbrev pub fault_in_lines : List Line → Option ScriptError
fault_in_lines lines = option_or (first_fault (line_faults [] lines)) (lack (said lines))

-- No line of the text is at fault, nothing is missing, and the script has the statements of the text with the numbers
-- of their lines.
abbrev pub IsScript : List ℕ → Script → Type 0
IsScript text script = (fault_in_lines (statements text) ≡ None) × (script.lines ≡ said (statements text))

-- This is what is wrong with the first line at fault; or no line is, and this is missing.
abbrev pub IsScriptFault : List ℕ → ScriptError → Type 0
IsScriptFault text fault = fault_in_lines (statements text) ≡ Some fault
