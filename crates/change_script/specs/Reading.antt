-- What the lines of an event file say, one after the other.
use Rattle.std.specs.Prelude.{ℕ, List, [], ◌∷◌, ◌++◌, Result, Ok, Err}
use Rattle.quiesce_core.specs.declared.event.Event.{Event}
use Rattle.change_script.specs.declared.error.LineFault.{LineFault}
use Rattle.change_script.specs.declared.event_lines.EventLine.{EventLine}
use Rattle.change_script.specs.declared.event_lines.EventLine.TheVariants as statements
use Rattle.change_script.specs.declared.error.ScriptError.{ScriptError}
use Rattle.change_script.specs.declared.error.ScriptError.TheVariants as errors
use Rattle.change_script.specs.Faults.{fault_with}
use Rattle.change_script.specs.Lines.{Line}
use Rattle.change_script.specs.EventFiles.{meaning_of_line}

-- the event of a line behind the first
abbrev pub event_at : ℕ → Result EventLine LineFault → Result Event ScriptError
event_at number (Err fault) = Err (fault_with number fault)
event_at number (Ok (statements.Start name args)) = Err (errors.Order number)
event_at number (Ok (statements.Event event)) = Ok event

abbrev pub with_event : Event → Result (List Event) ScriptError → Result (List Event) ScriptError
with_event event (Err fault) = Err fault
with_event event (Ok events) = Ok (event ∷ events)

abbrev pub with_read : Result Event ScriptError → Result (List Event) ScriptError → Result (List Event) ScriptError
with_read (Err fault) rest = Err fault
with_read (Ok event) rest = with_event event rest

-- the events of the lines behind the first
abbrev pub read_events : List Line → Result (List Event) ScriptError
read_events [] = Ok []
read_events (line ∷ rest) = with_read (event_at line.number (meaning_of_line line)) (read_events rest)

-- these events before those that are read
abbrev pub behind : List Event → Result (List Event) ScriptError → Result (List Event) ScriptError
behind before (Err fault) = Err fault
behind before (Ok events) = Ok (before ++ events)
