-- To be believed (definitions.md).
-- What a line of a report says, by its words.
use Rattle.std.specs.Prelude.{ℕ, ℤ, ◌==◌, if◌then◌else◌, List, [], ◌∷◌, ◌++◌, codes, length, bytes_eq, find, Option, Some, None, option_map}
use Rattle.std.specs.Option.{option_zip}
use Rattle.std.specs.List.{slice_split}
use Rattle.config_graph.specs.declared.kind.Kind.{Kind}
use Rattle.config_graph.specs.Kinds.{kind_named}
use Rattle.quiesce_core.specs.declared.event.Event.{Event}
use Rattle.quiesce_core.specs.declared.event.Event.TheVariants as events
use Rattle.change_script.specs.EventLines.{event_verb_named, owner_event, target_event}
use Rattle.change_script.specs.declared.event_lines.Triple.{Triple}
use Rattle.change_script.specs.declared.verbs.EventVerb.{EventVerb}
use Rattle.change_script.specs.declared.verbs.EventVerb.TheVariants as event_verbs
use Rattle.change_script.specs.declared.verbs.Single.TheVariants as of_one
use Rattle.report_types.specs.declared.report.HistoryLine.{HistoryLine}
use Rattle.report_types.specs.declared.report.HistoryLine.TheVariants as history
use Rattle.report_types.specs.declared.report.Last.{Last}
use Rattle.report_types.specs.declared.report.Last.TheVariants as lasts
use Rattle.report_lines.specs.declared.verbs.Bare.{Bare}
use Rattle.report_lines.specs.declared.verbs.Bare.TheVariants as bares
use Rattle.report_lines.specs.declared.verbs.OneNumber.{OneNumber}
use Rattle.report_lines.specs.declared.verbs.OneNumber.TheVariants as singles
use Rattle.report_lines.specs.declared.verbs.TwoNumbers.{TwoNumbers}
use Rattle.report_lines.specs.declared.verbs.TwoNumbers.TheVariants as doubles
use Rattle.report_lines.specs.declared.verbs.HistoryVerb.{HistoryVerb}
use Rattle.report_lines.specs.declared.verbs.HistoryVerb.TheVariants as verbs
use Rattle.report_lines.specs.Parts.{all_of, bracketed, is_used_up}
use Rattle.report_lines.specs.Numbers.{plain_integer, max32, max64, one_in, plain, three_in, two_in}

-- the first word of each line
abbrev pub bare_bytes : Bare → List ℕ
bare_bytes bares.Commit = codes "commit"
bare_bytes bares.Abandon = codes "abandon"
bare_bytes bares.Skipped = codes "skipped"
bare_bytes bares.Stop = codes "stop"

abbrev pub one_number_bytes : OneNumber → List ℕ
one_number_bytes singles.Unlink = codes "unlink"
one_number_bytes singles.Remove = codes "remove"
one_number_bytes singles.Close = codes "close"
one_number_bytes singles.Reopen = codes "reopen"
one_number_bytes singles.Pending = codes "pending"

abbrev pub two_numbers_bytes : TwoNumbers → List ℕ
two_numbers_bytes doubles.Drained = codes "drained"
two_numbers_bytes doubles.Root = codes "open"
two_numbers_bytes doubles.Finish = codes "finish"

abbrev pub history_verb_bytes : HistoryVerb → List ℕ
history_verb_bytes verbs.Start = codes "start"
history_verb_bytes verbs.Change = codes "change"
history_verb_bytes verbs.Make = codes "make"
history_verb_bytes verbs.Link = codes "link"
history_verb_bytes verbs.Run = codes "run"
history_verb_bytes (verbs.Bare bare) = bare_bytes bare
history_verb_bytes (verbs.OneNumber single) = one_number_bytes single
history_verb_bytes (verbs.TwoNumbers double) = two_numbers_bytes double

abbrev pub bare_verbs : List HistoryVerb
bare_verbs = verbs.Bare bares.Commit ∷ verbs.Bare bares.Abandon ∷ verbs.Bare bares.Skipped ∷ verbs.Bare bares.Stop ∷ []

abbrev pub one_number_verbs : List HistoryVerb
one_number_verbs =
    verbs.OneNumber singles.Unlink ∷ verbs.OneNumber singles.Remove ∷ verbs.OneNumber singles.Close
    ∷ verbs.OneNumber singles.Reopen ∷ verbs.OneNumber singles.Pending ∷ []

abbrev pub two_numbers_verbs : List HistoryVerb
two_numbers_verbs = verbs.TwoNumbers doubles.Drained ∷ verbs.TwoNumbers doubles.Root ∷ verbs.TwoNumbers doubles.Finish ∷ []

abbrev pub history_verbs : List HistoryVerb
history_verbs = verbs.Start ∷ verbs.Change ∷ verbs.Make ∷ verbs.Link ∷ verbs.Run ∷ (bare_verbs ++ (one_number_verbs ++ two_numbers_verbs))

-- the verb of a line of the history that begins with this word
abbrev pub history_verb_named : List ℕ → Option HistoryVerb
history_verb_named name = find (λ verb. bytes_eq (history_verb_bytes verb) name) history_verbs

abbrev pub bare_line : Bare → HistoryLine
bare_line bares.Commit = history.Commit
bare_line bares.Abandon = history.Abandon
bare_line bares.Skipped = history.Skipped
bare_line bares.Stop = history.Stop

abbrev pub one_number_line : OneNumber → ℕ → HistoryLine
one_number_line singles.Unlink n = history.Unlink n
one_number_line singles.Remove n = history.Remove n
one_number_line singles.Close n = history.Close n
one_number_line singles.Reopen n = history.Reopen n
one_number_line singles.Pending n = history.Pending n

abbrev pub two_numbers_line : TwoNumbers → ℕ → ℕ → HistoryLine
two_numbers_line doubles.Drained a b = history.Drained a b
two_numbers_line doubles.Root a b = history.Root a b
two_numbers_line doubles.Finish a b = history.Finish a b

-- integers that commas part, or nothing
abbrev pub arguments_in : List ℕ → Option (List ℤ)
arguments_in [] = Some []
arguments_in (byte ∷ bytes) = all_of plain_integer (slice_split (λ byte. byte == 44) (byte ∷ bytes))

abbrev pub system_of : Option (List ℕ × List ℕ) → Option (List ℕ × List ℤ)
system_of None = None
system_of (Some parts) = if length parts.0 == 0 then None else option_map (λ args. (parts.0, args)) (arguments_in parts.1)

-- `C(ARGS)`
abbrev pub system_in : List (List ℕ) → Option (List ℕ × List ℤ)
system_in [] = None
system_in (word ∷ rest) = if is_used_up rest then system_of (bracketed word) else None

abbrev pub arg_in : List ℕ → Option (Option ℕ)
arg_in [] = Some None
arg_in (byte ∷ bytes) = option_map Some (plain max32 (byte ∷ bytes))

abbrev pub kind_of_parts : Option (List ℕ × List ℕ) → Option (Kind × Option ℕ)
kind_of_parts None = None
kind_of_parts (Some parts) = option_zip (kind_named parts.0) (arg_in parts.1)

-- `KIND(ARG)`
abbrev pub kind_in : List ℕ → Option (Kind × Option ℕ)
kind_in word = kind_of_parts (bracketed word)

-- `from SLOT`, or nothing
abbrev pub source_in : List (List ℕ) → Option (Option ℕ)
source_in [] = Some None
source_in (word ∷ rest) = if bytes_eq word (codes "from") then option_map Some (one_in max32 rest) else None

abbrev pub typed_in : List (List ℕ) → Option ((Kind × Option ℕ) × Option ℕ)
typed_in [] = None
typed_in (word ∷ rest) = option_zip (kind_in word) (source_in rest)

abbrev pub made_in : List (List ℕ) → Option (List ℕ × (Kind × Option ℕ) × Option ℕ)
made_in [] = None
made_in (path ∷ rest) = if length path == 0 then None else option_map (λ typed. (path, typed.0, typed.1)) (typed_in rest)

abbrev pub make_line : ℕ → List ℕ → Kind × Option ℕ → Option ℕ → HistoryLine
make_line slot path typed from = history.Make slot (record { path = path; kind = typed.0; arg = typed.1 }) from

abbrev pub make_of : Option ℕ → Option (List ℕ × (Kind × Option ℕ) × Option ℕ) → Option HistoryLine
make_of None made = None
make_of (Some slot) None = None
make_of (Some slot) (Some made) = Some (make_line slot made.0 made.1 made.2)

-- SLOT PATH KIND(ARG), with `from` SLOT or without
abbrev pub make_in : List (List ℕ) → Option HistoryLine
make_in [] = None
make_in (slot ∷ rest) = make_of (plain max32 slot) (made_in rest)

-- what stands behind a verb
abbrev pub line_by : HistoryVerb → List (List ℕ) → Option HistoryLine
line_by verbs.Start rest = option_map (λ s. history.Start s.0 s.1) (system_in rest)
line_by verbs.Change rest = option_map (λ s. history.Change s.0 s.1) (system_in rest)
line_by verbs.Make rest = make_in rest
line_by verbs.Link rest = option_map (λ n. history.Link n.0 n.1 n.2) (three_in rest)
line_by verbs.Run rest = option_map (λ n. history.Run n.0 n.1) (two_in max64 rest)
line_by (verbs.Bare bare) rest = if is_used_up rest then Some (bare_line bare) else None
line_by (verbs.OneNumber single) rest = option_map (one_number_line single) (one_in max32 rest)
line_by (verbs.TwoNumbers double) rest = option_map (λ n. two_numbers_line double n.0 n.1) (two_in max32 rest)

abbrev pub line_named : Option HistoryVerb → List (List ℕ) → Option HistoryLine
line_named None rest = None
line_named (Some verb) rest = line_by verb rest

-- a line of the history, but for those of a graph
abbrev pub line_in : List (List ℕ) → Option HistoryLine
line_in [] = None
line_in (verb ∷ rest) = line_named (history_verb_named verb) rest

-- PORT SERIAL VALUE
abbrev pub triple_of : ℕ × ℕ × ℕ → Triple
triple_of n = record { first = n.0; second = n.1; third = n.2 }

abbrev pub step_numbers : List (List ℕ) → Option Triple
step_numbers rest = option_map triple_of (three_in rest)

-- what stands behind a verb, where the event is one of a node
abbrev pub event_by : EventVerb → List (List ℕ) → Option Event
event_by (event_verbs.Owner step) rest = option_map (owner_event step) (step_numbers rest)
event_by (event_verbs.Target step) rest = option_map (target_event step) (step_numbers rest)
event_by (event_verbs.Single of_one.Miss) rest = option_map events.Miss (one_in max32 rest)
event_by verb rest = None

abbrev pub event_named : Option EventVerb → List (List ℕ) → Option Event
event_named None rest = None
event_named (Some verb) rest = event_by verb rest

-- an event of a node
abbrev pub event_in : List (List ℕ) → Option Event
event_in [] = None
event_in (verb ∷ rest) = event_named (event_verb_named verb) rest

-- the end of a log
abbrev pub last_in : List (List ℕ) → Option Last
last_in [] = None
last_in (verb ∷ rest) =
    if bytes_eq verb (codes "state") then option_map lasts.State (all_of (plain max64) rest)
    else if bytes_eq verb (codes "moved") then option_map lasts.Moved (one_in max32 rest)
    else None
