-- To be believed (definitions.md).
-- How a report is read from the lines of its text, in stages: each reads as many lines as fit, and the next names the
-- line that doesn't.
use Rattle.std.specs.Prelude.{◌≡◌, ℕ, ◌+◌, ◌==◌, Bool, true, false, ◌&&◌, if◌then◌else◌, List, [], ◌∷◌, ◌++◌, bytes_eq, codes, length, Option, Some, None, option_map, Result, Ok, Err}
use Rattle.std.specs.List.{list_all}
use Rattle.std.specs.Option.{option_map_or}
use Rattle.quiesce_core.specs.declared.event.Event.{Event}
use Rattle.report_writing.specs.Reports.{SlotPath, log_head, makes}
use Rattle.report_types.specs.declared.report.HistoryLine.{HistoryLine}
use Rattle.report_types.specs.declared.report.HistoryLine.TheVariants as history
use Rattle.report_types.specs.declared.report.Last.{Last}
use Rattle.report_types.specs.declared.report.NodeLog.{NodeLog}
use Rattle.report_types.specs.declared.report.Report.{Report}
use Rattle.report_lines.specs.Ends.{status_in, unfinished_in}
use Rattle.report_lines.specs.GraphLines.{is_graph_line}
use Rattle.report_lines.specs.Parts.{is_used_up, words}
use Rattle.report_lines.specs.Readings.{event_in, last_in, line_in}
use Rattle.report_texts.specs.declared.error.ReportFault.{ReportFault}
use Rattle.report_texts.specs.declared.error.ReportFault.TheVariants as faults
use Rattle.report_texts.specs.declared.history.LineAbove.{LineAbove}
use Rattle.report_texts.specs.declared.history.LineAbove.TheVariants as aboves
use Rattle.report_texts.specs.declared.version.Version.{Version}
use Rattle.report_texts.specs.declared.version.Version.TheVariants as versions
use Rattle.report_texts.specs.Limits.{event_keeps, is_slot, last_keeps, line_keeps}
use Rattle.report_texts.specs.ReportTexts.{is_pending_or_root, written_by}
use Rattle.report_texts.specs.GraphTexts.{behind_graph, graph_in, graph_lines, has_form}
use Rattle.report_texts.specs.TextLines.{lines, tail}

-- what was read, the number of the next line, and the lines that are left
pub record Front (A : Type 0) : Type 0 where
  pub read : A
  pub number : ℕ
  pub left : List (List ℕ)

abbrev pub Stage : Type 0 → Type 0
Stage A = Result (Front A) ReportFault

abbrev pub front : {A : Type 0} → A → ℕ → List (List ℕ) → Front A
front read number left = record { read = read; number = number; left = left }

-- what comes of a stage, where it has no fault
abbrev pub after : {A B : Type 0} → Stage A → (Front A → Result B ReportFault) → Result B ReportFault
after (Err fault) next = Err fault
after (Ok f) next = next f

-- what a line says, or that it is the first that can't stand there
abbrev pub named : {A : Type 0} → Option A → ℕ → List (List ℕ) → Stage A
named None number left = Err (faults.BadLine number)
named (Some read) number left = Ok (front read (number + 1) left)

-- a value, where a test holds of it
abbrev pub keeping : {A : Type 0} → (A → Bool) → Option A → Option A
keeping test None = None
keeping test (Some value) = if test value then Some value else None

-- `report 1`, `report 2`
abbrev pub version_in : List ℕ → Option Version
version_in line =
    if bytes_eq line (codes "report 1") then Some versions.First else (if bytes_eq line (codes "report 2") then Some versions.Second else None)

abbrev pub version_from : ℕ → List (List ℕ) → Stage Version
version_from number [] = Err faults.Short
version_from number (line ∷ more) = named (version_in line) number more

-- whether an `open` line may stand behind a line
abbrev pub is_after_pending : LineAbove → Bool
is_after_pending aboves.Pending = true
is_after_pending above = false

abbrev pub is_after_show : LineAbove → Bool
is_after_show aboves.Show = true
is_after_show above = false

abbrev pub line_above : HistoryLine → LineAbove
line_above says = if is_pending_or_root says then aboves.Pending else aboves.Other

-- whether a line can stand there, where so many nodes were made: nodes are made in the slots 0, 1 and on
abbrev pub stands : ℕ → LineAbove → HistoryLine → Bool
stands made above (history.Make slot node from) = slot == made
stands made above (history.Root port serial) = is_after_pending above
stands made above says = true

-- a history so far, and what its last line is
abbrev pub Past : Type 0
Past = List HistoryLine × LineAbove

abbrev pub with_line : List HistoryLine → HistoryLine → Past
with_line past says = (past ++ says ∷ [], line_above says)

-- `show` before these lines: the graph is judged where a line stands behind its text; of one that is cut off each line
-- has the form of one
abbrev pub shown_in : List HistoryLine → List (List ℕ) → Option Past
shown_in past more =
    if is_used_up (behind_graph more) then (if list_all has_form (graph_lines more) then Some (past, aboves.Show) else None)
    else option_map (λ graph. (past ++ history.Show graph ∷ [], aboves.Show)) (graph_in (graph_lines more))

-- a line of one form of its own
abbrev pub said_in : Version → List HistoryLine → LineAbove → List ℕ → Option Past
said_in version past above line =
    option_map (with_line past)
    (keeping (λ says. line_keeps version says && stands (length (makes past)) above says) (line_in (words line)))

-- the history with its next line, where the line fits; `show` stands for the lines of its graph
abbrev pub past_with : Version → List HistoryLine → LineAbove → List ℕ → List (List ℕ) → Option Past
past_with version past above line more =
    if is_after_show above && is_graph_line (words line) then Some (past, aboves.Show)
    else if bytes_eq line (codes "show") then shown_in past more
    else said_in version past above line

abbrev pub history_from : Version → List HistoryLine → LineAbove → ℕ → List (List ℕ) → Front (List HistoryLine)
history_from version past above number [] = front past number []
history_from version past above number (line ∷ more) =
    option_map_or (λ next. history_from version next.0 next.1 (number + 1) more) (past_with version past above line more)
    (front past number (line ∷ more))

-- an event of a node
abbrev pub event_of : Version → List ℕ → Option Event
event_of version line = keeping (event_keeps version) (event_in (words line))

abbrev pub events_from : Version → List Event → ℕ → List (List ℕ) → Front (List Event)
events_from version past number [] = front past number []
events_from version past number (line ∷ more) =
    option_map_or (λ event. events_from version (past ++ event ∷ []) (number + 1) more) (event_of version line) (front past number (line ∷ more))

-- the end of a log
abbrev pub last_of : Version → List ℕ → Option Last
last_of version line = keeping (last_keeps version) (last_in (words line))

abbrev pub last_from : Version → ℕ → List (List ℕ) → Stage Last
last_from version number [] = Err faults.Short
last_from version number (line ∷ more) = named (last_of version line) number more

-- the line above the log of a node
abbrev pub head_in : Version → SlotPath → List ℕ → Option SlotPath
head_in version made line = if bytes_eq line (log_head (written_by version) made.path made.slot) then Some made else None

abbrev pub head_from : Version → SlotPath → ℕ → List (List ℕ) → Stage SlotPath
head_from version made number [] = Err faults.Short
head_from version made number (line ∷ more) = named (head_in version made line) number more

-- the log of a node: its events and their end
abbrev pub log_with : ℕ → List Event → Front Last → Front NodeLog
log_with slot events last = front (record { slot = slot; events = events; last = last.read }) last.number last.left

abbrev pub ended_from : Version → ℕ → Front (List Event) → Stage NodeLog
ended_from version slot events = after (last_from version events.number events.left) (λ last. Ok (log_with slot events.read last))

abbrev pub log_from : Version → SlotPath → ℕ → List (List ℕ) → Stage NodeLog
log_from version made number left =
    after (head_from version made number left) (λ head. ended_from version made.slot (events_from version [] head.number head.left))

-- one log of each node that is made, in order
abbrev pub logs_from : Version → List SlotPath → List NodeLog → ℕ → List (List ℕ) → Stage (List NodeLog)
logs_from version [] logs number left = Ok (front logs number left)
logs_from version (made ∷ others) logs number left =
    after (log_from version made number left) (λ log. logs_from version others (logs ++ log.read ∷ []) log.number log.left)

-- `unfinished SLOT`, where it is there
abbrev pub unfinished_of : Version → List ℕ → Option ℕ
unfinished_of version line = keeping (is_slot version) (unfinished_in (words line))

abbrev pub unfinished_from : Version → ℕ → List (List ℕ) → Front (Option ℕ)
unfinished_from version number [] = front None number []
unfinished_from version number (line ∷ more) =
    option_map_or (λ slot. front (Some slot) (number + 1) more) (unfinished_of version line) (front None number (line ∷ more))

-- `status N`
abbrev pub status_from : ℕ → List (List ℕ) → Stage ℕ
status_from number [] = Err faults.Short
status_from number (line ∷ more) = named (status_in (words line)) number more

-- Nothing stands behind the line of the status: a line there is bad, and so are bytes that are no line.
abbrev pub is_over : List (List ℕ) → List ℕ → Bool
is_over [] [] = true
is_over left rest = false

pub record Found : Type 0 where
  pub version : Version
  pub report : Report

abbrev pub over : Version → List HistoryLine → List NodeLog → Option ℕ → List ℕ → Front ℕ → Result Found ReportFault
over version past logs unfinished rest status =
    if is_over status.left rest
    then Ok (record { version = version; report = record { history = past; logs = logs; unfinished = unfinished; status = status.read } })
    else Err (faults.BadLine status.number)

abbrev pub after_unfinished : Version → List HistoryLine → List NodeLog → List ℕ → Front (Option ℕ) → Result Found ReportFault
after_unfinished version past logs rest unfinished =
    after (status_from unfinished.number unfinished.left) (over version past logs unfinished.read rest)

abbrev pub after_logs : Version → List HistoryLine → List ℕ → Front (List NodeLog) → Result Found ReportFault
after_logs version past rest logs = after_unfinished version past logs.read rest (unfinished_from version logs.number logs.left)

abbrev pub after_history : Version → List ℕ → Front (List HistoryLine) → Result Found ReportFault
after_history version rest past =
    after (logs_from version (makes past.read) [] past.number past.left) (after_logs version past.read rest)

abbrev pub after_version : List ℕ → Front Version → Result Found ReportFault
after_version rest version = after_history version.read rest (history_from version.read [] aboves.Other version.number version.left)

-- The report of a text and its version; or the first line that can't stand in its place, or that the text ends too
-- soon.
abbrev pub reading : List ℕ → Result Found ReportFault
reading text = after (version_from 1 (lines text)) (after_version (tail text))

-- This is the first line that can't stand in its place, or no line is and the text ends too soon.
abbrev pub IsReportFault : List ℕ → ReportFault → Type 0
IsReportFault text fault = reading text ≡ Err fault
