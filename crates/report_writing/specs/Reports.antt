-- To be believed (definitions.md).
-- The text of a report: its history, the logs of its nodes, and how it ended. Version 2 is written; in version 1 a
-- log tells no path.
use Rattle.std.specs.Prelude.{◌≡◌, ◌==◌, ℕ, ℤ, List, [], ◌∷◌, ◌++◌, Option, Some, None, All, codes, decimal, find, flat_map, filter_map, filter, length}
use Rattle.std.specs.Fmt.{signed_decimal}
use Rattle.std.specs.Option.{option_map_or}
use Rattle.config_graph.specs.GraphText.{graph_text}
use Rattle.quiesce_core.specs.declared.event.Event.{Event}
use Rattle.quiesce_core.specs.declared.event.Event.TheVariants as events
use Rattle.report_types.specs.declared.report.HistoryLine.{HistoryLine}
use Rattle.report_types.specs.declared.report.HistoryLine.TheVariants as history
use Rattle.report_types.specs.declared.report.Last.{Last}
use Rattle.report_types.specs.declared.report.Last.TheVariants as lasts
use Rattle.report_types.specs.declared.report.NodeLog.{NodeLog}
use Rattle.report_types.specs.declared.report.Report.{Report}
use Rattle.report_writing.specs.Writing.{spaced, with_one, written}

-- a line with its line feed
abbrev pub ended : List ℕ → List ℕ
ended line = line ++ codes "\n"

-- numbers after a verb
abbrev pub with_two : List ℕ → ℕ → ℕ → List ℕ
with_two verb first second = verb ++ spaced (decimal first ∷ decimal second ∷ [])

-- the arguments of a component, parted by commas
abbrev pub args_text : List ℤ → List ℕ
args_text [] = []
args_text (first ∷ more) = signed_decimal first ++ flat_map (λ arg. codes "," ++ signed_decimal arg) more

-- `VERB C(ARGS)`
abbrev pub with_system : List ℕ → List ℕ → List ℤ → List ℕ
with_system verb name args = verb ++ codes " " ++ name ++ codes "(" ++ args_text args ++ codes ")"

-- the line of an event
abbrev pub event_text : Event → List ℕ
event_text event = ended (written event)

-- a line of the history; the lines of the graph's text follow `show`
abbrev pub history_text : HistoryLine → List ℕ
history_text (history.Start name args) = ended (with_system (codes "start") name args)
history_text (history.Change name args) = ended (with_system (codes "change") name args)
history_text (history.Make slot node from) = event_text (events.Make slot node from)
history_text (history.Link port node provide) = event_text (events.Link port node provide)
history_text (history.Unlink port) = event_text (events.Unlink port)
history_text (history.Remove node) = event_text (events.Remove node)
history_text (history.Close port) = event_text (events.Close port)
history_text (history.Reopen port) = event_text (events.Reopen port)
history_text (history.Drained port serial) = ended (with_two (codes "drained") port serial)
history_text history.Commit = ended (codes "commit")
history_text history.Abandon = ended (codes "abandon")
history_text history.Skipped = ended (codes "skipped")
history_text (history.Pending rounds) = ended (with_one (codes "pending") rounds)
history_text (history.Root port serial) = ended (with_two (codes "open") port serial)
history_text (history.Run k done) = ended (with_two (codes "run") k done)
history_text (history.Finish n rounds) = ended (with_two (codes "finish") n rounds)
history_text (history.Show graph) = ended (codes "show") ++ graph_text graph
history_text history.Stop = ended (codes "stop")

-- a slot and the path of the node that was made in it
pub record SlotPath : Type 0 where
  pub slot : ℕ
  pub path : List ℕ

abbrev pub made_by : HistoryLine → Option SlotPath
made_by (history.Make slot node from) = Some (record { slot = slot; path = node.path })
made_by _ = None

-- the nodes that a history makes, in order
abbrev pub makes : List HistoryLine → List SlotPath
makes lines = filter_map made_by lines

-- the path of the `make` line of a slot, which is nothing where there is no such line
abbrev pub path_in : List SlotPath → ℕ → List ℕ
path_in made slot = option_map_or (λ (m : SlotPath). m.path) (find (λ (m : SlotPath). m.slot == slot) made) []

-- The history has exactly one `make` line of the slot.
abbrev pub HasOneMake : List HistoryLine → ℕ → Type 0
HasOneMake lines slot = length (filter (λ (m : SlotPath). m.slot == slot) (makes lines)) ≡ 1

-- Each log is of a slot that has exactly one `make` line.
abbrev pub LogsAreMade : Report → Type 0
LogsAreMade report = All (λ (log : NodeLog). HasOneMake report.history log.slot) report.logs

-- the two versions of the text
pub data Version : Type 0 where
  first : Version
  second : Version

abbrev pub version_number : Version → ℕ
version_number first = 1
version_number second = 2

-- `log SLOT`, in version 2 with the node's path
abbrev pub log_head : Version → List ℕ → ℕ → List ℕ
log_head first path slot = with_one (codes "log") slot
log_head second path slot = codes "log" ++ spaced (decimal slot ∷ path ∷ [])

-- `state` with its numbers, or `moved SLOT`
abbrev pub last_text : Last → List ℕ
last_text (lasts.State numbers) = ended (codes "state" ++ flat_map (λ number. codes " " ++ decimal number) numbers)
last_text (lasts.Moved slot) = ended (with_one (codes "moved") slot)

abbrev pub log_text : Version → List SlotPath → NodeLog → List ℕ
log_text version made log =
    ended (log_head version (path_in made log.slot) log.slot) ++ flat_map event_text log.events ++ last_text log.last

abbrev pub unfinished_text : Option ℕ → List ℕ
unfinished_text None = []
unfinished_text (Some slot) = ended (with_one (codes "unfinished") slot)

abbrev pub text_by : Version → Report → List ℕ
text_by version report =
    ended (with_one (codes "report") (version_number version)) ++ flat_map history_text report.history
    ++ flat_map (log_text version (makes report.history)) report.logs ++ unfinished_text report.unfinished
    ++ ended (with_one (codes "status") report.status)

-- the text of a report, as it is written
abbrev pub report_text : Report → List ℕ
report_text report = text_by second report
