-- To be believed (definitions.md).
-- The slots and ports of a report of version 1 are below 255 and 1,024. In version 2 they have no limit but that of
-- their type.
use Rattle.std.specs.Prelude.{ℕ, Bool, true, ◌&&◌, nat_lt, Option, Some, None}
use Rattle.quiesce_core.specs.declared.event.Event.{Event}
use Rattle.quiesce_core.specs.declared.event.Event.TheVariants as events
use Rattle.report_types.specs.declared.report.HistoryLine.{HistoryLine}
use Rattle.report_types.specs.declared.report.HistoryLine.TheVariants as history
use Rattle.report_types.specs.declared.report.Last.{Last}
use Rattle.report_types.specs.declared.report.Last.TheVariants as lasts
use Rattle.report_texts.specs.declared.version.Version.{Version}
use Rattle.report_texts.specs.declared.version.Version.TheVariants as versions

abbrev pub is_slot : Version → ℕ → Bool
is_slot versions.First slot = nat_lt slot 255
is_slot versions.Second slot = true

abbrev pub is_port : Version → ℕ → Bool
is_port versions.First port = nat_lt port 1024
is_port versions.Second port = true

-- a slot, where there is one
abbrev pub is_source : Version → Option ℕ → Bool
is_source version None = true
is_source version (Some slot) = is_slot version slot

-- whether the slots and ports of a line of the history keep the limits
abbrev pub line_keeps : Version → HistoryLine → Bool
line_keeps version (history.Make slot node from) = is_slot version slot && is_source version from
line_keeps version (history.Link port node provide) = is_port version port && is_slot version node
line_keeps version (history.Unlink port) = is_port version port
line_keeps version (history.Remove node) = is_slot version node
line_keeps version (history.Close port) = is_port version port
line_keeps version (history.Reopen port) = is_port version port
line_keeps version (history.Drained port serial) = is_port version port
line_keeps version (history.Root port serial) = is_port version port
line_keeps version line = true

-- the same of an event of a node, which has a port
abbrev pub event_keeps : Version → Event → Bool
event_keeps version (events.Begin port serial value) = is_port version port
event_keeps version (events.Call port serial value) = is_port version port
event_keeps version (events.Take port serial value) = is_port version port
event_keeps version (events.More port serial value) = is_port version port
event_keeps version (events.Ask port serial value) = is_port version port
event_keeps version (events.Hear port serial value) = is_port version port
event_keeps version (events.Give port serial value) = is_port version port
event_keeps version (events.End port serial value) = is_port version port
event_keeps version (events.Miss port) = is_port version port
event_keeps version event = true

-- the same of the end of a log
abbrev pub last_keeps : Version → Last → Bool
last_keeps version (lasts.State numbers) = true
last_keeps version (lasts.Moved slot) = is_slot version slot
