-- To be believed (definitions.md).
-- The summary of a run: how many nodes were made, how many `commit` lines there are (that of the start is one), how many
-- values the sinks keep at the end, and how the run ended.
use Rattle.std.specs.Prelude.{ℕ, Bool, true, false, List, [], ◌++◌, codes, count_by, flat_map, length, slice_get, if◌then◌else◌}
use Rattle.std.specs.Option.{option_map_or}
use Rattle.config_graph.specs.declared.kind.Kind.{Kind}
use Rattle.config_graph.specs.declared.kind.Kind.TheVariants.{Sink}
use Rattle.report_writing.specs.Reports.{ended}
use Rattle.report_writing.specs.Writing.{with_one}
use Rattle.report_types.specs.declared.report.HistoryLine.{HistoryLine}
use Rattle.report_types.specs.declared.report.HistoryLine.TheVariants as history
use Rattle.report_types.specs.declared.report.Last.{Last}
use Rattle.report_types.specs.declared.report.Last.TheVariants as lasts
use Rattle.report_types.specs.declared.report.NodeLog.{NodeLog}
use Rattle.report_types.specs.declared.report.Report.{Report}

abbrev pub is_make : HistoryLine → Bool
is_make (history.Make slot node from) = true
is_make _ = false

abbrev pub is_commit : HistoryLine → Bool
is_commit history.Commit = true
is_commit _ = false

abbrev pub is_sink : Kind → Bool
is_sink Sink = true
is_sink _ = false

-- the numbers of a last state, which of a sink are the values that it keeps
abbrev pub state_of : Last → List ℕ
state_of (lasts.State numbers) = numbers
state_of (lasts.Moved slot) = []

-- those of the node in a slot; logs stand by slot
abbrev pub state_at : List NodeLog → ℕ → List ℕ
state_at logs slot = option_map_or (λ (log : NodeLog). state_of log.last) (slice_get logs slot) []

-- what is kept at the end by the node that a line makes, where it is a sink
abbrev pub kept_by : List NodeLog → HistoryLine → List ℕ
kept_by logs (history.Make slot node from) = if is_sink node.kind then state_at logs slot else []
kept_by logs _ = []

abbrev pub kept_values : Report → List ℕ
kept_values report = flat_map (kept_by report.logs) report.history

abbrev pub summary_text : ℕ → Report → List ℕ
summary_text lanes report =
    ended (with_one (codes "big") lanes)
    ++ ended (with_one (codes "nodes") (count_by is_make report.history))
    ++ ended (with_one (codes "commits") (count_by is_commit report.history))
    ++ ended (with_one (codes "items") (length (kept_values report)))
    ++ ended (with_one (codes "status") report.status)
