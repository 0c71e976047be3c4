-- What a report says of a node that isn't done.
use Rattle.std.specs.Prelude.{ℕ, Bool, true, false, List, Option, None, if◌then◌else◌}
use Rattle.std.specs.List.{list_any}
use Rattle.report_types.specs.declared.report.HistoryLine.{HistoryLine}
use Rattle.report_types.specs.declared.report.HistoryLine.TheVariants as to

abbrev pub is_finish_line : HistoryLine → Bool
is_finish_line (to.Finish n rounds) = true
is_finish_line _ = false

-- a live node that isn't done is named where the history has a finish
abbrev pub unfinished_after : List HistoryLine → Option ℕ → Option ℕ
unfinished_after history undone = if list_any is_finish_line history then undone else None
