-- To be believed (definitions.md).
-- What a bank computes: what accounts were opened with stands in the accounts that are live at the end, or went with
-- those that were removed.
use Rattle.std.specs.Prelude.{ℕ, Bool, true, false, ◌==◌, List, [], ◌∷◌, None, if◌then◌else◌, sum_by}
use Rattle.std.specs.List.{list_any}
use Rattle.component_trait.specs.Making.{argument_or_0}
use Rattle.config_graph.specs.declared.kind.Kind.{Kind}
use Rattle.config_graph.specs.declared.kind.Kind.TheVariants.{Account}
use Rattle.report_types.specs.declared.report.HistoryLine.{HistoryLine}
use Rattle.report_types.specs.declared.report.HistoryLine.TheVariants as to
use Rattle.report_types.specs.declared.report.Last.{Last}
use Rattle.report_types.specs.declared.report.Last.TheVariants as last
use Rattle.report_types.specs.declared.report.NodeLog.{NodeLog}
use Rattle.report_types.specs.declared.report.Report.{Report}
use Rattle.result_laws.specs.Describing.{makes}

abbrev pub is_account : Kind → Bool
is_account Account = true
is_account _ = false

-- what an account was opened with, where a line makes one without ` from`
abbrev pub opened_by : HistoryLine → ℕ
opened_by (to.Make n node None) = if is_account node.kind then argument_or_0 node.arg else 0
opened_by _ = 0

-- whether a line removes the node in slot n
abbrev pub removes : ℕ → HistoryLine → Bool
removes n (to.Remove i) = i == n
removes n _ = false

-- the last state of an account, where it wasn't moved
abbrev pub balance : Last → ℕ
balance (last.State (b ∷ [])) = b
balance _ = 0

-- The last states of the accounts that weren't moved: of those that are live at the end, and of those that were
-- removed.
abbrev pub live_at : List HistoryLine → NodeLog → ℕ
live_at history l =
    if list_any (makes is_account l.slot) history then (if list_any (removes l.slot) history then 0 else balance l.last) else 0

abbrev pub gone_at : List HistoryLine → NodeLog → ℕ
gone_at history l =
    if list_any (makes is_account l.slot) history then (if list_any (removes l.slot) history then balance l.last else 0) else 0

abbrev pub live_sum : Report → ℕ
live_sum report = sum_by (live_at report.history) report.logs

abbrev pub removed_sum : Report → ℕ
removed_sum report = sum_by (gone_at report.history) report.logs

abbrev pub opened_sum : Report → ℕ
opened_sum report = sum_by opened_by report.history
