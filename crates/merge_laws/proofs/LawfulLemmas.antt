-- The list of a lawful report is a merge with its history, and so it is found.
use Rattle.std.proofs.Common.{◌≡◌, ℕ, true, false, List, map, subst, sym}
use Rattle.std.specs.Prelude.{fold}
use Rattle.base.specs.Each.{Each}
use Rattle.base.proofs.EachLaws.{each_at}
use Rattle.report_types.specs.declared.report.HistoryLine.TheVariants as to
use Rattle.report_types.specs.declared.report.NodeLog.{NodeLog}
use Rattle.report_types.specs.declared.report.Report.{Report}
use Rattle.change_spec.specs.Follows.{Follows}
use Rattle.change_spec.specs.Lawful.{IsLawfulBy, StoodOpenWhereSaid}
use Rattle.change_spec.specs.Members.{Member}
use Rattle.change_spec.specs.Statements.{Statement}
use Rattle.merge_laws.specs.Guarded.{can_go, go, left, left_of, may_go}
use Rattle.merge_laws.specs.Merges.{HasLogs, IsMergeWith}
use Rattle.merge_laws.proofs.GuideLemmas.{guided}
use Rattle.merge_laws.proofs.GuidedLemmas.{found}
use Rattle.merge_laws.proofs.LogLemmas as logs
use Rattle.merge_laws.proofs.TellingLemmas.{histories_are_told}

pub lawful_lists_are_merges : (statements : List Statement) (report : Report) (m : List Member) → IsLawfulBy statements report m → IsMergeWith report.history m
lawful_lists_are_merges statements report m lawful = record {
  runs = lawful.runs;
  lines_are = lawful.merge.history;
  by_nodes = lawful.merge.by_nodes;
  drained = lawful.drained;
  open_roots = λ c r p k has. each_at (StoodOpenWhereSaid m) c r (to.Root p k) (subst (Each (StoodOpenWhereSaid m)) has lawful.stood_open);
}

pub has_logs : (statements : List Statement) (report : Report) (m : List Member) → IsLawfulBy statements report m → HasLogs (map (λ (l : NodeLog). l.events) report.logs) m
has_logs statements report m lawful =
    let merge = lawful.merge in logs.has_logs report m merge.one_log_a_node merge.by_nodes merge.history lawful.runs merge.logs

pub lawful_reports_are_found : (statements : List Statement) (report : Report) (m : List Member) (cs : List ℕ) → Follows statements report.history → IsLawfulBy statements report m
    → can_go (left_of report) cs ≡ true → ((c : ℕ) → may_go (fold go (left_of report) cs) c ≡ false) → left (fold go (left_of report) cs) ≡ 0
lawful_reports_are_found statements report m cs follows lawful can stuck =
    let merge = lawful_lists_are_merges statements report m lawful in
    let told = histories_are_told statements report.history follows in
    found m report.history (map (λ (l : NodeLog). l.events) report.logs) cs (guided merge told (logs.has_roots_apart statements report m lawful)) lawful.runs merge.lines_are
    (λ k. sym (has_logs statements report m lawful k)) can stuck
