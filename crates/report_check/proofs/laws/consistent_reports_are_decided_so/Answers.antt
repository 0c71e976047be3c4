use Rattle.std.proofs.Common.{map}
use Rattle.report_types.specs.declared.report.NodeLog.{NodeLog}
use Rattle.report_check.proofs.DecidedLemmas.{decided, right_by_itself}
use Rattle.report_check.proofs.laws.consistent_reports_are_decided_so.Goals as goal

pub returns-clause-alone : goal.returns-clause-alone
returns-clause-alone c =
    right_by_itself c.consistent_reports_are_decided.ensures.alone c.removed_nodes_serve_nothing.ensures.moved c.commits_leave_the_described_graph.ensures.by_lines c.a_configuration_has_one_graph.ensures.one

pub returns-clause-decides : goal.returns-clause-decides
returns-clause-decides c =
    decided c.consistent_reports_are_decided.ensures.alone c.consistent_reports_are_decided.ensures.decides c.commits_leave_the_described_graph.ensures.by_lines c.a_configuration_has_one_graph.ensures.one
    (λ report cs. c.ways_are_merges.ensures.merge report.history (map (λ (l : NodeLog). l.events) report.logs) cs) c.histories_tell_their_closes.ensures
