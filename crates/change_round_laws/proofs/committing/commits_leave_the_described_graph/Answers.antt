use Rattle.change_round_laws.proofs.CommitGraphLaws.{described_at, history_left}
use Rattle.change_round_laws.proofs.committing.commits_leave_the_described_graph.Goals as goal

pub returns-clause-by_lines : goal.returns-clause-by_lines
returns-clause-by_lines c = λ statements history sound follows run.
    history_left c.each_plan_may_commit.ensures c.commits_can_not_fail.ensures.by_the_configuration c.commits_leave_the_new_graph.ensures.reopening statements history sound follows run

pub returns-clause-described : goal.returns-clause-described
returns-clause-described c = λ statements report m sound follows merge run before after parts.
    described_at c.each_plan_may_commit.ensures c.commits_can_not_fail.ensures.by_the_configuration c.commits_leave_the_new_graph.ensures.reopening statements report m sound follows merge run before after parts
