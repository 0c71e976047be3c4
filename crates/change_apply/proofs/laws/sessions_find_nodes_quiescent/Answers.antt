use Rattle.std.proofs.Common.{subst}
use Rattle.quiesce_core.specs.Runs.{IsRun}
use Rattle.change_apply.proofs.laws.sessions_find_nodes_quiescent.Goals as goal

pub returns-clause-linked : goal.returns-clause-linked
returns-clause-linked c h said before after p n x can is =
    c.changes_find_nodes_quiescent.ensures.linked before after p n x (subst IsRun is (c.sessions_keep_their_course.ensures h said can).run)

pub returns-clause-unlinked : goal.returns-clause-unlinked
returns-clause-unlinked c h said before after p can is =
    c.changes_find_nodes_quiescent.ensures.unlinked before after p (subst IsRun is (c.sessions_keep_their_course.ensures h said can).run)

pub returns-clause-removed : goal.returns-clause-removed
returns-clause-removed c h said before after n can is =
    c.changes_find_nodes_quiescent.ensures.removed before after n (subst IsRun is (c.sessions_keep_their_course.ensures h said can).run)
