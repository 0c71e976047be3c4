use Rattle.change_plan_laws.proofs.CommitLemmas.{graph_linked, graph_reopening, part_at}
use Rattle.change_plan_laws.proofs.committing.commits_leave_the_new_graph.Goals as goal

pub returns-clause-linked : goal.returns-clause-linked
returns-clause-linked c = λ old new moves plan es more_ may is. graph_linked old new moves plan es may more_ is

pub returns-clause-reopening : goal.returns-clause-reopening
returns-clause-reopening c = λ old new moves plan es more_ done left may is parts. graph_reopening old new moves plan es may more_ done left is parts

pub returns-clause-between : goal.returns-clause-between
returns-clause-between c = λ old new moves plan es more_ left may is. part_at old new moves plan es may more_ left is
