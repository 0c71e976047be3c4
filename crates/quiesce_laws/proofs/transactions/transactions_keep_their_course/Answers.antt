use Rattle.quiesce_laws.proofs.CourseLemmas.{on_course}
use Rattle.quiesce_laws.proofs.transactions.transactions_keep_their_course.Goals as goal

pub returns : goal.returns
returns c es p k run = on_course es p k run
