use Rattle.result_laws.proofs.Fitting.{numbers_fit}
use Rattle.result_laws.proofs.telling_laws.numbers_of_runs_fit.Goals as goal

pub returns : goal.returns
returns c = record { fit = λ schedule files name own ran. numbers_fit c.a_moved_state_is_the_last_one.ensures.handed schedule ran.statements ran.report ran.is_report }
