use Rattle.worked_report_laws.proofs.FinishedTwiceLemmas.{finished_twice}
use Rattle.worked_report_laws.proofs.reports.a_second_finish_makes_no_round.Goals as goal

pub returns : goal.returns
returns c = record { serial = finished_twice }
