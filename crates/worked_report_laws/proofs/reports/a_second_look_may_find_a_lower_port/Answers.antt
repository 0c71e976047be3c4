use Rattle.worked_report_laws.proofs.SecondLookLemmas.{lawful}
use Rattle.worked_report_laws.proofs.reports.a_second_look_may_find_a_lower_port.Goals as goal

pub returns : goal.returns
returns c = record { lawful = lawful }
