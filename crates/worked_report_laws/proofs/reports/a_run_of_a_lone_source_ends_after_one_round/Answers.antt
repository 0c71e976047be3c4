use Rattle.worked_report_laws.proofs.StuckLemmas.{lawful}
use Rattle.worked_report_laws.proofs.LaterSerialLemmas.{stuck_is_serial}
use Rattle.worked_report_laws.proofs.reports.a_run_of_a_lone_source_ends_after_one_round.Goals as goal

pub returns : goal.returns
returns c = record { serial = stuck_is_serial; lawful = lawful }
