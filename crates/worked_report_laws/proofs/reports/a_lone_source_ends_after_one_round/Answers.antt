use Rattle.worked_report_laws.proofs.AloneLemmas.{lawful}
use Rattle.worked_report_laws.proofs.SerialLemmas.{alone_is_serial}
use Rattle.worked_report_laws.proofs.reports.a_lone_source_ends_after_one_round.Goals as goal

pub returns : goal.returns
returns c = record { serial = alone_is_serial; lawful = lawful }
