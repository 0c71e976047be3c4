use Rattle.worked_report_laws.proofs.LoopedLemmas.{lawful}
use Rattle.worked_report_laws.proofs.reports.what_a_looped_buffer_holds_goes_on.Goals as goal

pub returns : goal.returns
returns c = record { lawful = lawful }
