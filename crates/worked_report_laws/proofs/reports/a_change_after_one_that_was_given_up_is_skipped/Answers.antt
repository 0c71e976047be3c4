use Rattle.worked_report_laws.proofs.SkippedLemmas.{lawful}
use Rattle.worked_report_laws.proofs.reports.a_change_after_one_that_was_given_up_is_skipped.Goals as goal

pub returns : goal.returns
returns c = record { lawful = lawful }
