use Rattle.worked_report_laws.proofs.AsideLemmas.{aside_is_serial}
use Rattle.worked_report_laws.proofs.reports.what_is_not_frozen_begins_nothing_in_a_wait.Goals as goal

pub returns : goal.returns
returns c = record { serial = aside_is_serial }
