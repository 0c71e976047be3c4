use Rattle.worked_report_laws.proofs.FilledLemmas.{lawful}
use Rattle.worked_report_laws.proofs.ThreadsAloneLemmas.{not_in_rounds}
use Rattle.worked_report_laws.proofs.reports.rest_may_be_seen_at_different_places.Goals as goal

pub returns : goal.returns
returns c = record { lawful = lawful; not_in_rounds = not_in_rounds }
