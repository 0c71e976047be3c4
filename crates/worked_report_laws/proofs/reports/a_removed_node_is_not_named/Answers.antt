use Rattle.worked_report_laws.proofs.UndoneLemmas.{lawful}
use Rattle.worked_report_laws.proofs.reports.a_removed_node_is_not_named.Goals as goal

pub returns : goal.returns
returns c = record { lawful = lawful }
