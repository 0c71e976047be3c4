use Rattle.worked_report_laws.proofs.OpenUnorderedLemmas.{lawful}
use Rattle.worked_report_laws.proofs.reports.what_is_open_may_be_named_in_any_order.Goals as goal

pub returns : goal.returns
returns c = record { lawful = lawful }
