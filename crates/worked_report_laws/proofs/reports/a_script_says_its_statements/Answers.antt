use Rattle.worked_report_laws.proofs.SaidLemmas.{said}
use Rattle.worked_report_laws.proofs.reports.a_script_says_its_statements.Goals as goal

pub returns : goal.returns
returns c = record { said = said }
