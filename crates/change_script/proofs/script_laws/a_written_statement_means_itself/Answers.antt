use Rattle.change_script.proofs.StatementLemmas.{statement_means}
use Rattle.change_script.proofs.script_laws.a_written_statement_means_itself.Goals as goal

pub returns : goal.returns
returns c = statement_means
