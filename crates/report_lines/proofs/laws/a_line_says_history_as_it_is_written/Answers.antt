use Rattle.report_lines.proofs.HistoryLemmas.{line_of, line_says}
use Rattle.report_lines.proofs.laws.a_line_says_history_as_it_is_written.Goals as goal

pub returns-clause-says : goal.returns-clause-says
returns-clause-says c = line_says

pub returns-clause-written : goal.returns-clause-written
returns-clause-written c = line_of
