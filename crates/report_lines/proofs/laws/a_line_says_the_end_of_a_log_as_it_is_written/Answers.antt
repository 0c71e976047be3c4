use Rattle.report_lines.proofs.LastLemmas.{last_of, last_says}
use Rattle.report_lines.proofs.laws.a_line_says_the_end_of_a_log_as_it_is_written.Goals as goal

pub returns-clause-says : goal.returns-clause-says
returns-clause-says c = last_says

pub returns-clause-written : goal.returns-clause-written
returns-clause-written c = last_of
