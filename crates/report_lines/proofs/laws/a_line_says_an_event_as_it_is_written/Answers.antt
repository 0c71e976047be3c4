use Rattle.report_lines.proofs.EventLemmas.{event_of, event_says}
use Rattle.report_lines.proofs.laws.a_line_says_an_event_as_it_is_written.Goals as goal

pub returns-clause-says : goal.returns-clause-says
returns-clause-says c = event_says

pub returns-clause-written : goal.returns-clause-written
returns-clause-written c = event_of
