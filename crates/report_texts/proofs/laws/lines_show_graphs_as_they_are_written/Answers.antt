use Rattle.report_texts.proofs.DrawingLemmas.{shown_so}
use Rattle.report_texts.proofs.ShowingLemmas.{is_told}
use Rattle.report_texts.proofs.laws.lines_show_graphs_as_they_are_written.Goals as goal

pub returns-clause-shown : goal.returns-clause-shown
returns-clause-shown c = shown_so

pub returns-clause-written : goal.returns-clause-written
returns-clause-written c = λ graph can. (is_told graph can).told
