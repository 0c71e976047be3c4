use Rattle.report_lines.proofs.HistoryLemmas.{found_line, whenever_line}
use Rattle.report_lines.proofs.history.history_line.Goals as goal

pub returns-clause-line : goal.returns-clause-line
returns-clause-line c = found_line c.args.line.now c.read_line.result c.read_line.ensures

pub returns-clause-whenever_line : goal.returns-clause-whenever_line
returns-clause-whenever_line c = whenever_line c.args.line.now c.read_line.result c.read_line.ensures
