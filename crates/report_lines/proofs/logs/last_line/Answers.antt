use Rattle.report_lines.proofs.LastLemmas.{found_last, whenever_last}
use Rattle.report_lines.proofs.logs.last_line.Goals as goal

pub returns-clause-last : goal.returns-clause-last
returns-clause-last c = found_last c.args.line.now c.read_last.result c.read_last.ensures

pub returns-clause-whenever_last : goal.returns-clause-whenever_last
returns-clause-whenever_last c = whenever_last c.args.line.now c.read_last.result c.read_last.ensures
