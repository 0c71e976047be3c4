use Rattle.report_lines.proofs.ReadingLaws.{history_is}
use Rattle.report_texts.proofs.readings.line_said.Goals as goal

pub returns : goal.returns
returns c = history_is c.args.line.now c.history_line.result c.history_line.ensures.line c.history_line.ensures.whenever_line
