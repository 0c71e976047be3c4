use Rattle.report_lines.proofs.ReadingLaws.{last_is}
use Rattle.report_texts.proofs.readings.last_said.Goals as goal

pub returns : goal.returns
returns c = last_is c.args.line.now c.last_line.result c.last_line.ensures.last c.last_line.ensures.whenever_last
