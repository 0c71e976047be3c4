use Rattle.report_lines.proofs.ReadingLaws.{event_is}
use Rattle.report_texts.proofs.readings.event_said.Goals as goal

pub returns : goal.returns
returns c = event_is c.args.line.now c.event_line.result c.event_line.ensures.event c.event_line.ensures.whenever_event
