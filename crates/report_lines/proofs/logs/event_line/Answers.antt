use Rattle.report_lines.proofs.EventLemmas.{found_event, whenever_event}
use Rattle.report_lines.proofs.logs.event_line.Goals as goal

pub returns-clause-event : goal.returns-clause-event
returns-clause-event c = found_event c.args.line.now c.read_event.result c.read_event.ensures

pub returns-clause-whenever_event : goal.returns-clause-whenever_event
returns-clause-whenever_event c = whenever_event c.args.line.now c.read_event.result c.read_event.ensures
