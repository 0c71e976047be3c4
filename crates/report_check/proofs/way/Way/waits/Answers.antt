use Rattle.report_check.proofs.WayLemmas.{begin_waits, call_waits}
use Rattle.report_check.proofs.way.Way.waits.Goals as goal

pub returns-else-is_called_at : goal.returns-else-is_called_at
returns-else-is_called_at c =
    let event = c.in-Begin in
    begin_waits c.args.self.now c.args.history.now c.args.event.now event.port event.serial event.value c.next_told.result c.is_called_at.result
    c.is_beyond.result c.made.ensures.well_formed c.requires.allowed event.is c.requires.ahead c.next_told.ensures c.is_called_at.ensures
    c.if-is_called_at.false c.is_beyond.ensures

pub returns-in-Call : goal.returns-in-Call
returns-in-Call c =
    let event = c.in-Call in
    call_waits c.args.self.now c.args.history.now c.args.event.now event.port event.serial event.value c.next_told-in-Call.result
    c.is_beyond-in-Call.result c.made.ensures.well_formed c.requires.allowed event.is c.requires.ahead c.next_told-in-Call.ensures c.is_beyond-in-Call.ensures
