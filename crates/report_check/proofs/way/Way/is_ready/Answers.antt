use Rattle.report_check.proofs.WayLemmas.{close_is_ready}
use Rattle.report_check.proofs.way.Way.is_ready.Goals as goal

pub returns-in-Close : goal.returns-in-Close
returns-in-Close c =
    close_is_ready c.args.self.now c.args.history.now c.args.line.now c.in-Close.port c.next_told.result c.is_met.result c.made.ensures.well_formed
    c.requires.next c.in-Close.is c.requires.ahead c.next_told.ensures c.is_met.ensures
