use Rattle.report_check.proofs.WayLemmas.{nothing_is_left}
use Rattle.report_check.proofs.way.Way.has_ended.Goals as goal

pub returns-then-self-history : goal.returns-then-self-history
returns-then-self-history c =
    nothing_is_left c.args.self.now c.args.history.now c.args.logs.now c.are_at_end.result c.requires c.if-self-history.true c.are_at_end.ensures
