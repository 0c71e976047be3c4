use Rattle.std.proofs.Common.{Some}
use Rattle.report_check.specs.Leading.{led_by}
use Rattle.report_check.proofs.NumberLemmas.{not_led}
use Rattle.report_check.proofs.PartlyLemmas.{stops_here}
use Rattle.report_check.proofs.leading.lead_through.Goals as goal

pub returns-then-not-branch : goal.returns-then-not-branch
returns-then-not-branch g c =
    stops_here (led_by c.args.first_port) (Some (g.C.Component.state c.args.node.now)) c.args.log.now c.loop-event.event-index c.event-item.result (g.C.Component.state c.loop-event.node)
    c.loop-event-test.true c.event-item.is c.loop-event.invariant
    (not_led (led_by c.args.first_port (g.C.Component.state c.loop-event.node) c.event-item.result) (g.C.Component.state c.lead.new.node) c.in_ok-lead.field-0 (rw c.event.ensures at c.in_ok-lead.ensures) c.if-not-branch.true)
