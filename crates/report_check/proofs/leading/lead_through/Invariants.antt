use Rattle.std.proofs.Common.{◌≡◌, Some, take}
use Rattle.report_check.specs.Leading as leading
use Rattle.report_check.proofs.leading.lead_through.Given as goal

abbrev pub invariant-loop-event : goal.invariant-loop-event
invariant-loop-event g l =
    leading.led_through l.first_port (g.C.Component.state l.initial.node) (take l.event-index l.log) ≡ Some (g.C.Component.state l.node)
