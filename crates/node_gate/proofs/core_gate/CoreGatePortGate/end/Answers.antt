use Rattle.std.proofs.Common.{◌≡◌, ◌∙◌, ◌-◌, None, ap, get_or, subst, sym}
use Rattle.quiesce_core.specs.Knowledge.{port_at_start}
use Rattle.quiesce_core.specs.Rules.{denial}
use Rattle.quiesce_core.specs.declared.event.Event.TheVariants.{End}
use Rattle.quiesce_core.specs.declared.known.PortKnown.{PortKnown}
use Rattle.node_gate.specs.Seats.{value_seen}
use Rattle.node_gate.proofs.AllowedLaws.{end_allowed, end_doer}
use Rattle.node_gate.proofs.core_gate.CoreGatePortGate.end.Goals as goal

pub act-requires-clause-allowed : goal.act-requires-clause-allowed
act-requires-clause-allowed c =
    let known = c.port_known-known.ensures ∙ ap (λ first. get_or c.args.seat.now.known.ports (c.args.port - first) port_at_start) c.first_port.ensures.first in
    subst (λ v. denial c.args.self.now.core.state (End c.args.port c.port_known-known.result.serial v) ≡ None) (sym c.unwrap_or-value.ensures)
    (subst (λ (x : PortKnown). denial c.args.self.now.core.state (End c.args.port x.serial (value_seen x)) ≡ None) (sym known)
    (end_allowed c.args.self.now.core.state c.holds.ensures.well_formed c.holds.ensures.consistent c.args.seat.now.slot c.args.seat.now.known c.requires.fits c.args.port c.requires.may))

pub act-requires-clause-doer : goal.act-requires-clause-doer
act-requires-clause-doer c = end_doer c.args.self.now.core.state c.holds.ensures.well_formed c.holds.ensures.consistent c.args.seat.now.slot c.args.seat.now.known c.requires.fits c.args.port 0 0 c.requires.may.own
