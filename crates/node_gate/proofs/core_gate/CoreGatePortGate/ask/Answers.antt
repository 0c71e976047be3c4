use Rattle.std.proofs.Common.{◌≡◌, ◌∙◌, ◌-◌, None, ap, get_or, subst, sym}
use Rattle.quiesce_core.specs.Knowledge.{port_at_start}
use Rattle.quiesce_core.specs.Rules.{denial}
use Rattle.quiesce_core.specs.declared.event.Event.TheVariants.{Ask}
use Rattle.quiesce_core.specs.declared.known.PortKnown.{PortKnown}
use Rattle.node_gate.proofs.AllowedLaws.{ask_allowed, ask_doer}
use Rattle.node_gate.proofs.core_gate.CoreGatePortGate.ask.Goals as goal

pub act-requires-clause-allowed : goal.act-requires-clause-allowed
act-requires-clause-allowed c =
    let known = c.port_known-serial.ensures ∙ ap (λ first. get_or c.args.seat.now.known.ports (c.args.port - first) port_at_start) c.first_port.ensures.first in
    subst (λ (x : PortKnown). denial c.args.self.now.core.state (Ask c.args.port x.serial c.args.value) ≡ None) (sym known)
    (ask_allowed c.args.self.now.core.state c.holds.ensures.well_formed c.holds.ensures.consistent c.args.seat.now.slot c.args.seat.now.known c.requires.fits c.args.port c.args.value c.requires.may)

pub act-requires-clause-doer : goal.act-requires-clause-doer
act-requires-clause-doer c = ask_doer c.args.self.now.core.state c.holds.ensures.well_formed c.holds.ensures.consistent c.args.seat.now.slot c.args.seat.now.known c.requires.fits c.args.port 0 c.args.value c.requires.may.own
