use Rattle.std.proofs.Common.{◌∙◌, ◌-◌, ◌<◌, ap, arith, get_or, length, subst, sym}
use Rattle.std.specs.Prelude.{slice_set}
use Rattle.std.proofs.lemmas.List.{get_or_default}
use Rattle.quiesce_core.specs.Knowledge.{port_at_start}
use Rattle.quiesce_core.specs.declared.known.PortKnown.{PortKnown}
use Rattle.node_gate.specs.Core.{FitsCore}
use Rattle.node_gate.specs.Moves.{seen_by}
use Rattle.node_gate.proofs.AllowedLaws.{fits_seen, own_require}
use Rattle.node_gate.proofs.core_gate.CoreGatePortGate.see.Goals as goal

pub returns-clause-fits : goal.returns-clause-fits
returns-clause-fits c =
    let own = own_require c.args.self.now.core.state c.holds.ensures.well_formed c.holds.ensures.consistent c.args.seat.now.slot c.args.seat.now.known c.requires.fits c.args.port c.requires.may.own in
    let first = c.first_port.ensures.first in
    let two = c.requires.fits.two in
    let within : c.args.port - c.first_port.result < length c.args.seat.now.known.ports = omega (arith, own, first, two) in
    let seen = c.note_reply.ensures ∙ ap (seen_by c.look-answer.result) (get_or_default c.args.seat.now.known.ports (c.args.port - c.first_port.result) _ port_at_start within) in
    subst (λ (x : PortKnown). FitsCore c.args.self.now.core.state c.args.seat.now.slot (record { service = c.args.seat.now.known.service; ports = slice_set c.args.seat.now.known.ports (c.args.port - c.first_port.result) x })) (sym seen)
    (subst
    (λ first. FitsCore c.args.self.now.core.state c.args.seat.now.slot (record { service = c.args.seat.now.known.service; ports = slice_set c.args.seat.now.known.ports (c.args.port - first) (seen_by c.look-answer.result (get_or c.args.seat.now.known.ports (c.args.port - first) port_at_start)) }))
    (sym c.first_port.ensures.first)
    (fits_seen c.args.self.now.core.state c.holds.ensures.well_formed c.holds.ensures.consistent c.args.seat.now.slot c.args.seat.now.known c.requires.fits c.args.port c.fields-word.result c.look-answer.result c.fields-word.ensures.fields c.requires.may c.look-answer.ensures))
