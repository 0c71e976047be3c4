use Rattle.std.proofs.Common.{◌∙◌, ap, sym, subst}
use Rattle.quiesce_core.specs.Knowledge.{known_next}
use Rattle.quiesce_core.specs.declared.known.Known.{Known}
use Rattle.node_gate.specs.Core.{FitsCore}
use Rattle.node_gate.proofs.AllowedLaws.{fits_then, others_fit_then}
use Rattle.node_gate.proofs.core_gate.CoreGate.act.Goals as goal

pub returns-clause-fits : goal.returns-clause-fits
returns-clause-fits c =
    let knows = c.note.ensures ∙ ap (λ first. known_next first c.args.seat.now.known c.args.event.now) c.first_port-first_port.ensures.first in
    subst (λ (w : Known). FitsCore c.perform.new.self.state c.args.seat.now.slot w) (sym knows)
    (fits_then c.args.self.now.core.state c.perform.new.self.state c.args.event.now c.args.seat.now.slot c.args.seat.now.known c.holds.ensures.well_formed c.holds.ensures.consistent c.requires.fits
    c.perform.ensures.step c.requires.by_node c.requires.doer)

pub returns-clause-others : goal.returns-clause-others
returns-clause-others c = λ n w other fits.
    others_fit_then c.args.self.now.core.state c.perform.new.self.state c.args.event.now c.args.seat.now.slot n w c.holds.ensures.well_formed c.holds.ensures.consistent c.perform.ensures.step
    c.requires.by_node c.requires.doer other fits
