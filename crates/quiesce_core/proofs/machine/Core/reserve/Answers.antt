use Rattle.std.proofs.Common.{sym, subst}
use Rattle.quiesce_core.specs.WellFormed.{IsWellFormed}
use Rattle.quiesce_core.specs.Traffic.{IsConsistent}
use Rattle.quiesce_core.specs.Named.{AreNamed}
use Rattle.quiesce_core.proofs.machine.Core.reserve.Goals as goal

pub invariant_of-self : goal.invariant_of-self
invariant_of-self c = record {
  well_formed = subst (λ s. IsWellFormed s) (sym c.reserve.ensures.state) c.self.invariant.well_formed;
  consistent = subst (λ s. IsConsistent s) (sym c.reserve.ensures.state) c.self.invariant.consistent;
  named = subst (λ s. AreNamed s.config) (sym c.reserve.ensures.state) c.self.invariant.named;
  room = c.reserve.ensures.kept c.self.inside.spare c.self.invariant.room;
}
