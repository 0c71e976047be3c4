use Rattle.std.proofs.Common.{sym, subst, ap, ◌∙◌}
use Rattle.quiesce_core.specs.WellFormed.{IsWellFormed}
use Rattle.quiesce_core.specs.Rules.{denial}
use Rattle.quiesce_core.specs.Traffic.{IsConsistent}
use Rattle.quiesce_core.specs.Named.{AreNamed}
use Rattle.quiesce_core.proofs.NamedLemmas.{named_next}
use Rattle.quiesce_core.specs.Tables.{state_of}
use Rattle.quiesce_core.proofs.LegalLaws.{legal}
use Rattle.quiesce_core.proofs.SoundnessLaws.{well_formed_next}
use Rattle.quiesce_core.proofs.TrafficLaws.{consistent_next}
use Rattle.quiesce_core.proofs.machine.Core.perform.Goals as goal

pub invariant_of-self : goal.invariant_of-self
invariant_of-self c =
    let before = state_of c.self.inside.tables in
    let holds = legal before c.args.event.now (ap (λ m. denial m.state c.args.event.now) c.self.view_is ∙ c.requires.allowed) in
    record {
      well_formed = subst (λ s. IsWellFormed s) (sym c.perform.ensures.state) (well_formed_next before c.args.event.now c.self.invariant.well_formed holds);
      consistent = subst (λ s. IsConsistent s) (sym c.perform.ensures.state) (consistent_next before c.args.event.now c.self.invariant.well_formed c.self.invariant.consistent holds);
      named = subst (λ s. AreNamed s.config) (sym c.perform.ensures.state) (named_next before c.args.event.now c.self.invariant.named holds);
      room = c.perform.ensures.room c.self.inside.spare c.self.invariant.room;
    }
