use Rattle.std.proofs.Common.{◌≡◌, ◌+◌, ◌-◌, None, length, sym, subst, ap, ◌∙◌, arith}
use Rattle.quiesce_core.specs.declared.event.Event.TheVariants.{Make}
use Rattle.quiesce_core.specs.Tables.{HasRoomToMake}
use Rattle.quiesce_core.specs.WellFormed.{IsWellFormed}
use Rattle.quiesce_core.specs.Traffic.{IsConsistent}
use Rattle.quiesce_core.specs.Named.{AreNamed}
use Rattle.quiesce_core.proofs.NamedLemmas.{named_next}
use Rattle.quiesce_core.specs.Tables.{state_of}
use Rattle.quiesce_core.specs.Rules.{denial}
use Rattle.quiesce_core.proofs.LegalLaws.{legal}
use Rattle.quiesce_core.proofs.SoundnessLaws.{well_formed_next}
use Rattle.quiesce_core.proofs.TrafficLaws.{consistent_next}
use Rattle.quiesce_core.proofs.machine.Core.make.Goals as goal

pub invariant_of-self : goal.invariant_of-self
invariant_of-self c =
    let before = state_of c.self.inside.tables in
    let event = Make (length before.config.slots) c.args.node c.args.from in
    let allowed : denial before event ≡ None =
    ap (λ m. denial m.state (Make (length m.state.config.slots) c.args.node c.args.from)) c.self.view_is ∙ c.requires.allowed in
    let one : c.self.inside.spare - 1 + 1 ≡ c.self.inside.spare = omega (arith, ap (λ m. m.spare) c.self.view_is, c.requires.spare) in
    record {
      well_formed = subst (λ s. IsWellFormed s) (sym c.add.ensures.state) (well_formed_next before event c.self.invariant.well_formed (legal before event allowed));
      consistent = subst (λ s. IsConsistent s) (sym c.add.ensures.state) (consistent_next before event c.self.invariant.well_formed c.self.invariant.consistent (legal before event allowed));
      named = subst (λ s. AreNamed s.config) (sym c.add.ensures.state) (named_next before event c.self.invariant.named (legal before event allowed));
      room = c.add.ensures.room (c.self.inside.spare - 1) (subst (λ k. HasRoomToMake c.self.inside.tables k) (sym one) c.self.invariant.room);
    }
