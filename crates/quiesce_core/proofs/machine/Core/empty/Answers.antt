use Rattle.std.proofs.Common.{sym, subst, arith}
use Rattle.quiesce_core.specs.WellFormed.{IsWellFormed}
use Rattle.quiesce_core.specs.Traffic.{IsConsistent}
use Rattle.quiesce_core.specs.Named.{AreNamed}
use Rattle.quiesce_core.proofs.NamedLemmas.{named_empty}
use Rattle.quiesce_core.proofs.SoundnessLaws.{well_formed_empty}
use Rattle.quiesce_core.proofs.TrafficLaws.{consistent_empty}
use Rattle.quiesce_core.proofs.machine.Core.empty.Goals as goal

pub invariant_of-result : goal.invariant_of-result
invariant_of-result c =
    let none_ = c.new.ensures.state in
    record {
      well_formed = subst (λ s. IsWellFormed s) (sym none_) well_formed_empty;
      consistent = subst (λ s. IsConsistent s) (sym none_) consistent_empty;
      named = subst (λ s. AreNamed s.config) (sym none_) named_empty;
      room = record {
        slots = omega (arith, c.new.result.links.slots.ok.0, c.new.result.links.slots.ok.1);
        services = omega (arith, c.new.result.services.ok.0, c.new.result.services.ok.1);
        gates = omega (arith, c.new.result.links.gates.ok.0, c.new.result.links.gates.ok.1);
        exchanges = omega (arith, c.new.result.exchanges.ok.0, c.new.result.exchanges.ok.1);
      };
    }
