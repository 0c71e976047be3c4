use Rattle.std.proofs.Common.{sym, subst, arith}
use Rattle.quiesce_core.specs.WellFormed.{IsWellFormed}
use Rattle.quiesce_core.specs.Traffic.{IsConsistent}
use Rattle.quiesce_core.specs.Named.{AreNamed}
use Rattle.quiesce_core.proofs.GraphLaws.{consistent_started, named_started, well_formed_started}
use Rattle.quiesce_core.proofs.machine.Core.of.Goals as goal

pub invariant_of-result : goal.invariant_of-result
invariant_of-result c =
    let tables = c.in_ok-tables.tables in
    record {
      well_formed = subst (λ s. IsWellFormed s) (sym c.in_ok-tables.ensures) (well_formed_started c.args.graph.now c.requires.sound c.requires.few_nodes c.requires.few_ports);
      consistent = subst (λ s. IsConsistent s) (sym c.in_ok-tables.ensures) (consistent_started c.args.graph.now c.requires.sound c.requires.few_nodes c.requires.few_ports);
      named = subst (λ s. AreNamed s.config) (sym c.in_ok-tables.ensures) (named_started c.args.graph.now c.requires.sound c.requires.few_nodes c.requires.few_ports);
      room = record {
        slots = omega (arith, tables.links.slots.ok.0, tables.links.slots.ok.1);
        services = omega (arith, tables.services.ok.0, tables.services.ok.1);
        gates = omega (arith, tables.links.gates.ok.0, tables.links.gates.ok.1);
        exchanges = omega (arith, tables.exchanges.ok.0, tables.exchanges.ok.1);
      };
    }
