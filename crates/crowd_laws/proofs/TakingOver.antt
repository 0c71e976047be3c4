-- What is open is taken over by a system that is started as the graph says.
use Rattle.std.proofs.Common.{ℕ, ◌≤◌, Bool, length, map, sym, subst}
use Rattle.config_graph.specs.Graph.{Graph, ports}
use Rattle.config_graph.specs.declared.TheConstants.{MAX_NODES, MAX_PORTS}
use Rattle.quiesce_core.specs.Live.{IsGraphOf}
use Rattle.quiesce_core.specs.Named.{AreNamed}
use Rattle.quiesce_core.specs.Start.{started}
use Rattle.quiesce_core.specs.State.{State}
use Rattle.quiesce_core.proofs.GraphExistsLaws.{graphs_are_sound}
use Rattle.quiesce_core.proofs.GraphLaws.{graph_started, named_started, well_formed_started}
use Rattle.quiesce_core.proofs.RunLaws.{nodes_are_named}
use Rattle.quiesce_core.proofs.SameWiringLaws.{alive_if}
use Rattle.crowd_laws.specs.Crowds.{World}
use Rattle.crowd_laws.specs.Beginning.{IsStart, untold}
use Rattle.crowd_laws.specs.Renaming.{AreTakenOver, renumbered}
use Rattle.crowd_laws.proofs.Coming.{consistent_of, well_of}
use Rattle.crowd_laws.proofs.FirstCrowds.{reached_started, starts}
use Rattle.crowd_laws.proofs.GraphNumbers.{node, port, renumbers, same_port}
use Rattle.crowd_laws.proofs.Holding.{Holds}
use Rattle.crowd_laws.proofs.Renumbering.{all_renumbered}

pub over_then : (v : World) (g : Graph) (shut : ℕ → Bool) → Holds v → IsGraphOf v.machine.config g → length g.nodes ≤ MAX_NODES → length (ports g.nodes) ≤ MAX_PORTS
    → (over : AreTakenOver v.machine.config g v.crowd.opened) × IsStart (record { crowd = untold (map (renumbered over.port) v.crowd.opened) shut; machine = started g })
over_then v g shut h is_graph few_nodes few_ports =
    let sound = (well_of v.machine h.reached).sound in
    let alive = alive_if v.machine sound (consistent_of v.machine h.reached) in
    let named : AreNamed v.machine.config = subst (λ (i : State). AreNamed i.config) (sym h.reached.is) (nodes_are_named h.reached.events h.reached.run) in
    let good = graphs_are_sound v.machine.config g sound named is_graph in
    let d = (started g).config in
    let of_d = graph_started g good few_nodes few_ports in
    let named_d = named_started g good few_nodes few_ports in
    let sound_d = (well_formed_started g good few_nodes few_ports).sound in
    let over : AreTakenOver v.machine.config g v.crowd.opened = record {
      port = port g v.machine.config d is_graph of_d named named_d alive sound sound_d;
      same_ports = λ p live. same_port g v.machine.config d is_graph of_d named named_d alive sound sound_d p live;
      stands = all_renumbered v.machine.config d (node g v.machine.config d is_graph of_d named named_d alive sound sound_d) (port g v.machine.config d is_graph of_d named named_d alive sound sound_d)
          v.crowd.opened sound (renumbers g v.machine.config d is_graph of_d named named_d alive sound sound_d) h.stands;
    } in (over, starts g (map (renumbered over.port) v.crowd.opened) shut (reached_started g good few_nodes few_ports) over.stands)
