-- To be believed (definitions.md).
-- How a system comes to be as a graph says: its nodes are made, in their order, then each linked port is linked and
-- then each port is opened, in the order of the ports. And how it goes on from there.
use Rattle.std.specs.Prelude.{ℕ, List, ◌++◌, map, Option, None, option_map, fold, filter_map}
use Rattle.std.specs.List.{enumerate_from}
use Rattle.config_graph.specs.Graph.{Graph, ports, target_of}
use Rattle.config_graph.specs.declared.node.Node.{Node}
use Rattle.config_graph.specs.declared.node.Port.{Port}
use Rattle.config_graph.specs.declared.node.Target.{Target}
use Rattle.quiesce_core.specs.declared.event.Event.{Event}
use Rattle.quiesce_core.specs.declared.event.Event.TheVariants.{Make, Link, Reopen}
use Rattle.quiesce_core.specs.State.{State}
use Rattle.quiesce_core.specs.Effect.{effect}
use Rattle.quiesce_core.specs.Start.{started}

-- a node of the graph is made in its slot, from no other
abbrev pub make_of : ℕ × Node → Event
make_of p = Make p.0 p.1 None

-- a port of the graph is linked as it is there, if it is
abbrev pub link_of : Graph → ℕ × Port → Option Event
link_of g p = option_map (λ (t : Target). Link p.0 t.node t.provide) (target_of g.links p.1.node p.1.require)

abbrev pub reopen_of : ℕ × Port → Event
reopen_of p = Reopen p.0

abbrev pub start_of : Graph → List Event
start_of g =
    map make_of (enumerate_from 0 g.nodes) ++ filter_map (link_of g) (enumerate_from 0 (ports g.nodes))
    ++ map reopen_of (enumerate_from 0 (ports g.nodes))

-- the state after events, beginning with a system that was started as the graph says
abbrev pub state_from : Graph → List Event → State
state_from g es = fold effect (started g) es
