-- From nodes and links to the graph.
use Rattle.std.proofs.Common.{◌≡◌, Result, ℕ, ◌<◌, ◌≤◌, ◌^◌, List, length, ap, sym, subst, arith}
use Rattle.std.specs.List.{Contains}
use Rattle.config_graph.specs.declared.node.Node.{Node}
use Rattle.config_graph.specs.declared.node.Link.{Link}
use Rattle.config_graph.specs.Graph.{Graph, PathsRise, ports, graph_of}
use Rattle.config_graph.specs.Cycles.{graph_wiring, FirstOnCycle}
use Rattle.config_graph.specs.Wiring.{HasNoCycle}
use Rattle.config_graph.proofs.CycleLaws.{CallPath-within}
use Rattle.elaborator.specs.Instances.{Instance}
use Rattle.elaborator.specs.Graph.{IsNode, IsLink, IsElab}
use Rattle.elaborator.specs.Numbering.{Expanded, IsOf}
use Rattle.elaborator.specs.PortIndex.{BindingFault}
use Rattle.base.specs.Answers.{Answers}
use Rattle.base.proofs.AnswerLaws.{Answers-weaker}
use Rattle.elaborator.specs.Built.{CycleFault, BuildFault, IsBuilt}
use Rattle.elaborator.specs.Built.BuildFault.{in_graph}
use Rattle.elaborator.specs.NodeOrder.{AreNodesOf}
use Rattle.elaborator.specs.Links.{AreLinks}
use Rattle.elaborator.specs.declared.nodes.Nodes.{Nodes}
use Rattle.elaborator.specs.declared.error.ElabError.{ElabError}
use Rattle.elaborator.specs.declared.error.ElabError.TheVariants as error
use Rattle.elaborator.proofs.UniqueLaws.{elab_by_list, kept_in_order}
use Rattle.base.proofs.ContainsLaws.{Contains-at, at_some_place}
use Rattle.config_graph.proofs.NumberingLaws.{ports_from}

-- a node has two ports at most
pub few_ports : (nodes : List Node) → length nodes ≤ 65537 → length (ports nodes) < 2 ^ 32
few_ports nodes few = omega (arith, ports_from 0 nodes)

-- ---- the graph

pub elab_of :
    (e : Expanded) (top : Instance) → IsOf e top → (ns : List Node) (n : Nodes) (links : List Link) (g : Graph) → AreNodesOf e ns n → AreLinks e.tree top ns links
    → g ≡ graph_of ns links → ((l : Link) → (Contains g.links l → Contains links l) × (Contains links l → Contains g.links l))
    → IsElab e.tree top g
elab_of e top is_of ns n links g nodes all is same =
    elab_by_list e.tree top g (subst PathsRise (sym nodes_same) nodes.paths_rise)
    (λ node. (λ there. made node (subst (λ ns. Contains ns node) nodes_same there), λ is_node. subst (λ ns. Contains ns node) (sym nodes_same) (there node is_node)))
    (λ l. (λ there. subst (λ ns. IsLink e.tree top ns l) (sym nodes_same) ((all.links_are l).0 ((same l).0 there)), λ is_link. (same l).1 ((all.links_are l).1 (subst (λ ns. IsLink e.tree top ns l) nodes_same is_link))))
    (kept_in_order ns links g all.one_a_port is same)
  where
    nodes_same : g.nodes ≡ ns
    nodes_same = ap (λ (h : Graph). h.nodes) is

    made : (node : Node) → Contains ns node → IsNode e.tree top node
    made node there =
        let place = at_some_place ns node there in
        let w = nodes.node_at place.0 node place.1 in
        record { instance = w.1; is_instance = is_of.sound w.0 w.1 w.3; is_node = w.4 }

    there : (node : Node) → IsNode e.tree top node → Contains ns node
    there node is_node =
        let at = is_of.complete is_node.instance is_node.is_instance in
        let w = nodes.place_at at.0 is_node.instance node at.1 is_node.is_node in
        Contains-at ns w.0 node w.1

-- ---- cycles

pub on_cycle_within : (g : Graph) (i : ℕ) → FirstOnCycle g i → i < length g.nodes
on_cycle_within g i first = CallPath-within g i i first.on_cycle

-- ---- the answer

-- what comes of the graph is what comes of the expansion
pub built :
    (e : Expanded) (top : Instance) (g : Graph) (r : Result Graph ElabError) → ((f : ElabError) → ¬ BindingFault e f) → IsElab e.tree top g
    → Answers error.NoMemory (λ h. (h ≡ g) × HasNoCycle (graph_wiring h)) (CycleFault g) r → Answers error.NoMemory (IsBuilt e top) (BuildFault e top) r
built e top g r none is_elab =
    Answers-weaker _ r (λ h is. record { is_elab = subst (IsElab e.tree top) (sym is.0) is_elab; no_cycle = is.1; no_fault = none }) (λ f. in_graph g f is_elab)
