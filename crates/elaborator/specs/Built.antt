-- What comes of an expansion: the graph, or a fault of its bindings or of the graph.
use Rattle.std.specs.Prelude.{◌≡◌, ℕ, Some, slice_get}
use Rattle.config_graph.specs.declared.node.Node.{Node}
use Rattle.config_graph.specs.Graph.{Graph}
use Rattle.config_graph.specs.Cycles.{graph_wiring, FirstOnCycle}
use Rattle.config_graph.specs.Wiring.{HasNoCycle}
use Rattle.elaborator.specs.Instances.{Instance}
use Rattle.elaborator.specs.Graph.{IsElab}
use Rattle.elaborator.specs.Numbering.{Expanded}
use Rattle.elaborator.specs.PortIndex.{BindingFault}
use Rattle.elaborator.specs.declared.error.ElabError.{ElabError}
use Rattle.elaborator.specs.declared.error.ElabError.TheVariants as error

-- the first node that is on a cycle
pub data CycleFault (g : Graph) : ElabError → Type 0 where
  first_on_cycle : (i : ℕ) (n : Node) → FirstOnCycle g i → slice_get g.nodes i ≡ Some n → CycleFault g (error.DependsCycle n.path)

pub data BuildFault (e : Expanded) (top : Instance) : ElabError → Type 0 where
  in_bindings : (f : ElabError) → BindingFault e f → BuildFault e top f
  in_graph : (g : Graph) (f : ElabError) → IsElab e.tree top g → CycleFault g f → BuildFault e top f

-- the graph, where there is none
pub record IsBuilt (e : Expanded) (top : Instance) (g : Graph) : Type 0 where
  pub is_elab : IsElab e.tree top g
  pub no_cycle : HasNoCycle (graph_wiring g)
  pub no_fault : (f : ElabError) → ¬ BindingFault e f
