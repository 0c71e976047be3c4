-- To be believed (definitions.md).
-- The wiring of a graph, and cycles of it.
use Rattle.std.specs.Prelude.{◌≡◌, ℕ, ◌<◌, Bool, false, IsTrue, if◌then◌else◌, List, Option, Some, None, option_map, slice_get}
use Rattle.std.specs.Option.{option_map_or}
use Rattle.config_graph.specs.Kinds.{depends_on, is_depended_on}
use Rattle.config_graph.specs.Graph.{Graph, target_of}
use Rattle.config_graph.specs.Wiring.{Wiring, CallPath, MayCall}
use Rattle.config_graph.specs.Marks.{IsMarked}
use Rattle.config_graph.specs.declared.node.Node.{Node}
use Rattle.config_graph.specs.declared.node.Port.{Port}
use Rattle.config_graph.specs.declared.node.Target.{Target}

-- a requirement of node i is linked to a provision of node j
abbrev pub IsLinked : Graph → ℕ → ℕ → ℕ → ℕ → Type 0
IsLinked g i require j provide = target_of g.links i require ≡ Some (record { node = j; provide = provide })

-- whether a provision of node i depends on a requirement of it, and whether some provision of it does
abbrev pub depends_at : List Node → ℕ → ℕ → ℕ → Bool
depends_at nodes i provide require = option_map_or (λ n. depends_on n.kind provide require) (slice_get nodes i) false

abbrev pub is_depended_at : List Node → ℕ → ℕ → Bool
is_depended_at nodes i require = option_map_or (λ n. is_depended_on n.kind require) (slice_get nodes i) false

-- the links of a graph, and what its kinds say of dependence
abbrev pub graph_wiring : Graph → Wiring Port
graph_wiring g = record {
  Linked = λ p j provide. IsLinked g p.node p.require j provide;
  Depends = λ i provide p. (p.node ≡ i) × IsTrue (depends_at g.nodes i provide p.require);
}

-- node i is on a cycle: a path of calls leads from it back to it
abbrev pub OnCycle : Graph → ℕ → Type 0
OnCycle g i = CallPath (graph_wiring g) i i

-- some node is on a cycle
abbrev pub HasCycle : Graph → Type 0
HasCycle g = (i : ℕ) × OnCycle g i

-- node i may call a node whose mark isn't set
abbrev pub LeadsToUnmarked : Graph → List Bool → ℕ → Type 0
LeadsToUnmarked g marks i = (j : ℕ) × MayCall (graph_wiring g) i j × ¬ IsMarked marks j

-- node i is the first of the nodes that are on cycles
pub record FirstOnCycle (g : Graph) (i : ℕ) : Type 0 where
  pub on_cycle : OnCycle g i
  pub first : (j : ℕ) → j < i → ¬ OnCycle g j

-- the node to which a port leads, where it is depended on and linked
abbrev pub leads_by : Graph → ℕ → ℕ → Option ℕ
leads_by g i require =
    if is_depended_at g.nodes i require then option_map (λ (t : Target). t.node) (target_of g.links i require) else None
