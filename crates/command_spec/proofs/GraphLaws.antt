-- The graph of a component is sound, and has few nodes, and so few ports.
use Rattle.std.proofs.Common.{◌⊎◌, inl, inr, ℕ, ℤ, List, subst, arith}
use Rattle.config_graph.specs.Graph.{Graph, IsGraph}
use Rattle.config_graph.specs.declared.node.Made.{Made}
use Rattle.change_plan.specs.Refusals.{CanPlan, IsRefusal}
use Rattle.change_plan.specs.declared.error.PlanError.{PlanError}
use Rattle.change_plan.specs.declared.plan_data.Move.{Move}
use Rattle.config_graph.specs.Sound.{Sound}
use Rattle.config_graph.proofs.NumberingLaws.{ports_from}
use Rattle.darwin_parser.specs.Tree.{Name, Tree}
use Rattle.darwin_types.specs.Faults.{NoFault}
use Rattle.elaborator.specs.Elaboration.{HasNoFault, ElaboratesTo}
use Rattle.elaborator.specs.Faults.{Faults}
use Rattle.elaborator.specs.declared.error.ElabError.{ElabError}
use Rattle.elaborator.proofs.FewLaws.{nodes_few}
use Rattle.command_spec.specs.Descriptions.{HasGraph}
use Rattle.command_spec.proofs.Planning.{one_graph_of}

pub is_graph : (tree : Tree) (name : Name) (args : List ℤ) (g : Graph) → HasNoFault tree name args → ElaboratesTo tree name args g → Sound g → IsGraph g
is_graph tree name args g none elaborates sound =
    let few = nodes_few tree name args g none elaborates in
    record {
      paths_rise = sound.paths_rise;
      within = sound.within;
      in_order = sound.in_order;
      few_nodes = omega (arith, few);
      few_ports = omega (arith, few, ports_from 0 g.nodes);
    }

-- a law of the elaborator, as it stands there
abbrev pub GraphOrFault : Type 0
GraphOrFault =
    (tree : Tree) (name : Name) (args : List ℤ) → NoFault tree
    → ((f : ElabError) × Faults tree name args f) ⊎ ((g : Graph) × HasNoFault tree name args × ElaboratesTo tree name args g × Sound g)

module _ (graphs : GraphOrFault) (text name : List ℕ) (args : List ℤ) (g : Graph) (has : HasGraph text name args g) where
  pub is_sound : Sound g
  is_sound = by (graphs has.tree name args has.checked.sound)
    where
      by : ((f : ElabError) × Faults has.tree name args f) ⊎ ((h : Graph) × HasNoFault has.tree name args × ElaboratesTo has.tree name args h × Sound h)
          → Sound g
      by (inl (f, faults)) = absurd (has.is.no_fault f faults)
      by (inr (h, none, elaborates, sound)) = subst Sound (one_graph_of has.tree name args h g elaborates has.is.is_graph) sound

  pub has_bounds : IsGraph g
  has_bounds = is_graph has.tree name args g has.is.no_fault has.is.is_graph is_sound

-- laws of plans, as they stand there
abbrev pub PlanOrRefusal : Type 0
PlanOrRefusal =
    (old new : Graph) (moves : List Move) (made : Made) → IsGraph old → IsGraph new
    → CanPlan old new moves made ⊎ ((e : PlanError) × IsRefusal old new moves made e)

abbrev pub PlanAlone : Type 0
PlanAlone = (old new : Graph) (moves : List Move) (made : Made) → IsGraph old → IsGraph new → (e : PlanError) → CanPlan old new moves made → ¬ IsRefusal old new moves made e
