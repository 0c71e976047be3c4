-- Parts that may be carried out one after the other.
use Rattle.std.specs.Prelude.{◌+◌, ⊤, List, [], ◌∷◌, length, sum_by}
use Rattle.config_graph.specs.Graph.{Graph, IsGraph, requires_at}
use Rattle.config_graph.specs.Sound.{Sound}
use Rattle.config_graph.specs.declared.node.Made.{Made}
use Rattle.change_plan.specs.Plans.{IsPlanOf}
use Rattle.change_plan.specs.Refusals.{CanPlan}
use Rattle.change_parts.specs.declared.part.Part.{Part}

-- a part may be carried out from this graph, where so much was made before
pub record CanCarryOut (g : Graph) (made : Made) (p : Part) : Type 0 where
  pub is_graph : IsGraph p.next
  pub sound : Sound p.next
  pub is_plan : IsPlanOf g p.next p.moves p.plan
  pub can_plan : CanPlan g p.next p.moves made

-- how much is made with the nodes that a part creates
abbrev pub made_with : Made → Part → Made
made_with made p = record {
  nodes = made.nodes + length p.plan.create;
  ports = made.ports + sum_by (requires_at p.next.nodes) p.plan.create;
}

-- and so may each, behind those before it
abbrev pub CanCarryOutAll : Graph → Made → List Part → Type 0
CanCarryOutAll g made [] = ⊤
CanCarryOutAll g made (p ∷ ps) = CanCarryOut g made p × CanCarryOutAll p.next (made_with made p) ps
