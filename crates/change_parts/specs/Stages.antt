-- To be believed (definitions.md).
-- Groups that are applied to a graph: their removed nodes are taken out and their created ones put in, and all ports
-- of their created and kept nodes have the targets of the new graph.
use Rattle.std.specs.Prelude.{◌⊎◌, ◌↔◌, ℕ, List, Contains}
use Rattle.config_graph.specs.Graph.{Graph}
use Rattle.config_graph.specs.GraphBy.{IsGraphBy}
use Rattle.config_graph.specs.declared.node.Node.{Node}
use Rattle.change_plan.specs.declared.plan_data.Move.{Move}
use Rattle.change_parts.specs.Groups.{IsIn}
use Rattle.change_parts.specs.Ties.{AreConnected, IsCreated, IsRemoved}

module _ (old new : Graph) (moves : List Move) (firsts : List (List ℕ)) where
  -- these groups are applied to a graph g
  abbrev pub IsNodeAfter : Graph → Node → Type 0
  IsNodeAfter g n =
      (Contains g.nodes n × (¬ (IsIn old new moves firsts n × IsRemoved old new n)))
      ⊎ (IsIn old new moves firsts n × IsCreated old new n)

  abbrev pub AreLinkedAfter : Graph → Node → ℕ → Node → ℕ → Type 0
  AreLinkedAfter g from require to provide =
      (IsIn old new moves firsts from × AreConnected new from require to provide)
      ⊎ ((¬ IsIn old new moves firsts from) × AreConnected g from require to provide)

  abbrev pub IsAfter : Graph → Graph → Type 0
  IsAfter g h = IsGraphBy (IsNodeAfter g) (AreLinkedAfter g) h

-- Some groups are applied in a stage: each node there that is in one of them is linked as in the new graph, and each
-- other node as in the old one.
pub record HasLinksOf (old new : Graph) (moves : List Move) (stage : Graph) : Type 0 where
  pub applied : List (List ℕ)
  pub stage_is : IsAfter old new moves applied old stage
  pub links : (from : Node) (require : ℕ) (to : Node) (provide : ℕ) → Contains stage.nodes from
      → AreConnected stage from require to provide ↔ AreLinkedAfter old new moves applied old from require to provide
