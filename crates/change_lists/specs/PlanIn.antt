-- A plan whose places are in range.
use Rattle.std.specs.Prelude.{◌<◌, length, All}
use Rattle.change_plan.specs.declared.plan_data.Plan.{Plan}
use Rattle.change_plan.specs.declared.plan_data.Shift.{Shift}
use Rattle.config_graph.specs.Graph.{Graph}
use Rattle.config_graph.specs.declared.node.Link.{Link}
use Rattle.config_graph.specs.declared.node.Port.{Port}

abbrev pub AreEndsIn : Graph → Link → Type 0
AreEndsIn g l = (l.from < length g.nodes) × (l.to < length g.nodes)

pub record IsPlanIn (old new : Graph) (plan : Plan) : Type 0 where
  pub freeze : All (λ i. i < length old.nodes) plan.freeze
  pub unlink : All (λ (q : Port). q.node < length old.nodes) plan.unlink
  pub remove : All (λ i. i < length old.nodes) plan.remove
  pub create : All (λ i. i < length new.nodes) plan.create
  pub link : All (AreEndsIn new) plan.link
  pub moves : All (λ (s : Shift). s.old < length old.nodes) plan.moves
