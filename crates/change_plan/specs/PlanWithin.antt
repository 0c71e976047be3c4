-- A plan whose indexes are in range: what it takes away stands in the old graph, what it makes in the new one.
use Rattle.std.specs.Prelude.{◌<◌, length, All}
use Rattle.config_graph.specs.Graph.{Graph, IsLinkWithin, requires_at}
use Rattle.change_plan.specs.declared.plan_data.Plan.{Plan}

pub record IsPlanWithin (old new : Graph) (p : Plan) : Type 0 where
  pub freeze : All (λ i. i < length old.nodes) p.freeze
  pub unlink : All (λ q. q.require < requires_at old.nodes q.node) p.unlink
  pub remove : All (λ i. i < length old.nodes) p.remove
  pub create : All (λ i. i < length new.nodes) p.create
  pub link : All (IsLinkWithin new.nodes) p.link
