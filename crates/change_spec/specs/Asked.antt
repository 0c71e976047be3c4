-- What is asked of a run, and when it may be asked: each change has a plan from the graph that was named before it,
-- and there is room for all that it makes.
use Rattle.std.specs.Prelude.{⊤, List, [], ◌∷◌, length, map, sum_by}
use Rattle.config_graph.specs.Graph.{Graph, IsGraph, ports, requires_at}
use Rattle.config_graph.specs.Sound.{Sound}
use Rattle.config_graph.specs.declared.node.Made.{Made}
use Rattle.change_plan.specs.Plans.{IsPlanOf}
use Rattle.change_plan.specs.Refusals.{CanPlan}
use Rattle.change_plan.specs.Room.{HasRoomFor}
use Rattle.change_spec.specs.Scripts.{more_made, nothing_made}
use Rattle.change_spec.specs.Statements as statements
use Rattle.change_spec.specs.Statements.{Statement}
use Rattle.change_spec.specs.declared.steps.Replacement.{Replacement}
use Rattle.change_spec.specs.declared.steps.Start.{Start}
use Rattle.change_spec.specs.declared.steps.Step.{Step}
use Rattle.change_spec.specs.declared.steps.Step.TheVariants as steps

-- the statements
abbrev pub statement_of : Step → Statement
statement_of (steps.Run k) = statements.run k
statement_of (steps.Change c) = statements.change c.name c.args c.graph c.within c.moves
statement_of (steps.Finish n) = statements.finish n
statement_of steps.Show = statements.show

abbrev pub statements_of : Start → List Step → List Statement
statements_of s steps = statements.start s.name s.args s.graph ∷ map statement_of steps

-- what stands above a step: the graph that was named last, and how many nodes and ports were made if each change was
-- committed
pub record Above : Type 0 where
  pub graph : Graph
  pub made : Made

-- the graph that was named last, by a step or else before it
abbrev pub graph_behind : Graph → Step → Graph
graph_behind g (steps.Change c) = c.graph
graph_behind g _ = g

-- how much is made with the nodes that a change creates
abbrev pub made_with_change : Made → Replacement → Made
made_with_change made c = more_made made (length c.plan.create) (sum_by (requires_at c.graph.nodes) c.plan.create)

-- a sound graph, for all of which there is room
pub record CanStart (s : Start) : Type 0 where
  pub sound : Sound s.graph
  pub room : HasRoomFor nothing_made s.graph

abbrev pub after_start : Start → Above
after_start s = record { graph = s.graph; made = more_made nothing_made (length s.graph.nodes) (length (ports s.graph.nodes)) }

-- a change from what stands above to a sound graph
pub record CanChange (above : Above) (c : Replacement) : Type 0 where
  pub is_graph : IsGraph c.graph
  pub sound : Sound c.graph
  pub is_plan : IsPlanOf above.graph c.graph c.moves c.plan
  pub can_plan : CanPlan above.graph c.graph c.moves above.made

abbrev pub after_change : (above : Above) (c : Replacement) → CanChange above c → Above
after_change above c w = record { graph = c.graph; made = more_made above.made w.can_plan.nodes w.can_plan.ports }

abbrev pub CanDoAll : Above → List Step → Type 0
CanDoAll above [] = ⊤
CanDoAll above (steps.Change c ∷ more_) = (w : CanChange above c) × CanDoAll (after_change above c w) more_
CanDoAll above (_ ∷ more_) = CanDoAll above more_
