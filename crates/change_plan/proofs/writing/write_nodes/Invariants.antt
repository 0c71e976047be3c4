use Rattle.std.proofs.Common.{◌≡◌, ◌++◌, take}
use Rattle.std.specs.Prelude.{flat_map}
use Rattle.change_plan.specs.PlanText.{step_line}
use Rattle.change_plan.proofs.writing.write_nodes.Given as goal

abbrev pub invariant-loop-node : goal.invariant-loop-node
invariant-loop-node l =
    l.text.items ≡ l.initial.text.items ++ flat_map (step_line l.word l.graph) (take l.node-index l.nodes)
