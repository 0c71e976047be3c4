use Rattle.std.proofs.Common.{◌≡◌, ◌++◌, take}
use Rattle.std.specs.Prelude.{flat_map}
use Rattle.change_plan.specs.PlanText.{unlink_line}
use Rattle.change_plan.proofs.writing.write_unlinks.Given as goal

abbrev pub invariant-loop-port : goal.invariant-loop-port
invariant-loop-port l =
    l.text.items ≡ l.initial.text.items ++ flat_map (unlink_line l.graph) (take l.port-index l.ports)
