use Rattle.std.proofs.Common.{◌≡◌, ◌++◌, take}
use Rattle.std.specs.Prelude.{flat_map}
use Rattle.change_plan.specs.PlanText.{link_line}
use Rattle.change_plan.proofs.writing.write_links.Given as goal

abbrev pub invariant-loop-link : goal.invariant-loop-link
invariant-loop-link l =
    l.text.items ≡ l.initial.text.items ++ flat_map (link_line l.graph) (take l.link-index l.links)
