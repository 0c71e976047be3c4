use Rattle.std.proofs.Common.{take}
use Rattle.change_plan.specs.Differences.{IsKeptLink}
use Rattle.change_plan.specs.Selects.{Selects}
use Rattle.change_plan.proofs.differences.list_gone_links.Given as goal

abbrev pub invariant-loop-link : goal.invariant-loop-link
invariant-loop-link l = Selects (λ k. ¬ IsKeptLink l.graph l.other k) (take l.link-index l.link-items) l.gone.items
