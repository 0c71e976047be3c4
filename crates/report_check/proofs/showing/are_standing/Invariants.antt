use Rattle.std.proofs.Common.{◌≡◌, ◌≤◌, map, take}
use Rattle.base.specs.Each.{Each}
use Rattle.report_check.specs.Showing as showing
use Rattle.report_check.specs.Showing.{begun_in}
use Rattle.report_check.proofs.showing.are_standing.Given as goal

abbrev pub invariant-loop-line : goal.invariant-loop-line
invariant-loop-line l = record {
  few : l.begun.heads ≤ l.line-index;
  begun : begun_in l.begun ≡ showing.begun_after (take l.line-index l.history);
  shown : Each (showing.IsShownBy (map (λ g. g.now) l.graphs)) (take l.line-index l.history);
}
