use Rattle.std.proofs.Common.{◌≡◌, length}
use Rattle.report_texts.specs.GraphTexts.{paths_rise}
use Rattle.report_texts.proofs.graphs.paths_rise.Given as goal

abbrev pub invariant-nodes : goal.invariant-nodes
invariant-nodes l = paths_rise l.rest ≡ paths_rise l.nodes

abbrev pub decreases-nodes : goal.decreases-nodes
decreases-nodes l = length l.rest
