use Rattle.std.proofs.Common.{◌≡◌, ◌-◌}
use Rattle.darwin_parser.specs.Tree.{tree_of}
use Rattle.elaborator.specs.Expansion.{instance_in}
use Rattle.elaborator.specs.Growth.{IsGrowth}
use Rattle.elaborator.proofs.growing.expand.Given as goal

abbrev pub invariant-loop-growth : goal.invariant-loop-growth
invariant-loop-growth l =
    record {
      same_tree : tree_of l.growth.expansion.directory.unit.now ≡ tree_of l.fn.directory.unit.now;
      growth : IsGrowth (instance_in l.fn.top) l.growth;
    }

-- at most 65,537 instances are opened
abbrev pub decreases-loop-growth : goal.decreases-loop-growth
decreases-loop-growth l = 65537 - l.growth.opened
