use Rattle.std.proofs.Common.{◌≡◌, ◌++◌, map, drop, Some, All}
use Rattle.std.specs.List.{flat_map, filter_map}
use Rattle.darwin_parser.specs.Tree.{tree_of}
use Rattle.darwin_walk.specs.Walked.{child_of}
use Rattle.elaborator.specs.Instances.{instance_of}
use Rattle.elaborator.specs.Faults.{kind_argument_faults}
use Rattle.elaborator.specs.Expansion.{instance_in}
use Rattle.elaborator.specs.Opening.{IsNoted}
use Rattle.elaborator.proofs.making.make_all.Given as goal

-- the instances so far, and what is told of the children that are left
abbrev pub invariant-loop-child : goal.invariant-loop-child
invariant-loop-child l =
    let tree = tree_of l.directory.unit.now in
    let i = instance_in l.within in
    let left = map child_of (drop l.child-index l.children) in
    record {
      no_faults : flat_map (kind_argument_faults tree) (map child_of l.children) ≡ flat_map (kind_argument_faults tree) left;
      instances : filter_map (instance_of tree i) (map child_of l.children) ≡ map instance_in l.made.items ++ filter_map (instance_of tree i) left;
      noted : All (IsNoted (Some l.number)) l.made.items;
    }
