use Rattle.std.proofs.Common.{◌≡◌, map, drop}
use Rattle.darwin_parser.specs.Tree.{array_of}
use Rattle.darwin_types.specs.Check.{arrays_faults}
use Rattle.darwin_types.specs.Within.{tree_in, component_in}
use Rattle.darwin_types.proofs.declared.Declared.check_arrays.Given as goal

abbrev pub invariant-loop-array : goal.invariant-loop-array
invariant-loop-array l =
    arrays_faults (tree_in l.self) (component_in l.self) l.params (map array_of l.arrays) ≡ arrays_faults (tree_in l.self) (component_in l.self) l.params (map array_of (drop l.array-index l.arrays))
