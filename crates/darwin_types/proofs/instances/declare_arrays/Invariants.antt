use Rattle.std.proofs.Common.{◌++◌, map, take}
use Rattle.darwin_types.specs.Check.{SameLookups}
use Rattle.darwin_types.proofs.instances.declare_arrays.Given as goal

abbrev pub invariant-loop-array : goal.invariant-loop-array
invariant-loop-array l = SameLookups l.instances (l.initial.instances ++ map (λ a. (a.name, a.component)) (take l.array-index l.arrays))
