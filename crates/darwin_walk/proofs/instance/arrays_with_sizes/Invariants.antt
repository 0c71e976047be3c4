use Rattle.std.proofs.Common.{◌≡◌, ◌++◌, drop, map, All}
use Rattle.darwin_parser.specs.Tree.{array_of}
use Rattle.darwin_walk.specs.Environment.{env_at}
use Rattle.darwin_walk.specs.Scope.{array_size_faults, HasSize}
use Rattle.darwin_walk.proofs.instance.arrays_with_sizes.Given as goal

-- the arrays so far, and what is told of those that are left
abbrev pub invariant-loop-decl : goal.invariant-loop-decl
invariant-loop-decl l =
    record {
      no_faults : array_size_faults (env_at l.env) (map array_of l.arrays) ≡ array_size_faults (env_at l.env) (map array_of (drop l.decl-index l.arrays));
      all : map array_of l.arrays ≡ map (λ a. array_of a.decl.now) l.with_sizes.items ++ map array_of (drop l.decl-index l.arrays);
      sizes : All (HasSize (env_at l.env)) l.with_sizes.items;
    }
