use Rattle.std.proofs.Common.{◌++◌, map, take}
use Rattle.std.specs.List.{flat_map}
use Rattle.darwin_parser.specs.Tree.{entry_of}
use Rattle.darwin_types.specs.Scope.{single_of}
use Rattle.darwin_types.specs.Check.{SameLookups}
use Rattle.darwin_types.proofs.instances.declare_entries.Given as goal

abbrev pub invariant-loop-entry : goal.invariant-loop-entry
invariant-loop-entry l = SameLookups l.instances (l.initial.instances ++ flat_map single_of (map (λ e. entry_of e.now) (take l.entry-index l.entries)))
