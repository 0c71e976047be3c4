use Rattle.std.proofs.Common.{◌≡◌, drop, take, map}
use Rattle.std.specs.List.{flat_map}
use Rattle.darwin_types.specs.Check.{components_of, component_faults}
use Rattle.darwin_types.specs.Scope.{is_primitive}
use Rattle.darwin_types.proofs.checking.check_each.Given as goal

abbrev pub invariant-loop-index : goal.invariant-loop-index
invariant-loop-index l =
    let cs = l.directory.components.now in
    record {
      rest : flat_map (component_faults (components_of cs)) (components_of cs) ≡ flat_map (component_faults (components_of cs)) (components_of (drop l.index cs));
      noted : l.primitive.items ≡ map is_primitive (components_of (take l.index cs));
    }
