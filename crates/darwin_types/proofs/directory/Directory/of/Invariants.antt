use Rattle.std.proofs.Common.{◌≡◌, take, drop}
use Rattle.std.specs.List.{flat_map}
use Rattle.darwin_types.specs.Check.{components_of, port_faults, names_of_ports}
use Rattle.darwin_types.proofs.directory.Directory.of.Given as goal

abbrev pub invariant-loop-component : goal.invariant-loop-component
invariant-loop-component l = record {
  indexed : l.ports.items ≡ names_of_ports (take l.component-index l.components);
  rest : flat_map port_faults (components_of l.components) ≡ flat_map port_faults (components_of (drop l.component-index l.components));
}
