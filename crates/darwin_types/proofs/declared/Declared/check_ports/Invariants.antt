use Rattle.std.proofs.Common.{◌≡◌, map, drop}
use Rattle.std.specs.List.{flat_map}
use Rattle.darwin_parser.specs.Tree.{port_of}
use Rattle.darwin_types.specs.NameUses.{port_uses}
use Rattle.darwin_types.specs.Check.{uses_faults}
use Rattle.darwin_types.specs.Within.{tree_in, component_in}
use Rattle.darwin_types.proofs.declared.Declared.check_ports.Given as goal

abbrev pub invariant-loop-port : goal.invariant-loop-port
invariant-loop-port l =
    uses_faults (tree_in l.self) (component_in l.self) (flat_map (port_uses l.params) (map port_of l.ports)) ≡ uses_faults (tree_in l.self) (component_in l.self) (flat_map (port_uses l.params) (map port_of (drop l.port-index l.ports)))
