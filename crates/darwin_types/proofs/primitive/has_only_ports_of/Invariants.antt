use Rattle.std.proofs.Common.{◌≡◌, drop, map}
use Rattle.std.specs.List.{list_all}
use Rattle.darwin_parser.specs.Tree.{port_of}
use Rattle.darwin_types.specs.Primitive.{is_port_of}
use Rattle.darwin_types.proofs.primitive.has_only_ports_of.Given as goal

abbrev pub invariant-loop-port : goal.invariant-loop-port
invariant-loop-port l = list_all (is_port_of l.kind) (map port_of l.ports) ≡ list_all (is_port_of l.kind) (map port_of (drop l.port-index l.ports))
