use Rattle.std.proofs.Common.{◌≡◌, drop, map}
use Rattle.darwin_parser.specs.Tree.{port_of}
use Rattle.darwin_types.specs.Primitive.{has_port}
use Rattle.darwin_types.proofs.primitive.has_port.Given as goal

abbrev pub invariant-loop-port : goal.invariant-loop-port
invariant-loop-port l = has_port (map port_of l.ports) l.side l.name ≡ has_port (map port_of (drop l.port-index l.ports)) l.side l.name
