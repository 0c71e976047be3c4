use Rattle.std.proofs.Common.{◌≡◌, drop, map}
use Rattle.std.specs.List.{list_all}
use Rattle.darwin_parser.specs.Tree.{port_of}
use Rattle.darwin_types.specs.Primitive.{ports_of_kind, has_port}
use Rattle.darwin_types.proofs.primitive.has_ports_on.Given as goal

abbrev pub invariant-loop-index : goal.invariant-loop-index
invariant-loop-index l =
    list_all (has_port (map port_of l.ports) l.side) (ports_of_kind l.kind l.side) ≡ list_all (has_port (map port_of l.ports) l.side) (drop l.index (ports_of_kind l.kind l.side))
