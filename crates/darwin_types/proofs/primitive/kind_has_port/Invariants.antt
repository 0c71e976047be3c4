use Rattle.std.proofs.Common.{◌≡◌, drop}
use Rattle.darwin_types.specs.Scope.{has}
use Rattle.darwin_types.specs.Primitive.{ports_of_kind}
use Rattle.darwin_types.proofs.primitive.kind_has_port.Given as goal

abbrev pub invariant-loop-index : goal.invariant-loop-index
invariant-loop-index l = has (ports_of_kind l.kind l.side) l.name ≡ has (drop l.index (ports_of_kind l.kind l.side)) l.name
