use Rattle.std.proofs.Common.{◌≡◌, false, map, take}
use Rattle.darwin_parser.specs.Tree.{Name}
use Rattle.darwin_types.specs.Faults.{is_repeated}
use Rattle.darwin_types.proofs.names.distinct.Given as goal

abbrev pub invariant-loop-item : goal.invariant-loop-item
invariant-loop-item g l = record {
  indexed : l.index ≡ map g.T.Named.name_of (take l.item-index l.items);
  differ : (x : Name) → is_repeated (map g.T.Named.name_of (take l.item-index l.items)) x ≡ false;
}
