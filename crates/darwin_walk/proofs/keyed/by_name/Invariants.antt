use Rattle.std.proofs.Common.{◌≡◌, find, bytes_eq, length}
use Rattle.std.specs.Option.{option_or}
use Rattle.std.specs.Map.{lookup}
use Rattle.darwin_parser.specs.Tree.{Name}
use Rattle.darwin_walk.proofs.keyed.by_name.Given as goal

-- what is left comes before what is indexed
abbrev pub invariant-loop-item : goal.invariant-loop-item
invariant-loop-item g l =
    (name : Name)
    → find (λ x. bytes_eq name (g.T.Keyed.name_of x)) l.items
    ≡ option_or (find (λ x. bytes_eq name (g.T.Keyed.name_of x)) l.left) (lookup (λ k. bytes_eq name k.now) l.index.entries)

abbrev pub decreases-loop-item : goal.decreases-loop-item
decreases-loop-item g l = length l.left
