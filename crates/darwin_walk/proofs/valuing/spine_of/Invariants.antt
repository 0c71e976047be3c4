use Rattle.darwin_parser.specs.Tree.{expr_of}
use Rattle.darwin_walk.specs.Spine.{IsSpineAt}
use Rattle.darwin_walk.proofs.valuing.spine_of.Given as goal

abbrev pub invariant-loop-first : goal.invariant-loop-first
invariant-loop-first l = IsSpineAt (expr_of l.expr) (expr_of l.first) l.pending.items
