use Rattle.std.proofs.Common.{ap}
use Rattle.darwin_parser.specs.Tree.{expr_of}
use Rattle.darwin_walk.proofs.SpineLemmas.{IsSpineAt-push}
use Rattle.darwin_walk.proofs.valuing.spine_of.Goals as goal

pub loop-first-preserved : goal.loop-first-preserved
loop-first-preserved c =
    rw c.deref-first.ensures
    (IsSpineAt-push _ _ _ _ _ (record { op = c.in-Op.op; right = c.deref.result }) c.loop-first.invariant
    (rw c.deref.ensures (ap expr_of c.in-Op.is)) c.in_ok-push.ensures.items)
