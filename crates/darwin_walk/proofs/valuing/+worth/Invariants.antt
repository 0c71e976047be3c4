use Rattle.std.proofs.Common.{◌+◌, ◌*◌, vec_len}
use Rattle.darwin_parser.specs.Tree.{expr_of}
use Rattle.darwin_walk.specs.Environment.{env_at}
use Rattle.darwin_walk.specs.Spine.{expr_size, IsClimbing}
use Rattle.darwin_walk.proofs.valuing.+worth.Given as goal

-- the operations that are left make the value of the whole from the one at hand, and are smaller than it
abbrev pub invariant-worth-loop-next : goal.invariant-worth-loop-next
invariant-worth-loop-next l = IsClimbing (expr_of l.expr) (env_at l.env) l.spine.pending.items l.total

abbrev pub decreases-worth-loop-next : goal.decreases-worth-loop-next
decreases-worth-loop-next l = vec_len l.spine.pending

abbrev pub decreases-worth : goal.decreases-worth
decreases-worth l = 2 * expr_size (expr_of l.expr.now) + 1

abbrev pub decreases-operand : goal.decreases-operand
decreases-operand l = 2 * expr_size (expr_of l.expr.now)

abbrev pub decreases-operation_on : goal.decreases-operation_on
decreases-operation_on l = 2 * expr_size (expr_of l.right.now) + 2
