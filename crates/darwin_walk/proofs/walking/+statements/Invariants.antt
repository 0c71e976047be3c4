use Rattle.std.proofs.Common.{◌≡◌, ◌+◌, ◌*◌, drop, length, Result}
use Rattle.darwin_parser.specs.Tree.{stmt_of, stmts_of}
use Rattle.darwin_walk.specs.Environment.{env_at}
use Rattle.darwin_walk.specs.Reached.{integers_to, turns, reached_in}
use Rattle.darwin_walk.specs.Scope.{Walks}
use Rattle.darwin_walk.specs.declared.walked.Walked.{Walked}
use Rattle.darwin_walk.specs.declared.fault.WalkError.{WalkError}
use Rattle.darwin_walk.proofs.Sizes.{stmt_size, stmts_size}
use Rattle.darwin_walk.proofs.walking.+statements.Given as goal

-- what is told of the statements that are left, is told of all
abbrev pub invariant-statements-loop-stmt : goal.invariant-statements-loop-stmt
invariant-statements-loop-stmt l =
    (new : Walked) (r : Result (Unit {0}) WalkError)
    → Walks l.scope (reached_in (stmts_of (drop l.stmt-index l.body)) (env_at l.env)) l.walked new r
    → Walks l.scope (reached_in (stmts_of l.body) (env_at l.env)) l.fn.walked new r

-- what is told of the turns that are left, is told of all
abbrev pub invariant-turn_all-loop-value : goal.invariant-turn_all-loop-value
invariant-turn_all-loop-value l =
    record {
      rest :
          (new : Walked) (r : Result (Unit {0}) WalkError)
          → Walks l.scope (turns (stmts_of l.body) (env_at l.env) l.name (integers_to l.left.low l.left.high)) l.walked new r
          → Walks l.scope (turns (stmts_of l.body) (env_at l.env) l.name (integers_to l.fn.left.low l.fn.left.high)) l.fn.walked new r;
      same : l.variables.items ≡ l.env.variables.now;
    }

abbrev pub decreases-turn_all-loop-value : goal.decreases-turn_all-loop-value
decreases-turn_all-loop-value l = length (integers_to l.left.low l.left.high)

abbrev pub decreases-statements : goal.decreases-statements
decreases-statements l = 2 * stmts_size (stmts_of l.body.now)

abbrev pub decreases-statement : goal.decreases-statement
decreases-statement l = 2 * stmt_size (stmt_of l.stmt.now)

abbrev pub decreases-turn_all : goal.decreases-turn_all
decreases-turn_all l = 2 * stmts_size (stmts_of l.body.now) + 1

abbrev pub decreases-when : goal.decreases-when
decreases-when l = 2 * stmts_size (stmts_of l.body.now) + 1
