-- How the code's answers and values stand for those of the definitions, and a chain of operations as it is gone
-- through.
use Rattle.std.specs.Prelude.{◌≡◌, ℕ, ◌+◌, ◌≤◌, ℤ, List, [], ◌∷◌, map, sum_by, Result, Ok, Err, IfOk, FitsSigned}
use Rattle.std.specs.Int.{w32}
use Rattle.darwin_parser.specs.Tree.{Expr, num, var, neg, op, expr_of}
use Rattle.darwin_walk.specs.Value.{Value, integer, out_of_range, zero_divisor, Env, operation, value}
use Rattle.darwin_walk.specs.declared.valuing.Variable as code
use Rattle.darwin_walk.specs.declared.valuing.Pending.{Pending}
use Rattle.darwin_walk.specs.declared.valuing.Spine.{Spine}
use Rattle.darwin_walk.specs.declared.valuing.ValueError.{ValueError}
use Rattle.darwin_walk.specs.declared.valuing.ValueError.TheVariants.{OutOfRange, ZeroDivisor, NoMemory}

abbrev pub env_of : List code.Variable → Env
env_of = map (λ v. record { name = v.name.now; value = v.value })

-- an answer says what an expression is worth; one for want of memory says nothing
abbrev pub Says : Result ℤ ValueError → Value → Type 0
Says (Ok z) v = v ≡ integer z
Says (Err OutOfRange) v = v ≡ out_of_range
Says (Err ZeroDivisor) v = v ≡ zero_divisor
Says (Err NoMemory) v = Unit {0}

-- no operation on two sides
abbrev pub IsOperand : Expr → Type 0
IsOperand (op o a b) = ⊥
IsOperand _ = Unit {0}

-- what the operations of a chain, the outermost first, make of the value at its left end
abbrev pub climbed : Env → List Pending → Value → Value
climbed env [] v = v
climbed env (p ∷ rest) v = operation p.op (climbed env rest v) (value (expr_of p.right.now) env)

-- the number of operations and operands
abbrev pub expr_size : Expr → ℕ
expr_size (num n) = 1
expr_size (var x) = 1
expr_size (neg e) = expr_size e + 1
expr_size (op o a b) = expr_size a + expr_size b + 1

abbrev pub pending_size : List Pending → ℕ
pending_size = sum_by (λ p. expr_size (expr_of p.right.now) + 1)

-- the operations make an expression of the one at its left end: its value is theirs, and they are smaller than it
pub record IsSpineAt (e first : Expr) (pending : List Pending) : Type 0 where
  pub is_value : (env : Env) → value e env ≡ climbed env pending (value first env)
  pub is_size : expr_size first + pending_size pending ≤ expr_size e

pub record IsSpine (e : Expr) (s : Spine) : Type 0 where
  pub is_operand : IsOperand (expr_of s.first.now)
  pub parts : IsSpineAt e (expr_of s.first.now) s.pending.items

-- on the way back up: the operations that are left make the value of an expression from the one that is at hand
pub record IsClimbing (e : Expr) (env : Env) (pending : List Pending) (total : Result ℤ ValueError) : Type 0 where
  pub at_hand : Value
  pub says : Says total at_hand
  pub fits : IfOk total (λ z. FitsSigned w32 z)
  pub is_value : value e env ≡ climbed env pending at_hand
  pub is_size : pending_size pending ≤ expr_size e
