-- What is reached in an instance, as the language says it: a statement is reached where the variables round it have
-- integers of their ranges and each `when` round it is true.
use Rattle.std.specs.Prelude.{◌≡◌, ◌≢◌, ℤ, pos, ◌≤ℤ◌, List, [], ◌∷◌, map, Contains}
use Rattle.darwin_lexer.specs.declared.token.At.{At}
use Rattle.darwin_parser.specs.Tree.{Name, Expr, Stmt, inst, bind, forall, when, Stmts, then}
use Rattle.darwin_walk.specs.Value.{Env, integer, value}
use Rattle.darwin_walk.specs.Reached.{Reached, valued, turn, made, bound, range, with_variable}

-- statement s is reached, with the variables `at` round it, where these statements are reached with the variables `env`
pub data Reaches (s : Stmt) (at : Env) : Stmts → Env → Type 0 where
  here : (rest : Stmts) → Reaches s at (then s rest) at
  later : (first : Stmt) (rest : Stmts) (env : Env) → Reaches s at rest env → Reaches s at (then first rest) env
  in_turn :
      (name : Name) (low high : Expr) (body : Stmts) (place : At) (rest : Stmts) (env : Env) (a b i : ℤ)
      → value low env ≡ integer a → value high env ≡ integer b → a ≤ℤ i → i ≤ℤ b
      → Reaches s at body (with_variable env name i) → Reaches s at (then (forall name low high body place) rest) env
  in_when :
      (test : Expr) (body : Stmts) (place : At) (rest : Stmts) (env : Env) (z : ℤ)
      → value test env ≡ integer z → z ≢ pos 0 → Reaches s at body env → Reaches s at (then (when test body place) rest) env

-- what a reached statement is by itself: a `forall` has its ends valued, and takes a turn for each integer of its range
abbrev pub reached_at : Stmt → Env → List Reached
reached_at (inst entry) env = made entry env ∷ []
reached_at (bind entry) env = bound entry env ∷ []
reached_at (forall name low high body place) env =
    valued low env place ∷ valued high env place ∷ map (λ i. turn) (range (value low env) (value high env))
reached_at (when test body place) env = valued test env place ∷ []

-- it is reached with one of these statements
pub record ReachedIn (body : Stmts) (env : Env) (r : Reached) : Type 0 where
  pub statement : Stmt
  pub variables : Env
  pub reaches : Reaches statement variables body env
  pub there : Contains (reached_at statement variables) r
