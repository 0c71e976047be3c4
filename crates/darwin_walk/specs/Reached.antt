-- To be believed (definitions.md).
-- What is reached in one instance of a component: the expressions that are valued, the turns of `forall`, and the
-- entries of instances and bindings, each with the variables round it. A statement is reached where the variables
-- round it have values of their ranges and each `when` round it is true.
use Rattle.std.specs.Prelude.{ℕ, zero, suc, Bool, false, ℤ, pos, ◌+ℤ◌, cond, List, [], ◌∷◌, ◌++◌, map, sum_by}
use Rattle.std.specs.List.{flat_map}
use Rattle.std.specs.Option.{option_map_or}
use Rattle.std.specs.Int.{int_gap}
use Rattle.darwin_lexer.specs.declared.token.At.{At}
use Rattle.darwin_parser.specs.Tree.{Name, Expr, PortDecl, ArrayDecl, InstEntry, BindEntry, Stmt, inst, bind, forall, when, Stmts, end, then, Component}
use Rattle.darwin_walk.specs.Value.{Value, integer, Env, is_true, value}

pub data Reached : Type 0 where
  -- an expression is valued, for the statement or declaration at the place
  valued : Expr → Env → At → Reached
  -- a `forall` takes a turn
  turn : Reached
  made : InstEntry → Env → Reached
  bound : BindEntry → Env → Reached

-- n integers, from a on
abbrev pub integers_from : ℤ → ℕ → List ℤ
integers_from a zero = []
integers_from a (suc n) = a ∷ integers_from (a +ℤ pos 1) n

-- the integers from a to b; none where b lies below a
abbrev pub integers_to : ℤ → ℤ → List ℤ
integers_to a b = integers_from a (int_gap a (b +ℤ pos 1))

-- the integers of a range
abbrev pub range : Value → Value → List ℤ
range (integer a) (integer b) = integers_to a b
range _ _ = []

-- whether the test of a `when` lets its body be reached
abbrev pub holds : Value → Bool
holds (integer z) = is_true z
holds _ = false

abbrev pub with_variable : Env → Name → ℤ → Env
with_variable env name z = env ++ record { name = name; value = z } ∷ []

abbrev mutual
  pub reached_by : Stmt → Env → List Reached
  reached_by (inst entry) env = made entry env ∷ []
  reached_by (bind entry) env = bound entry env ∷ []
  reached_by (forall name low high body at) env =
      valued low env at ∷ valued high env at
      ∷ flat_map (λ i. turn ∷ reached_in body (with_variable env name i)) (range (value low env) (value high env))
  reached_by (when test body at) env = valued test env at ∷ cond (holds (value test env)) (reached_in body env) []

  pub reached_in : Stmts → Env → List Reached
  reached_in end env = []
  reached_in (then s rest) env = reached_by s env ++ reached_in rest env

-- the size of a port that has one, and of an array: valued once an instance, whether it is used or not
abbrev pub port_size : Env → PortDecl → List Reached
port_size env p = option_map_or (λ size. valued size env p.at ∷ []) p.size []

abbrev pub array_size : Env → ArrayDecl → Reached
array_size env a = valued a.size env a.at

-- all that is reached in an instance of the component whose parameters have these values
abbrev pub reached_in_component : Component → Env → List Reached
reached_in_component c env = flat_map (port_size env) c.ports ++ map (array_size env) c.arrays ++ reached_in c.body env

-- one for each turn and each reached entry
abbrev pub weight : Reached → ℕ
weight (valued _ _ _) = 0
weight turn = 1
weight (made _ _) = 1
weight (bound _ _) = 1

abbrev pub count : Component → Env → ℕ
count c env = sum_by weight (reached_in_component c env)

-- what the turns of a `forall` over these integers reach
abbrev pub turns : Stmts → Env → Name → List ℤ → List Reached
turns body env name = flat_map (λ i. turn ∷ reached_in body (with_variable env name i))
