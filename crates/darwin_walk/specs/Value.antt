-- To be believed (definitions.md).
-- What expressions are worth. Values are integers from -2,147,483,648 to 2,147,483,647; an operation whose exact
-- result lies outside has no value, nor has a division by 0.
use Rattle.std.specs.Prelude.{Bool, true, false, ◌&&◌, not, ℤ, pos, negsuc, ◌+ℤ◌, ◌-ℤ◌, ◌*ℤ◌, int_lt, int_le, int_div, int_rem, if◌then◌else◌, List, find, bytes_eq, map}
use Rattle.std.specs.List.{zip}
use Rattle.std.specs.Ordering.{int_eq}
use Rattle.std.specs.Option.{option_map_or}
use Rattle.darwin_parser.specs.declared.tree.Op.{Op}
use Rattle.darwin_parser.specs.declared.tree.Op.TheVariants.{Or, And, Eq, Ne, Lt, Le, Gt, Ge, Add, Sub, Mul, Div, Rem}
use Rattle.darwin_parser.specs.Tree.{Name, Expr, num, var, neg, op, Component}

-- what an expression is worth: an integer, or the fault of one of its operations
pub data Value : Type 0 where
  integer : ℤ → Value
  out_of_range : Value
  zero_divisor : Value

-- a parameter or a variable of a `forall`, with its value
pub record Variable : Type 0 where
  pub name : Name
  pub value : ℤ

-- the parameters of an instance and the variables round a statement, from the outermost on
abbrev pub Env : Type 0
Env = List Variable

-- the value of a name; a name that no variable has is 0
abbrev pub value_of_name : Env → Name → ℤ
value_of_name env name = option_map_or (λ v. v.value) (find (λ v. bytes_eq name v.name) env) (pos 0)

-- an exact result, where it is an integer of the language
abbrev pub exact : ℤ → Value
exact z = if int_le (negsuc 2147483647) z && int_le z (pos 2147483647) then integer z else out_of_range

-- a truth as an integer: 1 or 0
abbrev pub truth : Bool → Value
truth true = integer (pos 1)
truth false = integer (pos 0)

-- every integer but 0 is taken as true
abbrev pub is_true : ℤ → Bool
is_true z = not (int_eq z (pos 0))

-- an operation on two integers that needs both. `/` cuts towards zero, `%` has the sign of the left side.
abbrev pub integer_operation : Op → ℤ → ℤ → Value
integer_operation Or x y = truth (is_true y)
integer_operation And x y = truth (is_true y)
integer_operation Eq x y = truth (int_eq x y)
integer_operation Ne x y = truth (not (int_eq x y))
integer_operation Lt x y = truth (int_lt x y)
integer_operation Le x y = truth (int_le x y)
integer_operation Gt x y = truth (int_lt y x)
integer_operation Ge x y = truth (int_le y x)
integer_operation Add x y = exact (x +ℤ y)
integer_operation Sub x y = exact (x -ℤ y)
integer_operation Mul x y = exact (x *ℤ y)
integer_operation Div x y = if int_eq y (pos 0) then zero_divisor else exact (int_div x y)
integer_operation Rem x y = if int_eq y (pos 0) then zero_divisor else exact (int_rem x y)

-- where the left side decides alone: an `or` whose left side is true, an `and` whose left side is not
abbrev pub is_decided : Op → ℤ → Bool
is_decided Or x = is_true x
is_decided And x = not (is_true x)
is_decided _ x = false

abbrev pub on_integer : Value → (ℤ → Value) → Value
on_integer (integer z) f = f z
on_integer out_of_range f = out_of_range
on_integer zero_divisor f = zero_divisor

-- an operation, its left side first; where that decides, the right side is not valued
abbrev pub operation : Op → Value → Value → Value
operation o left right = on_integer left (λ x. if is_decided o x then truth (is_true x) else on_integer right (integer_operation o x))

abbrev pub value : Expr → Env → Value
value (num n) env = exact (pos n)
value (var name) env = integer (value_of_name env name)
value (neg e) env = on_integer (value e env) (λ z. exact (pos 0 -ℤ z))
value (op o left right) env = operation o (value left env) (value right env)

-- the parameters of a component, with the values of an instance's arguments
abbrev pub parameters : Component → List ℤ → Env
parameters c arguments = map (λ p. record { name = p.0; value = p.1 }) (zip c.params arguments)
