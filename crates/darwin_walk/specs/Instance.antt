-- To be believed (definitions.md).
-- What one instance of a component gives by what is reached in it: the instances that its entries make, its bindings
-- with the values of their indexes, and its faults.
use Rattle.std.specs.Prelude.{◌&&◌, ℤ, pos, int_le, int_lt, List, [], ◌∷◌, ◌++◌, map, Option, Some, None, option_map, option_and_then, if◌then◌else◌}
use Rattle.std.specs.Option.{option_map_or}
use Rattle.std.specs.List.{flat_map}
use Rattle.darwin_lexer.specs.declared.token.At.{At}
use Rattle.darwin_types.specs.Scope.{array_named}
use Rattle.darwin_parser.specs.Tree.{Name, Expr, ArrayDecl, PortRef, Component}
use Rattle.darwin_parser.specs.Tree.InstEntry.{single, element}
use Rattle.darwin_walk.specs.Value.{Value, integer, out_of_range, zero_divisor, Env, value}
use Rattle.darwin_walk.specs.Reached.{Reached, valued, turn, made, bound, reached_in_component}
use Rattle.darwin_walk.specs.declared.fault.Fault.{Fault}
use Rattle.darwin_walk.specs.declared.fault.Fault.TheVariants.{OutOfRange, ZeroDivisor, BadIndex}

-- the integers, where every value is one
abbrev pub integers : List Value → Option (List ℤ)
integers [] = Some []
integers (integer z ∷ rest) = option_map (λ zs. z ∷ zs) (integers rest)
integers (_ ∷ rest) = None

-- ---- instances

-- an instance within another: a single one, or an element of an array
pub record Segment : Type 0 where
  pub name : Name
  pub index : Option ℤ

-- the instance that a reached entry makes; it has no arguments where one of them has no value
pub record Child : Type 0 where
  pub segment : Segment
  pub component : Name
  pub arguments : Option (List ℤ)
  pub at : At

abbrev pub values : List Expr → Env → List Value
values es env = map (λ e. value e env) es

-- the values of the arguments of an element: those of its own list, an empty one too, with all variables in sight,
-- and else those of the array's, which see the parameters alone
abbrev pub element_arguments : Env → ArrayDecl → Option (List Expr) → Env → List Value
element_arguments parameters array (Some args) env = values args env
element_arguments parameters array None env = option_map_or (λ args. values args parameters) array.args []

-- the element that an index names, where it has a value: also one that the array doesn't have
abbrev pub element_child : Option ArrayDecl → Value → (ArrayDecl → List Value) → At → List Child
element_child (Some array) (integer i) arguments at =
    record {
      segment = record { name = array.name; index = Some i };
      component = array.component;
      arguments = integers (arguments array);
      at = at;
    } ∷ []
element_child _ _ arguments at = []

abbrev pub children_of : Component → Env → Reached → List Child
children_of c parameters (made (single name component args at) env) =
    record {
      segment = record { name = name; index = None };
      component = component;
      arguments = integers (values args env);
      at = at;
    } ∷ []
children_of c parameters (made (element name index args at) env) =
    element_child (array_named c name) (value index env) (λ array. element_arguments parameters array args env) at
children_of c parameters _ = []

-- the instances that the reached entries make, in order
abbrev pub children : Component → Env → List Child
children c parameters = flat_map (children_of c parameters) (reached_in_component c parameters)

-- ---- bindings

-- an end of a binding: a port of an instance within, or of the instance itself
pub record End : Type 0 where
  pub inner : Option Segment
  pub port : Name
  pub index : Option ℤ

pub record Binding : Type 0 where
  pub left : End
  pub right : End
  pub at : At

-- an index that may be left out; none where it has no value
abbrev pub index_value : Option Expr → Env → Option (Option ℤ)
index_value None env = Some None
index_value (Some e) env = some_integer (value e env)
  where
    some_integer : Value → Option (Option ℤ)
    some_integer (integer z) = Some (Some z)
    some_integer _ = None

abbrev pub inner_value : Option Name → Option Expr → Env → Option (Option Segment)
inner_value None i env = Some None
inner_value (Some name) i env = option_map (λ index. Some (record { name = name; index = index })) (index_value i env)

abbrev pub end_value : PortRef → Env → Option End
end_value e env =
    option_and_then
    (λ inner. option_map (λ index. record { inner = inner; port = e.port; index = index }) (index_value e.port_index env))
    (inner_value e.inst e.inst_index env)

abbrev pub bindings_of : Reached → List Binding
bindings_of (bound b env) = both (end_value b.left env) (end_value b.right env)
  where
    both : Option End → Option End → List Binding
    both (Some left) (Some right) = record { left = left; right = right; at = b.at } ∷ []
    both _ _ = []
bindings_of _ = []

-- the bindings that are reached, in order, with the values of their indexes
abbrev pub bindings : Component → Env → List Binding
bindings c parameters = flat_map bindings_of (reached_in_component c parameters)

-- the sizes of the ports, in order, for those that have one; none where it has no value
abbrev pub port_sizes : Component → Env → List (Option (Option ℤ))
port_sizes c parameters = map (λ p. index_value p.size parameters) c.ports

-- ---- faults

abbrev pub value_fault : At → Value → List Fault
value_fault at (integer z) = []
value_fault at out_of_range = OutOfRange at ∷ []
value_fault at zero_divisor = ZeroDivisor at ∷ []

-- an index that isn't from 0 to the size less 1
abbrev pub index_fault : At → Value → Value → List Fault
index_fault at (integer size) (integer i) = if int_le (pos 0) i && int_lt i size then [] else BadIndex at ∷ []
index_fault at _ _ = []

-- the faults of an index of an instance: that it has no value, or that it isn't one of the array of the name
abbrev pub element_index_faults : Component → Env → Name → At → Value → List Fault
element_index_faults c parameters name at i =
    value_fault at i ++ option_map_or (λ array. index_fault at (value array.size parameters) i) (array_named c name) []

abbrev pub inner_index_faults : Component → Env → At → Option Name → Option Expr → Env → List Fault
inner_index_faults c parameters at (Some name) (Some i) env = element_index_faults c parameters name at (value i env)
inner_index_faults c parameters at _ _ env = []

abbrev pub end_index_faults : Component → Env → At → PortRef → Env → List Fault
end_index_faults c parameters at e env =
    inner_index_faults c parameters at e.inst e.inst_index env ++ option_map_or (λ i. value_fault at (value i env)) e.port_index []

abbrev pub faults_of : Component → Env → Reached → List Fault
faults_of c parameters (valued e env at) = value_fault at (value e env)
faults_of c parameters turn = []
faults_of c parameters (made (single name component args at) env) = flat_map (value_fault at) (values args env)
faults_of c parameters (made (element name index args at) env) =
    element_index_faults c parameters name at (value index env)
    ++ option_map_or (λ array. flat_map (value_fault at) (element_arguments parameters array args env)) (array_named c name) []
faults_of c parameters (bound b env) = end_index_faults c parameters b.at b.left env ++ end_index_faults c parameters b.at b.right env

-- the faults of an instance, as far as it shows them by itself
abbrev pub instance_faults : Component → Env → List Fault
instance_faults c parameters = flat_map (faults_of c parameters) (reached_in_component c parameters)
