-- What the statements of an instance see, as the definitions speak of it.
use Rattle.std.specs.Prelude.{◌≡◌, List, map, Some, None, bytes_eq, MatchOption, FitsSigned, ◌+◌, ◌<◌, [], ◌∷◌, Option, option_map, Result, sum_by}
use Rattle.std.specs.List.{flat_map}
use Rattle.std.specs.Map.{lookup}
use Rattle.std.specs.Option.{option_map_or, option_to_list}
use Rattle.std.specs.Int.{w32}
use Rattle.darwin_parser.specs.declared.tree.Expr as code_expr
use Rattle.darwin_parser.specs.Tree.{Name, Expr, PortDecl, ArrayDecl, Component, expr_of, array_of, component_of}
use Rattle.darwin_types.specs.Scope.{array_named}
use Rattle.darwin_walk.specs.Value.{Value, Env, value, integer}
use Rattle.darwin_walk.specs.Environment.{env_at}
use Rattle.darwin_walk.specs.Reached.{Reached, weight}
use Rattle.darwin_walk.specs.Instance.{children_of, bindings_of, value_fault, faults_of}
use Rattle.darwin_walk.specs.Walked.{JudgesPart, Adds, child_of, binding_of}
use Rattle.darwin_walk.specs.declared.fault.Fault.{Fault}
use Rattle.darwin_walk.specs.declared.fault.WalkError.{WalkError}
use Rattle.darwin_walk.specs.declared.walked.Child as code_child
use Rattle.darwin_walk.specs.declared.walked.Binding as code_binding
use Rattle.darwin_walk.specs.declared.walked.Walked.{Walked}
use Rattle.darwin_walk.specs.declared.scope.Array.{Array}
use Rattle.darwin_walk.specs.declared.scope.ElementIndex.{ElementIndex}
use Rattle.darwin_walk.specs.declared.scope.Scope.{Scope}

abbrev pub exprs_of : List code_expr.Expr → List Expr
exprs_of = map expr_of

-- the instance, as the definitions speak of it
abbrev pub component_at : Scope → Component
component_at s = component_of s.component.now

abbrev pub parameters_at : Scope → Env
parameters_at s = env_at s.parameters.now

-- the array has this size
abbrev pub HasSize : Env → Array → Type 0
HasSize parameters a = value (expr_of a.decl.now.size) parameters ≡ integer a.size

-- the faults of the sizes of ports and of arrays
abbrev pub port_size_faults : Env → List PortDecl → List Fault
port_size_faults parameters = flat_map (λ p. option_map_or (λ e. value_fault p.at (value e parameters)) p.size [])

abbrev pub array_size_faults : Env → List ArrayDecl → List Fault
array_size_faults parameters = flat_map (λ a. value_fault a.at (value a.size parameters))

-- the array of a name
pub record IsArray (s : Scope) (name : Name) (a : Array) : Type 0 where
  pub is_named : array_named (component_at s) name ≡ Some (array_of a.decl.now)
  pub is_size : HasSize (parameters_at s) a

-- what a name finds is the array of the name, where there is one
abbrev pub ArrayAt : Scope → Name → Option Array → Type 0
ArrayAt s name a = MatchOption a (array_named (component_at s) name ≡ None) (λ a. IsArray s name a)

-- the arrays are found by their names
abbrev pub IsScope : Scope → Type 0
IsScope s = (name : Name) → ArrayAt s name (lookup (λ k. bytes_eq name k.now) s.arrays.now.entries)

-- an index of this value, in the array of the name where there is one
pub record IsElementIndex (s : Scope) (name : Name) (v : Value) (p : ElementIndex) : Type 0 where
  pub is_index : v ≡ integer p.index
  pub fits : FitsSigned w32 p.index
  pub is_array : ArrayAt s name p.array

-- an answer gives the instance that an entry makes, if it makes one
abbrev pub Makes : Scope → Reached → Result (Option code_child.Child) WalkError → Type 0
Makes s entry =
    JudgesPart (faults_of (component_at s) (parameters_at s) entry) ⊥
    (λ child. children_of (component_at s) (parameters_at s) entry ≡ option_to_list (option_map child_of child))

-- an answer gives the binding of an entry
abbrev pub Binds : Scope → Reached → Result code_binding.Binding WalkError → Type 0
Binds s entry =
    JudgesPart (faults_of (component_at s) (parameters_at s) entry) ⊥ (λ b. bindings_of entry ≡ binding_of b ∷ [])

-- an answer tells of all this that is reached, and has added it where it has no fault
abbrev pub Walks : Scope → List Reached → Walked → Walked → Result (Unit {0}) WalkError → Type 0
Walks s more old new =
    JudgesPart (flat_map (faults_of (component_at s) (parameters_at s)) more) (s.room < old.count + sum_by weight more)
    (λ _. Adds (component_at s) (parameters_at s) s.room more old new)
