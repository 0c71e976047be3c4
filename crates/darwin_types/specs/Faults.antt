-- To be believed (definitions.md).
-- The faults of a description: names that stand for two things or for nothing, and arguments too few or too many.
-- Values (parameters and the variables of `forall`s), ports, and instances with arrays are three classes of names.
use Rattle.std.specs.Prelude.{◌≡◌, ◌≢◌, ℕ, Bool, true, false, List, Option, Some, None, Contains, map, count_by, length, min, nat_le, bytes_eq, IsSome}
use Rattle.darwin_lexer.specs.declared.token.At.{At}
use Rattle.darwin_parser.specs.Tree.{Name, Tree, Component, InstEntry, PortRef, Expr}
use Rattle.darwin_parser.specs.Tree.InstEntry.{element}
use Rattle.darwin_types.specs.declared.error.TypeError.{TypeError}
use Rattle.darwin_types.specs.declared.error.TypeError.TheVariants.{TwoComponents, TwoNames, UnknownName, UnknownComponent, ArgCount, UnknownKind, KindPorts}
use Rattle.darwin_types.specs.Scope.{has, component_named, entries_of, is_primitive, port_named, array_named, singles_of, instances_of, instance_component, Instantiation, made_by}
use Rattle.config_graph.specs.declared.kind.Kind.{Kind}
use Rattle.config_graph.specs.Kinds.{kind_named}
use Rattle.darwin_types.specs.Primitive.{is_like_kind}
use Rattle.darwin_types.specs.NameUses.{value, variable, binding_end, names_of, name_uses}

-- whether two of the names are this one
abbrev pub is_repeated : List Name → Name → Bool
is_repeated names name = nat_le 2 (count_by (bytes_eq name) names)

-- a number as a fault carries it
abbrev pub carried : ℕ → ℕ
carried n = min n 4_294_967_295

-- the faults that stand in a component of a description
pub data FaultIn (t : Tree) (c : Component) : TypeError → Type 0 where
  two_params : (x : Name) → is_repeated c.params x ≡ true → FaultIn t c (TwoNames c.name x)
  two_ports : (x : Name) → is_repeated (map (λ p. p.name) c.ports) x ≡ true → FaultIn t c (TwoNames c.name x)
  two_arrays : (x : Name) → is_repeated (map (λ a. a.name) c.arrays) x ≡ true → FaultIn t c (TwoNames c.name x)
  array_and_single : (x k : Name) → Contains (singles_of c) (x, k) → IsSome (array_named c x) → FaultIn t c (TwoNames c.name x)
  -- one name may be declared by several single entries of the same component
  two_singles : (x k l : Name) → Contains (singles_of c) (x, k) → Contains (singles_of c) (x, l) → k ≢ l → FaultIn t c (TwoNames c.name x)
  two_values : (scope : List Name) (x : Name) → Contains (name_uses c) (variable scope x) → has scope x ≡ true
      → FaultIn t c (TwoNames c.name x)
  unknown_value : (scope : List Name) (e : Expr) (x : Name) → Contains (name_uses c) (value scope e)
      → Contains (names_of e) x → has scope x ≡ false → FaultIn t c (UnknownName c.name x)
  unknown_array : (x : Name) (index : Expr) (args : Option (List Expr)) (at : At)
      → Contains (entries_of c.body) (element x index args at) → array_named c x ≡ None
      → FaultIn t c (UnknownName c.name x)
  unknown_instance : (e : PortRef) (x : Name) → Contains (name_uses c) (binding_end e) → e.inst ≡ Some x
      → instance_component c x ≡ None → FaultIn t c (UnknownName c.name x)
  unknown_inner_port : (e : PortRef) (x k : Name) (d : Component) → Contains (name_uses c) (binding_end e)
      → e.inst ≡ Some x → instance_component c x ≡ Some k → component_named t k ≡ Some d → port_named d e.port ≡ None
      → FaultIn t c (UnknownName c.name e.port)
  unknown_outer_port : (e : PortRef) → Contains (name_uses c) (binding_end e) → e.inst ≡ None
      → port_named c e.port ≡ None → FaultIn t c (UnknownName c.name e.port)
  unknown_component : (x k : Name) → Contains (instances_of c) (x, k) → component_named t k ≡ None → FaultIn t c (UnknownComponent c.name k)
  arg_count : (e : InstEntry) (m : Instantiation) (d : Component) → Contains (entries_of c.body) e
      → made_by c e ≡ Some m → component_named t m.component ≡ Some d → length m.args ≢ length d.params
      → FaultIn t c (ArgCount c.name m.name (carried (length d.params)) (carried (length m.args)))
  unknown_kind : is_primitive c ≡ true → kind_named c.name ≡ None → FaultIn t c (UnknownKind c.name)
  kind_ports : (k : Kind) → is_primitive c ≡ true → kind_named c.name ≡ Some k → is_like_kind k c ≡ false → FaultIn t c (KindPorts c.name)

-- the faults that stand in a description
pub data HasFault (t : Tree) : TypeError → Type 0 where
  two_components : (x : Name) → is_repeated (map (λ c. c.name) t) x ≡ true → HasFault t (TwoComponents x)
  within : (c : Component) (e : TypeError) → Contains t c → FaultIn t c e → HasFault t e

-- no fault stands in the description
abbrev pub NoFault : Tree → Type 0
NoFault t = (e : TypeError) → HasFault t e → ⊥
