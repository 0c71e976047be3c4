-- The faults that values and indexes show in an instance, and in the same instance of a description in another order.
use Rattle.std.proofs.Common.{◌≡◌, ◌∙◌, ℕ, arith, ℤ, Bool, true, false, ◌&&◌, not, List, [], ◌∷◌, ◌++◌, map, Option, Some, None, refl, ap, sym, subst, inl, inr}
use Rattle.std.specs.Prelude.{if◌then◌else◌}
use Rattle.std.specs.List.{Contains, flat_map, list_all}
use Rattle.std.specs.Option.{option_map_or}
use Rattle.std.proofs.lemmas.List.{map-append}
use Rattle.std.proofs.lemmas.List.Elements.{Contains-append_left, Contains-append_right, Contains-append_cases}
use Rattle.darwin_lexer.specs.declared.token.At.{At}
use Rattle.darwin_parser.specs.Tree.{Name, Tree, Expr, ArrayDecl, PortRef, InstEntry, Component}
use Rattle.darwin_types.specs.Scope.{component_named, array_named, is_primitive}
use Rattle.darwin_walk.specs.Value.{Env, Value, integer, out_of_range, zero_divisor, value}
use Rattle.darwin_walk.specs.Reached.{Reached, made, reached_in_component}
use Rattle.darwin_walk.specs.Instance.{Child, children, End, Binding, values, element_arguments, value_fault, index_fault, element_index_faults, inner_index_faults, end_index_faults, faults_of, instance_faults}
use Rattle.darwin_walk.specs.declared.fault.Fault.{Fault}
use Rattle.darwin_walk.specs.declared.fault.Fault.TheVariants.{OutOfRange, ZeroDivisor, BadIndex}
use Rattle.elaborator.specs.Instances.{Instance, is_expanded, Inst}
use Rattle.elaborator.specs.Bindings.{NamedPort, resolve, bindings_in}
use Rattle.elaborator.specs.Faults.{is_kind_argument, kind_argument_faults, port_index_faults, own_faults, faults_in}
use Rattle.elaborator_laws.specs.Reordering.{SameArray, SameEntry, same_single, same_element}
use Rattle.elaborator_laws.proofs.Finding.{Both, neither, both_there}
use Rattle.elaborator_laws.proofs.Reorders.{comes_of}
use Rattle.elaborator_laws.proofs.Statements.{SameReached, same_valued, same_turn, same_made, same_bound, same_reached-trans}
use Rattle.elaborator_laws.proofs.Children.{Alike, AlikeTrees, alike_trees-sym, is_primitive-same, reached-alike, arguments-same, SameChild, same_child-trans, children-same, SameBound}
use Rattle.elaborator_laws.proofs.Instances.{SameInstance, is_expanded-same}
use Rattle.elaborator_laws.proofs.Joining.{Setting, SameNamed, resolve-same, bindings_in-like}
use Rattle.base.proofs.ContainsLaws.{Contains-flat_map, Contains-from_flat_map, Contains-from_map, Contains-map, Contains-nil}

-- the fault at this place
abbrev pub moved : At → Fault → Fault
moved o (OutOfRange at) = OutOfRange o
moved o (ZeroDivisor at) = ZeroDivisor o
moved o (BadIndex at) = BadIndex o

-- the same faults at any places
abbrev SameFaults : At → List Fault → List Fault → Type 0
SameFaults o fs others = map (moved o) fs ≡ map (moved o) others

joined : (o : At) (fs fs' gs gs' : List Fault) → SameFaults o fs fs' → SameFaults o gs gs' → SameFaults o (fs ++ gs) (fs' ++ gs')
joined o fs fs' gs gs' same same' =
    map-append (moved o) fs gs ∙ ap (λ zs. zs ++ map (moved o) gs) same ∙ ap (λ zs. map (moved o) fs' ++ zs) same' ∙ sym (map-append (moved o) fs' gs')

value_fault-same : (o at at' : At) (v : Value) → SameFaults o (value_fault at v) (value_fault at' v)
value_fault-same o at at' (integer z) = refl
value_fault-same o at at' out_of_range = refl
value_fault-same o at at' zero_divisor = refl

values-same : (o at at' : At) (vs : List Value) → SameFaults o (flat_map (value_fault at) vs) (flat_map (value_fault at') vs)
values-same o at at' [] = refl
values-same o at at' (v ∷ vs) =
    joined o (value_fault at v) (value_fault at' v) (flat_map (value_fault at) vs) (flat_map (value_fault at') vs) (value_fault-same o at at' v) (values-same o at at' vs)

tested : (o at at' : At) (b : Bool) → SameFaults o (if b then [] else BadIndex at ∷ []) (if b then [] else BadIndex at' ∷ [])
tested o at at' true = refl
tested o at at' false = refl

index_fault-same : (o at at' : At) (s i : Value) → SameFaults o (index_fault at s i) (index_fault at' s i)
index_fault-same o at at' (integer s) (integer i) = tested o at at' _
index_fault-same o at at' (integer s) out_of_range = refl
index_fault-same o at at' (integer s) zero_divisor = refl
index_fault-same o at at' out_of_range i = refl
index_fault-same o at at' zero_divisor i = refl

array_index-same :
    (o at at' : At) (par : Env) (i : Value) (a b : Option ArrayDecl) → Both SameArray a b
    → SameFaults o (option_map_or (λ array. index_fault at (value array.size par) i) a []) (option_map_or (λ array. index_fault at' (value array.size par) i) b [])
array_index-same o at at' par i _ _ neither = refl
array_index-same o at at' par i _ _ (both_there x y same) =
    subst (λ e. SameFaults o (index_fault at (value x.size par) i) (index_fault at' (value e par) i)) same.size (index_fault-same o at at' (value x.size par) i)

element_faults-same :
    (o : At) (c d : Component) → Alike c d → (par : Env) (name : Name) (at at' : At) (i : Value) → SameFaults o (element_index_faults c par name at i) (element_index_faults d par name at' i)
element_faults-same o c d same par name at at' i =
    joined o (value_fault at i) (value_fault at' i) _ _ (value_fault-same o at at' i)
    (array_index-same o at at' par i (array_named c name) (array_named d name) (same.array name))

inner_faults-same :
    (o : At) (c d : Component) → Alike c d → (par : Env) (at at' : At) (name : Option Name) (i : Option Expr) (env : Env)
    → SameFaults o (inner_index_faults c par at name i env) (inner_index_faults d par at' name i env)
inner_faults-same o c d same par at at' (Some name) (Some i) env = element_faults-same o c d same par name at at' (value i env)
inner_faults-same o c d same par at at' (Some name) None env = refl
inner_faults-same o c d same par at at' None i env = refl

port_index-same :
    (o at at' : At) (env : Env) (i : Option Expr) → SameFaults o (option_map_or (λ i. value_fault at (value i env)) i []) (option_map_or (λ i. value_fault at' (value i env)) i [])
port_index-same o at at' env None = refl
port_index-same o at at' env (Some i) = value_fault-same o at at' (value i env)

end_faults-same :
    (o : At) (c d : Component) → Alike c d → (par : Env) (at at' : At) (e : PortRef) (env : Env) → SameFaults o (end_index_faults c par at e env) (end_index_faults d par at' e env)
end_faults-same o c d same par at at' e env =
    joined o (inner_index_faults c par at e.inst e.inst_index env) (inner_index_faults d par at' e.inst e.inst_index env) _ _
    (inner_faults-same o c d same par at at' e.inst e.inst_index env) (port_index-same o at at' env e.port_index)

element_values-same :
    (o at at' : At) (par env : Env) (args : Option (List Expr)) (a b : Option ArrayDecl) → Both SameArray a b
    → SameFaults o (option_map_or (λ array. flat_map (value_fault at) (element_arguments par array args env)) a [])
    (option_map_or (λ array. flat_map (value_fault at') (element_arguments par array args env)) b [])
element_values-same o at at' par env args _ _ neither = refl
element_values-same o at at' par env args _ _ (both_there x y same) =
    subst (λ vs. SameFaults o (flat_map (value_fault at) (element_arguments par x args env)) (flat_map (value_fault at') vs)) (arguments-same par env x y args same)
    (values-same o at at' (element_arguments par x args env))

entry_faults-same :
    (o : At) (c d : Component) → Alike c d → (par env : Env) (e e' : InstEntry) → SameEntry e e' → SameFaults o (faults_of c par (made e env)) (faults_of d par (made e' env))
entry_faults-same o c d same par env _ _ (same_single name component args at at') = values-same o at at' (values args env)
entry_faults-same o c d same par env _ _ (same_element array index args at at') =
    joined o (element_index_faults c par array at (value index env)) (element_index_faults d par array at' (value index env)) _ _
    (element_faults-same o c d same par array at at' (value index env))
    (element_values-same o at at' par env args (array_named c array) (array_named d array) (same.array array))

faults_of-same :
    (o : At) (c d : Component) → Alike c d → (par : Env) (r r' : Reached) → SameReached r r' → SameFaults o (faults_of c par r) (faults_of d par r')
faults_of-same o c d same par _ _ (same_valued e env at at') = value_fault-same o at at' (value e env)
faults_of-same o c d same par _ _ same_turn = refl
faults_of-same o c d same par _ _ (same_made e e' env entries) = entry_faults-same o c d same par env e e' entries
faults_of-same o c d same par _ _ (same_bound b b' env ends) =
    joined o (end_index_faults c par b.at b.left env) (end_index_faults d par b'.at b'.left env) (end_index_faults c par b.at b.right env) (end_index_faults d par b'.at b'.right env)
    (subst (λ e. SameFaults o (end_index_faults c par b.at b.left env) (end_index_faults d par b'.at e env)) ends.left (end_faults-same o c d same par b.at b'.at b.left env))
    (subst (λ e. SameFaults o (end_index_faults c par b.at b.right env) (end_index_faults d par b'.at e env)) ends.right (end_faults-same o c d same par b.at b'.at b.right env))

-- ---- arguments of kinds

abbrev kind_fault_at : At → Option (List ℤ) → Component → List Fault
kind_fault_at at args c = option_map_or (λ zs. if is_primitive c && not (list_all is_kind_argument zs) then OutOfRange at ∷ [] else []) args []

out_tested : (o at at' : At) (b : Bool) → SameFaults o (if b then OutOfRange at ∷ [] else []) (if b then OutOfRange at' ∷ [] else [])
out_tested o at at' true = refl
out_tested o at at' false = refl

kind_fault-same :
    (o at at' : At) (args : Option (List ℤ)) (a b : Option Component) → Both Alike a b
    → SameFaults o (option_map_or (kind_fault_at at args) a []) (option_map_or (kind_fault_at at' args) b [])
kind_fault-same o at at' args _ _ neither = refl
kind_fault-same o at at' None _ _ (both_there c d same) = refl
kind_fault-same o at at' (Some zs) _ _ (both_there c d same) =
    subst (λ p. SameFaults o (if is_primitive c && not (list_all is_kind_argument zs) then OutOfRange at ∷ [] else []) (if p && not (list_all is_kind_argument zs) then OutOfRange at' ∷ [] else []))
    (is_primitive-same c d same) (out_tested o at at' _)

kind_faults-same : (o : At) (t u : Tree) → AlikeTrees t u → (k l : Child) → SameChild k l → SameFaults o (kind_argument_faults t k) (kind_argument_faults u l)
kind_faults-same o t u trees k l same =
    subst (λ args. SameFaults o (kind_argument_faults t k) (option_map_or (kind_fault_at l.at args) (component_named u l.component) [])) same.arguments
    (kind_fault-same o k.at l.at k.arguments (component_named t k.component) (component_named u l.component)
    (subst (λ x. Both Alike (component_named t k.component) (component_named u x)) same.component (trees.component k.component)))

-- ---- indexes of ports

abbrev indexed_fault : At → Env → Option Expr → Option ℤ → List Fault
indexed_fault at env (Some size) (Some index) = index_fault at (value size env) (integer index)
indexed_fault at env _ _ = []

port_fault-there : (t : Tree) (i : Instance) (at : At) (e : End) (x : NamedPort) → resolve t i e ≡ Some x → port_index_faults t i at e ≡ indexed_fault at x.instance.env x.decl.size x.index
port_fault-there t i at e x is = by x.decl.size x.index refl refl
  where
    by : (o : Option Expr) (q : Option ℤ) → x.decl.size ≡ o → x.index ≡ q → port_index_faults t i at e ≡ indexed_fault at x.instance.env x.decl.size x.index
    by (Some size) (Some index) size_is index_is = rw (is, size_is, index_is) refl
    by (Some size) None size_is index_is = rw (is, size_is, index_is) refl
    by None q size_is index_is = rw (is, size_is) refl

port_fault-nowhere : (t : Tree) (i : Instance) (at : At) (e : End) → resolve t i e ≡ None → port_index_faults t i at e ≡ []
port_fault-nowhere t i at e is = rw is refl

indexed_fault-same : (o at at' : At) (env : Env) (size : Option Expr) (index : Option ℤ) → SameFaults o (indexed_fault at env size index) (indexed_fault at' env size index)
indexed_fault-same o at at' env (Some size) (Some index) = index_fault-same o at at' (value size env) (integer index)
indexed_fault-same o at at' env (Some size) None = refl
indexed_fault-same o at at' env None index = refl

port_faults-by :
    (o : At) (t u : Tree) (i i' : Instance) (at at' : At) (e : End) (x y : Option NamedPort) → resolve t i e ≡ x → resolve u i' e ≡ y → Both SameNamed x y
    → SameFaults o (port_index_faults t i at e) (port_index_faults u i' at' e)
port_faults-by o t u i i' at at' e _ _ is is' neither = ap (map (moved o)) (port_fault-nowhere t i at e is ∙ sym (port_fault-nowhere u i' at' e is'))
port_faults-by o t u i i' at at' e _ _ is is' (both_there x y same) =
    ap (map (moved o)) (port_fault-there t i at e x is)
    ∙ indexed_fault-same o at at' x.instance.env x.decl.size x.index
    ∙ ap (map (moved o)) (declared ∙ sym (port_fault-there u i' at' e y is'))
  where
    declared : indexed_fault at' x.instance.env x.decl.size x.index ≡ indexed_fault at' y.instance.env y.decl.size y.index
    declared = rw (same.instance.env, same.decl.size, same.index) refl

abbrev binding_faults : Tree → Instance → Binding → List Fault
binding_faults t i b = port_index_faults t i b.at b.left ++ port_index_faults t i b.at b.right

binding_faults-same :
    (o : At) (t u : Tree) (top top' : Instance) → Setting t u top top' → (i i' : Instance) → Inst t top i → SameInstance i i' → (b b' : Binding) → SameBound b b'
    → SameFaults o (binding_faults t i b) (binding_faults u i' b')
binding_faults-same o t u top top' setting i i' inst same b b' ends =
    joined o (port_index_faults t i b.at b.left) (port_index_faults u i' b'.at b'.left) (port_index_faults t i b.at b.right) (port_index_faults u i' b'.at b'.right)
    (subst (λ e. SameFaults o (port_index_faults t i b.at b.left) (port_index_faults u i' b'.at e)) ends.left (at b.left))
    (subst (λ e. SameFaults o (port_index_faults t i b.at b.right) (port_index_faults u i' b'.at e)) ends.right (at b.right))
  where
    at : (e : End) → SameFaults o (port_index_faults t i b.at e) (port_index_faults u i' b'.at e)
    at e = port_faults-by o t u i i' b.at b'.at e (resolve t i e) (resolve u i' e) refl refl (resolve-same t u top top' setting i i' inst same e)

-- ---- all of them

-- a fault among these that is the same, at any place
abbrev pub LikeFault : At → List Fault → Fault → Type 0
LikeFault o fs f = (f' : Fault) × Contains fs f' × (moved o f ≡ moved o f')

own_faults-expanded : (t : Tree) (i : Instance) → is_expanded i ≡ true → own_faults t i ≡ instance_faults i.component i.env ++ flat_map (kind_argument_faults t) (children i.component i.env)
own_faults-expanded t i is = rw is refl

own_faults-closed : (t : Tree) (i : Instance) → is_expanded i ≡ false → own_faults t i ≡ []
own_faults-closed t i is = rw is refl

shown-like :
    (o : At) (t u : Tree) → AlikeTrees t u → (c d : Component) → Alike c d → (env : Env) (f : Fault) → Contains (instance_faults c env ++ flat_map (kind_argument_faults t) (children c env)) f
    → LikeFault o (instance_faults d env ++ flat_map (kind_argument_faults u) (children d env)) f
shown-like o t u trees c d same env f there =
    elim (Contains-append_cases (instance_faults c env) (flat_map (kind_argument_faults t) (children c env)) f there) [
      | inl of_values ↦
          let w = comes_of SameReached same_reached-trans (moved o) (faults_of c env) (faults_of d env) (faults_of-same o c d same env) (reached_in_component c env) (reached_in_component d env) f (reached-alike c d same env) of_values in
          (w.0, Contains-append_left (instance_faults d env) (flat_map (kind_argument_faults u) (children d env)) w.0 w.1, w.2)
      | inr of_kinds ↦
          let w = comes_of SameChild same_child-trans (moved o) (kind_argument_faults t) (kind_argument_faults u) (kind_faults-same o t u trees) (children c env) (children d env) f (children-same c d same env) of_kinds in
          (w.0, Contains-append_right (instance_faults d env) (flat_map (kind_argument_faults u) (children d env)) w.0 w.1, w.2)
    ]

own-like : (o : At) (t u : Tree) → AlikeTrees t u → (i j : Instance) → SameInstance i j → (f : Fault) → Contains (own_faults t i) f → LikeFault o (own_faults u j) f
own-like o t u trees i j same f there = by (is_expanded i) refl
  where
    by : (b : Bool) → is_expanded i ≡ b → LikeFault o (own_faults u j) f
    by true is =
        let here = subst (λ fs. Contains fs f) (own_faults-expanded t i is ∙ ap (λ env. instance_faults i.component env ++ flat_map (kind_argument_faults t) (children i.component env)) same.env) there in
        let w = shown-like o t u trees i.component j.component same.component j.env f here in
        (w.0, subst (λ fs. Contains fs w.0) (sym (own_faults-expanded u j (sym (is_expanded-same i j same) ∙ is))) w.1, w.2)
    by false is = absurd (Contains-nil f (subst (λ fs. Contains fs f) (own_faults-closed t i is) there))

-- a fault of an instance of the second description is one of the same instance of the first
pub fault-back :
    (o : At) (t u : Tree) (top top' : Instance) → Setting t u top top' → (i i' : Instance) → Inst t top i → SameInstance i i' → SameInstance i' i → (f : Fault)
    → Contains (faults_in u i') f → LikeFault o (faults_in t i) f
fault-back o t u top top' setting i i' inst same same' f there =
    elim (Contains-append_cases (own_faults u i') (flat_map (binding_faults u i') (bindings_in i')) f there) [
      | inl own ↦
          let w = own-like o u t (alike_trees-sym t u setting.trees) i' i same' f own in
          (w.0, Contains-append_left (own_faults t i) (flat_map (binding_faults t i) (bindings_in i)) w.0 w.1, w.2)
      | inr of_ports ↦
          let from = Contains-from_flat_map (binding_faults u i') (bindings_in i') f of_ports in
          let b = bindings_in-like i' i same' from.0 from.1 in
          let ends : SameBound b.0 from.0 = record { left = sym b.2.left; right = sym b.2.right } in
          let is = binding_faults-same o t u top top' setting i i' inst same b.0 from.0 ends in
          let w = Contains-from_map (moved o) (binding_faults t i b.0) (moved o f)
          (subst (λ fs. Contains fs (moved o f)) (sym is) (Contains-map (moved o) (binding_faults u i' from.0) f from.2)) in
          (w.0, Contains-append_right (own_faults t i) (flat_map (binding_faults t i) (bindings_in i)) w.0 (Contains-flat_map (binding_faults t i) (bindings_in i) b.0 w.0 b.1 w.1), w.2)
    ]

abbrev which : Fault → ℕ
which (OutOfRange at) = 0
which (ZeroDivisor at) = 1
which (BadIndex at) = 2

pub is_out : (o : At) (f : Fault) → OutOfRange o ≡ moved o f → (at : At) × (f ≡ OutOfRange at)
is_out o (OutOfRange at) is = (at, refl)
is_out o (ZeroDivisor at) is = absurd (omega (arith, ap which is))
is_out o (BadIndex at) is = absurd (omega (arith, ap which is))

pub is_zero : (o : At) (f : Fault) → ZeroDivisor o ≡ moved o f → (at : At) × (f ≡ ZeroDivisor at)
is_zero o (OutOfRange at) is = absurd (omega (arith, ap which is))
is_zero o (ZeroDivisor at) is = (at, refl)
is_zero o (BadIndex at) is = absurd (omega (arith, ap which is))

pub is_bad : (o : At) (f : Fault) → BadIndex o ≡ moved o f → (at : At) × (f ≡ BadIndex at)
is_bad o (OutOfRange at) is = absurd (omega (arith, ap which is))
is_bad o (ZeroDivisor at) is = absurd (omega (arith, ap which is))
is_bad o (BadIndex at) is = (at, refl)
