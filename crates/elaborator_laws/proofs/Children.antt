-- What components in another order look up, and the instances and bindings that are reached in them.
use Rattle.std.proofs.Common.{◌≡◌, ◌∙◌, ◌<◌, true, List, [], ◌∷◌, map, Option, Some, None, refl, ap, sym, subst, arith, inl, inr}
use Rattle.std.specs.List.{Contains, count_by, flat_map}
use Rattle.std.specs.Option.{option_map_or}
use Rattle.std.specs.Prelude.{nat_le, ◌==◌}
use Rattle.std.specs.Str.{bytes_eq}
use Rattle.std.proofs.lemmas.Bool.{cases_lt, le-leb}
use Rattle.darwin_lexer.specs.declared.token.At.{At}
use Rattle.darwin_parser.specs.Tree.{Name, Tree, Expr, PortDecl, ArrayDecl, InstEntry, BindEntry, Component}
use Rattle.darwin_types.specs.Scope.{entries_of, component_named, port_named, array_named, is_primitive}
use Rattle.darwin_types.specs.Faults.{NoFault, two_components, within}
use Rattle.darwin_types.specs.Faults.FaultIn.{two_ports, two_arrays}
use Rattle.darwin_walk.specs.Value.{Env, Value, integer, out_of_range, zero_divisor, value}
use Rattle.darwin_walk.specs.Reached.{Reached, valued, made, bound, port_size, array_size, reached_in_component, reached_in}
use Rattle.darwin_walk.specs.Instance.{integers, Child, values, element_arguments, element_child, children_of, children, End, Binding, end_value, bindings_of, bindings}
use Rattle.elaborator_laws.specs.Reordering.{Reordered, no_elements, kept, SamePort, SameArray, SameEntry, same_single, same_element, SameBinding, SameStmts, SameComponent, SameDescription, through, through_stmts}
use Rattle.elaborator_laws.proofs.Finding.{Both, neither, both_there, Both-sym, Both-refl, Both-trans, hits, hits-count, agree}
use Rattle.elaborator_laws.proofs.Statements.{same_stmts-sym, same_stmts-refl, entries-same, SameReached, same_valued, same_turn, same_made, same_bound, same_reached-refl, same_reached-trans, ReachesSame, reached-same}
use Rattle.elaborator_laws.proofs.Reorders.{length-same, reordered-sym, reordered-same, reordered-append, reordered-map, reordered-flat_map, like_in}
use Rattle.base.proofs.ContainsLaws.{Contains-flat_map, Contains-from_flat_map, Contains-here, Contains-nil, Contains-one}
use Rattle.base.proofs.FindLaws.{find-some}

-- ---- look-ups

-- two components in which the same is found under each name
pub record Alike (c d : Component) : Type 0 where
  pub name : c.name ≡ d.name
  pub params : c.params ≡ d.params
  pub port : (x : Name) → Both SamePort (port_named c x) (port_named d x)
  pub array : (x : Name) → Both SameArray (array_named c x) (array_named d x)
  pub ports : Reordered SamePort c.ports d.ports
  pub arrays : Reordered SameArray c.arrays d.arrays
  pub body : SameStmts c.body d.body

-- two descriptions in which the same is found under each name
pub record AlikeTrees (t u : Tree) : Type 0 where
  pub component : (x : Name) → Both Alike (component_named t x) (component_named u x)

pub same_port-sym : (p q : PortDecl) → SamePort p q → SamePort q p
same_port-sym p q same = record { side = sym same.side; name = sym same.name; size = sym same.size; note = sym same.note }

pub same_port-trans : (p q r : PortDecl) → SamePort p q → SamePort q r → SamePort p r
same_port-trans p q r same other = record { side = same.side ∙ other.side; name = same.name ∙ other.name; size = same.size ∙ other.size; note = same.note ∙ other.note }

pub same_array-sym : (a b : ArrayDecl) → SameArray a b → SameArray b a
same_array-sym a b same = record { name = sym same.name; size = sym same.size; component = sym same.component; args = sym same.args }

pub same_array-trans : (a b c : ArrayDecl) → SameArray a b → SameArray b c → SameArray a c
same_array-trans a b c same other =
    record { name = same.name ∙ other.name; size = same.size ∙ other.size; component = same.component ∙ other.component; args = same.args ∙ other.args }

pub same_component-trans : (c d e : Component) → SameComponent c d → SameComponent d e → SameComponent c e
same_component-trans c d e same other = record {
  name = same.name ∙ other.name;
  params = same.params ∙ other.params;
  ports = through c.ports d.ports e.ports same.ports other.ports;
  arrays = through c.arrays d.arrays e.arrays same.arrays other.arrays;
  body = through_stmts c.body d.body e.body same.body other.body;
}

pub same_component-sym : (c d : Component) → SameComponent c d → SameComponent d c
same_component-sym c d same = record {
  name = sym same.name;
  params = sym same.params;
  ports = reordered-sym SamePort same_port-sym c.ports d.ports same.ports;
  arrays = reordered-sym SameArray same_array-sym c.arrays d.arrays same.arrays;
  body = same_stmts-sym c.body d.body same.body;
}

pub alike-sym : (c d : Component) → Alike c d → Alike d c
alike-sym c d same = record {
  name = sym same.name;
  params = sym same.params;
  port = λ x. Both-sym SamePort SamePort same_port-sym (port_named c x) (port_named d x) (same.port x);
  array = λ x. Both-sym SameArray SameArray same_array-sym (array_named c x) (array_named d x) (same.array x);
  ports = reordered-sym SamePort same_port-sym c.ports d.ports same.ports;
  arrays = reordered-sym SameArray same_array-sym c.arrays d.arrays same.arrays;
  body = same_stmts-sym c.body d.body same.body;
}

same_port-refl : (p : PortDecl) → SamePort p p
same_port-refl p = record { side = refl; name = refl; size = refl; note = refl }

same_array-refl : (a : ArrayDecl) → SameArray a a
same_array-refl a = record { name = refl; size = refl; component = refl; args = refl }

pub same_component-refl : (c : Component) → SameComponent c c
same_component-refl c = record {
  name = refl;
  params = refl;
  ports = reordered-same SamePort same_port-refl c.ports;
  arrays = reordered-same SameArray same_array-refl c.arrays;
  body = same_stmts-refl c.body;
}

pub alike-refl : (c : Component) → Alike c c
alike-refl c = record {
  name = refl;
  params = refl;
  port = λ x. Both-refl SamePort same_port-refl (port_named c x);
  array = λ x. Both-refl SameArray same_array-refl (array_named c x);
  ports = reordered-same SamePort same_port-refl c.ports;
  arrays = reordered-same SameArray same_array-refl c.arrays;
  body = same_stmts-refl c.body;
}

pub alike_trees-sym : (t u : Tree) → AlikeTrees t u → AlikeTrees u t
alike_trees-sym t u same = record { component = λ x. Both-sym Alike Alike alike-sym (component_named t x) (component_named u x) (same.component x) }

-- a name that isn't repeated stands once at most
pub few_hits : {A : Type 0} (f : A → Name) (xs : List A) (x : Name) → (nat_le 2 (count_by (bytes_eq x) (map f xs)) ≡ true → ⊥) → hits (λ a. bytes_eq x (f a)) xs < 2
few_hits f xs x once =
    elim (cases_lt (hits (λ a. bytes_eq x (f a)) xs) 2) [
      | inl few ↦ few
      | inr many ↦ absurd (once (le-leb 2 (count_by (bytes_eq x) (map f xs)) (omega (arith, many, hits-count (bytes_eq x) f xs))))
    ]

pub alike_of : (t : Tree) (c d : Component) → NoFault t → Contains t c → SameComponent c d → Alike c d
alike_of t c d sound there same = record {
  name = same.name;
  params = same.params;
  port = λ x. (agree SamePort (λ p. bytes_eq x p.name) same_port-trans (λ p q is. ap (bytes_eq x) (sym is.name)) c.ports d.ports same.ports
      (few_hits (λ (p : PortDecl). p.name) c.ports x (λ twice. sound _ (within c _ there (two_ports x twice))))).found;
  array = λ x. (agree SameArray (λ a. bytes_eq x a.name) same_array-trans (λ a b is. ap (bytes_eq x) (sym is.name)) c.arrays d.arrays same.arrays
      (few_hits (λ (a : ArrayDecl). a.name) c.arrays x (λ twice. sound _ (within c _ there (two_arrays x twice))))).found;
  ports = same.ports;
  arrays = same.arrays;
  body = same.body;
}

alike_found : (t : Tree) (x : Name) (a b : Option Component) → NoFault t → component_named t x ≡ a → Both SameComponent a b → Both Alike a b
alike_found t x _ _ sound is neither = neither
alike_found t x _ _ sound is (both_there c d same) = both_there c d (alike_of t c d sound (find-some (λ e. bytes_eq x e.name) t c is).0 same)

-- a description without a fault and the same in another order are alike
pub alike_trees : (t u : Tree) → NoFault t → SameDescription t u → AlikeTrees t u
alike_trees t u sound same = record {
  component = λ x. alike_found t x (component_named t x) (component_named u x) sound refl
      (agree SameComponent (λ c. bytes_eq x c.name) same_component-trans (λ c d is. ap (bytes_eq x) (sym is.name)) t u same
      (few_hits (λ (c : Component). c.name) t x (λ twice. sound _ (two_components x twice)))).found;
}

pub is_primitive-same : (c d : Component) → Alike c d → is_primitive c ≡ is_primitive d
is_primitive-same c d same = ap (λ n. n == 0) (length-same SameEntry (entries_of c.body) (entries_of d.body) (entries-same c.body d.body same.body))

pub alike-trans : (c d e : Component) → Alike c d → Alike d e → Alike c e
alike-trans c d e same other = record {
  name = same.name ∙ other.name;
  params = same.params ∙ other.params;
  port = λ x. Both-trans SamePort same_port-trans (port_named c x) (port_named d x) (port_named e x) (same.port x) (other.port x);
  array = λ x. Both-trans SameArray same_array-trans (array_named c x) (array_named d x) (array_named e x) (same.array x) (other.array x);
  ports = through c.ports d.ports e.ports same.ports other.ports;
  arrays = through c.arrays d.arrays e.arrays same.arrays other.arrays;
  body = through_stmts c.body d.body e.body same.body other.body;
}

pub alike_trees-refl : (t : Tree) → AlikeTrees t t
alike_trees-refl t = record { component = λ x. Both-refl Alike alike-refl (component_named t x) }

-- ---- what is reached in an instance of a component

size_moved : (env : Env) (at at' : At) (o : Option Expr) → ReachesSame (option_map_or (λ size. valued size env at ∷ []) o []) (option_map_or (λ size. valued size env at' ∷ []) o [])
size_moved env at at' None = no_elements
size_moved env at at' (Some e) = kept (valued e env at) (valued e env at') [] [] (same_valued e env at at') no_elements

port_size-same : (env : Env) (p q : PortDecl) → SamePort p q → ReachesSame (port_size env p) (port_size env q)
port_size-same env p q same = subst (λ o. ReachesSame (port_size env p) (option_map_or (λ size. valued size env q.at ∷ []) o [])) same.size (size_moved env p.at q.at p.size)

array_size-same : (env : Env) (a b : ArrayDecl) → SameArray a b → SameReached (array_size env a) (array_size env b)
array_size-same env a b same = subst (λ e. SameReached (array_size env a) (valued e env b.at)) same.size (same_valued a.size env a.at b.at)

-- the same is reached in an instance of the one component as in one of the other
pub reached-alike : (c d : Component) → Alike c d → (env : Env) → ReachesSame (reached_in_component c env) (reached_in_component d env)
reached-alike c d same env =
    let ports = reordered-flat_map SamePort SameReached same_reached-refl (port_size env) (port_size env)
    (port_size-same env) (port_size-same env) c.ports d.ports same.ports in
    let arrays = reordered-map SameArray SameReached (array_size env) (array_size-same env) c.arrays d.arrays same.arrays in
    reordered-append SameReached same_reached-refl _ _ (reached_in c.body env) (reached_in d.body env)
    (reordered-append SameReached same_reached-refl (flat_map (port_size env) c.ports) (flat_map (port_size env) d.ports) (map (array_size env) c.arrays) (map (array_size env) d.arrays) ports arrays)
    (reached-same c.body d.body same.body env)

-- the same instance, made by an entry at any place
pub record SameChild (k l : Child) : Type 0 where
  pub segment : k.segment ≡ l.segment
  pub component : k.component ≡ l.component
  pub arguments : k.arguments ≡ l.arguments

pub same_child-refl : (k : Child) → SameChild k k
same_child-refl k = record { segment = refl; component = refl; arguments = refl }

pub same_child-trans : (k l m : Child) → SameChild k l → SameChild l m → SameChild k m
same_child-trans k l m same other = record { segment = same.segment ∙ other.segment; component = same.component ∙ other.component; arguments = same.arguments ∙ other.arguments }

abbrev MakesSame : List Child → List Child → Type 0
MakesSame ks others = Reordered SameChild ks others

pub arguments-same : (par env : Env) (x y : ArrayDecl) (args : Option (List Expr)) → SameArray x y → element_arguments par x args env ≡ element_arguments par y args env
arguments-same par env x y (Some args) same = refl
arguments-same par env x y None same = ap (λ o. option_map_or (λ args. values args par) o []) same.args

element-same :
    (par env : Env) (args : Option (List Expr)) (v : Value) (at at' : At) (a b : Option ArrayDecl) → Both SameArray a b
    → MakesSame (element_child a v (λ array. element_arguments par array args env) at) (element_child b v (λ array. element_arguments par array args env) at')
element-same par env args v at at' _ _ neither = no_elements
element-same par env args (integer i) at at' _ _ (both_there x y same) =
    kept _ _ [] []
    (record { segment = ap (λ n. record { name = n; index = Some i }) same.name; component = same.component; arguments = ap integers (arguments-same par env x y args same) })
    no_elements
element-same par env args out_of_range at at' _ _ (both_there x y same) = no_elements
element-same par env args zero_divisor at at' _ _ (both_there x y same) = no_elements

entry-same : (c d : Component) → Alike c d → (par env : Env) (e e' : InstEntry) → SameEntry e e' → MakesSame (children_of c par (made e env)) (children_of d par (made e' env))
entry-same c d same par env _ _ (same_single name component args at at') = kept _ _ [] [] (record { segment = refl; component = refl; arguments = refl }) no_elements
entry-same c d same par env _ _ (same_element array index args at at') =
    element-same par env args (value index env) at at' (array_named c array) (array_named d array) (same.array array)

child-same : (c d : Component) → Alike c d → (par : Env) (r r' : Reached) → SameReached r r' → MakesSame (children_of c par r) (children_of d par r')
child-same c d same par _ _ (same_valued e env at at') = no_elements
child-same c d same par _ _ same_turn = no_elements
child-same c d same par _ _ (same_made e e' env entries) = entry-same c d same par env e e' entries
child-same c d same par _ _ (same_bound b b' env bindings) = no_elements

-- the same is made in an instance of the one component as in one of the other
pub children-same : (c d : Component) → Alike c d → (par : Env) → Reordered SameChild (children c par) (children d par)
children-same c d same par =
    reordered-flat_map SameReached SameChild same_child-refl (children_of c par) (children_of d par) (child-same c d same par) (child-same d d (alike-refl d) par)
    (reached_in_component c par) (reached_in_component d par) (reached-alike c d same par)

-- the same binding, reached at any place
pub record SameBound (b c : Binding) : Type 0 where
  pub left : b.left ≡ c.left
  pub right : b.right ≡ c.right

abbrev LikeBinding : List Binding → Binding → Type 0
LikeBinding others x = (y : Binding) × Contains others y × SameBound x y

binding-values : (env : Env) (b : BindEntry) (l r : End) → end_value b.left env ≡ Some l → end_value b.right env ≡ Some r → bindings_of (bound b env) ≡ record { left = l; right = r; at = b.at } ∷ []
binding-values env b l r left right = rw (left, right) refl

binding-like : (env : Env) (b b' : BindEntry) → SameBinding b b' → (x : Binding) → Contains (bindings_of (bound b env)) x → LikeBinding (bindings_of (bound b' env)) x
binding-like env b b' same x there = by (end_value b.left env) (end_value b.right env) refl refl
  where
    by : (o q : Option End) → end_value b.left env ≡ o → end_value b.right env ≡ q → LikeBinding (bindings_of (bound b' env)) x
    by None q left right =
        let none : bindings_of (bound b env) ≡ [] = rw left refl in
        absurd (Contains-nil x (subst (λ xs. Contains xs x) none there))
    by (Some l) None left right =
        let none : bindings_of (bound b env) ≡ [] = rw (left, right) refl in
        absurd (Contains-nil x (subst (λ xs. Contains xs x) none there))
    by (Some l) (Some r) left right =
        let is = Contains-one _ x (subst (λ xs. Contains xs x) (binding-values env b l r left right) there) in
        let y : Binding = record { left = l; right = r; at = b'.at } in
        let values' = binding-values env b' l r (ap (λ e. end_value e env) (sym same.left) ∙ left) (ap (λ e. end_value e env) (sym same.right) ∙ right) in
        (y, subst (λ ys. Contains ys y) (sym values') (Contains-here y []), record { left = ap (λ (z : Binding). z.left) is; right = ap (λ (z : Binding). z.right) is })

reached_binding-like : (r r' : Reached) → SameReached r r' → (x : Binding) → Contains (bindings_of r) x → LikeBinding (bindings_of r') x
reached_binding-like _ _ (same_valued e env at at') x there = absurd (Contains-nil x there)
reached_binding-like _ _ same_turn x there = absurd (Contains-nil x there)
reached_binding-like _ _ (same_made e e' env entries) x there = absurd (Contains-nil x there)
reached_binding-like _ _ (same_bound b b' env same) x there = binding-like env b b' same x there

-- what is bound in an instance of the one component is bound in one of the other
pub bindings-like : (c d : Component) → Alike c d → (par : Env) (x : Binding) → Contains (bindings c par) x → LikeBinding (bindings d par) x
bindings-like c d same par x there =
    let w = Contains-from_flat_map bindings_of (reached_in_component c par) x there in
    let v = like_in SameReached same_reached-trans (reached_in_component c par) (reached_in_component d par) w.0 (reached-alike c d same par) w.1 in
    let y = reached_binding-like w.0 v.0 v.2 x w.2 in
    (y.0, Contains-flat_map bindings_of (reached_in_component d par) v.0 y.0 v.1 y.1, y.2)
