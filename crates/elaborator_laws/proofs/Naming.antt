-- A description in another order shows no fault of names, numbers and kinds that the first doesn't show.
use Rattle.std.proofs.Common.{◌≡◌, ◌∙◌, ◌<◌, Bool, true, false, ◌&&◌, cond, List, [], ◌∷◌, length, map, Option, Some, None, option_map, is_some, refl, ap, sym, subst, inl, inr}
use Rattle.std.specs.Prelude.{nat_le, ◌==◌, unwrap_or}
use Rattle.std.specs.List.{Contains, list_all}
use Rattle.std.specs.Option.{option_or}
use Rattle.std.specs.Str.{bytes_eq}
use Rattle.std.proofs.lemmas.Bool.{false≢true}
use Rattle.std.proofs.lemmas.List.Elements.{Contains-append_cases}
use Rattle.std.proofs.lemmas.Map.Views.{Contains-from_lookup}
use Rattle.config_graph.specs.declared.kind.Kind.{Kind}
use Rattle.config_graph.specs.Kinds.{kind_named}
use Rattle.darwin_lexer.specs.declared.token.At.{At}
use Rattle.darwin_parser.specs.declared.tree.Side.{Side}
use Rattle.darwin_parser.specs.declared.tree.Side.TheVariants.{Provide, Require}
use Rattle.darwin_parser.specs.Tree.{Name, Tree, Expr, PortDecl, ArrayDecl, InstEntry, Stmts, Component}
use Rattle.darwin_parser.specs.Tree.InstEntry.{element}
use Rattle.darwin_types.specs.Scope.{component_named, entries_of, port_named, array_named, singles_of, instances_of, instance_component, Instantiation, made_by}
use Rattle.darwin_types.specs.Primitive.{ports_of_kind, is_port, has_port, is_port_of, has_only_ports_of, has_ports_on, has_ports_of, params_of_kind, is_end, is_bare, is_like_kind}
use Rattle.darwin_types.specs.Faults.{is_repeated, FaultIn, NoFault}
use Rattle.darwin_types.specs.Faults.FaultIn.{two_params, two_ports, two_arrays, array_and_single, two_singles, two_values, unknown_value, unknown_array, unknown_instance, unknown_inner_port, unknown_outer_port, unknown_component, arg_count, unknown_kind, kind_ports}
use Rattle.darwin_types.specs.Faults.HasFault.{two_components, within}
use Rattle.darwin_types.specs.declared.error.TypeError.{TypeError}
use Rattle.elaborator_laws.specs.Reordering.{Reordered, SamePort, SameArray, SameEntry, same_single, same_element, SameStmts, no_stmts, kept_stmt, swapped_stmts, through_stmts, SameComponent, SameDescription}
use Rattle.elaborator_laws.proofs.Finding.{Both, neither, both_there, hits, passes_once}
use Rattle.elaborator_laws.proofs.Reorders.{reordered-sym, reordered-map, length-same, sum-same, all-same, any-same, like_in}
use Rattle.elaborator_laws.proofs.Statements.{same_stmts-sym, same_entry-trans, entries-same}
use Rattle.elaborator_laws.proofs.Children.{Alike, AlikeTrees, alike_trees, alike_of, alike-sym, few_hits, is_primitive-same, same_component-sym, same_component-trans}
use Rattle.elaborator_laws.proofs.Twices.{contains-same}
use Rattle.elaborator_laws.proofs.Accepting.{both-none, both-some}
use Rattle.elaborator_laws.proofs.NameUses.{declared, value-there, variable-there, end-there, singles-same, instances-same}
use Rattle.base.proofs.BytesLaws.{bytes_eq_self, different_bytes, is_some-lookup_from, same_bytes}
use Rattle.base.proofs.ContainsLaws.{Contains-from_map}
use Rattle.base.proofs.FindLaws.{is_some-find_from}

repeated-same :
    {A : Type 0} (R : A → A → Type 0) (f : A → Name) → ((a b : A) → R a b → f a ≡ f b) → (xs ys : List A) → Reordered R xs ys → (x : Name)
    → is_repeated (map f xs) x ≡ is_repeated (map f ys) x
repeated-same R f fits xs ys same x =
    ap (nat_le 2) (sum-same ◌≡◌ (λ n. cond (bytes_eq x n) 1 0) (λ a b is. ap (λ n. cond (bytes_eq x n) 1 0) is) (map f xs) (map f ys) (reordered-map R ◌≡◌ f fits xs ys same))

-- ---- the component of an instance

-- an array declares the instance of a name with a component
abbrev Declares : ArrayDecl → Name → Name → Type 0
Declares a x k = ◌≡◌ {A = Name × Name} (x, k) (declared a)

declared_name : (a : ArrayDecl) (x k : Name) → Declares a x k → bytes_eq x a.name ≡ true
declared_name a x k is = subst (λ n. bytes_eq x n ≡ true) (ap (λ (p : Name × Name). p.0) is) (bytes_eq_self x)

array_there : (c : Component) (x k : Name) (a : ArrayDecl) → Contains c.arrays a → Declares a x k → is_some (array_named c x) ≡ true
array_there c x k a there is =
    is_some-find_from (λ (b : ArrayDecl). bytes_eq x b.name) c.arrays a there (declared_name a x k is)

one_component : (t : Tree) (c : Component) → NoFault t → Contains t c → (x k l : Name) → Contains (instances_of c) (x, k) → Contains (instances_of c) (x, l) → k ≡ l
one_component t c sound in_t x k l there there' =
    elim (Contains-append_cases (map declared c.arrays) (singles_of c) (x, k) there) [
      | inl in_arrays ↦
          let a = Contains-from_map declared c.arrays (x, k) in_arrays in
          elim (Contains-append_cases (map declared c.arrays) (singles_of c) (x, l) there') [
            | inl in_arrays' ↦
                let b = Contains-from_map declared c.arrays (x, l) in_arrays' in
                let one = passes_once (λ (e : ArrayDecl). bytes_eq x e.name) c.arrays a.0 b.0 few a.1 b.1 (declared_name a.0 x k a.2) (declared_name b.0 x l b.2) in
                ap (λ (p : Name × Name). p.1) a.2 ∙ ap (λ (e : ArrayDecl). e.component) one ∙ sym (ap (λ (p : Name × Name). p.1) b.2)
            | inr single ↦ absurd (sound _ (within c _ in_t (array_and_single x l single (array_there c x k a.0 a.1 a.2))))
          ]
      | inr single ↦
          elim (Contains-append_cases (map declared c.arrays) (singles_of c) (x, l) there') [
            | inl in_arrays ↦
                let a = Contains-from_map declared c.arrays (x, l) in_arrays in
                absurd (sound _ (within c _ in_t (array_and_single x k single (array_there c x l a.0 a.1 a.2))))
            | inr single' ↦ by (bytes_eq k l) refl single single'
          ]
    ]
  where
    few : hits (λ (e : ArrayDecl). bytes_eq x e.name) c.arrays < 2
    few = few_hits (λ (e : ArrayDecl). e.name) c.arrays x (λ twice. sound _ (within c _ in_t (two_arrays x twice)))

    by : (b : Bool) → bytes_eq k l ≡ b → Contains (singles_of c) (x, k) → Contains (singles_of c) (x, l) → k ≡ l
    by true is single single' = same_bytes k l is
    by false is single single' = absurd (sound _ (within c _ in_t (two_singles x k l single single' (different_bytes k l is))))

component_none : (c d : Component) → SameComponent c d → (x : Name) → instance_component d x ≡ None → instance_component c x ≡ None
component_none c d same x none = by (instance_component c x) refl
  where
    by : (o : Option Name) → instance_component c x ≡ o → instance_component c x ≡ None
    by None is = is
    by (Some k) is =
        let there = contains-same (instances_of c) (instances_of d) (x, k) (instances-same c d same) (Contains-from_lookup same_bytes x k (instances_of c) is) in
        absurd (false≢true (sym (ap is_some none) ∙ is_some-lookup_from (instances_of d) x k there))

component_some : (t : Tree) (c d : Component) → NoFault t → Contains t c → SameComponent c d → (x k : Name) → instance_component d x ≡ Some k → instance_component c x ≡ Some k
component_some t c d sound in_t same x k is =
    let there = contains-same (instances_of d) (instances_of c) (x, k) (instances-same d c (same_component-sym c d same)) (Contains-from_lookup same_bytes x k (instances_of d) is) in
    by there (instance_component c x) refl
  where
    by : Contains (instances_of c) (x, k) → (o : Option Name) → instance_component c x ≡ o → instance_component c x ≡ Some k
    by there None none = absurd (false≢true (sym (ap is_some none) ∙ is_some-lookup_from (instances_of c) x k there))
    by there (Some l) some =
        some ∙ ap Some (one_component t c sound in_t x l k (Contains-from_lookup same_bytes x l (instances_of c) some) there)

-- ---- entries

entry-like : (c d : Component) → SameComponent c d → (e : InstEntry) → Contains (entries_of d.body) e → (e' : InstEntry) × Contains (entries_of c.body) e' × SameEntry e e'
entry-like c d same e there =
    like_in SameEntry same_entry-trans (entries_of d.body) (entries_of c.body) e (entries-same d.body c.body (same_stmts-sym c.body d.body same.body)) there

element-like :
    (array : Name) (index : Expr) (args : Option (List Expr)) (at : At) (e : InstEntry) → SameEntry (element array index args at) e
    → (at' : At) × (e ≡ element array index args at')
element-like array index args at _ (same_element _ _ _ _ at') = (at', refl)

abbrev made_of : Name → Option (List Expr) → Name → Option (List Expr) → Instantiation
made_of x args component others = record { name = x; component = component; args = unwrap_or (option_or args others) [] }

made_by-array :
    (x : Name) (args : Option (List Expr)) (a b : Option ArrayDecl) → Both SameArray a b
    → option_map (λ (y : ArrayDecl). made_of x args y.component y.args) a ≡ option_map (λ (y : ArrayDecl). made_of x args y.component y.args) b
made_by-array x args _ _ neither = refl
made_by-array x args _ _ (both_there a b same) = rw (same.component, same.args) refl

made_by-same : (c d : Component) → Alike c d → (e e' : InstEntry) → SameEntry e e' → made_by c e ≡ made_by d e'
made_by-same c d same _ _ (same_single name component args at at') = refl
made_by-same c d same _ _ (same_element x index args at at') = made_by-array x args (array_named c x) (array_named d x) (same.array x)

-- ---- kinds

is_end-same : (a b : Stmts) → SameStmts a b → is_end a ≡ is_end b
is_end-same _ _ no_stmts = refl
is_end-same _ _ (kept_stmt s s' rest rest' same later) = refl
is_end-same _ _ (swapped_stmts s t s' t' rest rest' same same' later) = refl
is_end-same _ _ (through_stmts a b c first then_) = is_end-same a b first ∙ is_end-same b c then_

is_port_of-same : (k : Kind) (p q : PortDecl) → SamePort p q → is_port_of k p ≡ is_port_of k q
is_port_of-same k p q same = rw (same.size, same.side, same.name) refl

is_port-same : (side : Side) (name : Name) (p q : PortDecl) → SamePort p q → is_port side name p ≡ is_port side name q
is_port-same side name p q same = rw (same.side, same.name) refl

all_by : (p q : Name → Bool) (xs : List Name) → ((x : Name) → p x ≡ q x) → list_all p xs ≡ list_all q xs
all_by p q [] same = refl
all_by p q (x ∷ xs) same = rw (same x, all_by p q xs same) refl

has_ports_on-same : (side : Side) (k : Kind) (c d : Component) → SameComponent c d → has_ports_on side k c ≡ has_ports_on side k d
has_ports_on-same side k c d same =
    all_by (has_port c.ports side) (has_port d.ports side) (ports_of_kind k side)
    (λ name. any-same SamePort (is_port side name) (is_port-same side name) c.ports d.ports same.ports)

is_bare-same : (k : Kind) (c d : Component) → SameComponent c d → is_bare k c ≡ is_bare k d
is_bare-same k c d same =
    ap (λ (ps : List Name). length ps == params_of_kind k && length c.arrays == 0 && is_end c.body) same.params
    ∙ ap (λ n. length d.params == params_of_kind k && n == 0 && is_end c.body) (length-same SameArray c.arrays d.arrays same.arrays)
    ∙ ap (λ b. length d.params == params_of_kind k && length d.arrays == 0 && b) (is_end-same c.body d.body same.body)

has_ports_of-same : (k : Kind) (c d : Component) → SameComponent c d → has_ports_of k c ≡ has_ports_of k d
has_ports_of-same k c d same =
    ap (λ b. b && has_ports_on Provide k c && has_ports_on Require k c) (all-same SamePort (is_port_of k) (is_port_of-same k) c.ports d.ports same.ports)
    ∙ ap (λ b. has_only_ports_of k d && b && has_ports_on Require k c) (has_ports_on-same Provide k c d same)
    ∙ ap (λ b. has_only_ports_of k d && has_ports_on Provide k d && b) (has_ports_on-same Require k c d same)

is_like_kind-same : (k : Kind) (c d : Component) → SameComponent c d → is_like_kind k c ≡ is_like_kind k d
is_like_kind-same k c d same = ap (λ b. b && has_ports_of k c) (is_bare-same k c d same) ∙ ap (λ b. is_bare k d && b) (has_ports_of-same k c d same)

-- ---- no fault

is_some-both : {A B : Type 0} (R : A → B → Type 0) (a : Option A) (b : Option B) → Both R a b → is_some b ≡ true → is_some a ≡ true
is_some-both R _ _ neither is = is
is_some-both R _ _ (both_there x y same) is = refl

-- a component of the one description and the same of the other, the first without a fault
record Couple (t u : Tree) (c d : Component) : Type 0 where
  trees : AlikeTrees t u
  sound : (e : TypeError) → FaultIn t c e → ⊥
  no_fault : NoFault t
  there : Contains t c
  same : SameComponent c d
  alike : Alike c d

no_fault_in : (t u : Tree) (c d : Component) → Couple t u c d → (e : TypeError) → FaultIn u d e → ⊥
no_fault_in t u c d w _ (two_params x twice) = w.sound _ (two_params x (ap (λ ps. is_repeated ps x) w.same.params ∙ twice))
no_fault_in t u c d w _ (two_ports x twice) =
    w.sound _ (two_ports x (repeated-same SamePort (λ (p : PortDecl). p.name) (λ p q is. is.name) c.ports d.ports w.same.ports x ∙ twice))
no_fault_in t u c d w _ (two_arrays x twice) =
    w.sound _ (two_arrays x (repeated-same SameArray (λ (a : ArrayDecl). a.name) (λ a b is. is.name) c.arrays d.arrays w.same.arrays x ∙ twice))
no_fault_in t u c d w _ (array_and_single x k single array) =
    w.sound _ (array_and_single x k (contains-same (singles_of d) (singles_of c) (x, k) (singles-same d c (same_component-sym c d w.same)) single)
    (is_some-both SameArray (array_named c x) (array_named d x) (w.alike.array x) array))
no_fault_in t u c d w _ (two_singles x k l single single' other) =
    let back = singles-same d c (same_component-sym c d w.same) in
    w.sound _ (two_singles x k l (contains-same (singles_of d) (singles_of c) (x, k) back single) (contains-same (singles_of d) (singles_of c) (x, l) back single') other)
no_fault_in t u c d w _ (two_values scope x there has) =
    w.sound _ (two_values scope x (variable-there d c (same_component-sym c d w.same) scope x there) has)
no_fault_in t u c d w _ (unknown_value scope e x there used lacks) =
    w.sound _ (unknown_value scope e x (value-there d c (same_component-sym c d w.same) scope e there) used lacks)
no_fault_in t u c d w _ (unknown_array x index args at there none) =
    let e = entry-like c d w.same (element x index args at) there in
    let is = element-like x index args at e.0 e.2 in
    w.sound _ (unknown_array x index args is.0 (subst (λ f. Contains (entries_of c.body) f) is.1 e.1)
    (both-none SameArray (array_named c x) (array_named d x) (w.alike.array x) none))
no_fault_in t u c d w _ (unknown_instance e x there inner none) =
    w.sound _ (unknown_instance e x (end-there d c (same_component-sym c d w.same) e there) inner (component_none c d w.same x none))
no_fault_in t u c d w _ (unknown_inner_port e x k f there inner is named none) =
    let g = both-some Alike (component_named t k) (component_named u k) f (w.trees.component k) named in
    w.sound _ (unknown_inner_port e x k g.0 (end-there d c (same_component-sym c d w.same) e there) inner (component_some t c d w.no_fault w.there w.same x k is) g.1
    (both-none SamePort (port_named g.0 e.port) (port_named f e.port) (g.2.port e.port) none))
no_fault_in t u c d w _ (unknown_outer_port e there outer none) =
    w.sound _ (unknown_outer_port e (end-there d c (same_component-sym c d w.same) e there) outer
    (both-none SamePort (port_named c e.port) (port_named d e.port) (w.alike.port e.port) none))
no_fault_in t u c d w _ (unknown_component x k there none) =
    w.sound _ (unknown_component x k (contains-same (instances_of d) (instances_of c) (x, k) (instances-same d c (same_component-sym c d w.same)) there)
    (both-none Alike (component_named t k) (component_named u k) (w.trees.component k) none))
no_fault_in t u c d w _ (arg_count e m f there made named other) =
    let e' = entry-like c d w.same e there in
    let g = both-some Alike (component_named t m.component) (component_named u m.component) f (w.trees.component m.component) named in
    w.sound _ (arg_count e'.0 m g.0 e'.1 (sym (made_by-same d c (alike-sym c d w.alike) e e'.0 e'.2) ∙ made) g.1 (λ is. other (is ∙ ap length g.2.params)))
no_fault_in t u c d w _ (unknown_kind primitive none) =
    w.sound _ (unknown_kind (is_primitive-same c d w.alike ∙ primitive) (ap kind_named w.same.name ∙ none))
no_fault_in t u c d w _ (kind_ports k primitive named unlike) =
    w.sound _ (kind_ports k (is_primitive-same c d w.alike ∙ primitive) (ap kind_named w.same.name ∙ named) (is_like_kind-same k c d w.same ∙ unlike))

pub no_fault_of_names : (t u : Tree) → SameDescription t u → NoFault t → NoFault u
no_fault_of_names t u same sound _ (two_components x twice) =
    sound _ (two_components x (repeated-same SameComponent (λ (c : Component). c.name) (λ c d is. is.name) t u same x ∙ twice))
no_fault_of_names t u same sound _ (within d e there fault) =
    let c = like_in SameComponent same_component-trans u t d (reordered-sym SameComponent same_component-sym t u same) there in
    let is = same_component-sym d c.0 c.2 in
    no_fault_in t u c.0 d (record {
      trees = alike_trees t u sound same;
      sound = λ f at. sound f (within c.0 f c.1 at);
      no_fault = sound;
      there = c.1;
      same = is;
      alike = alike_of t c.0 d sound c.1 is;
    }) e fault
