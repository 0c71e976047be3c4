-- A description in another order shows no fault of its elaboration that the first doesn't show.
use Rattle.std.proofs.Common.{◌≡◌, ◌∙◌, ℕ, ◌<◌, ℤ, Bool, true, false, List, length, map, Option, Some, None, refl, ap, sym, subst}
use Rattle.std.specs.List.{Contains}
use Rattle.std.specs.Str.{bytes_eq}
use Rattle.std.proofs.lemmas.Option.{none-some, same_Some}
use Rattle.std.proofs.lemmas.Slice.Eq.{bytes_eq-Decides}
use Rattle.darwin_lexer.specs.declared.token.At.{At}
use Rattle.darwin_parser.specs.Tree.{Name, Tree, Component}
use Rattle.darwin_types.specs.Scope.{component_named}
use Rattle.darwin_walk.specs.Value.{Env}
use Rattle.darwin_walk.specs.Instance.{Binding}
use Rattle.darwin_walk.specs.declared.fault.Fault.{Fault}
use Rattle.darwin_walk.specs.declared.fault.Fault.TheVariants as shown
use Rattle.elaborator.specs.Paths.{Path}
use Rattle.elaborator.specs.Instances.{Instance, top_instance, children_in, instance_of, paths_in, Inst, at_top, below}
use Rattle.elaborator.specs.Bindings.{resolve, Pair, Port, pair_of, pairs_in, bindings_in}
use Rattle.elaborator.specs.Faults.{faults_in, NotesDiffer, differ, Faults, no_top, top_is_kind, top_args, out_of_range, zero_divisor, bad_index, two_instances, two_apart, bound_twice, bad_binding, annotation, too_deep, too_many, depends_cycle}
use Rattle.elaborator.specs.Elaboration.{HasNoFault}
use Rattle.elaborator.specs.declared.error.ElabError.{ElabError}
use Rattle.elaborator.specs.declared.error.ElabError.TheVariants as error
use Rattle.elaborator.proofs.InstanceLaws.{told-by_path, single-if_none, top_depth}
use Rattle.elaborator.proofs.CountLaws.{counted-within, counted-all}
use Rattle.elaborator_laws.proofs.Finding.{Both, neither, both_there}
use Rattle.elaborator_laws.proofs.Children.{Alike, AlikeTrees, alike_trees-sym, is_primitive-same, SameBound}
use Rattle.elaborator_laws.proofs.Instances.{SameInstance, same_instance-sym, top_of, may_be_top, top-missing, top-unfit, top-there, top-like, made_by, inst-like, paths_in-same, total-same}
use Rattle.elaborator_laws.proofs.Joining.{Setting, SameNamed, resolve-same, ports_of, pairs-same, bindings_in-like, pair-like, elab-back}
use Rattle.elaborator_laws.proofs.Faulting.{LikeFault, fault-back, is_out, is_zero, is_bad}
use Rattle.elaborator_laws.proofs.Twices.{contains-same, twice-same}
use Rattle.base.proofs.ContainsLaws.{Contains-flat_map, Contains-from_filter_map, Contains-from_flat_map}
use Rattle.base.proofs.FindLaws.{find-some}
use Rattle.base.proofs.OptionLaws.{made_of_two}
use Rattle.base.proofs.MapLaws.{none_mapped}

-- ---- what both have

pub both-none : {A B : Type 0} (R : A → B → Type 0) (a : Option A) (b : Option B) → Both R a b → b ≡ None → a ≡ None
both-none R _ _ neither is = refl
both-none R _ _ (both_there x y same) is = absurd (none-some y (sym is))

pub both-some : {A B : Type 0} (R : A → B → Type 0) (a : Option A) (b : Option B) (y : B) → Both R a b → b ≡ Some y → (x : A) × (a ≡ Some x) × R x y
both-some R _ _ y neither is = absurd (none-some y is)
both-some R _ _ y (both_there x z same) is = (x, refl, subst (R x) (same_Some z y is) same)

-- ---- an instance is told by what is the same of it

named_itself : (t : Tree) (x : Name) (c : Component) → component_named t x ≡ Some c → component_named t c.name ≡ Some c
named_itself t x c is =
    subst (λ n. component_named t n ≡ Some c) ((bytes_eq-Decides x c.name).0 (find-some (λ d. bytes_eq x d.name) t c is).1) is

abbrev IsNamed : Tree → Instance → Type 0
IsNamed t i = component_named t i.component.name ≡ Some i.component

top-named : (t : Tree) (name : Name) (arguments : List ℤ) (top : Instance) → top_instance t name arguments ≡ Some top → IsNamed t top
top-named t name arguments top is = by (component_named t name) refl
  where
    fits : (c : Component) → component_named t name ≡ Some c → (b : Bool) → may_be_top c arguments ≡ b → IsNamed t top
    fits c there false unfit = absurd (none-some top (sym (top-unfit t name arguments c there unfit) ∙ is))
    fits c there true fit =
        subst (IsNamed t) (same_Some (top_of c arguments) top (sym (top-there t name arguments c there fit) ∙ is)) (named_itself t name c there)

    by : (o : Option Component) → component_named t name ≡ o → IsNamed t top
    by None none = absurd (none-some top (sym (top-missing t name arguments none) ∙ is))
    by (Some c) there = fits c there (may_be_top c arguments) refl

inst-named : (t : Tree) (top : Instance) → IsNamed t top → (i : Instance) → Inst t top i → IsNamed t i
inst-named t top is _ at_top = is
inst-named t top is _ (below i j inst there) =
    let from = Contains-from_filter_map (instance_of t i) (children_in i) j there in
    let parts = made_of_two (made_by i from.0) (component_named t from.0.component) from.0.arguments j from.2 in
    subst (IsNamed t) parts.4 (named_itself t from.0.component parts.0 parts.2)

abbrev instance_with : Path → ℕ → Component → Env → Instance
instance_with path depth c env = record { path = path; depth = depth; component = c; env = env }

instance-equal :
    (path path' : Path) (depth depth' : ℕ) (c c' : Component) (env env' : Env) → path ≡ path' → depth ≡ depth' → c ≡ c' → env ≡ env'
    → instance_with path depth c env ≡ instance_with path' depth' c' env'
instance-equal path path' depth depth' c c' env env' paths depths components envs = rw (paths, depths, components, envs) refl

one_instance : (u : Tree) (i j k : Instance) → IsNamed u i → IsNamed u j → SameInstance i k → SameInstance j k → i ≡ j
one_instance u i j k named_i named_j same same' =
    instance-equal i.path j.path i.depth j.depth i.component j.component i.env j.env (same.path ∙ sym same'.path) (same.depth ∙ sym same'.depth)
    (same_Some i.component j.component (sym named_i ∙ ap (component_named u) (same.component.name ∙ sym same'.component.name) ∙ named_j))
    (same.env ∙ sym same'.env)

-- ---- what an instance of the second description shows, the same of the first shows

pairs_in-back :
    (t u : Tree) (top top' : Instance) → Setting t u top top' → (i i' : Instance) → Inst t top i → SameInstance i i' → (p : Pair) → Contains (pairs_in u i') p
    → (q : Pair) × Contains (pairs_in t i) q × (ports_of p ≡ ports_of q)
pairs_in-back t u top top' setting i i' inst same p there =
    let from = Contains-from_flat_map (pair_of u i') (bindings_in i') p there in
    let b = bindings_in-like i' i (same_instance-sym i i' same) from.0 from.1 in
    let ends : SameBound b.0 from.0 = record { left = sym b.2.left; right = sym b.2.right } in
    let q = pair-like u t i' i from.0 b.0 (sym (pairs-same t u top top' setting i i' inst same b.0 from.0 ends)) p from.2 in
    (q.0, Contains-flat_map (pair_of t i) (bindings_in i) b.0 q.0 b.1 q.1, q.2)

notes-back :
    (t u : Tree) (top top' : Instance) → Setting t u top top' → (i i' : Instance) → Inst t top i → SameInstance i i' → (b b' : Binding) → SameBound b b'
    → NotesDiffer (resolve u i' b'.left) (resolve u i' b'.right) → NotesDiffer (resolve t i b.left) (resolve t i b.right)
notes-back t u top top' setting i i' inst same b b' ends (differ m n note note' is is' noted noted' other) =
    let at = resolve-same t u top top' setting i i' inst same in
    let x = both-some SameNamed (resolve t i b.left) (resolve u i' b.left) m (at b.left) (ap (resolve u i') ends.left ∙ is) in
    let y = both-some SameNamed (resolve t i b.right) (resolve u i' b.right) n (at b.right) (ap (resolve u i') ends.right ∙ is') in
    differ x.0 y.0 note note' x.1 y.1 (x.2.decl.note ∙ noted) (y.2.decl.note ∙ noted') other

-- ---- no fault

-- the tops of both, where the second has one
settled :
    (t u : Tree) (name : Name) (arguments : List ℤ) → AlikeTrees t u → HasNoFault t name arguments → (top' : Instance) → top_instance u name arguments ≡ Some top'
    → (top : Instance) × (top_instance t name arguments ≡ Some top) × Setting t u top top'
settled t u name arguments trees lawful top' is =
    let top = top-like u t name arguments top' (alike_trees-sym t u trees) is in (
      top.0,
      top.1,
      record {
        trees = trees;
        tops = same_instance-sym top' top.0 top.2;
        one_path = told-by_path t name arguments top.0 top.1 (λ path. lawful (error.TwoInstances path));
      },
    )

-- the same instance of the first description
inst-back :
    (t u : Tree) (top top' : Instance) → Setting t u top top' → (i' : Instance) → Inst u top' i' → (i : Instance) × Inst t top i × SameInstance i i'
inst-back t u top top' setting i' inst =
    let w = inst-like u t top' top (alike_trees-sym t u setting.trees) (same_instance-sym top top' setting.tops) i' inst in
    (w.0, w.1, same_instance-sym i' w.0 w.2)

fault-there :
    (o : At) (t u : Tree) (top top' : Instance) → Setting t u top top' → (i' : Instance) → Inst u top' i' → (f : Fault) → Contains (faults_in u i') f
    → (i : Instance) × Inst t top i × LikeFault o (faults_in t i) f
fault-there o t u top top' setting i' inst f there =
    let i = inst-back t u top top' setting i' inst in
    (i.0, i.1, fault-back o t u top top' setting i.0 i' i.1 i.2 (same_instance-sym i.0 i' i.2) f there)

pub no_fault_back : (t u : Tree) (name : Name) (arguments : List ℤ) → AlikeTrees t u → HasNoFault t name arguments → (f : ElabError) → Faults u name arguments f → ⊥
no_fault_back t u name arguments trees lawful _ (no_top none) =
    lawful _ (no_top (both-none Alike (component_named t name) (component_named u name) (trees.component name) none))
no_fault_back t u name arguments trees lawful _ (top_is_kind c there primitive) =
    let w = both-some Alike (component_named t name) (component_named u name) c (trees.component name) there in
    lawful _ (top_is_kind w.0 w.1 (is_primitive-same w.0 c w.2 ∙ primitive))
no_fault_back t u name arguments trees lawful _ (top_args c there other) =
    let w = both-some Alike (component_named t name) (component_named u name) c (trees.component name) there in
    lawful _ (top_args w.0 w.1 (λ is. other (ap length (sym w.2.params) ∙ is)))
no_fault_back t u name arguments trees lawful _ (out_of_range i' at m there) =
    let s = settled t u name arguments trees lawful m.top m.is_top in
    let w = fault-there at t u s.0 m.top s.2 i' m.inst (shown.OutOfRange at) there in
    let v = is_out at w.2.0 w.2.2 in
    lawful _ (out_of_range w.0 v.0 (record { top = s.0; is_top = s.1; inst = w.1 }) (subst (λ f. Contains (faults_in t w.0) f) v.1 w.2.1))
no_fault_back t u name arguments trees lawful _ (zero_divisor i' at m there) =
    let s = settled t u name arguments trees lawful m.top m.is_top in
    let w = fault-there at t u s.0 m.top s.2 i' m.inst (shown.ZeroDivisor at) there in
    let v = is_zero at w.2.0 w.2.2 in
    lawful _ (zero_divisor w.0 v.0 (record { top = s.0; is_top = s.1; inst = w.1 }) (subst (λ f. Contains (faults_in t w.0) f) v.1 w.2.1))
no_fault_back t u name arguments trees lawful _ (bad_index i' at m there) =
    let s = settled t u name arguments trees lawful m.top m.is_top in
    let w = fault-there at t u s.0 m.top s.2 i' m.inst (shown.BadIndex at) there in
    let v = is_bad at w.2.0 w.2.2 in
    lawful _ (bad_index w.0 v.0 (record { top = s.0; is_top = s.1; inst = w.1 }) (subst (λ f. Contains (faults_in t w.0) f) v.1 w.2.1))
no_fault_back t u name arguments trees lawful _ (two_instances i' path m two) =
    let s = settled t u name arguments trees lawful m.top m.is_top in
    let i = inst-back t u s.0 m.top s.2 i' m.inst in
    lawful _ (two_instances i.0 path (record { top = s.0; is_top = s.1; inst = i.1 })
    (twice-same (paths_in u i') (paths_in t i.0) path (paths_in-same u t (alike_trees-sym t u trees) i' i.0 (same_instance-sym i.0 i' i.2)) two))
no_fault_back t u name arguments trees lawful _ (two_apart i' j' path m m' other has has') =
    let inst' : Inst u m.top j' = subst (λ r. Inst u r j') (same_Some m'.top m.top (sym m'.is_top ∙ m.is_top)) m'.inst in
    let s = settled t u name arguments trees lawful m.top m.is_top in
    let i = inst-back t u s.0 m.top s.2 i' m.inst in
    let j = inst-back t u s.0 m.top s.2 j' inst' in
    let same = same_instance-sym i.0 i' i.2 in
    let same' = same_instance-sym j.0 j' j.2 in
    let back = alike_trees-sym t u trees in
    let top_named = top-named u name arguments m.top m.is_top in
    lawful _ (two_apart i.0 j.0 path (record { top = s.0; is_top = s.1; inst = i.1 }) (record { top = s.0; is_top = s.1; inst = j.1 })
    (λ one. other (one_instance u i' j' j.0 (inst-named u m.top top_named i' m.inst) (inst-named u m.top top_named j' inst') (subst (SameInstance i') one same) same'))
    (contains-same (paths_in u i') (paths_in t i.0) path (paths_in-same u t back i' i.0 same) has)
    (contains-same (paths_in u j') (paths_in t j.0) path (paths_in-same u t back j' j.0 same') has'))
no_fault_back t u name arguments trees lawful _ (bound_twice i' p q m there there' one other) =
    let s = settled t u name arguments trees lawful m.top m.is_top in
    let i = inst-back t u s.0 m.top s.2 i' m.inst in
    let x = pairs_in-back t u s.0 m.top s.2 i.0 i' i.1 i.2 p there in
    let y = pairs_in-back t u s.0 m.top s.2 i.0 i' i.1 i.2 q there' in
    lawful _ (bound_twice i.0 x.0 y.0 (record { top = s.0; is_top = s.1; inst = i.1 }) x.1 y.1
    (sym (ap (λ (w : Port × Port). w.0) x.2) ∙ one ∙ ap (λ (w : Port × Port). w.0) y.2)
    (λ same. other (ap (λ (w : Port × Port). w.1) x.2 ∙ same ∙ sym (ap (λ (w : Port × Port). w.1) y.2))))
no_fault_back t u name arguments trees lawful _ (bad_binding i' b' m there none) =
    let s = settled t u name arguments trees lawful m.top m.is_top in
    let i = inst-back t u s.0 m.top s.2 i' m.inst in
    let b = bindings_in-like i' i.0 (same_instance-sym i.0 i' i.2) b' there in
    let ends : SameBound b.0 b' = record { left = sym b.2.left; right = sym b.2.right } in
    lawful _ (bad_binding i.0 b.0 (record { top = s.0; is_top = s.1; inst = i.1 }) b.1
    (none_mapped ports_of (pair_of t i.0 b.0) (pairs-same t u s.0 m.top s.2 i.0 i' i.1 i.2 b.0 b' ends ∙ ap (map ports_of) none)))
no_fault_back t u name arguments trees lawful _ (annotation i' b' m there notes) =
    let s = settled t u name arguments trees lawful m.top m.is_top in
    let i = inst-back t u s.0 m.top s.2 i' m.inst in
    let b = bindings_in-like i' i.0 (same_instance-sym i.0 i' i.2) b' there in
    let ends : SameBound b.0 b' = record { left = sym b.2.left; right = sym b.2.right } in
    lawful _ (annotation i.0 b.0 (record { top = s.0; is_top = s.1; inst = i.1 }) b.1 (notes-back t u s.0 m.top s.2 i.0 i' i.1 i.2 b.0 b' ends notes))
no_fault_back t u name arguments trees lawful _ (too_deep i' m deep) =
    let s = settled t u name arguments trees lawful m.top m.is_top in
    let i = inst-back t u s.0 m.top s.2 i' m.inst in
    lawful _ (too_deep i.0 (record { top = s.0; is_top = s.1; inst = i.1 }) (i.2.depth ∙ deep))
no_fault_back t u name arguments trees lawful _ (too_many top' is many) =
    let s = settled t u name arguments trees lawful top' is in
    let above = counted-within u top' 65536 (top_depth u name arguments top' is) many in
    lawful _ (too_many s.0 s.1
    (counted-all t s.0 65536 (single-if_none t name arguments s.0 s.1 (λ path. lawful (error.TwoInstances path))) (top_depth t name arguments s.0 s.1)
    (subst (λ n. 65536 < n) (sym (total-same t u trees s.0 top' s.2.tops)) above)))
no_fault_back t u name arguments trees lawful _ (depends_cycle top' g k n is elab first at) =
    let s = settled t u name arguments trees lawful top' is in
    lawful _ (depends_cycle s.0 g k n s.1 (elab-back t u s.0 top' s.2 g elab) first at)
