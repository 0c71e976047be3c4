-- Laws of the instances: as a relation and as a list, and how they are told.
use Rattle.std.proofs.Common.{◌≡◌, ◌≢◌, ◌==◌, ◌∙◌, ◌⊎◌, inl, inr, ℕ, ℤ, zero, suc, ◌+◌, ◌<◌, Bool, true, false, ◌&&◌, not, if◌then◌else◌, List, [], ◌∷◌, ◌++◌, length, Option, Some, None, refl, sym, ap, subst, arith, ◌↔◌}
use Rattle.std.specs.List.{Contains, flat_map, filter_map, cons_option, slice_get}
use Rattle.std.specs.Option.{option_map, option_and_then}
use Rattle.std.specs.Str.{bytes_eq}
use Rattle.std.proofs.lemmas.Bool.{cases_Bool, cases_order, false≢true}
use Rattle.std.proofs.lemmas.Slice.Eq.{bytes_eq-Decides}
use Rattle.std.proofs.lemmas.Option.{none-some, same_Some}
use Rattle.std.proofs.lemmas.List.Elements.{Contains-append_left, Contains-append_right, Contains-append_cases}
use Rattle.darwin_parser.specs.Tree.{Name, Tree, Component}
use Rattle.darwin_types.specs.Scope.{component_named, is_primitive}
use Rattle.darwin_walk.specs.Value.{parameters}
use Rattle.darwin_walk.specs.Instance.{Child}
use Rattle.elaborator.specs.Paths.{Path}
use Rattle.elaborator.specs.Instances.{Instance, top_instance, children_in, child_path, instance_of, path_of, made_in, paths_in, levels, instances, Inst}
use Rattle.elaborator.specs.Instances.Inst.{at_top, below}
use Rattle.elaborator.specs.Faults.{Faults, Twice}
use Rattle.elaborator.specs.Faults.Faults.{two_instances, two_apart}
use Rattle.elaborator.specs.declared.error.ElabError.TheVariants as error
use Rattle.elaborator.proofs.TwiceLaws.{twice_at, twice_there, twice_places}
use Rattle.elaborator.proofs.ChildLaws.{depth-made}
use Rattle.elaborator.proofs.SpreadLemmas.{levels-suc, levels-zero, levels-front, shallow-maker}
use Rattle.base.proofs.ContainsLaws.{Contains-at, Contains-filter_map, Contains-flat_map, Contains-from_filter_map, Contains-from_flat_map, Contains-here, Contains-one, at_some_place}
use Rattle.base.proofs.OptionLaws.{made_of_two}

in_levels : (tree : Tree) (n : ℕ) (is : List Instance) (i : Instance) → Contains is i → Contains (levels tree n is) i
in_levels tree n is i has =
    let more = levels-front tree n is in
    subst (λ js. Contains js i) (sym more.1) (Contains-append_left is more.0 i has)

pub next_depths :
    (tree : Tree) (n : ℕ) (is : List Instance) → ((i : Instance) → Contains is i → i.depth + suc n ≡ 33) → (j : Instance) → Contains (flat_map (made_in tree) is) j
    → j.depth + n ≡ 33
next_depths tree n is depths j has =
    let from = Contains-from_flat_map (made_in tree) is j has in
    omega (arith, depths from.0 from.1, depth-made tree from.0 j from.2)

-- what an instance of the levels makes is among them
levels-closed :
    (tree : Tree) (n : ℕ) (is : List Instance) → ((i : Instance) → Contains is i → i.depth + n ≡ 33) → (i j : Instance) → Contains (levels tree n is) i
    → Contains (made_in tree i) j → Contains (levels tree n is) j
levels-closed tree zero is depths i j has made =
    absurd (omega (arith, shallow-maker tree i j made, depths i (subst (λ js. Contains js i) (levels-zero tree is) has)))
levels-closed tree (suc n) is depths i j has made =
    let next = flat_map (made_in tree) is in
    let parts : levels tree (suc n) is ≡ is ++ levels tree n next = levels-suc tree n is in
    subst (λ js. Contains js j) (sym parts) (Contains-append_right is (levels tree n next) j
    (elim (Contains-append_cases is (levels tree n next) i (subst (λ js. Contains js i) parts has)) [
      | inl here ↦ in_levels tree n next j (Contains-flat_map (made_in tree) is i j here made)
      | inr deeper ↦ levels-closed tree n next (next_depths tree n is depths) i j deeper made
    ]))

levels-sound :
    (tree : Tree) (top : Instance) (n : ℕ) (is : List Instance) → ((i : Instance) → Contains is i → Inst tree top i) → (i : Instance) → Contains (levels tree n is) i
    → Inst tree top i
levels-sound tree top zero is all i has = all i (subst (λ js. Contains js i) (levels-zero tree is) has)
levels-sound tree top (suc n) is all i has =
    let next = flat_map (made_in tree) is in
    elim (Contains-append_cases is (levels tree n next) i (subst (λ js. Contains js i) (levels-suc tree n is) has)) [
      | inl here ↦ all i here
      | inr deeper ↦
          levels-sound tree top n next
          (λ j made. let from = Contains-from_flat_map (made_in tree) is j made in below from.0 j (all from.0 from.1) from.2) i deeper
    ]

listed : (tree : Tree) (top i : Instance) → top.depth ≡ 0 → Inst tree top i → Contains (instances tree top) i
listed tree top _ shallow at_top = in_levels tree 33 (top ∷ []) top (Contains-here top [])
listed tree top _ shallow (below i j inst made) =
    levels-closed tree 33 (top ∷ []) (λ x has. ap (λ (y : Instance). y.depth + 33) (Contains-one top x has) ∙ ap (λ n. n + 33) shallow) i j (listed tree top i shallow inst) made

-- an instance of the elaboration is one of the list of all
pub instances-listed : (tree : Tree) (top i : Instance) → top.depth ≡ 0 → Inst tree top i ↔ Contains (instances tree top) i
instances-listed tree top i shallow =
    (listed tree top i shallow, levels-sound tree top 33 (top ∷ []) (λ j has. subst (Inst tree top) (sym (Contains-one top j has)) at_top) i)

-- ---- an instance is told by its path

pub twice_front : {A : Type 0} (y : A) (xs : List A) → Contains xs y → Twice (y ∷ xs) y
twice_front y xs has = let w = at_some_place xs y has in twice_at (y ∷ xs) 0 (suc w.0) y (omega arith) refl w.1

pub twice_cases : {A : Type 0} (x : A) (xs : List A) (z : A) → Twice (x ∷ xs) z → ((x ≡ z) × Contains xs z) ⊎ Twice xs z
twice_cases x xs z two = let w = twice_places (x ∷ xs) z two in by w.0 w.1 w.2 w.3 w.4
  where
    by : (a b : ℕ) → a < b → slice_get (x ∷ xs) a ≡ Some z → slice_get (x ∷ xs) b ≡ Some z → ((x ≡ z) × Contains xs z) ⊎ Twice xs z
    by a zero lt at at' = absurd (omega arith)
    by zero (suc b) lt at at' = inl (same_Some x z at, Contains-at xs b z at')
    by (suc a) (suc b) lt at at' = inr (twice_at xs a b z (omega arith) at at')

-- two places of a list give two of what is listed
pub twice-filter_map :
    {A B : Type 0} (h : A → Option B) (xs : List A) (a b : ℕ) (x z : A) (y : B)
    → a < b → slice_get xs a ≡ Some x → slice_get xs b ≡ Some z → h x ≡ Some y → h z ≡ Some y → Twice (filter_map h xs) y
twice-filter_map h [] a b x z y lt at at' is is' = absurd (none-some x at)
twice-filter_map h (v ∷ xs) a zero x z y lt at at' is is' = absurd (omega (arith, lt))
twice-filter_map h (v ∷ xs) zero (suc b) x z y lt at at' is is' =
    subst (λ o. Twice (cons_option o (filter_map h xs)) y) (sym is ∙ ap h (sym (same_Some v x at)))
    (twice_front y (filter_map h xs) (Contains-filter_map h xs b z y at' is'))
twice-filter_map {B = B} h (v ∷ xs) (suc a) (suc b) x z y lt at at' is is' = behind (h v) (twice-filter_map h xs a b x z y (omega (arith, lt)) at at' is is')
  where
    behind : (o : Option B) → Twice (filter_map h xs) y → Twice (cons_option o (filter_map h xs)) y
    behind None two = two
    behind (Some w) two = twice_there w (filter_map h xs) y two

-- the entry that makes an instance
made_child : (tree : Tree) (a i : Instance) → Contains (made_in tree a) i → (n : ℕ) × (c : Child) × (slice_get (children_in a) n ≡ Some c) × (instance_of tree a c ≡ Some i)
made_child tree a i made =
    let w = Contains-from_filter_map (instance_of tree a) (children_in a) i made in
    let place = at_some_place (children_in a) w.0 w.1 in
    (place.0, w.0, place.1, w.2)

pub its_path : (tree : Tree) (a i : Instance) (c : Child) → instance_of tree a c ≡ Some i → path_of tree a c ≡ Some i.path
its_path tree a i c is =
    let parts = made_of_two (λ component args. record { path = child_path a c; depth = suc a.depth; component = component; env = parameters component args }) (component_named tree c.component) c.arguments i is in
    ap (option_map (λ component. child_path a c)) parts.2 ∙ ap (λ (x : Instance). Some x.path) parts.4

pub path_made : (tree : Tree) (a i : Instance) → Contains (made_in tree a) i → Contains (paths_in tree a) i.path
path_made tree a i made =
    let w = made_child tree a i made in
    Contains-filter_map (path_of tree a) (children_in a) w.0 w.1 i.path w.2 (its_path tree a i w.1 w.3)

-- no two entries make the instance of one path
pub record IsSingle (tree : Tree) (top : Instance) : Type 0 where
  pub once : (a : Instance) (path : Path) → Inst tree top a → ¬ Twice (paths_in tree a) path
  pub apart : (a b : Instance) (path : Path) → Inst tree top a → Inst tree top b → a ≢ b → Contains (paths_in tree a) path → ¬ Contains (paths_in tree b) path

-- two instances of one path that are made in one instance are one
one_made :
    (tree : Tree) (top : Instance) → IsSingle tree top → (a i j : Instance) → Inst tree top a → Contains (made_in tree a) i → Contains (made_in tree a) j → i.path ≡ j.path
    → i ≡ j
one_made tree top single a i j inst made made' same =
    let v = made_child tree a i made in
    let w = made_child tree a j made' in
    let path = its_path tree a i v.1 v.3 in
    let path' = its_path tree a j w.1 w.3 ∙ ap Some (sym same) in
    elim (cases_order v.0 w.0) [
      | inl one ↦
          let child = same_Some v.1 w.1 (sym v.2 ∙ ap (slice_get (children_in a)) one ∙ w.2) in
          same_Some i j (sym v.3 ∙ ap (instance_of tree a) child ∙ w.3)
      | inr two ↦ elim two [
        | inl before ↦ absurd (single.once a i.path inst (twice-filter_map (path_of tree a) (children_in a) v.0 w.0 v.1 w.1 i.path before v.2 w.2 path path'))
        | inr behind ↦ absurd (single.once a i.path inst (twice-filter_map (path_of tree a) (children_in a) w.0 v.0 w.1 v.1 i.path behind w.2 v.2 path' path))
      ]
    ]

-- two instances of one path are made in instances of one path and depth
one_maker :
    (tree : Tree) (top : Instance) → IsSingle tree top → (a b i j : Instance) → Inst tree top a → Inst tree top b → Contains (made_in tree a) i → Contains (made_in tree b) j
    → i.path ≡ j.path → (a.path ≡ b.path) × (a.depth ≡ b.depth)
one_maker tree top single a b i j inst inst' made made' same = (
  elim (cases_Bool (bytes_eq a.path b.path)) [
    | inl is ↦ (bytes_eq-Decides a.path b.path).0 is
    | inr differ ↦ absurd (other (λ one. false≢true (sym differ ∙ (bytes_eq-Decides a.path b.path).1 (ap (λ (x : Instance). x.path) one))))
  ],
  elim (cases_order a.depth b.depth) [
    | inl is ↦ is
    | inr differ ↦ absurd (other (λ one. unequal a.depth b.depth differ (ap (λ (x : Instance). x.depth) one)))
  ],
)
  where
    other : (a ≡ b → ⊥) → ⊥
    other differ = single.apart a b i.path inst inst' differ (path_made tree a i made) (subst (Contains (paths_in tree b)) (sym same) (path_made tree b j made'))

    unequal : (m n : ℕ) → (m < n) ⊎ (n < m) → m ≡ n → ⊥
    unequal m n (inl lt) is = omega (arith, lt, is)
    unequal m n (inr lt) is = omega (arith, lt, is)

pub told-by_level :
    (tree : Tree) (top : Instance) → IsSingle tree top → top.depth ≡ 0 → (i : Instance) → Inst tree top i → (j : Instance) → Inst tree top j
    → i.path ≡ j.path → i.depth ≡ j.depth → i ≡ j
told-by_level tree top single shallow _ at_top _ at_top same level = refl
told-by_level tree top single shallow _ at_top _ (below b j inst made) same level = absurd (omega (arith, shallow, level, depth-made tree b j made))
told-by_level tree top single shallow _ (below a i inst made) _ at_top same level = absurd (omega (arith, shallow, level, depth-made tree a i made))
told-by_level tree top single shallow _ (below a i inst made) _ (below b j inst' made') same level =
    let maker = one_maker tree top single a b i j inst inst' made made' same in
    let one = told-by_level tree top single shallow a inst b inst' maker.0 maker.1 in
    one_made tree top single a i j inst made (subst (λ x. Contains (made_in tree x) j) (sym one) made') same

pub told-below :
    (tree : Tree) (top : Instance) → IsSingle tree top → top.depth ≡ 0 → (i : Instance) → Inst tree top i → (j : Instance) → Inst tree top j
    → 0 < i.depth → 0 < j.depth → i.path ≡ j.path → i ≡ j
told-below tree top single shallow _ at_top j other deep deep' same = absurd (omega (arith, deep, shallow))
told-below tree top single shallow _ (below a i inst made) _ at_top deep deep' same = absurd (omega (arith, deep', shallow))
told-below tree top single shallow _ (below a i inst made) _ (below b j inst' made') deep deep' same =
    let maker = one_maker tree top single a b i j inst inst' made made' same in
    let one = told-by_level tree top single shallow a inst b inst' maker.0 maker.1 in
    one_made tree top single a i j inst made (subst (λ x. Contains (made_in tree x) j) (sym one) made') same

pub top_depth : (tree : Tree) (name : Name) (arguments : List ℤ) (top : Instance) → top_instance tree name arguments ≡ Some top → top.depth ≡ 0
top_depth tree name arguments top is = found (component_named tree name) is
  where
    found :
        (o : Option Component)
        → option_and_then (λ (c : Component). if not (is_primitive c) && (length c.params == length arguments) then Some (record { path = []; depth = 0; component = c; env = parameters c arguments }) else None) o ≡ Some top
        → top.depth ≡ 0
    found None at = absurd (none-some top at)
    found (Some c) at = by (not (is_primitive c) && (length c.params == length arguments)) at
      where
        by : (b : Bool) → (if b then Some (record { path = []; depth = 0; component = c; env = parameters c arguments }) else None) ≡ Some top → top.depth ≡ 0
        by true at = ap (λ (x : Instance). x.depth) (sym (same_Some _ top at))
        by false at = absurd (none-some top at)

pub single-if_none :
    (tree : Tree) (name : Name) (arguments : List ℤ) (top : Instance) → top_instance tree name arguments ≡ Some top
    → ((path : Path) → ¬ Faults tree name arguments (error.TwoInstances path)) → IsSingle tree top
single-if_none tree name arguments top is none =
    record {
      once = λ a path there two. none path (two_instances a path (record { top = top; is_top = is; inst = there }) two);
      apart = λ a b path there there' differ has has'. none path (two_apart a b path (record { top = top; is_top = is; inst = there }) (record { top = top; is_top = is; inst = there' }) differ has has');
    }

-- where no two entries make one instance, one that isn't the top is told by its path
pub told-by_path :
    (tree : Tree) (name : Name) (arguments : List ℤ) (top : Instance) → top_instance tree name arguments ≡ Some top
    → ((path : Path) → ¬ Faults tree name arguments (error.TwoInstances path))
    → (i j : Instance) → Inst tree top i → Inst tree top j → 0 < i.depth → 0 < j.depth → i.path ≡ j.path → i ≡ j
told-by_path tree name arguments top is none i j inst other deep deep' same =
    told-below tree top (single-if_none tree name arguments top is none) (top_depth tree name arguments top is) i inst j other deep deep' same
