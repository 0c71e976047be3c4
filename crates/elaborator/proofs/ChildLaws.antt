-- The instances made in an instance, and how they are found by their paths.
use Rattle.std.proofs.Common.{◌≡◌, ◌∙◌, ℕ, zero, suc, ◌<◌, true, Some, None, ap, sym, subst, arith}
use Rattle.std.specs.List.{Contains, find, slice_get}
use Rattle.std.specs.Option.{option_map}
use Rattle.std.specs.Str.{bytes_eq}
use Rattle.std.proofs.lemmas.Bool.{false_from_ne_true}
use Rattle.std.proofs.lemmas.Slice.Eq.{bytes_eq-Decides}
use Rattle.std.proofs.lemmas.Option.{slice_get-map, none-some}
use Rattle.darwin_parser.specs.Tree.{Tree}
use Rattle.darwin_types.specs.Scope.{component_named}
use Rattle.darwin_walk.specs.Value.{parameters}
use Rattle.elaborator.specs.Paths.{Path}
use Rattle.elaborator.specs.Instances.{Instance, children_in, child_path, instance_of, made_in}
use Rattle.elaborator.specs.Numbering.{Expanded, NumberedInstance, Numbered, NumberedIn, IsExpanded}
use Rattle.elaborator.specs.Expansion.{expanded_of, made_of, instance_in, IsNumbering}
use Rattle.elaborator.specs.declared.instance.Instance as code_instance
use Rattle.elaborator.specs.declared.instance.Expansion.{Expansion}
use Rattle.base.proofs.ContainsLaws.{Contains-from_filter_map}
use Rattle.base.proofs.FindLaws.{find-none, find-only}
use Rattle.base.proofs.PlaceLaws.{one_at}
use Rattle.base.proofs.OptionLaws.{made_of_two, option_map_some}

-- an instance that is made stands one deeper
pub depth-made : (tree : Tree) (i j : Instance) → Contains (made_in tree i) j → j.depth ≡ suc i.depth
depth-made tree i j c =
    let from = Contains-from_filter_map (instance_of tree i) (children_in i) j c in
    let child = from.0 in
    let parts = made_of_two (λ c args. record { path = child_path i child; depth = suc i.depth; component = c; env = parameters c args }) (component_named tree child.component) child.arguments j from.2 in
    ap (λ (x : Instance). x.depth) (sym parts.4)

-- two instances that are made in one, and have one path, are one
pub same_made :
    (e : Expanded) → IsExpanded e → (m : ℕ) (i j k : Instance) → Numbered e m i → Contains (made_in e.tree i) j → Contains (made_in e.tree i) k
    → j.path ≡ k.path → j ≡ k
same_made e x m i j k at cj ck same =
    let nj = x.below_made m i j at cj in
    let nk = x.below_made m i k at ck in
    let number = x.distinct nj.0 nk.0 j k (record { maker = Some m; is_at = nj.1 }) (record { maker = Some m; is_at = nk.1 }) same (depth-made e.tree i j cj ∙ sym (depth-made e.tree i k ck)) in
    ap (λ (y : NumberedInstance). y.instance) (one_at e.made nk.0 _ _ (subst (λ n. NumberedIn e m n j) number nj.1) nk.1)

-- an instance of the code stands under its number
pub numbered : (e : Expansion) (n : ℕ) (x : code_instance.Instance) → slice_get e.instances.items n ≡ Some x → slice_get (expanded_of e).made n ≡ Some (made_of x)
numbered e n x at = slice_get-map made_of e.instances.items n ∙ ap (option_map made_of) at

numbered_in :
    (e : Expansion) (m n : ℕ) (x : code_instance.Instance) → slice_get e.instances.items n ≡ Some x → x.maker ≡ Some m
    → NumberedIn (expanded_of e) m n (instance_in x)
numbered_in e m n x at is = numbered e n x at ∙ ap (λ o. Some (record { instance = instance_in x; maker = o })) is

-- the instance of a path among those made in an instance is found
pub find-child :
    (e : Expansion) → IsNumbering e → (m n : ℕ) (path : Path) (i : Instance) (x : code_instance.Instance) → Numbered (expanded_of e) m i
    → slice_get e.instances.items n ≡ Some x → x.maker ≡ Some m → x.path ≡ path
    → NumberedIn (expanded_of e) m n (instance_in x) × (find (λ j. bytes_eq path j.path) (made_in (expanded_of e).tree i) ≡ Some (instance_in x))
find-child e kept m n path i x at is_at is_made is_path =
    let is_in = numbered_in e m n x is_at is_made in
    let made = kept.is_expanded.made_below m n i (instance_in x) at is_in in
    (is_in, find-only (λ j. bytes_eq path j.path) (made_in (expanded_of e).tree i) (instance_in x) made (same_bytes path x.path (sym is_path)) (λ k ck pk. same_made (expanded_of e) kept.is_expanded m i k (instance_in x) at ck made (sym (is_path ∙ bytes_same path k.path pk))))
  where
    same_bytes : (p q : Path) → p ≡ q → bytes_eq p q ≡ true
    same_bytes p q = (bytes_eq-Decides p q).1

    bytes_same : (p q : Path) → bytes_eq p q ≡ true → p ≡ q
    bytes_same p q = (bytes_eq-Decides p q).0

-- where no instance of the path is made there, none is found
pub find-no_child :
    (e : Expansion) → IsNumbering e → (m : ℕ) (path : Path) (i : Instance) → Numbered (expanded_of e) m i
    → ((n : ℕ) (x : code_instance.Instance) → 0 < n → slice_get e.instances.items n ≡ Some x → x.path ≡ path → x.maker ≡ Some m → ⊥)
    → find (λ j. bytes_eq path j.path) (made_in (expanded_of e).tree i) ≡ None
find-no_child e kept m path i at not_there =
    find-none (λ j. bytes_eq path j.path) (made_in (expanded_of e).tree i) (λ j cj. false_from_ne_true (bytes_eq path j.path) (λ same. refuted j cj ((bytes_eq-Decides path j.path).0 same)))
  where
    below_top : (n : ℕ) (x : code_instance.Instance) → slice_get e.instances.items n ≡ Some x → x.maker ≡ Some m → 0 < n
    below_top zero x at_n maker = absurd (none-some m (sym (kept.top x at_n) ∙ maker))
    below_top (suc n) x at_n maker = omega arith

    refuted : (j : Instance) → Contains (made_in (expanded_of e).tree i) j → path ≡ j.path → ⊥
    refuted j cj same =
        let below = kept.is_expanded.below_made m i j at cj in
        let n = below.0 in
        let from = option_map_some made_of (slice_get e.instances.items n) _ (sym (slice_get-map made_of e.instances.items n) ∙ below.1) in
        let x = from.0 in
        let maker : x.maker ≡ Some m = ap (λ (y : NumberedInstance). y.maker) from.2 in
        let its_path : x.path ≡ path = ap (λ (y : NumberedInstance). y.instance.path) from.2 ∙ sym same in
        not_there n x (below_top n x from.1 maker) from.1 its_path maker
