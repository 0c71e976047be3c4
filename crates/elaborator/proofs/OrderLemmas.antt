-- The numbers of the nodes in the order of their paths: the nodes are listed by number, and the list is sorted.
use Rattle.std.proofs.Common.{◌≡◌, ◌∙◌, ℕ, ◌+◌, ◌<◌, ◌≤◌, Bool, true, false, eqb, List, [], ◌∷◌, ◌++◌, Option, Some, None, Result, Ok, Err, length, map, get_or, refl, ap, sym, subst, ⊎_elim, inl, inr, arith}
use Rattle.std.specs.Global.{Vec}
use Rattle.std.specs.Result.{IfOk}
use Rattle.std.specs.List.{IsDistinct, slice_get}
use Rattle.std.specs.List.Sorted.{IsPermutation, IsSortedBy}
use Rattle.std.specs.Ordering.{nat_cmp, is_lt}
use Rattle.std.specs.Cmp.Lexicographic.{slice_cmp, nat_list_cmp_total}
use Rattle.std.specs.declared.cmp.Ordering.TheVariants.{Less}
use Rattle.std.proofs.lemmas.Bool.{cases_eq, false≢true, ne_eqb, eqb-false}
use Rattle.std.proofs.lemmas.List.{length-map, length_push}
use Rattle.std.proofs.lemmas.List.Quantifiers.{all_pairs_push}
use Rattle.std.proofs.lemmas.List.Elements.{Contains-append_left, Contains-append_right, Contains-append_cases}
use Rattle.std.proofs.lemmas.List.Sorted.{ranks_by, sorted_far, Contains-permutation, IsPermutation-sym, length_permutation}
use Rattle.std.proofs.lemmas.Map.Keys.{IsDistinct-from_apart, apart_from_distinct, IsDistinct-IsPermutation}
use Rattle.std.proofs.lemmas.Option.{slice_get-get_or, slice_get-map, slice_get_within, get_or_from_slice_get}
use Rattle.darwin_types.specs.Scope.{is_primitive}
use Rattle.elaborator.specs.Instances.{Instance}
use Rattle.elaborator.specs.Numbering.{Expanded, Numbered, IsExpanded}
use Rattle.elaborator.specs.NodeOrder.{AreListed, IsInOrder}
use Rattle.elaborator.specs.declared.nodes.Listed.{Listed}
use Rattle.elaborator.proofs.IndexLemmas.{same_numbered}
use Rattle.base.proofs.BytesLaws.{before_the_other}
use Rattle.base.proofs.ContainsLaws.{Contains-at, Contains-here, Contains-one, at_some_place}
use Rattle.base.proofs.OptionLaws.{option_map_some}
use Rattle.base.proofs.PlaceLaws.{slice_get-map_at}
use Rattle.base.proofs.NumberLaws.{eqb_flips}

-- an instance that is no node
pub listed-skip :
    (e : Expanded) (count : ℕ) (nodes : List Listed) (i : Instance) → AreListed e count nodes → Numbered e count i → is_primitive i.component ≡ false
    → AreListed e (count + 1) nodes
listed-skip e count nodes i so_far numbered none = record {
  stands = λ x has. let w = so_far.stands x has in (w.0, omega (arith, w.1), w.2, w.3, w.4);
  all = λ m j below is primitive. ⊎_elim
      (λ (same : m ≡ count).
      let one = same_numbered e count j i (subst (λ n. Numbered e n j) same is) numbered in
      absurd (false≢true (sym none ∙ ap (λ (x : Instance). is_primitive x.component) (sym one) ∙ primitive)))
      (λ (other : m ≡ count → ⊥). so_far.all m j (before m count below other) is primitive)
      (cases_eq m count);
  rising = so_far.rising;
  few = omega (arith, so_far.few);
}
  where
    before : (m n : ℕ) → m < n + 1 → (m ≡ n → ⊥) → m < n
    before m n below other = grind (arith, below, other)

-- it is a node among the first so many instances, with its path
abbrev IsNodeAmong : Expanded → ℕ → Listed → Type 0
IsNodeAmong e count x =
    (i : Instance) × (x.number < count) × Numbered e x.number i × (is_primitive i.component ≡ true) × (i.path ≡ x.path.now)

-- an instance that is a node
pub listed-push :
    (e : Expanded) (count : ℕ) (old new : List Listed) (x : Listed) (i : Instance) → AreListed e count old → Numbered e count i → is_primitive i.component ≡ true
    → x.number ≡ count → i.path ≡ x.path.now → new ≡ old ++ x ∷ [] → AreListed e (count + 1) new
listed-push e count old new x i so_far numbered primitive number path pushed = subst (AreListed e (count + 1)) (sym pushed) (record {
  stands = λ y has. elim (Contains-append_cases old (x ∷ []) y has) [
    | inl there ↦ let w = so_far.stands y there in (w.0, omega (arith, w.1), w.2, w.3, w.4)
    | inr last ↦ subst (IsNodeAmong e (count + 1)) (sym (Contains-one x y last)) (i, omega (arith, number), subst (λ n. Numbered e n i) (sym number) numbered, primitive, path)
  ];
  all = λ m j below is is_node. ⊎_elim
      (λ (same : m ≡ count). (x, Contains-append_right old (x ∷ []) x (Contains-here x []), number ∙ sym same))
      (λ (other : m ≡ count → ⊥). let w = so_far.all m j (before m count below other) is is_node in (w.0, Contains-append_left old (x ∷ []) w.0 w.1, w.2))
      (cases_eq m count);
  rising = all_pairs_push (λ (y z : Listed). y.number < z.number) old x so_far.rising (λ k d within.
      let w = so_far.stands (get_or old k d) (Contains-at old k (get_or old k d) (slice_get-get_or old k d within)) in
      omega (arith, w.1, number));
  few = omega (arith, so_far.few, length_push old x);
})
  where
    before : (m n : ℕ) → m < n + 1 → (m ≡ n → ⊥) → m < n
    before m n below other = grind (arith, below, other)

-- ---- the order

abbrev pub below : Listed → Listed → Bool
below x y = is_lt (slice_cmp nat_cmp x.path.now y.path.now)

abbrev same_number : Listed → Listed → Bool
same_number x y = eqb x.number y.number

-- the element at a place has the number
abbrev Found : List Listed → ℕ → ℕ → Type 0
Found order a m = (x : Listed) × (slice_get order a ≡ Some x) × (x.number ≡ m)

pub in_order :
    (e : Expanded) → IsExpanded e → length e.made ≤ 65537 → (listed order : List Listed) → AreListed e (length e.made) listed
    → IsPermutation listed order → IsSortedBy below order → IsInOrder e (map (λ (x : Listed). x.number) order)
in_order e expanded few listed order are moved sorted = record {
  rising = λ a b m n i j before at_a at_b at_i at_j.
      let x = found a m at_a in
      let y = found b n at_b in
      let within : b < length order = slice_get_within order b y.0 y.1 in
      let far : below (get_or order b x.0) (get_or order a x.0) ≡ false = sorted_far below (ranks_by nat_list_cmp_total (λ (z : Listed). z.path.now)) order sorted a b x.0 (omega (arith, before)) within in
      let here : below y.0 x.0 ≡ false =
      ap (λ z. below z x.0) (sym (get_or_from_slice_get order b y.0 x.0 y.1)) ∙ ap (λ z. below (get_or order b x.0) z) (sym (get_or_from_slice_get order a x.0 x.0 x.1)) ∙ far in
      let less = before_the_other x.0.path.now y.0.path.now (slice_cmp nat_cmp y.0.path.now x.0.path.now) refl here (λ same.
      let one = one_path m n i j at_i at_j (primitive a m i x at_i) (primitive b n j y at_j) (path a m i x at_i ∙ same ∙ sym (path b n j y at_j)) in
      eqb-false (get_or order a x.0).number (get_or order b x.0).number (apart_from_distinct same_number order a b x.0 distinct before within)
      (ap (λ (z : Listed). z.number) (get_or_from_slice_get order a x.0 x.0 x.1) ∙ x.2 ∙ one ∙ sym y.2 ∙ ap (λ (z : Listed). z.number) (sym (get_or_from_slice_get order b y.0 x.0 y.1)))) in
      subst (λ p. slice_cmp nat_cmp p j.path ≡ Less) (sym (path a m i x at_i)) (subst (λ p. slice_cmp nat_cmp x.0.path.now p ≡ Less) (sym (path b n j y at_j)) less);
  within = λ a m at. let x = found a m at in omega (arith, (stands a m x).1, x.2);
  all = λ m i numbered is_node.
      let x = are.all m i (slice_get_within e.made m _ numbered.is_at) numbered is_node in
      let place = at_some_place order x.0 (Contains-permutation listed order x.0 moved x.1) in
      (place.0, slice_get-map_at (λ (z : Listed). z.number) order place.0 x.0 place.1 ∙ ap Some x.2);
  few = omega (arith, few, are.few, length_permutation listed order moved, length-map order (λ (x : Listed). x.number));
}
  where
    found : (a m : ℕ) → slice_get (map (λ (x : Listed). x.number) order) a ≡ Some m → Found order a m
    found a m at = option_map_some (λ (x : Listed). x.number) (slice_get order a) m (sym (slice_get-map (λ (x : Listed). x.number) order a) ∙ at)

    stands : (a m : ℕ) (x : Found order a m) → IsNodeAmong e (length e.made) x.0
    stands a m x = are.stands x.0 (Contains-permutation order listed x.0 (IsPermutation-sym listed order moved) (Contains-at order a x.0 x.1))

    same : (a m : ℕ) (i : Instance) (x : Found order a m) → Numbered e m i → (stands a m x).0 ≡ i
    same a m i x at = same_numbered e m (stands a m x).0 i (subst (λ n. Numbered e n (stands a m x).0) x.2 (stands a m x).2) at

    primitive : (a m : ℕ) (i : Instance) (x : Found order a m) → Numbered e m i → is_primitive i.component ≡ true
    primitive a m i x at = ap (λ (j : Instance). is_primitive j.component) (sym (same a m i x at)) ∙ (stands a m x).3

    path : (a m : ℕ) (i : Instance) (x : Found order a m) → Numbered e m i → i.path ≡ x.0.path.now
    path a m i x at = ap (λ (j : Instance). j.path) (sym (same a m i x at)) ∙ (stands a m x).4

    -- a node is made in an instance, so it is told by its path
    one_path : (m n : ℕ) (i j : Instance) → Numbered e m i → Numbered e n j → is_primitive i.component ≡ true → is_primitive j.component ≡ true → i.path ≡ j.path → m ≡ n
    one_path m n i j at_i at_j is_i is_j paths = by at_i.maker at_j.maker at_i.is_at at_j.is_at
      where
        by : (k l : Option ℕ) → slice_get e.made m ≡ Some (record { instance = i; maker = k }) → slice_get e.made n ≡ Some (record { instance = j; maker = l }) → m ≡ n
        by None l at at' = absurd (false≢true (sym (expanded.composite_top m i at) ∙ is_i))
        by (Some k) None at at' = absurd (false≢true (sym (expanded.composite_top n j at') ∙ is_j))
        by (Some k) (Some l) at at' = expanded.one_path k l m n i j at at' paths

    distinct : IsDistinct same_number order
    distinct =
        IsDistinct-IsPermutation same_number (λ x y. eqb_flips x.number y.number) listed order moved
        (IsDistinct-from_apart same_number listed (λ i j d low high.
        let rises = are.rising i j d low high in
        ne_eqb (get_or listed i d).number (get_or listed j d).number (λ one. omega (arith, rises, one))))

-- the numbers that a call gives
pub numbers_in_order :
    {E : Type 0} (e : Expanded) (order : List Listed) (r : Result (Vec ℕ) E) → IsInOrder e (map (λ (x : Listed). x.number) order)
    → IfOk r (λ v. v.items ≡ map (λ (x : Listed). x.number) order) → IfOk r (λ v. IsInOrder e v.items)
numbers_in_order e order (Ok v) rises is = subst (IsInOrder e) (sym is) rises
numbers_in_order e order (Err x) rises is = tt
