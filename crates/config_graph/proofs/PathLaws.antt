-- Lemmas on paths that rise, and on a search among them.
use Rattle.std.proofs.Common.{◌≡◌, inl, inr, ℕ, ◌+◌, ◌<◌, Bool, true, false, not, cond, List, length, get_or, bytes_eq, Option, Some, None, refl, sym, ◌∙◌, ap, subst, arith}
use Rattle.std.specs.List.{position_or_len, AllWithin, HoldsAt}
use Rattle.std.specs.List.Sorted.{IsNonDecreasingBy, IsPartitionPoint}
use Rattle.std.specs.Option.{MatchOption, unwrap_or}
use Rattle.std.specs.Ordering.{is_eq, is_lt, nat_cmp, ordering_index, ordering_reverse}
use Rattle.std.specs.Cmp.Lexicographic.{slice_cmp, nat_list_cmp_total}
use Rattle.std.specs.declared.cmp.Ordering.{Ordering}
use Rattle.std.specs.declared.cmp.Ordering.TheVariants.{Less, Equal, Greater}
use Rattle.std.proofs.lemmas.Bool.{true≢false, lt-ltb, le-ltb, cases_lt}
use Rattle.std.proofs.lemmas.Iterator.{index_from_first}
use Rattle.std.proofs.lemmas.List.Sorted.{searchable_from_sorted}
use Rattle.std.proofs.lemmas.Map.Text.{is_eq-slice_cmp}
use Rattle.std.proofs.lemmas.Slice.Eq.{bytes_eq-Decides}
use Rattle.config_graph.specs.Graph.{PathsRise, index_of}
use Rattle.config_graph.specs.declared.node.Node.{Node}
use Rattle.std.proofs.Common.{slice_get}
use Rattle.std.proofs.lemmas.Option.{get_or_from_slice_get, slice_get_within}

-- no path is before itself
pub irreflexive : (p : List ℕ) → slice_cmp nat_cmp p p ≡ Less → ⊥
irreflexive p e = not_less (slice_cmp nat_cmp p p) e (sym (nat_list_cmp_total.antisymm p p) ∙ e)
  where
    not_less : (o : Ordering) → o ≡ Less → ordering_reverse o ≡ Less → ⊥
    not_less Less is back = cc
    not_less Equal is back = cc
    not_less Greater is back = cc

-- nor before one that is before it
pub paths_apart : (m n : Node) → slice_cmp nat_cmp m.path n.path ≡ Less → slice_cmp nat_cmp n.path m.path ≡ Less → ⊥
paths_apart m n below above = irreflexive m.path (nat_list_cmp_total.trans m.path n.path m.path below above)

-- a path differs from one before it
pub bytes_eq-below : (p q : List ℕ) → slice_cmp nat_cmp p q ≡ Less → bytes_eq q p ≡ false
bytes_eq-below p q h = by (bytes_eq q p) refl
  where
    by : (b : Bool) → bytes_eq q p ≡ b → b ≡ false
    by false e = refl
    by true e =
        let same : q ≡ p = (bytes_eq-Decides q p).0 e in
        let apart : bytes_eq p q ≡ false = sym (is_eq-slice_cmp p q) ∙ ap is_eq h in
        absurd (true≢false (sym ((bytes_eq-Decides p q).1 (sym same)) ∙ apart))

-- ---- a search by halving

module _ (nodes : List Node) (path : List ℕ) where
  abbrev has_path : Node → Bool
  has_path n = bytes_eq path n.path

  abbrev at_path : Node → Ordering
  at_path n = slice_cmp nat_cmp n.path path

  abbrev lacks_path : Node → Type 0
  lacks_path n = has_path n ≡ false

  differs : (n : Node) → is_eq (at_path n) ≡ false → has_path n ≡ false
  differs n apart = by (has_path n) refl
    where
      by : (b : Bool) → has_path n ≡ b → has_path n ≡ false
      by false is = is
      by true is =
          let same = sym ((bytes_eq-Decides path n.path).0 is) in
          absurd (true≢false (sym ((bytes_eq-Decides n.path path).1 same) ∙ sym (is_eq-slice_cmp n.path path) ∙ apart))

  has : (n : Node) → at_path n ≡ Equal → has_path n ≡ true
  has n equal =
      let same = (bytes_eq-Decides n.path path).0 (sym (is_eq-slice_cmp n.path path) ∙ ap is_eq equal) in
      (bytes_eq-Decides path n.path).1 (sym same)

  -- the first that has the path, from where it stands
  first_at : (o : Option ℕ) → MatchOption o (AllWithin lacks_path nodes 0 (length nodes)) (λ i. (i < length nodes) × HoldsAt (λ n. has_path n ≡ true) nodes i × AllWithin lacks_path nodes 0 i) → position_or_len has_path nodes ≡ unwrap_or o (length nodes)
  first_at = index_from_first (position_or_len has_path) (λ n. has_path n ≡ true) lacks_path refl (λ n ns is. ap (λ b. cond (not b) (1 + position_or_len has_path ns) 0) is) (λ n ns is. ap (λ b. cond (not b) (1 + position_or_len has_path ns) 0) is ∙ omega arith) nodes

  -- where a search ends at a node of the path
  pub found_path : PathsRise nodes → (i : ℕ) → i < length nodes → HoldsAt (λ n. at_path n ≡ Equal) nodes i → index_of nodes path ≡ Some i
  found_path rise i within equal =
      let first : position_or_len has_path nodes ≡ i = first_at (Some i) (within, λ d. has (get_or nodes i d) (equal d), before) in
      rw (first, lt-ltb i (length nodes) within) refl
    where
      before : AllWithin lacks_path nodes 0 i
      before k d low below =
          let same : (get_or nodes i d).path ≡ path = (bytes_eq-Decides (get_or nodes i d).path path).0 (sym (is_eq-slice_cmp (get_or nodes i d).path path) ∙ ap is_eq (equal d)) in
          differs (get_or nodes k d) (ap is_eq (subst (λ p. slice_cmp nat_cmp (get_or nodes k d).path p ≡ Less) same (rise k i d below within)))

  -- where it ends between two nodes, or at an end
  pub no_path : PathsRise nodes → (i : ℕ) → (IsNonDecreasingBy (λ n. ordering_index (at_path n)) nodes → IsPartitionPoint (λ n. at_path n ≡ Less) (λ n. at_path n ≡ Greater) nodes i) → index_of nodes path ≡ None
  no_path rise i parted =
      let none : position_or_len has_path nodes ≡ length nodes = first_at None all in
      rw (none, le-ltb (length nodes) (length nodes) (omega arith)) refl
    where
      all : AllWithin lacks_path nodes 0 (length nodes)
      all k d low below =
          let sides = parted (searchable_from_sorted nat_list_cmp_total (λ (n : Node). n.path) nodes path (λ j e from next. ap is_lt (back j e next))) in
          elim (cases_lt k i) [
            | inl before ↦ differs (get_or nodes k d) (ap is_eq (sides.0 k d (omega arith) before))
            | inr after ↦ differs (get_or nodes k d) (ap is_eq (sides.1 k d after below))
          ]
        where
          back : (j : ℕ) (e : Node) → j + 1 < length nodes → slice_cmp nat_cmp (get_or nodes (j + 1) e).path (get_or nodes j e).path ≡ Greater
          back j e next = nat_list_cmp_total.antisymm (get_or nodes (j + 1) e).path (get_or nodes j e).path ∙ ap ordering_reverse (rise j (j + 1) e (omega arith) next)

-- a node stands at one place
pub one_place : (nodes : List Node) → PathsRise nodes → (a b : ℕ) (n : Node) → slice_get nodes a ≡ Some n → slice_get nodes b ≡ Some n → a ≡ b
one_place nodes rise a b n at_a at_b =
    elim (cases_lt a b) [
      | inl below ↦ absurd (apart a b below at_a at_b)
      | inr above ↦ elim (cases_lt b a) [ inl below ↦ absurd (apart b a below at_b at_a) | inr same ↦ omega (arith, above, same) ]
    ]
  where
    apart : (a b : ℕ) → a < b → slice_get nodes a ≡ Some n → slice_get nodes b ≡ Some n → ⊥
    apart a b before at_a at_b =
        let below : slice_cmp nat_cmp n.path n.path ≡ Less =
        subst (λ (m : Node). slice_cmp nat_cmp m.path n.path ≡ Less) (get_or_from_slice_get nodes a n n at_a)
        (subst (λ (m : Node). slice_cmp nat_cmp (get_or nodes a n).path m.path ≡ Less) (get_or_from_slice_get nodes b n n at_b)
        (rise a b n before (slice_get_within nodes b n at_b))) in
        true≢false (sym ((bytes_eq-Decides n.path n.path).1 refl) ∙ bytes_eq-below n.path n.path below)
