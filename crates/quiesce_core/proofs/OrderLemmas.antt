-- The slots of the live nodes in the order of their paths, their places, and their nodes.
use Rattle.std.proofs.Common.{◌≡◌, ◌∙◌, ℕ, zero, suc, ◌+◌, ◌<◌, ◌≤◌, Bool, true, false, eqb, List, [], ◌∷◌, ◌++◌, Option, Some, None, length, get_or, set, refl, ap, sym, ⊎_elim, arith, get_or-set_same, get_or-set_other, length-append}
use Rattle.std.specs.Prelude.{slice_get, filter}
use Rattle.std.specs.List.{range_with_len, IsDistinct}
use Rattle.std.specs.List.Sorted.{IsPermutation, IsSortedBy}
use Rattle.std.specs.Ordering.{nat_cmp, is_lt}
use Rattle.std.specs.Cmp.Lexicographic.{slice_cmp, nat_list_cmp_total}
use Rattle.std.proofs.lemmas.Bool.{cases_Bool, cases_eq, cases_lt, eqb-false, ne_eqb}
use Rattle.std.proofs.lemmas.Option.{slice_get_within, get_or_from_slice_get, same_Some}
use Rattle.std.proofs.lemmas.List.FromFn.{get_or-range_with_len, length-range_with_len}
use Rattle.std.proofs.lemmas.List.Sorted.{ranks_by, sorted_far, Contains-permutation, IsPermutation-sym, length_permutation}
use Rattle.std.proofs.lemmas.List.Kept.{AllPairs-filter}
use Rattle.std.proofs.lemmas.List.Elements.{All-contains, filter_passes}
use Rattle.std.proofs.lemmas.Map.Keys.{IsDistinct-from_apart, apart_from_distinct, IsDistinct-IsPermutation}
use Rattle.config_graph.specs.declared.node.Node.{Node}
use Rattle.quiesce_core.specs.declared.state.Slot.{Slot}
use Rattle.quiesce_core.specs.State.{Configuration, slot, is_live}
use Rattle.quiesce_core.specs.Named.{AreNamed}
use Rattle.quiesce_core.specs.Listed.{path_at, InPathOrder, ArePlaces, AreNodesOf}
use Rattle.config_graph.proofs.PathLaws.{irreflexive}
use Rattle.base.proofs.OptionLaws.{map_or_true, map_or_at}
use Rattle.quiesce_core.proofs.TableLaws.{live_made}
use Rattle.base.proofs.BytesLaws.{before_the_other}
use Rattle.base.proofs.ContainsLaws.{Contains-at, at_some_place}
use Rattle.base.proofs.PlaceLaws.{slice_get-append_front, slice_get-last}
use Rattle.base.proofs.NumberLaws.{eqb_flips}
use Rattle.base.proofs.RangeLaws.{number_at}

-- what a filter of a range keeps

filter_has : (p : ℕ → Bool) (xs : List ℕ) (i n : ℕ) → slice_get xs i ≡ Some n → p n ≡ true → (a : ℕ) × (slice_get (filter p xs) a ≡ Some n)
filter_has p [] i n e h = absurd (cc)
filter_has p (x ∷ xs) zero n e h = let same : x ≡ n = cc in (0, rw (ap p same ∙ h) e)
filter_has p (x ∷ xs) (suc i) n e h =
    let w = filter_has p xs i n e h in
    ⊎_elim (λ (t : p x ≡ true). (suc w.0, rw t w.1)) (λ (f : p x ≡ false). (w.0, rw f w.1)) (cases_Bool (p x))

filter_short : (p : ℕ → Bool) (xs : List ℕ) → length (filter p xs) ≤ length xs
filter_short p [] = omega arith
filter_short p (x ∷ xs) =
    ⊎_elim (λ (t : p x ≡ true). rw t (omega (arith, filter_short p xs))) (λ (f : p x ≡ false). rw f (omega (arith, filter_short p xs))) (cases_Bool (p x))

distinct_kept : (p : ℕ → Bool) (k : ℕ) → IsDistinct eqb (filter p (range_with_len 0 k))
distinct_kept p k = IsDistinct-from_apart eqb (filter p (range_with_len 0 k)) (λ i j d l u.
    let rises = AllPairs-filter (λ x y. x < y) p (range_with_len 0 k) (λ i j d l u.
    let within : j < k = omega (arith, length-range_with_len 0 k) in
    omega (arith, get_or-range_with_len 0 k i d (omega arith), get_or-range_with_len 0 k j d within)) i j d l u in
    ne_eqb (get_or (filter p (range_with_len 0 k)) i d) (get_or (filter p (range_with_len 0 k)) j d) (λ e. omega (arith, rises, e)))

-- the order

abbrev pub below : Configuration → ℕ → ℕ → Bool
below c m n = is_lt (slice_cmp nat_cmp (path_at c m) (path_at c n))

-- a live slot
pub record Live (c : Configuration) (n : ℕ) : Type 0 where
  pub made : Slot
  pub there : slot c n ≡ Some made
  pub live : made.live ≡ true
  pub path : path_at c n ≡ made.node.path

pub live_at : (c : Configuration) (n : ℕ) → is_live c n ≡ true → Live c n
live_at c n h =
    let m = map_or_true (λ (m : Slot). m.live) (slot c n) h in
    record { made = m.0; there = m.1; live = m.2; path = map_or_at (λ (m : Slot). m.node.path) (slot c n) [] m.0 m.1 }

abbrev pub live_slots : Configuration → List ℕ
live_slots c = filter (is_live c) (range_with_len 0 (length c.slots))

pub in_order :
    (c : Configuration) → AreNamed c → (order : List ℕ) → IsPermutation (filter (is_live c) (range_with_len 0 (length c.slots))) order → IsSortedBy (below c) order → InPathOrder c order
in_order c named order moved sorted = record {
  live = live;
  all = λ n h.
      let kept = filter_has (is_live c) (range_with_len 0 (length c.slots)) n n (number_at (length c.slots) n (live_made c n h)) h in
      at_some_place order n (Contains-permutation (live_slots c) order n moved (Contains-at (live_slots c) kept.0 n kept.1));
  rising = λ a b m n before at_a at_b.
      let within : b < length order = slice_get_within order b n at_b in
      let far : below c (get_or order b 0) (get_or order a 0) ≡ false = sorted_far (below c) (ranks_by nat_list_cmp_total (path_at c)) order sorted a b 0 (omega arith) within in
      let here : below c n m ≡ false =
      ap (λ i. below c i m) (sym (get_or_from_slice_get order b n 0 at_b)) ∙ ap (λ i. below c (get_or order b 0) i) (sym (get_or_from_slice_get order a m 0 at_a)) ∙ far in
      before_the_other (path_at c m) (path_at c n) (slice_cmp nat_cmp (path_at c n) (path_at c m)) refl here (λ same.
      let x = live_at c m (live a m at_a) in
      let y = live_at c n (live b n at_b) in
      let one : m ≡ n = named.paths m n x.made y.made x.there y.there x.live y.live (sym x.path ∙ same ∙ y.path) in
      eqb-false (get_or order a 0) (get_or order b 0) (apart_from_distinct eqb order a b 0 distinct before within)
      (get_or_from_slice_get order a m 0 at_a ∙ one ∙ sym (get_or_from_slice_get order b n 0 at_b)));
  few = omega (arith, length_permutation (live_slots c) order moved, filter_short (is_live c) (range_with_len 0 (length c.slots)), length-range_with_len 0 (length c.slots));
}
  where
    distinct : IsDistinct eqb order
    distinct = IsDistinct-IsPermutation eqb eqb_flips (live_slots c) order moved (distinct_kept (is_live c) (length c.slots))

    live : (a n : ℕ) → slice_get order a ≡ Some n → is_live c n ≡ true
    live a n at =
        All-contains (λ i. is_live c i ≡ true) (live_slots c) n (filter_passes (is_live c) (range_with_len 0 (length c.slots)))
        (Contains-permutation order (live_slots c) n (IsPermutation-sym (live_slots c) order moved) (Contains-at order a n at))

-- a slot has one place
pub one_place : (c : Configuration) (order : List ℕ) → InPathOrder c order → (a b n : ℕ) → slice_get order a ≡ Some n → slice_get order b ≡ Some n → a ≡ b
one_place c order o a b n at_a at_b = ⊎_elim
    (λ (before : a < b). absurd (irreflexive (path_at c n) (o.rising a b n n before at_a at_b)))
    (λ (rest : b ≤ a). ⊎_elim
    (λ (after : b < a). absurd (irreflexive (path_at c n) (o.rising b a n n after at_b at_a)))
    (λ (same : a ≤ b). omega arith) (cases_lt b a)) (cases_lt a b)

pub places_more :
    (c : Configuration) (order : List ℕ) → InPathOrder c order → (k n : ℕ) (places : List (Option ℕ)) → slice_get order k ≡ Some n → n < length places → ArePlaces order k places
    → ArePlaces order (k + 1) (set places n (Some k))
places_more c order o k n places at within are m i = ⊎_elim
    (λ (same : m ≡ n).
    let here : get_or (set places n (Some k)) m None ≡ Some k = ap (λ j. get_or (set places n (Some k)) j None) same ∙ get_or-set_same places n (Some k) None within in (
      λ e. let one : k ≡ i = same_Some k i (sym here ∙ e) in (omega arith, ap (slice_get order) (sym one) ∙ at ∙ ap Some (sym same)),
      λ w. here ∙ ap Some (one_place c order o k i n at (w.1 ∙ ap Some same)),
    ))
    (λ (other : m ≡ n → ⊥).
    let there : get_or (set places n (Some k)) m None ≡ get_or places m None = get_or-set_other places n m (Some k) None other in (
      λ e. let w = (are m i).0 (sym there ∙ e) in (omega (arith, w.0), w.1),
      λ w. there ∙ (are m i).1 (⊎_elim
          (λ (before : i < k). (before, w.1))
          (λ (past : k ≤ i).
          let last : i ≡ k = omega (arith, w.0) in
          absurd (other (same_Some m n (sym w.1 ∙ ap (slice_get order) last ∙ at)))) (cases_lt i k)),
    ))
    (cases_eq m n)

-- nodes

pub nodes_more :
    (c : Configuration) (order : List ℕ) (k n : ℕ) (m : Slot) (nodes : List Node) → slice_get order k ≡ Some n → slot c n ≡ Some m → AreNodesOf c order k nodes
    → AreNodesOf c order (k + 1) (nodes ++ m.node ∷ [])
nodes_more c order k n m nodes at made are = record {
  count = length-append nodes (m.node ∷ []) ∙ ap (λ j. j + 1) are.count;
  stands = λ a i x within at_a made_a. ⊎_elim
      (λ (before : a < k). slice_get-append_front nodes (m.node ∷ []) a (omega (arith, are.count)) ∙ are.stands a i x before at_a made_a)
      (λ (past : k ≤ a).
      let last : a ≡ k = omega arith in
      let one : n ≡ i = same_Some n i (sym at ∙ ap (slice_get order) (sym last) ∙ at_a) in
      let same : m ≡ x = same_Some m x (sym made ∙ ap (slot c) one ∙ made_a) in
      ap (slice_get (nodes ++ m.node ∷ [])) (last ∙ sym are.count) ∙ slice_get-last nodes m.node ∙ ap (λ (s : Slot). Some s.node) same)
      (cases_lt a k);
}
