-- Lemmas on the nodes of two graphs: each once, in the order of their paths.
use Rattle.std.proofs.Common.{◌≡◌, ◌≢◌, ◌⊎◌, ◌↔◌, ◌∙◌, ◌<◌, ◌+◌, ℕ, Bool, false, List, [], ◌∷◌, ◌++◌, Option, Some, None, length, get_or, refl, ap, sym, subst, inl, inr, arith, Contains, slice_get, set, IfNone, IfSome, is_some, length-append}
use Rattle.std.specs.Prelude.{AllPairs}
use Rattle.std.specs.List.Sorted.{IsPermutation, IsSortedBy}
use Rattle.std.specs.Ordering.{is_lt, nat_cmp, ordering_reverse}
use Rattle.std.specs.declared.cmp.Ordering.{Ordering}
use Rattle.std.specs.declared.cmp.Ordering.TheVariants.{Less, Equal, Greater}
use Rattle.base.proofs.BytesLaws.{equal_bytes}
use Rattle.base.specs.Telling.{CanTell}
use Rattle.change_plan.proofs.NodeLaws.{index_found, index_missing, one_path}
use Rattle.std.specs.Cmp.Lexicographic.{slice_cmp, nat_list_cmp_total}
use Rattle.std.proofs.lemmas.Bool.{cases_eq, cases_lt, false≢true}
use Rattle.std.proofs.lemmas.Bool.Decides.{same_from_decides}
use Rattle.std.proofs.lemmas.List.Elements.{Contains-append_cases, Contains-append_left, Contains-append_right}
use Rattle.std.proofs.lemmas.List.Sorted.{ranks_by, sorted_far, Contains-permutation, IsPermutation-sym}
use Rattle.std.proofs.lemmas.Map.Keys.{IsDistinct-IsPermutation}
use Rattle.std.proofs.lemmas.Map.Made.{AllPairs-from_IsDistinct, IsDistinct-from_AllPairs}
use Rattle.std.proofs.lemmas.Option.{get_or_from_slice_get, slice_get-get_or, slice_get_within}
use Rattle.base.proofs.ContainsLaws.{Contains-at, at_some_place}
use Rattle.base.proofs.PlaceLaws.{one_at, slice_get-set_other, slice_get-set_same, slice_get-last}
use Rattle.config_graph.specs.Graph.{Graph, IsGraph, PathsRise, index_of}
use Rattle.config_graph.specs.Marks.{IsMarked}
use Rattle.config_graph.specs.contracts.node.NodePartialEq as node_eq
use Rattle.config_graph.specs.declared.node.Node.{Node}
use Rattle.config_graph.proofs.PathLaws.{irreflexive, one_place}
use Rattle.config_graph.proofs.SameLaws.{node_decides}
use Rattle.config_graph.proofs.TellLaws.{tell_contained}
use Rattle.change_plan.specs.Selects.{Selects}
use Rattle.change_plan.proofs.SelectsLaws.{Selects-has, Selects-only, Selects-part}
use Rattle.std.proofs.lemmas.List.Elements.{All-contains}
use Rattle.std.proofs.lemmas.List.{get_or_append_left}
use Rattle.change_parts.specs.Groups.{IsBefore}
use Rattle.change_parts.specs.Ties.{IsCreated, IsRemoved}
use Rattle.change_parts.specs.Members.{AreMembers, AreNumbers, IsOnce, path_below}
use Rattle.change_parts.proofs.PairLemmas.{pairs_append, pairs_at, pairs_from, pairs_selected}

abbrev same_nodes : Node → Node → Bool
same_nodes = (node_eq.TheImpl.eq-value).it

flips : (m n : Node) → same_nodes m n ≡ same_nodes n m
flips m n = same_from_decides (same_nodes m n) (same_nodes n m) (node_decides m n) ((λ e. sym ((node_decides n m).0 e)), (λ same. (node_decides n m).1 (sym same)))

-- where no two are equal no node stands twice
once_from : (nodes : List Node) → AllPairs (λ m n. m ≢ n) nodes → IsOnce nodes
once_from nodes apart a b n at at' =
    elim (cases_lt a b) [
      | inl below ↦ absurd (pairs_at (λ m n. m ≢ n) nodes apart a b n n below at at' refl)
      | inr above ↦ elim (cases_lt b a) [
        | inl below ↦ absurd (pairs_at (λ m n. m ≢ n) nodes apart b a n n below at' at refl)
        | inr same ↦ omega (arith, above, same)
      ]
    ]

rising_apart : (nodes : List Node) → AllPairs (λ m n. IsBefore m.path n.path) nodes → AllPairs (λ m n. m ≢ n) nodes
rising_apart nodes rise = pairs_from (λ m n. m ≢ n) nodes (λ i j m n below at at' same.
    irreflexive n.path (subst (λ (k : Node). IsBefore k.path n.path) same (pairs_at (λ m n. IsBefore m.path n.path) nodes rise i j m n below at at')))

module _ (old new : Graph) (old_graph : IsGraph old) (new_graph : IsGraph new) (created nodes : List Node) (are_created : Selects (λ n. ¬ Contains old.nodes n) new.nodes created)
    (moved : IsPermutation (old.nodes ++ created) nodes) (sorted : IsSortedBy path_below nodes) where
  apart : AllPairs (λ (m n : Node). m ≢ n) (old.nodes ++ created)
  apart = pairs_append (λ m n. m ≢ n) old.nodes created (rising_apart old.nodes old_graph.paths_rise)
      (rising_apart created (pairs_selected (λ (m n : Node). IsBefore m.path n.path) (λ n. ¬ Contains old.nodes n) new.nodes created are_created new_graph.paths_rise))
      (λ m n held held' same. All-contains (λ n. ¬ Contains old.nodes n) created n (Selects-only (λ n. ¬ Contains old.nodes n) new.nodes created are_created) held' (subst (Contains old.nodes) same held))

  pub members_are : AreMembers old new nodes
  members_are = record {
    all = λ n there. Contains-permutation (old.nodes ++ created) nodes n moved (in_either n there);
    only = λ n there. elim (Contains-append_cases old.nodes created n (Contains-permutation nodes (old.nodes ++ created) n (IsPermutation-sym (old.nodes ++ created) nodes moved) there)) [
      | inl was ↦ inl was
      | inr made ↦ inr (Selects-part (λ n. ¬ Contains old.nodes n) new.nodes created are_created n made)
    ];
    once = once_from nodes (AllPairs-from_IsDistinct node_decides nodes (IsDistinct-IsPermutation same_nodes flips (old.nodes ++ created) nodes moved (IsDistinct-from_AllPairs node_decides (old.nodes ++ created) apart)));
    ordered = λ a b m n below at at' before.
        let far : path_below (get_or nodes b m) (get_or nodes a m) ≡ false = sorted_far path_below (ranks_by nat_list_cmp_total (λ (n : Node). n.path)) nodes sorted a b m (omega (arith, below)) (slice_get_within nodes b n at') in
        let here : path_below n m ≡ false =
        sym (λ k. path_below (get_or_from_slice_get nodes b n m at' k) (get_or_from_slice_get nodes a m m at k)) ∙ far in
        false≢true (sym here ∙ ap is_lt before);
  }
    where
      in_either : (n : Node) → Contains old.nodes n ⊎ Contains new.nodes n → Contains (old.nodes ++ created) n
      in_either n (inl was) = Contains-append_left old.nodes created n was
      in_either n (inr there) =
          elim (tell_contained old.nodes n) [
            | inl was ↦ Contains-append_left old.nodes created n was
            | inr missing ↦ Contains-append_right old.nodes created n (Selects-has (λ n. ¬ Contains old.nodes n) new.nodes created are_created n there missing)
          ]

-- ---- two nodes with one path

-- of two paths that differ, of which the second isn't before the first, the first is before the second
pub before_if : (p q : List ℕ) → ¬ IsBefore q p → ¬ (p ≡ q) → IsBefore p q
before_if p q not_before apart = by (slice_cmp nat_cmp p q) refl
  where
    by : (o : Ordering) → slice_cmp nat_cmp p q ≡ o → IsBefore p q
    by Less e = e
    by Equal e = absurd (apart (equal_bytes p q e))
    by Greater e = absurd (not_before (nat_list_cmp_total.antisymm q p ∙ ap ordering_reverse e))

module _ (old new : Graph) (old_graph : IsGraph old) (new_graph : IsGraph new) (nodes : List Node) (are : AreMembers old new nodes) where
  same_in : (g : Graph) → IsGraph g → (m n : Node) → Contains g.nodes m → Contains g.nodes n → m.path ≡ n.path → m ≡ n
  same_in g graph m n there there' same =
      let a = at_some_place g.nodes m there in
      let b = at_some_place g.nodes n there' in
      let place : a.0 ≡ b.0 = one_path g.nodes graph.paths_rise a.0 b.0 m n a.1 b.1 same in
      one_at g.nodes b.0 m n (subst (λ i. slice_get g.nodes i ≡ Some m) place a.1) b.1

  -- one of them is removed, and the other is created
  pub replaced_alike : (a b : ℕ) (m n : Node) → ¬ (a ≡ b) → slice_get nodes a ≡ Some m → slice_get nodes b ≡ Some n → m.path ≡ n.path
      → (IsRemoved old new m × IsCreated old new n) ⊎ (IsRemoved old new n × IsCreated old new m)
  replaced_alike a b m n other at at' same = by (tell_contained old.nodes m) (tell_contained old.nodes n)
    where
      differ : ¬ (m ≡ n)
      differ e = other (are.once a b n (at ∙ ap Some e) at')

      in_new : (k : Node) → Contains nodes k → ¬ Contains old.nodes k → Contains new.nodes k
      in_new k held missing = elim (are.only k held) [ inl was ↦ absurd (missing was) | inr there ↦ there ]

      by : CanTell (Contains old.nodes m) → CanTell (Contains old.nodes n) → (IsRemoved old new m × IsCreated old new n) ⊎ (IsRemoved old new n × IsCreated old new m)
      by (inl was) (inl was') = absurd (differ (same_in old old_graph m n was was' same))
      by (inl was) (inr missing) =
          let there = in_new n (Contains-at nodes b n at') missing in
          inl (record { there = was; gone = λ stays. differ (same_in new new_graph m n stays there same) }, record { there = there; gone = missing })
      by (inr missing) (inl was) =
          let there = in_new m (Contains-at nodes a m at) missing in
          inr (record { there = was; gone = λ stays. differ (same_in new new_graph m n there stays same) }, record { there = there; gone = missing })
      by (inr missing) (inr missing') = absurd (differ (same_in new new_graph m n (in_new m (Contains-at nodes a m at) missing) (in_new n (Contains-at nodes b n at') missing') same))

-- ---- numbers

-- of each node among the first so many its number is written at its place
abbrev pub AreWritten : List Node → List Node → ℕ → List ℕ → Type 0
AreWritten placed nodes count numbers = (k i : ℕ) (n : Node) → k < count → slice_get nodes k ≡ Some n → slice_get placed i ≡ Some n → slice_get numbers i ≡ Some k

module _ (placed nodes : List Node) (once : IsOnce nodes) (rise : PathsRise placed) where
  pub written_more : (count : ℕ) (numbers : List ℕ) (node : Node) (place : ℕ) → slice_get nodes count ≡ Some node → slice_get placed place ≡ Some node → length numbers ≡ length placed
      → AreWritten placed nodes count numbers → AreWritten placed nodes (count + 1) (set numbers place count)
  written_more count numbers node place at there long are k i n below k_at i_at =
      elim (cases_eq i place) [
        | inl same ↦
            let is_node : n ≡ node = one_at placed place n node (subst (λ j. slice_get placed j ≡ Some n) same i_at) there in
            let k_is : k ≡ count = once k count node (k_at ∙ ap Some is_node) at in
            subst (λ (p : ℕ × ℕ). slice_get (set numbers place count) p.0 ≡ Some p.1) (λ j. (sym same j, sym k_is j)) (slice_get-set_same numbers place count (omega (arith, long, slice_get_within placed place node there)))
        | inr other ↦
            elim (cases_lt k count) [
              | inl earlier ↦ slice_get-set_other numbers place count i other ∙ are k i n earlier k_at i_at
              | inr last ↦
                  let k_is : k ≡ count = omega (arith, below, last) in
                  absurd (other (place_is k n k_is k_at i i_at))
            ]
      ]
    where
      place_is : (k : ℕ) (n : Node) → k ≡ count → slice_get nodes k ≡ Some n → (i : ℕ) → slice_get placed i ≡ Some n → i ≡ place
      place_is k n k_is k_at i i_at =
          let same : n ≡ node = one_at nodes count n node (subst (λ j. slice_get nodes j ≡ Some n) k_is k_at) at in
          one_place placed rise i place node (i_at ∙ ap Some same) there

  pub written_none : (count : ℕ) (numbers : List ℕ) (node : Node) → slice_get nodes count ≡ Some node → ¬ Contains placed node
      → AreWritten placed nodes count numbers → AreWritten placed nodes (count + 1) numbers
  written_none count numbers node at missing are k i n below k_at i_at =
      elim (cases_lt k count) [
        | inl earlier ↦ are k i n earlier k_at i_at
        | inr last ↦
            let k_is : k ≡ count = omega (arith, below, last) in
            let same : n ≡ node = one_at nodes count n node (subst (λ j. slice_get nodes j ≡ Some n) k_is k_at) at in
            absurd (missing (subst (Contains placed) same (Contains-at placed i n i_at)))
      ]

  pub written_all : ((n : Node) → Contains placed n → Contains nodes n) → (numbers : List ℕ) → length numbers ≡ length placed → AreWritten placed nodes (length nodes) numbers → AreNumbers placed nodes numbers
  written_all all numbers long are = record {
    long = long;
    are = λ i n at.
        let w = at_some_place nodes n (all n (Contains-at placed i n at)) in
        (w.0, are w.0 i n (slice_get_within nodes w.0 n w.1) w.1 at, w.1);
  }

-- ---- marks

-- the first so many nodes are marked where they stand in a graph
abbrev pub AreMarked : Graph → List Node → List Bool → Type 0
AreMarked g nodes marks = (k : ℕ) (n : Node) → k < length marks → slice_get nodes k ≡ Some n → IsMarked marks k ↔ Contains g.nodes n

pub mark_pushed : (g : Graph) (nodes : List Node) (marks : List Bool) (node : Node) (found : Option ℕ) (mark : Bool) → slice_get nodes (length marks) ≡ Some node
    → IfSome found (λ i. slice_get g.nodes i ≡ Some node) → IfNone found (¬ Contains g.nodes node) → mark ≡ is_some found
    → AreMarked g nodes marks → AreMarked g nodes (marks ++ mark ∷ [])
mark_pushed g nodes marks node found mark at if_some if_none mark_is are k n below k_at =
    elim (cases_lt k (length marks)) [
      | inl earlier ↦ let same : get_or (marks ++ mark ∷ []) k false ≡ get_or marks k false = get_or_append_left marks (mark ∷ []) false k earlier in
          let w = are k n earlier k_at in (λ is. w.0 (sym same ∙ is), λ there. same ∙ w.1 there)
      | inr later ↦
          let last : k ≡ length marks = omega (arith, later, below, length-append marks (mark ∷ [])) in
          let read : get_or (marks ++ mark ∷ []) k false ≡ mark = get_or_from_slice_get (marks ++ mark ∷ []) k mark false (subst (λ j. slice_get (marks ++ mark ∷ []) j ≡ Some mark) (sym last) (slice_get-last marks mark)) in
          let same : n ≡ node = one_at nodes (length marks) n node (subst (λ j. slice_get nodes j ≡ Some n) last k_at) at in
          by found refl if_some if_none read same
    ]
  where
    by : (o : Option ℕ) → found ≡ o → IfSome o (λ i. slice_get g.nodes i ≡ Some node) → IfNone o (¬ Contains g.nodes node) → get_or (marks ++ mark ∷ []) k false ≡ mark → n ≡ node
        → IsMarked (marks ++ mark ∷ []) k ↔ Contains g.nodes n
    by None e there missing read same = (λ is. absurd (false≢true (sym (mark_is ∙ ap is_some e) ∙ sym read ∙ is)), λ has. absurd (missing (subst (Contains g.nodes) same has)))
    by (Some i) e there missing read same = (λ is. subst (Contains g.nodes) (sym same) (Contains-at g.nodes i node there), λ has. read ∙ mark_is ∙ ap is_some e)

-- ---- a number and its node

module _ (placed all : List Node) (once : IsOnce all) (numbers : List ℕ) (numbered : AreNumbers placed all numbers) where
  pub node_numbered : (i a : ℕ) (n : Node) → slice_get placed i ≡ Some n → slice_get numbers i ≡ Some a → slice_get all a ≡ Some n
  node_numbered i a n at is = let w = numbered.are i n at in subst (λ k. slice_get all k ≡ Some n) (one_at numbers i w.0 a w.1 is) w.2

  pub number_there : (i a : ℕ) (n : Node) → slice_get placed i ≡ Some n → slice_get all a ≡ Some n → slice_get numbers i ≡ Some a
  number_there i a n at here = let w = numbered.are i n at in w.1 ∙ ap Some (once w.0 a n w.2 here)

-- the node with a path is found by it
pub index_there : (nodes : List Node) → PathsRise nodes → (path : List ℕ) (j : ℕ) (n : Node) → slice_get nodes j ≡ Some n → n.path ≡ path → index_of nodes path ≡ Some j
index_there nodes rise path j n at same = by (index_of nodes path) refl
  where
    by : (o : Option ℕ) → index_of nodes path ≡ o → index_of nodes path ≡ Some j
    by None e = absurd (index_missing nodes path e j n at same)
    by (Some i) e =
        let f = index_found nodes path i n e in
        let place : i ≡ j = one_path nodes rise i j (get_or nodes i n) n (slice_get-get_or nodes i n f.0) at (sym f.1 ∙ sym same) in
        e ∙ ap Some place
