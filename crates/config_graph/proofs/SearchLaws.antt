-- Lemmas on the search for the nodes to which ways lead.
use Rattle.std.proofs.Common.{◌≡◌, ◌⊎◌, ◌↔◌, ◌+◌, ◌<◌, ◌≤◌, ℕ, zero, suc, Bool, true, false, cond, not, List, [], ◌∷◌, ◌++◌, Option, Some, None, length, get_or, set, slice_get, refl, sym, ◌∙◌, ap, subst, inl, inr, arith, length-append, length-set, zero-add, filter_map, Contains}
use Rattle.std.specs.Prelude.{All, count_by, replicate, slice_index_or, ◌*◌, if◌then◌else◌, option_to_list}
use Rattle.std.specs.List.{cons_option, range_with_len}
use Rattle.std.proofs.lemmas.Bool.{cases_lt, false≢true, true≢false}
use Rattle.std.proofs.lemmas.Bool.Decides.{eqb_tells}
use Rattle.std.proofs.lemmas.List.{get_or_default, length-replicate}
use Rattle.std.proofs.lemmas.List.FromFn.{length-range_with_len, get_or-range_with_len}
use Rattle.std.proofs.lemmas.List.Folds.{sum_by-replicate}
use Rattle.std.proofs.lemmas.Option.{slice_get-get_or}
use Rattle.std.proofs.lemmas.List.Elements.{All-push, Contains-append_left, Contains-push, filter_map-append}
use Rattle.std.proofs.lemmas.List.Sums.{sum_by-set}
use Rattle.std.proofs.Math.ListN.{get_or-eq_default}
use Rattle.config_graph.specs.Graph.{Graph, IsLinkWithin, requires_at}
use Rattle.config_graph.specs.Cycles.{FirstOnCycle, OnCycle, leads_by, graph_wiring}
use Rattle.config_graph.specs.Marks.{IsMarked}
use Rattle.config_graph.specs.Walks.{onward, step}
use Rattle.config_graph.specs.Wiring.{CallPath, MayCall, HasNoCycle}
use Rattle.config_graph.specs.Search.{Visited, see, see_all, seen_of, successors, successors_by}
use Rattle.config_graph.proofs.CycleLaws.{no_cycle, leads_by-MayCall, MayCall-ends, MayCall-leads_by, MayCall-require}
use Rattle.config_graph.proofs.MarkLaws.{marked_here, marked_kept, marked_only, none_marked}
use Rattle.config_graph.proofs.WalkLaws.{walk_then}
use Rattle.base.proofs.ContainsLaws.{Contains-filter_map}
use Rattle.base.proofs.MapLaws.{All-filter_map}
use Rattle.base.proofs.RisingLaws.{places_more}

-- a bit that is not set stands in the list
pub clear_within : (bits : List Bool) (j : ℕ) → get_or bits j true ≡ false → j < length bits
clear_within bits j h =
    elim (cases_lt j (length bits)) [
      | inl low ↦ low
      | inr high ↦ absurd (true≢false (sym (get_or-eq_default bits true high) ∙ h))
    ]

-- how many bits are clear
abbrev pub unseen : List Bool → ℕ
unseen bits = count_by not bits

pub unseen-set : (bits : List Bool) (j : ℕ) → get_or bits j true ≡ false → unseen (set bits j true) + 1 ≡ unseen bits
unseen-set bits j clear =
    let low = clear_within bits j clear in
    let weight : Bool → ℕ = λ b. cond (not b) 1 0 in
    let one = ap weight clear in
    let moved = sum_by-set weight bits j true true low in
    omega (arith, moved, one)

-- what a step of the search keeps
pub record Extends (s t : Visited) : Type 0 where
  pub long : length t.bits ≡ length s.bits
  pub kept : (i : ℕ) → IsMarked s.bits i → IsMarked t.bits i
  pub count : unseen t.bits + length t.reached ≡ unseen s.bits + length s.reached
  pub prefix : (k : ℕ) → k < length s.reached → get_or t.reached k 0 ≡ get_or s.reached k 0
  pub grows : length s.reached ≤ length t.reached

-- the list has exactly the nodes whose bits are set
pub record IsListed (s : Visited) : Type 0 where
  pub listed : (i : ℕ) → IsMarked s.bits i → Contains s.reached i
  pub members : All (λ i. IsMarked s.bits i) s.reached

Extends-refl : (s : Visited) → Extends s s
Extends-refl s = record { long = refl; kept = λ i h. h; count = refl; prefix = λ k h. refl; grows = omega arith }

Extends-trans : (s t u : Visited) → Extends s t → Extends t u → Extends s u
Extends-trans s t u a b = record {
  long = b.long ∙ a.long;
  kept = λ i h. b.kept i (a.kept i h);
  count = b.count ∙ a.count;
  prefix = λ k h. b.prefix k (omega (arith, a.grows)) ∙ a.prefix k h;
  grows = omega (arith, a.grows, b.grows);
}

get_or-append_front : (xs ys : List ℕ) (k : ℕ) → k < length xs → get_or (xs ++ ys) k 0 ≡ get_or xs k 0
get_or-append_front [] ys k h = absurd (omega arith)
get_or-append_front (x ∷ xs) ys zero h = refl
get_or-append_front (x ∷ xs) ys (suc k) h = get_or-append_front xs ys k (omega arith)

abbrev marked : ℕ → Visited → Visited
marked j s = record { bits = set s.bits j true; reached = s.reached ++ j ∷ [] }

Extends-marked : (j : ℕ) (s : Visited) → get_or s.bits j true ≡ false → Extends s (marked j s)
Extends-marked j s clear = record {
  long = length-set s.bits j true;
  kept = λ i h. marked_kept s.bits i j h;
  count = omega (arith, unseen-set s.bits j clear, length-append s.reached (j ∷ []));
  prefix = λ k h. get_or-append_front s.reached (j ∷ []) k h;
  grows = omega (arith, length-append s.reached (j ∷ []));
}

IsListed-marked : (j : ℕ) (s : Visited) → get_or s.bits j true ≡ false → IsListed s → IsListed (marked j s)
IsListed-marked j s clear h =
    let low = clear_within s.bits j clear in
    record {
      listed = λ i has.
          elim (marked_only s.bits i j has) [
            | inl before ↦ Contains-append_left s.reached (j ∷ []) i (h.listed i before)
            | inr same ↦ subst (Contains (s.reached ++ j ∷ [])) (sym same) (Contains-push s.reached j)
          ];
      members = All-push (λ i. IsMarked (set s.bits j true) i) s.reached j (λ k d l. marked_kept s.bits (get_or s.reached k d) j (h.members k d l)) (marked_here s.bits j low);
    }

-- one node is seen
see-extends : (j : ℕ) (s : Visited) → Extends s (see j s)
see-extends j s = by (get_or s.bits j true) refl
  where
    by : (b : Bool) → get_or s.bits j true ≡ b → Extends s (if b then s else marked j s)
    by true e = Extends-refl s
    by false e = Extends-marked j s e

see-listed : (j : ℕ) (s : Visited) → IsListed s → IsListed (see j s)
see-listed j s h = by (get_or s.bits j true) refl
  where
    by : (b : Bool) → get_or s.bits j true ≡ b → IsListed (if b then s else marked j s)
    by true e = h
    by false e = IsListed-marked j s e h

see-here : (j : ℕ) (s : Visited) → j < length s.bits → IsMarked (see j s).bits j
see-here j s low = by (get_or s.bits j true) refl
  where
    by : (b : Bool) → get_or s.bits j true ≡ b → IsMarked (if b then s else marked j s).bits j
    by true e = get_or_default s.bits j false true low ∙ e
    by false e = marked_here s.bits j low

see-only : (j i : ℕ) (s : Visited) → IsMarked (see j s).bits i → IsMarked s.bits i ⊎ (i ≡ j)
see-only j i s h = by (get_or s.bits j true) h
  where
    by : (b : Bool) → IsMarked (if b then s else marked j s).bits i → IsMarked s.bits i ⊎ (i ≡ j)
    by true h = inl h
    by false h = marked_only s.bits i j h

-- each node of a list is seen
pub see_all-extends : (js : List ℕ) (s : Visited) → Extends s (see_all js s)
see_all-extends [] s = Extends-refl s
see_all-extends (j ∷ js) s = Extends-trans s (see j s) (see_all js (see j s)) (see-extends j s) (see_all-extends js (see j s))

pub see_all-listed : (js : List ℕ) (s : Visited) → IsListed s → IsListed (see_all js s)
see_all-listed [] s h = h
see_all-listed (j ∷ js) s h = see_all-listed js (see j s) (see-listed j s h)

pub see_all-only : (P : ℕ → Type 0) (js : List ℕ) (s : Visited) → All P js → (i : ℕ) → IsMarked (see_all js s).bits i → IsMarked s.bits i ⊎ P i
see_all-only P [] s all i h = inl h
see_all-only P (j ∷ js) s all i h =
    elim (see_all-only P js (see j s) (λ k d l. all (suc k) d (omega arith)) i h) [
      | inl before ↦
          elim (see-only j i s before) [ inl first ↦ inl first | inr same ↦ inr (subst P (sym same) (all 0 j (omega arith))) ]
      | inr p ↦ inr p
    ]

pub see_all-here : (js : List ℕ) (s : Visited) → All (λ j. j < length s.bits) js → (k : ℕ) (d : ℕ) → k < length js → IsMarked (see_all js s).bits (get_or js k d)
see_all-here [] s all k d low = absurd (omega arith)
see_all-here (j ∷ js) s all zero d low =
    (see_all-extends js (see j s)).kept j (see-here j s (all 0 d (omega arith)))
see_all-here (j ∷ js) s all (suc k) d low =
    let long = (see-extends j s).long in
    see_all-here js (see j s) (λ i e l. omega (arith, all (suc i) e (omega arith), long)) k d (omega arith)

pub see_all-append : (xs ys : List ℕ) (s : Visited) → see_all (xs ++ ys) s ≡ see_all ys (see_all xs s)
see_all-append [] ys s = refl
see_all-append (x ∷ xs) ys s = see_all-append xs ys (see x s)

-- the successors of a node
pub successors-lead : (g : Graph) (i : ℕ) → All (MayCall (graph_wiring g) i) (successors g i)
successors-lead g i =
    All-filter_map (leads_by g i) (MayCall (graph_wiring g) i) (range_with_len 0 (requires_at g.nodes i)) (λ k r j at_k h. leads_by-MayCall g i r j h)

pub successors_by-more : (g : Graph) (i r : ℕ) → successors_by g i (r + 1) ≡ successors_by g i r ++ option_to_list (leads_by g i r)
successors_by-more g i r =
    ap (filter_map (leads_by g i)) (places_more r) ∙ filter_map-append (leads_by g i) (range_with_len 0 r) (r ∷ []) ∙ ap (λ t. successors_by g i r ++ t) (one (leads_by g i r))
  where
    one : (o : Option ℕ) → cons_option o [] ≡ option_to_list o
    one None = refl
    one (Some j) = refl

pub successors-within : (g : Graph) → All (IsLinkWithin g.nodes) g.links → (i : ℕ) → All (λ j. j < length g.nodes) (successors g i)
successors-within g graph i =
    All-filter_map (leads_by g i) (λ j. j < length g.nodes) (range_with_len 0 (requires_at g.nodes i)) (λ k r j at_k h. MayCall-ends g graph i j (leads_by-MayCall g i r j h))

-- every node to which a node leads is seen with its successors
pub see_all-leads : (g : Graph) → All (IsLinkWithin g.nodes) g.links → (i j : ℕ) (s : Visited) → length s.bits ≡ length g.nodes → MayCall (graph_wiring g) i j → IsMarked (see_all (successors g i) s).bits j
see_all-leads g graph i j s long h =
    let requires_ = requires_at g.nodes i in
    let r = h.port.require in
    let low : r < requires_ = MayCall-require g i j h in
    let in_range : r < length (range_with_len 0 requires_) = rw length-range_with_len low in
    let here : slice_get (range_with_len 0 requires_) r ≡ Some r =
    slice_get-get_or (range_with_len 0 requires_) r r in_range ∙ ap Some (get_or-range_with_len 0 requires_ r r low ∙ zero-add r) in
    let there = Contains-filter_map (leads_by g i) (range_with_len 0 requires_) r r j here (MayCall-leads_by g i j h) in
    subst (IsMarked (see_all (successors g i) s).bits) there.2 (see_all-here (successors g i) s (λ k d l. rw long (successors-within g graph i k d l)) there.0 j there.1)

-- where the search stands: the first `next` nodes that were reached have had their successors seen
pub record Searched (g : Graph) (start : ℕ) (s : Visited) (next : ℕ) : Type 0 where
  pub long : length s.bits ≡ length g.nodes
  pub count : unseen s.bits + length s.reached ≡ length g.nodes
  pub listed : IsListed s
  pub ways : (j : ℕ) → IsMarked s.bits j → CallPath (graph_wiring g) start j
  pub first : (j : ℕ) → MayCall (graph_wiring g) start j → IsMarked s.bits j
  pub done : (k : ℕ) → k < next → (j : ℕ) → MayCall (graph_wiring g) (get_or s.reached k 0) j → IsMarked s.bits j
  pub low : next ≤ length s.reached

-- before anything is seen
abbrev pub nothing_seen : Graph → Visited
nothing_seen g = seen_of (replicate (length g.nodes) false) []

pub search_begins : (g : Graph) → All (IsLinkWithin g.nodes) g.links → (start : ℕ) (s : Visited) → s ≡ see_all (successors g start) (nothing_seen g) → Searched g start s 0
search_begins g graph start s s_is = subst (λ t. Searched g start t 0) (sym s_is) begun
  where
    begun : Searched g start (see_all (successors g start) (nothing_seen g)) 0
    begun =
        let grown = see_all-extends (successors g start) (nothing_seen g) in
        let blank = none_marked (length g.nodes) in
        let clear : unseen (replicate (length g.nodes) false) ≡ length g.nodes * 1 = sum_by-replicate (λ b. cond (not b) 1 0) (length g.nodes) false in
        record {
          long = grown.long ∙ length-replicate (length g.nodes) false;
          count = omega (arith, grown.count, clear);
          listed = see_all-listed (successors g start) (nothing_seen g) (record { listed = λ i h. absurd (blank i h); members = λ k d l. absurd (omega arith) });
          ways = λ j h.
              elim (see_all-only (MayCall (graph_wiring g) start) (successors g start) (nothing_seen g) (successors-lead g start) j h) [
                | inl before ↦ absurd (blank j before)
                | inr leads ↦ step leads
              ];
          first = λ j h. see_all-leads g graph start j (nothing_seen g) (length-replicate (length g.nodes) false) h;
          done = λ k l j h. absurd (omega arith);
          low = omega arith;
        }

pub search_goes_on : (g : Graph) → All (IsLinkWithin g.nodes) g.links → (start : ℕ) (s t : Visited) (next node : ℕ) → Searched g start s next → next < length s.reached → node ≡ get_or s.reached next 0 → t ≡ see_all (successors g node) s → Searched g start t (next + 1)
search_goes_on g graph start s t next node h more node_is t_is =
    subst (λ u. Searched g start u (next + 1)) (sym t_is) after
  where
    after : Searched g start (see_all (successors g node) s) (next + 1)
    after =
        let grown = see_all-extends (successors g node) s in
        let here : CallPath (graph_wiring g) start node = subst (CallPath (graph_wiring g) start) (sym node_is) (h.ways (get_or s.reached next 0) (h.listed.members next 0 more)) in
        record {
          long = grown.long ∙ h.long;
          count = grown.count ∙ h.count;
          listed = see_all-listed (successors g node) s h.listed;
          ways = λ j has.
              elim (see_all-only (MayCall (graph_wiring g) node) (successors g node) s (successors-lead g node) j has) [
                | inl before ↦ h.ways j before
                | inr leads ↦ walk_then (MayCall (graph_wiring g)) here leads
              ];
          first = λ j leads. grown.kept j (h.first j leads);
          done = λ k l j leads.
              let in_old : k < length s.reached = omega arith in
              let same = grown.prefix k in_old in
              elim (cases_lt k next) [
                | inl before ↦ grown.kept j (h.done k before j (subst (λ i. MayCall (graph_wiring g) i j) same leads))
                | inr last ↦
                    let at_next : k ≡ next = omega arith in
                    let is_node = same ∙ ap (λ x. get_or s.reached x 0) at_next ∙ sym node_is in
                    see_all-leads g graph node j s h.long (subst (λ i. MayCall (graph_wiring g) i j) is_node leads)
              ];
          low = omega (arith, grown.grows);
        }

-- at the end exactly the nodes to which ways lead are seen
pub search_ends : (g : Graph) (start : ℕ) (s : Visited) (next : ℕ) → Searched g start s next → length s.reached ≤ next → (j : ℕ) → IsMarked s.bits j ↔ CallPath (graph_wiring g) start j
search_ends g start s next h all j = (h.ways j, λ way. follows start j way (λ k leads. h.first k leads))
  where
    closed : (i : ℕ) → IsMarked s.bits i → (k : ℕ) → MayCall (graph_wiring g) i k → IsMarked s.bits k
    closed i has k leads =
        let there = h.listed.listed i has in
        let here : get_or s.reached there.0 0 ≡ i = get_or_default s.reached there.0 0 i there.1 ∙ there.2 in
        h.done there.0 (omega (arith, there.1)) k (subst (λ x. MayCall (graph_wiring g) x k) (sym here) leads)

    follows : (i j : ℕ) → CallPath (graph_wiring g) i j → ((k : ℕ) → MayCall (graph_wiring g) i k → IsMarked s.bits k) → IsMarked s.bits j
    follows i j (step leads) f = f j leads
    follows i j (onward {j = m} leads rest) f = follows m j rest (closed m (f m leads))

-- the measure of setting bits: one fewer is clear, and at most a list of all links was added
pub clear_falls : (bits : List Bool) (j links old popped new : ℕ) → get_or bits j true ≡ false → new ≤ popped + links → popped + 1 ≡ old → unseen (set bits j true) * (links + 1) + new < unseen bits * (links + 1) + old
clear_falls bits j links old popped new clear added taken =
    let fewer = unseen-set bits j clear in
    rw (← fewer) (grows (unseen (set bits j true)))
  where
    grows : (u : ℕ) → u * (links + 1) + new < (u + 1) * (links + 1) + old
    grows u = omega arith

-- ---- whether a way leads from a node to another

module _ (g : Graph) (graph : All (IsLinkWithin g.nodes) g.links) (start : ℕ) where
  -- the search to its end: each step takes one node of the list, and no node stands there twice
  searched_from : (fuel next : ℕ) (s : Visited) → Searched g start s next → length g.nodes ≤ next + fuel → (t : Visited) × ((j : ℕ) → IsMarked t.bits j ↔ CallPath (graph_wiring g) start j)
  searched_from zero next s h enough = (s, search_ends g start s next h (omega (arith, enough, h.count)))
  searched_from (suc fuel) next s h enough = by (cases_lt next (length s.reached)) (λ t after. searched_from fuel (next + 1) t after (omega (arith, enough)))
    where
      by :
          (next < length s.reached) ⊎ (length s.reached ≤ next) → ((t : Visited) → Searched g start t (next + 1) → (u : Visited) × ((j : ℕ) → IsMarked u.bits j ↔ CallPath (graph_wiring g) start j))
          → (u : Visited) × ((j : ℕ) → IsMarked u.bits j ↔ CallPath (graph_wiring g) start j)
      by (inl more) on =
          let node = get_or s.reached next 0 in
          on (see_all (successors g node) s) (search_goes_on g graph start s (see_all (successors g node) s) next node h more refl refl)
      by (inr all) on = (s, search_ends g start s next h all)

  pub tell_way : (j : ℕ) → CallPath (graph_wiring g) start j ⊎ (CallPath (graph_wiring g) start j → ⊥)
  tell_way j =
      let w = searched_from (length g.nodes) 0 (see_all (successors g start) (nothing_seen g)) (search_begins g graph start _ refl) (omega arith) in
      by w.0.bits (slice_index_or w.0.bits j false) refl (w.1 j)
    where
      by : (bits : List Bool) (b : Bool) → slice_index_or bits j false ≡ b → (IsMarked bits j ↔ CallPath (graph_wiring g) start j) → CallPath (graph_wiring g) start j ⊎ (CallPath (graph_wiring g) start j → ⊥)
      by bits true is iff = inl (iff.0 is)
      by bits false is iff = inr (λ way. false≢true (sym is ∙ iff.1 way))

-- the first node that is on a cycle, or none is on one
pub first_or_none : (g : Graph) → All (IsLinkWithin g.nodes) g.links → ((i : ℕ) × FirstOnCycle g i) ⊎ HasNoCycle (graph_wiring g)
first_or_none g graph = elim (up_to (length g.nodes)) [ inl first ↦ inl first | inr none ↦ inr (no_cycle g none) ]
  where
    up_to : (n : ℕ) → ((i : ℕ) × FirstOnCycle g i) ⊎ ((i : ℕ) → i < n → ¬ OnCycle g i)
    up_to zero = inr (λ i low way. absurd (omega (arith, low)))
    up_to (suc n) = by (up_to n) (tell_way g graph n n)
      where
        by :
            ((i : ℕ) × FirstOnCycle g i) ⊎ ((i : ℕ) → i < n → ¬ OnCycle g i) → CallPath (graph_wiring g) n n ⊎ (CallPath (graph_wiring g) n n → ⊥)
            → ((i : ℕ) × FirstOnCycle g i) ⊎ ((i : ℕ) → i < suc n → ¬ OnCycle g i)
        by (inl first) way = inl first
        by (inr none) (inl way) = inl (n, record { on_cycle = way; first = none })
        by (inr none) (inr still) = inr (λ i low way.
            elim (eqb_tells i n) [
              | inl same ↦ still (subst (λ k. CallPath (graph_wiring g) k k) same.1 way)
              | inr other ↦ none i (omega (arith, low, other.1)) way
            ])
