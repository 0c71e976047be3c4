-- Marks that are closed: a node that isn't marked waits, or may call one that isn't marked. Where none waits and one
-- isn't marked, a walk among those that aren't comes back.
use Rattle.std.proofs.Common.{◌≡◌, ◌⊎◌, ◌↔◌, ◌∙◌, ◌<◌, ℕ, zero, suc, Bool, true, false, not, List, [], ◌∷◌, ◌++◌, All, Contains, ap, get_or, inl, inr, length, refl, set, subst, sym, ⊎_elim}
use Rattle.std.specs.List.{Any, list_any}
use Rattle.std.proofs.lemmas.Bool.{cases_Bool, cases_eq, not-true, true≢false}
use Rattle.std.proofs.lemmas.List.{get_or_default}
use Rattle.std.proofs.lemmas.List.Elements.{Contains-append_cases}
use Rattle.std.proofs.lemmas.List.Folds.{Any-from_list_any, list_any_at}
use Rattle.config_graph.specs.Cycles.{HasCycle, LeadsToUnmarked, OnCycle, graph_wiring}
use Rattle.config_graph.specs.Graph.{Graph, IsLinkWithin}
use Rattle.config_graph.specs.Marks.{IsMarked}
use Rattle.config_graph.specs.Walks.{Walk, onward, step}
use Rattle.config_graph.specs.Wiring.{CallPath, MayCall}
use Rattle.config_graph.proofs.CycleLaws.{CallPath-within, MayCall-ends, MayCall-within}
use Rattle.config_graph.proofs.SearchLaws.{clear_within}
use Rattle.config_graph.proofs.WalkLaws.{closed_walk}
use Rattle.config_graph.proofs.MarkLaws.{marked_here, marked_kept, marked_only}
use Rattle.base.proofs.ContainsLaws.{Contains-one}

abbrev pub IsClosedAt : Graph → List Bool → List ℕ → ℕ → Type 0
IsClosedAt g marks waiting i = IsMarked marks i ⊎ (Contains waiting i ⊎ LeadsToUnmarked g marks i)

module _ (g : Graph) (marks : List Bool) (waiting : List ℕ) (node : ℕ) where
  -- a node that was taken from those that wait is marked, or leads to one that isn't
  pub closed_left : IsMarked marks node ⊎ LeadsToUnmarked g marks node → (i : ℕ) → IsClosedAt g marks (waiting ++ node ∷ []) i → IsClosedAt g marks waiting i
  closed_left done i (inl marked) = inl marked
  closed_left done i (inr (inr leads)) = inr (inr leads)
  closed_left done i (inr (inl waits)) =
      elim (Contains-append_cases waiting (node ∷ []) i waits) [
        | inl still ↦ inr (inl still)
        | inr last ↦ ⊎_elim
            (λ (marked : IsMarked marks node). inl (subst (IsMarked marks) (sym (Contains-one node i last)) marked))
            (λ (leads : LeadsToUnmarked g marks node). inr (inr (subst (LeadsToUnmarked g marks) (sym (Contains-one node i last)) leads))) done
      ]

  -- or it is marked now, and all that may call it wait
  pub closed_marked :
      node < length marks → (more_ : List ℕ) → ((i : ℕ) → Contains waiting i → Contains more_ i) → ((i : ℕ) → MayCall (graph_wiring g) i node → Contains more_ i) → (i : ℕ)
      → IsClosedAt g marks (waiting ++ node ∷ []) i → IsClosedAt g (set marks node true) more_ i
  closed_marked low more_ kept callers i (inl marked) = inl (marked_kept marks i node marked)
  closed_marked low more_ kept callers i (inr (inl waits)) =
      elim (Contains-append_cases waiting (node ∷ []) i waits) [
        | inl still ↦ inr (inl (kept i still))
        | inr last ↦ inl (subst (IsMarked (set marks node true)) (sym (Contains-one node i last)) (marked_here marks node low))
      ]
  closed_marked low more_ kept callers i (inr (inr leads)) =
      elim (cases_eq leads.0 node) [
        | inl same ↦ inr (inl (callers i (subst (λ j. MayCall (graph_wiring g) i j) same leads.1)))
        | inr other ↦ inr (inr (leads.0, leads.1, λ marked. elim (marked_only marks leads.0 node marked) [ inl before ↦ leads.2 before | inr same ↦ other same ]))
      ]

-- the mark of a place of the list isn't set
unmarked : (marks : List Bool) (i : ℕ) → i < length marks → ¬ IsMarked marks i → get_or marks i true ≡ false
unmarked marks i low free =
    elim (cases_Bool (get_or marks i true)) [
      | inl is ↦ absurd (free (get_or_default marks i false true low ∙ is))
      | inr is_not ↦ is_not
    ]

is_unmarked : (marks : List Bool) (i : ℕ) → get_or marks i true ≡ false → ¬ IsMarked marks i
is_unmarked marks i clear is = true≢false (sym is ∙ get_or_default marks i false true (clear_within marks i clear) ∙ clear)

module _ (g : Graph) (within : All (IsLinkWithin g.nodes) g.links) (marks : List Bool) (long : length marks ≡ length g.nodes)
    (closed : (i : ℕ) → i < length g.nodes → IsMarked marks i ⊎ LeadsToUnmarked g marks i) where
  abbrev is_free : ℕ → Bool
  is_free i = not (get_or marks i true)

  -- a call of a node that isn't marked, and whether so many calls lead from one such node to the next
  abbrev Calls : ℕ → ℕ → Type 0
  Calls i j = (is_free i ≡ true) × MayCall (graph_wiring g) i j

  abbrev goes_on : ℕ → ℕ → Bool
  goes_on zero i = true
  goes_on (suc k) i = is_free i

  calls : {i j : ℕ} → Walk Calls i j → CallPath (graph_wiring g) i j
  calls (step s) = step s.1
  calls (onward s rest) = onward s.1 (calls rest)

  free : (i : ℕ) → i < length g.nodes → ¬ IsMarked marks i → is_free i ≡ true
  free i low is_not = ap not (unmarked marks i (subst (λ n. i < n) (sym long) low) is_not)

  within_graph : (i : ℕ) → is_free i ≡ true → i < length g.nodes
  within_graph i is = subst (λ n. i < n) long (clear_within marks i (not-true (get_or marks i true) is))

  goes_from : (k i : ℕ) → goes_on (suc k) i ≡ true → (j : ℕ) × Calls i j × (goes_on k j ≡ true)
  goes_from k i is =
      elim (closed i (within_graph i is)) [
        | inl marked ↦ absurd (is_unmarked marks i (not-true (get_or marks i true) is) marked)
        | inr leads ↦ (leads.0, (is, leads.1), more k leads.0 (free leads.0 (MayCall-ends g within i leads.0 leads.1) leads.2))
      ]
    where
      more : (k j : ℕ) → is_free j ≡ true → goes_on k j ≡ true
      more zero j is_free_ = refl
      more (suc k) j is_free_ = is_free_

  pub cycle_if_unmarked : (i : ℕ) → i < length g.nodes → ¬ IsMarked marks i → HasCycle g
  cycle_if_unmarked i low is_not =
      let back = closed_walk Calls (length g.nodes) (λ i j s. MayCall-within g i j s.1) goes_on (λ i. refl) (λ k i j s h. s.0) goes_from i (free i low is_not) in
      (back.0, calls back.1)

-- some mark isn't set exactly where a node is on a cycle, if none of the marked ones is and each of the others gives one
pub unset_iff_cycle :
    (g : Graph) (marks : List Bool) → length marks ≡ length g.nodes → ((i : ℕ) → IsMarked marks i → ¬ OnCycle g i)
    → ((i : ℕ) → i < length g.nodes → ¬ IsMarked marks i → HasCycle g) → (list_any not marks ≡ true) ↔ HasCycle g
unset_iff_cycle g marks long acyclic cycle = (λ is. from (Any-from_list_any not marks is), to)
  where
    from : Any (λ b. not b ≡ true) marks → HasCycle g
    from some_ =
        let i = some_.0 in
        let low = some_.2 in
        let clear = get_or_default marks i true some_.1 low ∙ some_.3 ∙ not-true some_.1 some_.4 in
        cycle i (subst (λ n. i < n) long low) (is_unmarked marks i clear)

    to : HasCycle g → list_any not marks ≡ true
    to c =
        let low = subst (λ n. c.0 < n) (sym long) (CallPath-within g c.0 c.0 c.1) in
        list_any_at not marks c.0 true low (ap not (unmarked marks c.0 low (λ is. acyclic c.0 is c.1)))
