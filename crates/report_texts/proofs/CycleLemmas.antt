-- The search for a way from a node back to it finds one exactly where there is one.
use Rattle.std.proofs.Common.{◌≡◌, ◌+◌, ◌<◌, ◌≤◌, ◌↔◌, ℕ, zero, suc, Bool, true, false, not, inl, inr, length, get_or, refl, sym, ap, subst, arith, All}
use Rattle.std.specs.Prelude.{nat_lt}
use Rattle.std.proofs.lemmas.Bool.{cases_Bool, cond-true, cond-false, false≢true, both_ways, not-true}
use Rattle.std.proofs.lemmas.Bool.Decides.{nat_tests}
use Rattle.base.proofs.RangeLaws.{all_in_range, range_all}
use Rattle.config_graph.specs.Cycles.{HasCycle, OnCycle, graph_wiring}
use Rattle.config_graph.specs.Graph.{Graph, IsLinkWithin}
use Rattle.config_graph.specs.Marks.{IsMarked}
use Rattle.config_graph.specs.Search.{Visited, see_all, successors}
use Rattle.config_graph.specs.Wiring.{CallPath, HasNoCycle}
use Rattle.config_graph.proofs.CycleLaws.{CallPath-within, no_cycle}
use Rattle.config_graph.proofs.SearchLaws.{Searched, nothing_seen, search_begins, search_ends, search_goes_on}
use Rattle.report_texts.specs.GraphTexts.{has_no_cycle, leads_back, search}

pub below : (a b : ℕ) → nat_lt a b ≡ true → a < b
below a b is = grind (arith, nat_tests)

pub not_below : (a b : ℕ) → nat_lt a b ≡ false → b ≤ a
not_below a b is = grind (arith, nat_tests)

module _ (g : Graph) (within : All (IsLinkWithin g.nodes) g.links) (start : ℕ) where
  searched : (fuel next : ℕ) (s : Visited) → Searched g start s next → length g.nodes ≤ next + fuel → (j : ℕ) → IsMarked (search g fuel next s).bits j ↔ CallPath (graph_wiring g) start j
  searched zero next s h enough = search_ends g start s next h (omega (arith, enough, h.count))
  searched (suc fuel) next s h enough =
      elim (cases_Bool (nat_lt next (length s.reached))) [
        | inl more ↦
            let node = get_or s.reached next 0 in
            let after = search_goes_on g within start s (see_all (successors g node) s) next node h (below next (length s.reached) more) refl refl in
            let same : search g (suc fuel) next s ≡ search g fuel (next + 1) (see_all (successors g node) s) = cond-true _ _ _ more in
            λ j. subst (λ (t : Visited). IsMarked t.bits j ↔ CallPath (graph_wiring g) start j) (sym same) (searched fuel (next + 1) (see_all (successors g node) s) after (omega (arith, enough)) j)
        | inr all ↦
            let same : search g (suc fuel) next s ≡ s = cond-false _ _ _ all in
            λ j. subst (λ (t : Visited). IsMarked t.bits j ↔ CallPath (graph_wiring g) start j) (sym same) (search_ends g start s next h (not_below next (length s.reached) all) j)
      ]

  found : (leads_back g start ≡ true) ↔ OnCycle g start
  found = searched (length g.nodes) 0 (see_all (successors g start) (nothing_seen g)) (search_begins g within start _ refl) (omega arith) start

pub acyclic : (g : Graph) → All (IsLinkWithin g.nodes) g.links → has_no_cycle g ≡ true → HasNoCycle (graph_wiring g)
acyclic g within is =
    no_cycle g (λ i low way. both_ways (leads_back g i) (not-true (leads_back g i) (all_in_range (λ node. not (leads_back g node)) 0 (length g.nodes) i is (omega arith) (omega (arith, low)))) ((found g within i).1 way))

pub has_none : (g : Graph) → All (IsLinkWithin g.nodes) g.links → ((i : ℕ) → OnCycle g i → ⊥) → has_no_cycle g ≡ true
has_none g within none = range_all (λ node. not (leads_back g node)) 0 (length g.nodes) (λ i low high. at i)
  where
    at : (i : ℕ) → not (leads_back g i) ≡ true
    at i =
        elim (cases_Bool (leads_back g i)) [
          | inl back ↦ absurd (none i ((found g within i).0 back))
          | inr not_back ↦ ap not not_back
        ]

has_some : (g : Graph) → All (IsLinkWithin g.nodes) g.links → (i : ℕ) → i < length g.nodes → OnCycle g i → has_no_cycle g ≡ false
has_some g within i low way =
    elim (cases_Bool (has_no_cycle g)) [
      | inl none ↦ absurd (both_ways (leads_back g i) (not-true (leads_back g i) (all_in_range (λ node. not (leads_back g node)) 0 (length g.nodes) i none (omega arith) (omega (arith, low)))) ((found g within i).1 way))
      | inr some ↦ some
    ]

-- what the test for a cycle says of it
pub no_cycle_is : (g : Graph) → All (IsLinkWithin g.nodes) g.links → (b : Bool) → (b ≡ true) ↔ HasCycle g → not b ≡ has_no_cycle g
no_cycle_is g within false cycle = sym (has_none g within (λ i way. false≢true (cycle.1 (i, way))))
no_cycle_is g within true cycle =
    let some_ = cycle.0 refl in
    sym (has_some g within some_.0 (CallPath-within g some_.0 some_.0 some_.1) some_.1)
