-- A worked commit: a map between a source and a sink is replaced.
use Rattle.std.proofs.Common.{◌≡◌, ℕ, zero, suc, [], ◌∷◌, Some, refl, sym, ap, ◌∙◌, subst, inl, inr, ⊎_elim, arith, Contains}
use Rattle.std.specs.Prelude.{◌⊎◌, bytes_eq, codes, slice_get}
use Rattle.std.specs.List.Sorted.{IsStrictlyIncreasing}
use Rattle.std.proofs.lemmas.Bool.{both_ways}
use Rattle.std.proofs.lemmas.Option.{same_Some}
use Rattle.std.proofs.lemmas.Slice.Eq.{bytes_eq-Decides}
use Rattle.change_plan.specs.Differences.{GoneLinks, GoneNodes, IsGone, IsKeptLink}
use Rattle.change_plan.specs.Plans.{HasStepsBetween, IsPlanOf}
use Rattle.change_plan.specs.Selects.Selects.{ends, skips, takes}
use Rattle.change_plan.specs.Touched.{Frozen, HasNewTarget, IsTouched}
use Rattle.config_graph.specs.Cycles.{IsLinked, graph_wiring}
use Rattle.config_graph.specs.Wiring.{Reach}
use Rattle.config_graph.specs.declared.node.Link.{Link}
use Rattle.config_graph.specs.declared.node.Node.{Node}
use Rattle.config_graph.proofs.WiringLaws.{reach_linked}
use Rattle.base.proofs.ContainsLaws.{Contains-at}
use Rattle.change_plan_laws.specs.Rows.{another_map, m_to_t, s_to_map, source}
use Rattle.change_plan_laws.specs.Systems.{line, map_m}
use Rattle.change_plan_laws.proofs.PlannedLemmas.{link_if}

apart : (m n : ℕ) → (m ≡ n → ⊥) → ¬ Contains (line n).nodes (map_m m)
apart m n other (zero, low, same) = other (same_Some m n (ap (λ (x : Node). x.arg) (sym same)))
apart m n other (suc zero, low, same) = path_is (ap (λ (x : Node). x.path) (sym same))
  where
    path_is : codes "m" ≡ codes "s" → ⊥
    path_is e = both_ways (bytes_eq (codes "m") (codes "s")) refl ((bytes_eq-Decides (codes "m") (codes "s")).1 e)
apart m n other (suc (suc zero), low, same) = path_is (ap (λ (x : Node). x.path) (sym same))
  where
    path_is : codes "m" ≡ codes "t" → ⊥
    path_is e = both_ways (bytes_eq (codes "m") (codes "t")) refl ((bytes_eq-Decides (codes "m") (codes "t")).1 e)
apart m n other (suc (suc (suc k)), low, same) = absurd (omega (arith, low))

link_cases : (n : ℕ) (k : Link) → Contains (line n).links k → (m_to_t ≡ k) ⊎ (s_to_map ≡ k)
link_cases n k (zero, low, same) = inl same
link_cases n k (suc zero, low, same) = inr same
link_cases n k (suc (suc i), low, same) = absurd (omega (arith, low))

begins : (n i r j x : ℕ) → IsLinked (line n) i r j x → (0 ≡ i) ⊎ (1 ≡ i)
begins n i r j x l =
    let w = link_if (line n) i r j x l in
    ⊎_elim
    (λ (e : m_to_t ≡ w.link). inl (ap (λ (k : Link). k.from) e ∙ w.from))
    (λ (e : s_to_map ≡ w.link). inr (ap (λ (k : Link). k.from) e ∙ w.from))
    (link_cases n w.link w.there)

module _ (m n : ℕ) (other : m ≡ n → ⊥) where
  gone : IsGone (line m) (line n) 0
  gone = record { node = map_m m; here = refl; gone = apart m n other }

  gone_is : (i : ℕ) → IsGone (line m) (line n) i → 0 ≡ i
  gone_is zero g = refl
  gone_is (suc i) g = absurd (g.gone (Contains-at (line n).nodes (suc i) g.node g.here))

  nodes_gone : GoneNodes (line m) (line n) (0 ∷ [])
  nodes_gone = takes gone (skips (λ g. omega (arith, gone_is 1 g)) (skips (λ g. omega (arith, gone_is 2 g)) ends))

  -- the other graph has no twin of the map
  no_twin : (j : ℕ) (x : Node) → slice_get (line m).nodes 0 ≡ Some x → slice_get (line n).nodes j ≡ Some x → ⊥
  no_twin j x here there = apart m n other (subst (Contains (line n).nodes) (sym (same_Some (map_m m) x here)) (Contains-at (line n).nodes j x there))

  links_gone : GoneLinks (line m) (line n) (m_to_t ∷ s_to_map ∷ [])
  links_gone =
      takes (λ (k : IsKeptLink (line m) (line n) m_to_t). no_twin k.0.from k.2.from.node k.2.from.here k.2.from.there)
      (takes (λ (k : IsKeptLink (line m) (line n) s_to_map). no_twin k.0.to k.2.to.node k.2.to.here k.2.to.there) ends)

differ : ◌≡◌ {A = ℕ} 10 20 → ⊥
differ e = omega (arith, e)

differ_back : ◌≡◌ {A = ℕ} 20 10 → ⊥
differ_back e = omega (arith, e)

source_touched : IsTouched (line 10) (line 20) 1
source_touched = inr (record {
  twin = 1;
  require = 0;
  stays = record { node = source; here = refl; there = refl };
  within = omega arith;
  differs = λ same. no_twin 10 20 differ 0 same.0.node same.0.here same.0.there;
})

if_frozen : (i : ℕ) → Contains (0 ∷ 1 ∷ []) i → Frozen (line 10) (line 20) i
if_frozen i (zero, low, same) = subst (Frozen (line 10) (line 20)) same (inl (inl (gone 10 20 differ)))
if_frozen i (suc zero, low, same) = subst (Frozen (line 10) (line 20)) same (inl source_touched)
if_frozen i (suc (suc k), low, same) = absurd (omega (arith, low))

frozen_if : (i : ℕ) → Frozen (line 10) (line 20) i → Contains (0 ∷ 1 ∷ []) i
frozen_if zero f = (0, omega arith, refl)
frozen_if (suc zero) f = (1, omega arith, refl)
frozen_if (suc (suc i)) f = ⊎_elim
    (λ (t : IsTouched (line 10) (line 20) (suc (suc i))). ⊎_elim
    (λ (g : IsGone (line 10) (line 20) (suc (suc i))). absurd (omega (arith, gone_is 10 20 differ (suc (suc i)) g)))
    (λ (h : HasNewTarget (line 10) (line 20) (suc (suc i))). absurd (no_ports i h)) t)
    (λ (r : (n : ℕ) × (q : ℕ) × IsTouched (line 10) (line 20) n × Reach (graph_wiring (line 10)) n (record { node = suc (suc i); require = q })).
    let l = reach_linked (graph_wiring (line 10)) r.0 (record { node = suc (suc i); require = r.1 }) r.3 in
    ⊎_elim (λ (e : 0 ≡ suc (suc i)). absurd (omega (arith, e))) (λ (e : 1 ≡ suc (suc i)). absurd (omega (arith, e))) (begins 10 (suc (suc i)) r.1 l.0 l.1 l.2)) f
  where
    no_ports : (i : ℕ) → HasNewTarget (line 10) (line 20) (suc (suc i)) → ⊥
    no_ports zero h = let low = h.within in omega (arith, low)
    no_ports (suc i) h = let low = h.within in omega (arith, low)

steps : HasStepsBetween (line 10) (line 20) another_map
steps = record {
  unlink = (m_to_t ∷ s_to_map ∷ [], links_gone 10 20 differ, refl);
  remove = nodes_gone 10 20 differ;
  create = nodes_gone 20 10 differ_back;
  link = links_gone 20 10 differ_back;
  freeze = λ i. (if_frozen i, frozen_if i);
}

rises : IsStrictlyIncreasing (0 ∷ 1 ∷ [])
rises zero low = omega arith
rises (suc k) low = absurd (omega (arith, low))

pub is_plan : IsPlanOf (line 10) (line 20) [] another_map
is_plan = record {
  steps = steps;
  moves = record {
    sound = λ s there. absurd (omega (arith, there.1));
    complete = λ s is. let there = is.there in absurd (omega (arith, there.1));
    rise = λ k low. absurd (omega (arith, low));
  };
  freeze_rises = rises;
}
