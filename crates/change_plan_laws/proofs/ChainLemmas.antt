-- A change for which freezing the direct set alone isn't enough.
use Rattle.std.proofs.Common.{◌≡◌, ℕ, zero, suc, ◌<◌, true, false, length, [], ◌∷◌, Some, None, refl, sym, ap, ◌∙◌, subst, inl, inr, ⊎_elim, arith, Contains}
use Rattle.std.specs.Prelude.{◌⊎◌, ◌↔◌, slice_get}
use Rattle.std.specs.List.Sorted.{IsStrictlyIncreasing}
use Rattle.std.proofs.lemmas.Bool.{both_ways}
use Rattle.std.proofs.lemmas.Option.{same_Some}
use Rattle.change_plan.specs.Differences.{IsGone, IsKeptLink, IsTwin}
use Rattle.change_plan.specs.Plans.{HasStepsBetween, IsPlanOf}
use Rattle.change_plan.specs.Selects.Selects.{ends, skips, takes}
use Rattle.change_plan.specs.Touched.{Frozen, HasNewTarget, IsTouched, SameTarget}
use Rattle.passive_set.specs.DirectSet.{Direct, IsLinkedTo}
use Rattle.config_graph.specs.Cycles.{IsLinked, graph_wiring}
use Rattle.config_graph.specs.Graph.{target_of}
use Rattle.config_graph.specs.Wiring.{Reach, direct, through}
use Rattle.config_graph.specs.declared.node.Link.{Link}
use Rattle.config_graph.specs.declared.node.Node.{Node}
use Rattle.config_graph.proofs.WiringLaws.{reach_linked}
use Rattle.quiesce_core.specs.declared.event.Event.TheVariants.{Link as LinkEvent}
use Rattle.quiesce_core.specs.Reach.{has_no_cycle, reaches}
use Rattle.quiesce_core.specs.Rules.{denial}
use Rattle.quiesce_core.specs.Runs.{IsRun, state_after}
use Rattle.quiesce_core.specs.State.{owner}
use Rattle.quiesce_laws.specs.Drained.{is_drained}
use Rattle.quiesce_core.proofs.RunLaws.{run_if}
use Rattle.base.proofs.ContainsLaws.{Contains-at}
use Rattle.change_plan_laws.specs.Commit.{commit_steps}
use Rattle.change_plan_laws.specs.Rows.{all_closed, chain, direct_closed, linking, m_to_n, n_to_t, s_to_m, second_map, source}
use Rattle.change_plan_laws.specs.Systems.{map_m, sink_t}
use Rattle.change_plan_laws.proofs.PlannedLemmas.{link_if}

-- the nodes are the same
none_gone : (i : ℕ) → IsGone (chain []) (chain (n_to_t ∷ [])) i → ⊥
none_gone i g = g.gone (Contains-at (chain []).nodes i g.node g.here)

none_new : (i : ℕ) → IsGone (chain (n_to_t ∷ [])) (chain []) i → ⊥
none_new i g = g.gone (Contains-at (chain []).nodes i g.node g.here)

old_cases : (k : Link) → Contains (chain []).links k → (m_to_n ≡ k) ⊎ (s_to_m ≡ k)
old_cases k (zero, low, same) = inl same
old_cases k (suc zero, low, same) = inr same
old_cases k (suc (suc n), low, same) = absurd (omega (arith, low))

-- old links begin at the first map and at the source
begins : (i r j x : ℕ) → IsLinked (chain []) i r j x → (0 ≡ i) ⊎ (2 ≡ i)
begins i r j x l =
    let w = link_if (chain []) i r j x l in
    ⊎_elim
    (λ (e : m_to_n ≡ w.link). inl (ap (λ (k : Link). k.from) e ∙ w.from))
    (λ (e : s_to_m ≡ w.link). inr (ap (λ (k : Link). k.from) e ∙ w.from))
    (old_cases w.link w.there)

new_link : ¬ IsKeptLink (chain (n_to_t ∷ [])) (chain []) n_to_t
new_link (l, there, same) =
    let here : second_map ≡ same.from.node = same_Some second_map same.from.node same.from.here in
    ⊎_elim
    (λ (e : m_to_n ≡ l).
    let first : (map_m 1) ≡ same.from.node = same_Some (map_m 1) same.from.node (ap (λ (k : Link). slice_get (chain []).nodes k.from) e ∙ same.from.there) in
    let args : 1 ≡ 2 = same_Some 1 2 (ap (λ (n : Node). n.arg) (first ∙ sym here)) in absurd (omega (arith, args)))
    (λ (e : s_to_m ≡ l).
    let third : source ≡ same.from.node = same_Some source same.from.node (ap (λ (k : Link). slice_get (chain []).nodes k.from) e ∙ same.from.there) in
    let args : 3 ≡ 2 = same_Some 3 2 (ap (λ (n : Node). n.arg) (third ∙ sym here)) in absurd (omega (arith, args)))
    (old_cases l there)

touched : IsTouched (chain []) (chain (n_to_t ∷ [])) 1
touched = inr (record { twin = 1; require = 0; stays = record { node = second_map; here = refl; there = refl }; within = omega arith; differs = λ same. same })

if_frozen : (i : ℕ) → Contains (0 ∷ 1 ∷ 2 ∷ []) i → Frozen (chain []) (chain (n_to_t ∷ [])) i
if_frozen i (zero, low, same) = subst (Frozen (chain []) (chain (n_to_t ∷ []))) same (inr (1, 0, touched, direct {x = 0} refl))
if_frozen i (suc zero, low, same) = subst (Frozen (chain []) (chain (n_to_t ∷ []))) same (inl touched)
if_frozen i (suc (suc zero), low, same) = subst (Frozen (chain []) (chain (n_to_t ∷ []))) same
    (inr (1, 0, touched, through {p = record { node = 0; require = 0 }} {q = record { node = 2; require = 0 }} {m = 0} {x = 0} (direct {x = 0} refl) (refl, refl) refl))
if_frozen i (suc (suc (suc k)), low, same) = absurd (omega (arith, low))

frozen_if : (i : ℕ) → Frozen (chain []) (chain (n_to_t ∷ [])) i → Contains (0 ∷ 1 ∷ 2 ∷ []) i
frozen_if zero f = (0, omega arith, refl)
frozen_if (suc zero) f = (1, omega arith, refl)
frozen_if (suc (suc zero)) f = (2, omega arith, refl)
frozen_if (suc (suc (suc i))) f = ⊎_elim
    (λ (t : IsTouched (chain []) (chain (n_to_t ∷ [])) (suc (suc (suc i)))). ⊎_elim
    (λ (g : IsGone (chain []) (chain (n_to_t ∷ [])) (suc (suc (suc i)))). absurd (none_gone (suc (suc (suc i))) g))
    (λ (h : HasNewTarget (chain []) (chain (n_to_t ∷ [])) (suc (suc (suc i)))). absurd (no_ports i h)) t)
    (λ (r : (n : ℕ) × (q : ℕ) × IsTouched (chain []) (chain (n_to_t ∷ [])) n × Reach (graph_wiring (chain [])) n (record { node = suc (suc (suc i)); require = q })).
    let l = reach_linked (graph_wiring (chain [])) r.0 (record { node = suc (suc (suc i)); require = r.1 }) r.3 in
    ⊎_elim (λ (e : 0 ≡ suc (suc (suc i))). absurd (omega (arith, e))) (λ (e : 2 ≡ suc (suc (suc i))). absurd (omega (arith, e))) (begins (suc (suc (suc i))) r.1 l.0 l.1 l.2)) f
  where
    no_ports : (i : ℕ) → HasNewTarget (chain []) (chain (n_to_t ∷ [])) (suc (suc (suc i))) → ⊥
    no_ports zero h = let low = h.within in omega (arith, low)
    no_ports (suc i) h = let low = h.within in omega (arith, low)

steps : HasStepsBetween (chain []) (chain (n_to_t ∷ [])) linking
steps =
    let m_twin : IsTwin (chain []) (chain (n_to_t ∷ [])) 0 0 = record { node = (map_m 1); here = refl; there = refl } in
    let n_twin : IsTwin (chain []) (chain (n_to_t ∷ [])) 1 1 = record { node = second_map; here = refl; there = refl } in
    let s_twin : IsTwin (chain []) (chain (n_to_t ∷ [])) 2 2 = record { node = source; here = refl; there = refl } in
    let m_back : IsTwin (chain (n_to_t ∷ [])) (chain []) 0 0 = record { node = (map_m 1); here = refl; there = refl } in
    let n_back : IsTwin (chain (n_to_t ∷ [])) (chain []) 1 1 = record { node = second_map; here = refl; there = refl } in
    let s_back : IsTwin (chain (n_to_t ∷ [])) (chain []) 2 2 = record { node = source; here = refl; there = refl } in
    record {
      unlink = (
        [],
        skips (λ lost. lost (m_to_n, (0, omega arith, refl), record { from = m_twin; require = refl; to = n_twin; provide = refl }))
            (skips (λ lost. lost (s_to_m, (2, omega arith, refl), record { from = s_twin; require = refl; to = m_twin; provide = refl })) ends),
        refl,
      );
      remove = skips (none_gone 0) (skips (none_gone 1) (skips (none_gone 2) (skips (none_gone 3) ends)));
      create = skips (none_new 0) (skips (none_new 1) (skips (none_new 2) (skips (none_new 3) ends)));
      link = skips (λ lost. lost (m_to_n, (0, omega arith, refl), record { from = m_back; require = refl; to = n_back; provide = refl }))
          (takes new_link (skips (λ lost. lost (s_to_m, (1, omega arith, refl), record { from = s_back; require = refl; to = m_back; provide = refl })) ends));
      freeze = λ i. (if_frozen i, frozen_if i);
    }

rises : IsStrictlyIncreasing (0 ∷ 1 ∷ 2 ∷ [])
rises zero low = omega arith
rises (suc zero) low = omega arith
rises (suc (suc k)) low = absurd (omega (arith, low))

pub is_plan : IsPlanOf (chain []) (chain (n_to_t ∷ [])) [] linking
is_plan = record {
  steps = steps;
  moves = record {
    sound = λ s there. absurd (omega (arith, there.1));
    complete = λ s is. let there = is.there in absurd (omega (arith, there.1));
    rise = λ k low. absurd (omega (arith, low));
  };
  freeze_rises = rises;
}

pub links_once : commit_steps (chain []) (chain (n_to_t ∷ [])) linking (state_after direct_closed).config ≡ LinkEvent 1 3 0 ∷ []
links_once = refl

pub direct_runs : IsRun direct_closed
unfolding has_no_cycle
direct_runs = run_if direct_closed refl

pub direct_denied : denial (state_after direct_closed) (LinkEvent 1 3 0) ≡ Some 22
unfolding has_no_cycle reaches
direct_denied = refl

pub all_allowed : denial (state_after all_closed) (LinkEvent 1 3 0) ≡ None
unfolding has_no_cycle reaches
all_allowed = refl

-- the second map alone is touched
m_stays : (twin require : ℕ) → IsTwin (chain []) (chain (n_to_t ∷ [])) 0 twin → require < 1
    → ¬ SameTarget (chain []) (chain (n_to_t ∷ [])) (target_of (chain []).links 0 require) (target_of (chain (n_to_t ∷ [])).links twin require) → ⊥
m_stays zero zero is low differs = differs (record { node = second_map; here = refl; there = refl }, refl)
m_stays zero (suc r) is low differs = omega (arith, low)
m_stays (suc zero) r is low differs =
    let args : Some 1 ≡ Some 2 = ap (λ (n : Node). n.arg) (same_Some (map_m 1) is.node is.here ∙ sym (same_Some second_map is.node is.there)) in
    let one : 1 ≡ 2 = same_Some 1 2 args in omega (arith, one)
m_stays (suc (suc zero)) r is low differs =
    let args : Some 1 ≡ Some 3 = ap (λ (n : Node). n.arg) (same_Some (map_m 1) is.node is.here ∙ sym (same_Some source is.node is.there)) in
    let one : 1 ≡ 3 = same_Some 1 3 args in omega (arith, one)
m_stays (suc (suc (suc zero))) r is low differs =
    let args : Some 1 ≡ None = ap (λ (n : Node). n.arg) (same_Some (map_m 1) is.node is.here ∙ sym (same_Some sink_t is.node is.there)) in absurd (cc args)
m_stays (suc (suc (suc (suc k)))) r is low differs = absurd (cc (is.there))

s_stays : (twin require : ℕ) → IsTwin (chain []) (chain (n_to_t ∷ [])) 2 twin → require < 1
    → ¬ SameTarget (chain []) (chain (n_to_t ∷ [])) (target_of (chain []).links 2 require) (target_of (chain (n_to_t ∷ [])).links twin require) → ⊥
s_stays (suc (suc zero)) zero is low differs = differs (record { node = (map_m 1); here = refl; there = refl }, refl)
s_stays (suc (suc zero)) (suc r) is low differs = omega (arith, low)
s_stays zero r is low differs =
    let args : Some 3 ≡ Some 1 = ap (λ (n : Node). n.arg) (same_Some source is.node is.here ∙ sym (same_Some (map_m 1) is.node is.there)) in
    let one : 3 ≡ 1 = same_Some 3 1 args in omega (arith, one)
s_stays (suc zero) r is low differs =
    let args : Some 3 ≡ Some 2 = ap (λ (n : Node). n.arg) (same_Some source is.node is.here ∙ sym (same_Some second_map is.node is.there)) in
    let one : 3 ≡ 2 = same_Some 3 2 args in omega (arith, one)
s_stays (suc (suc (suc zero))) r is low differs =
    let args : Some 3 ≡ None = ap (λ (n : Node). n.arg) (same_Some source is.node is.here ∙ sym (same_Some sink_t is.node is.there)) in absurd (cc args)
s_stays (suc (suc (suc (suc k)))) r is low differs = absurd (cc (is.there))

touched_is : (n : ℕ) → IsTouched (chain []) (chain (n_to_t ∷ [])) n → 1 ≡ n
touched_is n t = ⊎_elim (λ (g : IsGone (chain []) (chain (n_to_t ∷ [])) n). absurd (none_gone n g)) (λ (h : HasNewTarget (chain []) (chain (n_to_t ∷ [])) n). new_target n h) t
  where
    new_target : (n : ℕ) → HasNewTarget (chain []) (chain (n_to_t ∷ [])) n → 1 ≡ n
    new_target zero h = absurd (m_stays h.twin h.require h.stays h.within h.differs)
    new_target (suc zero) h = refl
    new_target (suc (suc zero)) h = absurd (s_stays h.twin h.require h.stays h.within h.differs)
    new_target (suc (suc (suc zero))) h = let low = h.within in absurd (omega (arith, low))
    new_target (suc (suc (suc (suc k)))) h = let low = h.within in absurd (omega (arith, low))

-- the source isn't in the direct set
source_is_not_direct : Direct (chain []) (IsTouched (chain []) (chain (n_to_t ∷ []))) 2 → ⊥
source_is_not_direct d = ⊎_elim
    (λ (t : IsTouched (chain []) (chain (n_to_t ∷ [])) 2). let one : 1 ≡ 2 = touched_is 2 t in omega (arith, one))
    (λ (l : (n : ℕ) × IsTouched (chain []) (chain (n_to_t ∷ [])) n × IsLinkedTo (chain []) 2 n).
    let one : 1 ≡ l.0 = touched_is l.0 l.1 in
    let w = link_if (chain []) 2 l.2.0 l.0 l.2.1 l.2.2 in
    ⊎_elim
    (λ (e : m_to_n ≡ w.link). let from : 0 ≡ 2 = ap (λ (k : Link). k.from) e ∙ w.from in omega (arith, from))
    (λ (e : s_to_m ≡ w.link). let to : 0 ≡ l.0 = ap (λ (k : Link). k.to) e ∙ w.to in omega (arith, one, to))
    (old_cases w.link w.there)) d

-- the ports of the direct set are drained, and no others; slots are the places in the graph here
pub direct_alone : (p : ℕ) → p < length (state_after direct_closed).config.gates → Direct (chain []) (IsTouched (chain []) (chain (n_to_t ∷ []))) (owner (state_after direct_closed).config p) ↔ (is_drained (state_after direct_closed) p ≡ true)
direct_alone zero low = (λ d. refl, λ h. inr (1, touched, (0, 0, refl)))
direct_alone (suc zero) low = (λ d. refl, λ h. inl touched)
direct_alone (suc (suc zero)) low = (λ d. absurd (source_is_not_direct d), λ h. absurd (both_ways false refl h))
direct_alone (suc (suc (suc p))) low = absurd (omega (arith, low))
