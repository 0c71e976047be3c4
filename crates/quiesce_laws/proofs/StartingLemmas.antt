-- A start: what a sound graph says is made, linked and opened, whatever the nodes do that are open already.
use Rattle.std.proofs.Common.{◌≡◌, ℕ, ◌≤◌, Bool, true, false, cond, not, List, [], ◌∷◌, ◌++◌, map, length, Option, Some, None, refl, sym, ap, ◌∙◌, subst}
use Rattle.std.specs.Prelude.{◌&&◌, ◌||◌, filter, filter_map, fold, is_none}
use Rattle.std.specs.List.{enumerate_from, list_all, list_any, range_with_len}
use Rattle.std.proofs.lemmas.Bool.{and_parts, both_ways}
use Rattle.config_graph.specs.Graph.{Graph, ports, target_of}
use Rattle.config_graph.specs.Sound.{Sound}
use Rattle.config_graph.specs.declared.TheConstants.{MAX_NODES, MAX_PORTS}
use Rattle.config_graph.specs.declared.node.Port.{Port}
use Rattle.config_graph.specs.declared.node.Target.{Target}
use Rattle.quiesce_core.specs.declared.event.Event.{Event}
use Rattle.quiesce_core.specs.declared.event.Event.TheVariants.{Begin, Call, Take, Give, End, More, Ask, Hear, Miss, Close, Reopen, Make, Link, Unlink, Remove}
use Rattle.quiesce_core.specs.Doers.{is_of_change}
use Rattle.quiesce_core.specs.Effect.{effect}
use Rattle.quiesce_core.specs.Legal.{Legal}
use Rattle.quiesce_core.specs.Live.{IsGraphOf}
use Rattle.quiesce_core.specs.Rules.{denial, is_quiet, is_settled}
use Rattle.quiesce_core.specs.Reach.{reaches}
use Rattle.quiesce_core.specs.Runs.{IsRun, Steps, state_after}
use Rattle.quiesce_core.specs.Start.{started}
use Rattle.quiesce_core.specs.State.{State, empty, is_live, owner, ports_of, service}
use Rattle.quiesce_core.proofs.GraphLaws.{graph_started}
use Rattle.quiesce_core.proofs.LegalLaws.{legal}
use Rattle.quiesce_core.proofs.RunLaws.{StepAt, effect_config}
use Rattle.quiesce_core.proofs.StepsLaws.{end_is, run_is_steps}
use Rattle.quiesce_laws.specs.Events.{reopens}
use Rattle.quiesce_laws.specs.Starts.{link_of, make_of, reopen_of, start_of}
use Rattle.quiesce_laws.proofs.StartLaws.{start_path}
use Rattle.base.specs.Each.{EachAfter}
use Rattle.quiesce_laws.specs.Steps.{IsNoted, MayStep, MayStepAll, change_all}
use Rattle.quiesce_laws.proofs.CarryingLaws.{allowed_in_order, append_closed, map_closed}
use Rattle.quiesce_laws.proofs.MeanwhileLaws.{now_is}

-- Steps of a run that the change does are such as it may do by the configuration, where all ports are noted.

abbrev all_noted : ℕ → Bool
all_noted q = true

settled_noted : (s : State) (n : ℕ) → is_settled s n ≡ true → IsNoted all_noted s.config n
settled_noted s n h =
    let own = list_all (λ p. is_quiet s p) (ports_of s.config n) in
    let reaching = list_all (λ p. is_quiet s p || not (reaches s.config n p)) (range_with_len 0 (length s.config.gates)) in
    let all_but_last = and_parts (is_live s.config n && own && is_none (service s n)) reaching h in
    let first_two = and_parts (is_live s.config n && own) (is_none (service s n)) all_but_last.0 in
    record { live = (and_parts (is_live s.config n) own first_two.0).0; own = λ q o. refl; reaching = λ q r. refl }

may_if_legal : (s : State) (e : Event) → is_of_change e ≡ true → Legal s e → MayStep all_noted s.config e
may_if_legal s (Begin p k v) h l = absurd (both_ways false refl h)
may_if_legal s (Call p k v) h l = absurd (both_ways false refl h)
may_if_legal s (Miss p) h l = absurd (both_ways false refl h)
may_if_legal s (Take p k v) h l = absurd (both_ways false refl h)
may_if_legal s (Give p k v) h l = absurd (both_ways false refl h)
may_if_legal s (More p k v) h l = absurd (both_ways false refl h)
may_if_legal s (Ask p k v) h l = absurd (both_ways false refl h)
may_if_legal s (Hear p k v) h l = absurd (both_ways false refl h)
may_if_legal s (End p k v) h l = absurd (both_ways false refl h)
may_if_legal s (Close p) h l = l.live
may_if_legal s (Reopen p) h l = l.live
may_if_legal s (Make n node from) h l = l
may_if_legal s (Link p n x) h l = record { live = l.live; unlinked = l.unlinked; provision = l.provision; settled = settled_noted s (owner s.config p) l.settled; no_cycle = l.no_cycle }
may_if_legal s (Unlink p) h l = record { live = l.live; linked = l.linked; settled = settled_noted s (owner s.config p) l.settled }
may_if_legal s (Remove n) h l = record { settled = settled_noted s n l.settled; apart = l.apart }

after_one : (before : List Event) (e : Event) → fold effect empty (before ++ e ∷ []) ≡ effect (state_after before) e
after_one before e = from before empty
  where
    from : (es : List Event) (s : State) → fold effect s (es ++ e ∷ []) ≡ effect (fold effect s es) e
    from [] s = refl
    from (d ∷ es) s = from es (effect s d)

may_from : (before es : List Event) → EachAfter StepAt before es → list_all is_of_change es ≡ true → MayStepAll all_noted (state_after before).config es
may_from before [] h all = tt
may_from before (e ∷ es) h all =
    let parts = and_parts (is_of_change e) (list_all is_of_change es) all in
    let s = state_after before in (
      may_if_legal s e parts.0 (legal s e h.0.allowed),
      subst (λ c. MayStepAll all_noted c es) (ap (λ (t : State). t.config) (after_one before e) ∙ effect_config s e) (may_from (before ++ e ∷ []) es h.1 parts.1),
    )

-- all of a start is the change's

all_mapped : {A : Type 0} (f : A → Event) → ((x : A) → is_of_change (f x) ≡ true) → (xs : List A) → list_all is_of_change (map f xs) ≡ true
all_mapped f h [] = refl
all_mapped f h (x ∷ xs) = ap (λ b. b && list_all is_of_change (map f xs)) (h x) ∙ all_mapped f h xs

all_both : (es fs : List Event) → list_all is_of_change es ≡ true → list_all is_of_change fs ≡ true → list_all is_of_change (es ++ fs) ≡ true
all_both [] fs h k = k
all_both (e ∷ es) fs h k =
    let parts = and_parts (is_of_change e) (list_all is_of_change es) h in
    ap (λ b. b && list_all is_of_change (es ++ fs)) parts.0 ∙ all_both es fs parts.1 k

filter_all : (es : List Event) → list_all is_of_change es ≡ true → filter is_of_change es ≡ es
filter_all [] h = refl
filter_all (e ∷ es) h =
    let parts = and_parts (is_of_change e) (list_all is_of_change es) h in
    ap (λ b. cond b (e ∷ filter is_of_change es) (filter is_of_change es)) parts.0 ∙ ap (λ xs. e ∷ xs) (filter_all es parts.1)

-- the links of a graph's ports
links_are : (g : Graph) (ps : List (ℕ × Port)) → (list_all is_of_change (filter_map (link_of g) ps) ≡ true) × ((p : ℕ) → list_any (reopens p) (filter_map (link_of g) ps) ≡ false)
links_are g [] = (refl, λ p. refl)
links_are g (q ∷ ps) = by (target_of g.links q.1.node q.1.require) refl (links_are g ps)
  where
    by : (o : Option Target) → target_of g.links q.1.node q.1.require ≡ o
        → (list_all is_of_change (filter_map (link_of g) ps) ≡ true) × ((p : ℕ) → list_any (reopens p) (filter_map (link_of g) ps) ≡ false)
        → (list_all is_of_change (filter_map (link_of g) (q ∷ ps)) ≡ true) × ((p : ℕ) → list_any (reopens p) (filter_map (link_of g) (q ∷ ps)) ≡ false)
    by None e = rw e (λ rest. rest)
    by (Some t) e = rw e (λ rest. rest)

module _ (g : Graph) (sound : Sound g) (few_nodes : length g.nodes ≤ MAX_NODES) (few_ports : length (ports g.nodes) ≤ MAX_PORTS) where
  start_runs : IsRun (start_of g)
  start_runs =
      let path = start_path g sound few_nodes few_ports in
      (run_is_steps (start_of g)).1 (subst (λ s. Steps empty (start_of g) s) (end_is empty (started g) (start_of g) path) path)

  start_ends : state_after (start_of g) ≡ started g
  start_ends = sym (end_is empty (started g) (start_of g) (start_path g sound few_nodes few_ports))

  is_all : list_all is_of_change (start_of g) ≡ true
  is_all = all_both (map make_of (enumerate_from 0 g.nodes) ++ filter_map (link_of g) (enumerate_from 0 (ports g.nodes))) (map reopen_of (enumerate_from 0 (ports g.nodes)))
      (all_both (map make_of (enumerate_from 0 g.nodes)) (filter_map (link_of g) (enumerate_from 0 (ports g.nodes)))
      (all_mapped make_of (λ x. refl) (enumerate_from 0 g.nodes)) (links_are g (enumerate_from 0 (ports g.nodes))).0)
      (all_mapped reopen_of (λ x. refl) (enumerate_from 0 (ports g.nodes)))

  -- nothing is made yet, so each port is closed and idle
  pub start_allowed : (more_ left : List Event) (e : Event) → IsRun more_ → filter is_of_change more_ ++ e ∷ left ≡ start_of g → denial (state_after more_) e ≡ None
  start_allowed more_ left e run is =
      allowed_in_order reopen_of (λ (q : ℕ × Port). (q.0, refl)) all_noted [] (λ p h. refl)
      (map make_of (enumerate_from 0 g.nodes) ++ filter_map (link_of g) (enumerate_from 0 (ports g.nodes))) (enumerate_from 0 (ports g.nodes))
      (λ p. append_closed p (map make_of (enumerate_from 0 g.nodes)) (filter_map (link_of g) (enumerate_from 0 (ports g.nodes))) (map_closed p make_of (λ x. refl) (enumerate_from 0 g.nodes)) ((links_are g (enumerate_from 0 (ports g.nodes))).1 p))
      (may_from [] (start_of g) start_runs is_all) more_ left e run is

  pub start_graph : (more_ : List Event) → filter is_of_change more_ ≡ start_of g → IsGraphOf (state_after more_).config g
  start_graph more_ is =
      let there : (state_after more_).config ≡ (started g).config =
      now_is [] more_ ∙ ap (change_all empty.config) (is ∙ sym (filter_all (start_of g) is_all)) ∙ sym (now_is [] (start_of g)) ∙ ap (λ (s : State). s.config) start_ends in
      subst (λ c. IsGraphOf c g) (sym there) (graph_started g sound few_nodes few_ports)
