-- A start on a board for which nothing is recorded.
use Rattle.std.proofs.Common.{◌≡◌, ℕ, Bool, true, false, cond, List, [], ◌∷◌, ◌++◌, append_assoc, map, Option, Some, None, refl, ap, ◌∙◌, subst}
use Rattle.std.specs.Prelude.{◌||◌, filter, filter_map, option_map}
use Rattle.std.specs.List.{cons_option, enumerate_from, list_all, list_any}
use Rattle.std.proofs.lemmas.Bool.{and_parts, both_ways, or_parts}
use Rattle.std.proofs.lemmas.List.Elements.{filter-append}
use Rattle.std.proofs.lemmas.List.Folds.{list_any-append}
use Rattle.config_graph.specs.Graph.{Graph, ports, target_of}
use Rattle.config_graph.specs.declared.node.Port.{Port}
use Rattle.config_graph.specs.declared.node.Target.{Target}
use Rattle.quiesce_laws.specs.Steps.{IsNoted, MayStep, MayStepAll}
use Rattle.quiesce_core.specs.declared.event.Event.{Event}
use Rattle.quiesce_core.specs.declared.event.Event.TheVariants.{Begin, Call, Take, Give, End, More, Ask, Hear, Miss, Close, Reopen, Make, Link, Unlink, Remove}
use Rattle.quiesce_core.specs.Doers.{is_of_change}
use Rattle.quiesce_core.specs.Legal.{Legal}
use Rattle.quiesce_core.specs.Rules.{denial, is_settled}
use Rattle.quiesce_core.specs.Runs.{IsRun, state_after}
use Rattle.quiesce_core.specs.State.{State, owner}
use Rattle.quiesce_core.proofs.LegalLaws.{legal}
use Rattle.quiesce_core.proofs.RunLaws.{effect_config, runs_are_well_formed, runs_grow, state_more}
use Rattle.quiesce_core.proofs.SettledLaws.{settled_if}
use Rattle.quiesce_laws.specs.Starts.{link_of, make_of, reopen_of, start_of}
use Rattle.change_board.specs.Steps.{MayDoAll, gates_come_last, is_turning}
use Rattle.change_board.proofs.StepLaws.{may_do_all}
use Rattle.change_engine.proofs.ItemLaws.{all_mapped, start_is_of_change}

abbrev noted : ℕ → Bool
noted q = true

-- what the rules allow the change it may do by the configuration, where all ports are noted
settled_noted : (es : List Event) → IsRun es → (n : ℕ) → is_settled (state_after es) n ≡ true → IsNoted noted (state_after es).config n
settled_noted es run n h = record { live = (settled_if (state_after es) (runs_are_well_formed es run).sound n h).live; own = λ q o. refl; reaching = λ q r. refl }

may_if_legal : (es : List Event) → IsRun es → (e : Event) → is_of_change e ≡ true → Legal (state_after es) e → MayStep noted (state_after es).config e
may_if_legal es run (Begin p k v) h l = absurd (both_ways false refl h)
may_if_legal es run (Call p k v) h l = absurd (both_ways false refl h)
may_if_legal es run (Miss p) h l = absurd (both_ways false refl h)
may_if_legal es run (Take p k v) h l = absurd (both_ways false refl h)
may_if_legal es run (Give p k v) h l = absurd (both_ways false refl h)
may_if_legal es run (More p k v) h l = absurd (both_ways false refl h)
may_if_legal es run (Ask p k v) h l = absurd (both_ways false refl h)
may_if_legal es run (Hear p k v) h l = absurd (both_ways false refl h)
may_if_legal es run (End p k v) h l = absurd (both_ways false refl h)
may_if_legal es run (Close p) h l = l.live
may_if_legal es run (Reopen p) h l = l.live
may_if_legal es run (Make n node from) h l = l
may_if_legal es run (Link p n x) h l = record { live = l.live; unlinked = l.unlinked; provision = l.provision; settled = settled_noted es run (owner (state_after es).config p) l.settled; no_cycle = l.no_cycle }
may_if_legal es run (Unlink p) h l = record { live = l.live; linked = l.linked; settled = settled_noted es run (owner (state_after es).config p) l.settled }
may_if_legal es run (Remove n) h l = record { settled = settled_noted es run n l.settled; apart = l.apart }

module _ (start : List Event) (allowed : (more_ left : List Event) (e : Event) → IsRun more_ → filter is_of_change more_ ++ e ∷ left ≡ start → denial (state_after more_) e ≡ None) where
  steps_from : (done left : List Event) → done ++ left ≡ start → IsRun done → filter is_of_change done ≡ done → list_all is_of_change left ≡ true → MayStepAll noted (state_after done).config left
  steps_from done [] is run own all = tt
  steps_from done (e ∷ left) is run own all =
      let parts = and_parts (is_of_change e) (list_all is_of_change left) all in
      let ok : denial (state_after done) e ≡ None = allowed done left e run (ap (λ d. d ++ e ∷ left) own ∙ is) in
      let more_own : filter is_of_change (done ++ e ∷ []) ≡ done ++ e ∷ [] =
      filter-append is_of_change done (e ∷ []) ∙ ap (λ d. d ++ filter is_of_change (e ∷ [])) own ∙ ap (λ b. done ++ cond b (e ∷ []) []) parts.0 in (
        may_if_legal done run e parts.0 (legal (state_after done) e ok),
        subst (λ c. MayStepAll noted c left) (ap (λ (s : State). s.config) (state_more done e) ∙ effect_config (state_after done) e)
            (steps_from (done ++ e ∷ []) left (append_assoc done (e ∷ []) left ∙ is) ((runs_grow done e).1 (run, ok)) more_own parts.1),
      )

-- gates are turned last
pub none_mapped : {A : Type 0} (f : A → Event) → ((x : A) → is_turning (f x) ≡ false) → (xs : List A) → list_any is_turning (map f xs) ≡ false
none_mapped f h [] = refl
none_mapped f h (x ∷ xs) = ap (λ b. b || list_any is_turning (map f xs)) (h x) ∙ none_mapped f h xs

links_turn_none : (g : Graph) (ps : List (ℕ × Port)) → list_any is_turning (filter_map (link_of g) ps) ≡ false
links_turn_none g [] = refl
links_turn_none g (q ∷ ps) = by (target_of g.links q.1.node q.1.require) (links_turn_none g ps)
  where
    by : (o : Option Target) → list_any is_turning (filter_map (link_of g) ps) ≡ false
        → list_any is_turning (cons_option (option_map (λ (t : Target). Link q.0 t.node t.provide) o) (filter_map (link_of g) ps)) ≡ false
    by None rest = rest
    by (Some t) rest = rest

all_turning : (ys : List Event) → list_all is_turning ys ≡ true → gates_come_last ys ≡ true
all_turning [] h = refl
all_turning (y ∷ ys) h =
    let parts = and_parts (is_turning y) (list_all is_turning ys) h in
    ap (λ b. cond b (list_all is_turning ys) (gates_come_last ys)) parts.0 ∙ parts.1

pub turned_last : (xs ys : List Event) → list_any is_turning xs ≡ false → list_all is_turning ys ≡ true → gates_come_last (xs ++ ys) ≡ true
turned_last [] ys h k = all_turning ys k
turned_last (x ∷ xs) ys h k =
    let parts = or_parts (is_turning x) (list_any is_turning xs) h in
    ap (λ b. cond b (list_all is_turning (xs ++ ys)) (gates_come_last (xs ++ ys))) parts.0 ∙ turned_last xs ys parts.1 k

pub may_start : (g : Graph) → ((more_ left : List Event) (e : Event) → IsRun more_ → filter is_of_change more_ ++ e ∷ left ≡ start_of g → denial (state_after more_) e ≡ None) → MayDoAll [] (start_of g)
may_start g allowed =
    let makes = map make_of (enumerate_from 0 g.nodes) in
    let links = filter_map (link_of g) (enumerate_from 0 (ports g.nodes)) in
    let opens = map reopen_of (enumerate_from 0 (ports g.nodes)) in
    let last_ : gates_come_last (start_of g) ≡ true =
    turned_last (makes ++ links) opens
    (list_any-append is_turning makes links ∙ ap (λ b. b || list_any is_turning links) (none_mapped make_of (λ x. refl) (enumerate_from 0 g.nodes))
    ∙ links_turn_none g (enumerate_from 0 (ports g.nodes)))
    (all_mapped is_turning reopen_of (λ x. refl) (enumerate_from 0 (ports g.nodes))) in
    may_do_all noted [] (start_of g) last_ (λ p n. refl) (steps_from (start_of g) allowed [] (start_of g) refl tt refl (start_is_of_change g))
