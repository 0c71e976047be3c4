-- What the change does in a run is a run by itself: without the nodes' events nothing is under way, and so nothing stands against it.
use Rattle.std.proofs.Common.{◌≡◌, ◌∙◌, ℕ, true, false, cond, not, ◌&&◌, ◌||◌, List, [], ◌∷◌, ◌++◌, length, None, refl, sym, ap, subst, ⊎_elim}
use Rattle.std.specs.Prelude.{filter, is_none}
use Rattle.std.specs.List.{list_all, range_with_len}
use Rattle.std.proofs.lemmas.Bool.{and_from, and_parts, both_ways, cases_Bool, or_cases, or_left, or_right}
use Rattle.std.proofs.lemmas.List.{append-nil}
use Rattle.std.proofs.lemmas.List.Elements.{filter-append}
use Rattle.base.proofs.PlaceLaws.{fresh_behind}
use Rattle.base.proofs.ListLaws.{list_all-weaker}
use Rattle.config_graph.specs.Kinds.{row}
use Rattle.quiesce_word.specs.Phases.{is_idle}
use Rattle.quiesce_core.specs.declared.event.Event.{Event}
use Rattle.quiesce_core.specs.declared.event.Event.TheVariants.{Close, Reopen, Make, Link, Unlink, Remove}
use Rattle.quiesce_core.specs.declared.state.Exchange.{Exchange}
use Rattle.quiesce_core.specs.Doers.{is_of_change}
use Rattle.quiesce_core.specs.Effect.{change_next, effect}
use Rattle.quiesce_core.specs.Legal.{Legal}
use Rattle.quiesce_core.specs.Reach.{reaches}
use Rattle.quiesce_core.specs.Rules.{is_quiet, is_settled}
use Rattle.quiesce_core.specs.Runs.{IsRun, state_after}
use Rattle.quiesce_core.specs.State.{Configuration, State, Traffic, exchange, fresh_exchange, gate, is_live, owner, ports_of, service}
use Rattle.quiesce_core.proofs.InductionLaws.{IsNext, always}
use Rattle.quiesce_core.proofs.LegalLaws.{allowed}
use Rattle.quiesce_core.proofs.RunLaws.{effect_config, node_events_keep_the_configuration, runs_grow, state_more}

-- nothing is under way at a port, and no node is in a service
pub record IsStill (s : State) : Type 0 where
  pub idle : (p : ℕ) → is_idle (exchange s p).phase ≡ true
  pub free : (n : ℕ) → service s n ≡ None

still_next : (s : State) (e : Event) → is_of_change e ≡ true → IsStill s → IsStill (effect s e)
still_next s (Close p) change h = record { idle = h.idle; free = h.free }
still_next s (Reopen p) change h = record { idle = h.idle; free = h.free }
still_next s (Make n node from) change h = record {
  idle = λ p. ap (λ (x : Exchange). is_idle x.phase) (fresh_behind s.traffic.exchanges fresh_exchange (length (row node.kind).requires_) p) ∙ h.idle p;
  free = λ k. fresh_behind s.traffic.services None 1 k ∙ h.free k;
}
still_next s (Link p n x) change h = record { idle = h.idle; free = h.free }
still_next s (Unlink p) change h = record { idle = h.idle; free = h.free }
still_next s (Remove n) change h = record { idle = h.idle; free = h.free }
still_next s _ change h = absurd (both_ways false refl change)

-- what the change may do while nodes work it may do where nothing is under way
module _ (c : Configuration) (t u : Traffic) (still : IsStill (record { config = c; traffic = u })) where
  quiet : (p : ℕ) → is_quiet (record { config = c; traffic = t }) p ≡ true → is_quiet (record { config = c; traffic = u }) p ≡ true
  quiet p h =
      and_from (gate c p).closed (is_idle (exchange (record { config = c; traffic = u }) p).phase)
      (and_parts (gate c p).closed (is_idle (exchange (record { config = c; traffic = t }) p).phase) h).0 (still.idle p)

  settled : (n : ℕ) → is_settled (record { config = c; traffic = t }) n ≡ true → is_settled (record { config = c; traffic = u }) n ≡ true
  settled n h =
      let s : State = record { config = c; traffic = t } in
      let v : State = record { config = c; traffic = u } in
      let own = list_all (λ p. is_quiet s p) (ports_of c n) in
      let own_now = list_all (λ p. is_quiet v p) (ports_of c n) in
      let reaching = list_all (λ p. is_quiet s p || not (reaches c n p)) (range_with_len 0 (length c.gates)) in
      let reaching_now = list_all (λ p. is_quiet v p || not (reaches c n p)) (range_with_len 0 (length c.gates)) in
      let all = and_parts (is_live c n && own && is_none (service s n)) reaching h in
      let first = and_parts (is_live c n && own) (is_none (service s n)) all.0 in
      let two = and_parts (is_live c n) own first.0 in
      and_from (is_live c n && own_now && is_none (service v n)) reaching_now
      (and_from (is_live c n && own_now) (is_none (service v n))
      (and_from (is_live c n) own_now two.0 (list_all-weaker (λ p. is_quiet s p) (λ p. is_quiet v p) quiet (ports_of c n) two.1))
      (ap is_none (still.free n)))
      (list_all-weaker (λ p. is_quiet s p || not (reaches c n p)) (λ p. is_quiet v p || not (reaches c n p))
      (λ p either. ⊎_elim
      (λ (own_port : is_quiet s p ≡ true). or_left (is_quiet v p) (not (reaches c n p)) (quiet p own_port))
      (λ (apart : not (reaches c n p) ≡ true). or_right (is_quiet v p) (not (reaches c n p)) apart)
      (or_cases (is_quiet s p) (not (reaches c n p)) either))
      (range_with_len 0 (length c.gates)) all.1)

  pub legal_alone : (e : Event) → is_of_change e ≡ true → Legal (record { config = c; traffic = t }) e → Legal (record { config = c; traffic = u }) e
  legal_alone (Close p) change l = l
  legal_alone (Reopen p) change l = l
  legal_alone (Make n node from) change l = l
  legal_alone (Link p n x) change l = record { live = l.live; unlinked = l.unlinked; provision = l.provision; settled = settled (owner c p) l.settled; no_cycle = l.no_cycle }
  legal_alone (Unlink p) change l = record { live = l.live; linked = l.linked; settled = settled (owner c p) l.settled }
  legal_alone (Remove n) change l = record { live = l.live; settled = settled n l.settled; apart = l.apart }
  legal_alone _ change l = absurd (both_ways false refl change)

-- these events of the change are a run, after which nothing is under way and the configuration is that after the whole run
pub record IsAlone (es ys : List Event) : Type 0 where
  pub run : IsRun ys
  pub still : IsStill (state_after ys)
  pub config : (state_after ys).config ≡ (state_after es).config

alone_next : (before : List Event) (e : Event) → IsNext before e → IsAlone before (filter is_of_change before) → IsAlone (before ++ e ∷ []) (filter is_of_change (before ++ e ∷ []))
alone_next before e here h = ⊎_elim
    (λ (change : is_of_change e ≡ true). subst (IsAlone (before ++ e ∷ [])) (sym (parts ∙ ap (λ b. ys ++ cond b (e ∷ []) []) change)) (by_change change))
    (λ (node : is_of_change e ≡ false). subst (IsAlone (before ++ e ∷ [])) (sym (parts ∙ ap (λ b. ys ++ cond b (e ∷ []) []) node ∙ append-nil ys)) (by_node node))
    (cases_Bool (is_of_change e))
  where
    ys : List Event
    ys = filter is_of_change before

    parts : filter is_of_change (before ++ e ∷ []) ≡ filter is_of_change before ++ cond (is_of_change e) (e ∷ []) []
    parts = filter-append is_of_change before (e ∷ [])

    by_change : is_of_change e ≡ true → IsAlone (before ++ e ∷ []) (filter is_of_change before ++ e ∷ [])
    by_change change =
        let s = state_after before in
        let v = state_after (filter is_of_change before) in
        let may : Legal (record { config = s.config; traffic = v.traffic }) e =
        legal_alone s.config s.traffic v.traffic (record { idle = h.still.idle; free = h.still.free }) e change here.legal in
        let may_alone : Legal v e = subst (λ c. Legal (record { config = c; traffic = v.traffic }) e) (sym h.config) may in
        record {
          run = (runs_grow (filter is_of_change before) e).1 (h.run, allowed v e may_alone);
          still = subst IsStill (sym (state_more (filter is_of_change before) e)) (still_next v e change h.still);
          config = ap (λ (x : State). x.config) (state_more (filter is_of_change before) e) ∙ effect_config v e ∙ ap (λ c. change_next c e) h.config ∙ sym (effect_config s e)
              ∙ sym (ap (λ (x : State). x.config) (state_more before e));
        }

    by_node : is_of_change e ≡ false → IsAlone (before ++ e ∷ []) (filter is_of_change before)
    by_node node = record {
      run = h.run;
      still = h.still;
      config = h.config ∙ sym (node_events_keep_the_configuration (state_after before) e node) ∙ sym (ap (λ (x : State). x.config) (state_more before e));
    }

pub alone : (es : List Event) → IsRun es → IsAlone es (filter is_of_change es)
alone es run = always (λ xs. IsAlone xs (filter is_of_change xs)) alone_next (record { run = tt; still = record { idle = λ p. refl; free = λ n. refl }; config = refl }) es run

pub changes_run : (es : List Event) → IsRun es → IsRun (filter is_of_change es)
changes_run es run = (alone es run).run
