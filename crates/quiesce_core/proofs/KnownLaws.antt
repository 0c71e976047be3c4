-- What a node knows by the indexes of its requirements: it is told by its own events, each step moves it as the fold does and leaves
-- what others know, and rules of its own events can be judged by it.
use Rattle.std.proofs.Common.{◌≡◌, ◌∙◌, ℕ, zero, suc, ◌+◌, ◌-◌, ◌<◌, ◌≤◌, Bool, true, false, cond, not, ◌&&◌, List, [], ◌∷◌, ◌++◌, length, Option, Some, None, refl, ap, sym, subst, ⊎_elim, arith}
use Rattle.std.specs.Prelude.{◌↔◌, ◌==◌, nat_lt, nat_le, fold, is_some, slice_get}
use Rattle.std.specs.List.{list_all}
use Rattle.std.specs.Option.{option_map_or}
use Rattle.std.proofs.lemmas.Bool.{and_parts, both_ways, cases_Bool, eq-eqb, eqb-true, not_from_false, not-true, false_from_ne_true}
use Rattle.std.proofs.lemmas.List.{get_or_past}
use Rattle.std.proofs.lemmas.List.Sums.{fold_push}
use Rattle.std.proofs.lemmas.Option.{same_Some}
use Rattle.config_graph.specs.Kinds.{row, calls_of, depends_on, mores_of}
use Rattle.config_graph.specs.declared.node.Target.{Target}
use Rattle.quiesce_core.specs.declared.event.Event.{Event}
use Rattle.quiesce_core.specs.declared.event.Event.TheVariants.{Begin, Call, End, Ask, Make}
use Rattle.quiesce_core.specs.declared.known.Known.{Known}
use Rattle.quiesce_core.specs.declared.known.PortKnown.{PortKnown}
use Rattle.quiesce_core.specs.declared.known.Served.{Served}
use Rattle.quiesce_core.specs.declared.state.Exchange.{Exchange}
use Rattle.quiesce_core.specs.declared.state.Service.{Service}
use Rattle.quiesce_core.specs.declared.state.Slot.{Slot}
use Rattle.quiesce_core.specs.State.{State, calls_allowed, depends, fresh_exchange, gate, mores_allowed, slot, owner, ports_of, provision, target, target_service, exchange, service}
use Rattle.quiesce_word.specs.Phases.{is_answered, is_idle, is_in_more}
use Rattle.quiesce_core.specs.Rules.{calls_have_ended, has_calls_left, has_mores_left, is_called_within, is_taken, serves_through, was_heard}
use Rattle.config_graph.specs.declared.TheConstants.{MAX_NODES, MAX_PORTS}
use Rattle.config_graph.specs.declared.node.Node.{Node}
use Rattle.config_graph.proofs.KindLaws.{one_provision, two_requires}
use Rattle.quiesce_core.specs.Doers.{is_ask_at, is_end_at}
use Rattle.quiesce_core.specs.Effect.{effect}
use Rattle.quiesce_core.specs.Legal.{Legal}
use Rattle.quiesce_core.specs.Reach.{IsPortOf}
use Rattle.quiesce_core.specs.Runs.{IsRun, done_by, is_doer, state_after}
use Rattle.quiesce_core.specs.Traffic.{IsConsistent}
use Rattle.quiesce_core.specs.WellFormed.{IsWellFormed}
use Rattle.quiesce_core.specs.Knowledge.{IsKnown, IsPortKnown, IsServed, KnowsService, OwnPort, StandsThere, known_after, known_next, own_port, own_port_after, own_port_next, port_known_next, ports_known_next, served_after, served_next, nothing_known, port_at_start}
use Rattle.quiesce_core.proofs.ConfigurationLaws.{slot_was}
use Rattle.quiesce_core.proofs.AlterLaws.{reconfigured}
use Rattle.quiesce_core.proofs.KnowledgeLemmas.{port_other, port_step, service_next}
use Rattle.quiesce_core.proofs.ReachLaws.{owner_of}
use Rattle.quiesce_core.proofs.RunLaws.{nodes_know}
use Rattle.quiesce_core.proofs.CycleLaws.{all_of, of_all}
use Rattle.quiesce_core.proofs.StateLaws.{is_taken_if, provision_is, target_service_is}
use Rattle.quiesce_core.proofs.StabilityLaws.{answers_stay, replies_stay}
use Rattle.base.proofs.OptionLaws.{None-from_is_some, map_or_at}
use Rattle.base.proofs.PlaceLaws.{fresh_behind, slice_get-there}

-- what the fold has of a port, but for what was seen there
abbrev pub as_own_port : PortKnown → OwnPort
as_own_port k = record { idle = k.idle; serial = k.serial; consequent = k.consequent }

own_next : (p : ℕ) (k : PortKnown) (e : Event) → as_own_port (port_known_next p k e) ≡ own_port_next p (as_own_port k) e
own_next p k (Begin q j v) = ⊎_elim (λ (h : (q == p) ≡ true). rw h refl) (λ (h : (q == p) ≡ false). rw h refl) (cases_Bool (q == p))
own_next p k (Call q j v) = ⊎_elim (λ (h : (q == p) ≡ true). rw h refl) (λ (h : (q == p) ≡ false). rw h refl) (cases_Bool (q == p))
own_next p k (End q j v) = ⊎_elim (λ (h : (q == p) ≡ true). rw h refl) (λ (h : (q == p) ≡ false). rw h refl) (cases_Bool (q == p))
own_next p k (Ask q j v) = ⊎_elim (λ (h : (q == p) ≡ true). rw h refl) (λ (h : (q == p) ≡ false). rw h refl) (cases_Bool (q == p))
own_next p k _ = refl

-- ports in a row
next_at : (p : ℕ) (ws : List PortKnown) (e : Event) (r : ℕ) (k : PortKnown) → slice_get (ports_known_next p ws e) r ≡ Some k
    → (old : PortKnown) × (slice_get ws r ≡ Some old) × (k ≡ port_known_next (p + r) old e)
next_at p [] e r k at = absurd (cc)
next_at p (w ∷ ws) e zero k at = (w, refl, sym (same_Some _ k at) ∙ ap (λ i. port_known_next i w e) (omega arith))
next_at p (w ∷ ws) e (suc r) k at =
    let rest = next_at (p + 1) ws e r k at in (rest.0, rest.1, rest.2 ∙ ap (λ i. port_known_next i rest.0 e) (omega arith))

pub same_ports : (p : ℕ) (ws : List PortKnown) (e : Event) → length (ports_known_next p ws e) ≡ length ws
same_ports p [] e = refl
same_ports p (x ∷ xs) e = ap suc (same_ports (p + 1) xs e)

-- ---- the state form

-- what was seen stays until it is replied to
seen_stays : (s : State) (e : Event) → IsWellFormed s → IsConsistent s → Legal s e → (p v : ℕ) (more_ : Bool) → is_ask_at p e ≡ false → is_end_at p e ≡ false → StandsThere s p more_ v
    → StandsThere (effect s e) p more_ v
seen_stays s e w c l p v true no_ask no_end h =
    let same = replies_stay s e w c l p h.in_more no_ask in
    record { value = ap (λ (x : Exchange). x.value) same ∙ h.value; answered = ap (λ (x : Exchange). is_answered x.phase) same ∙ h.answered; in_more = ap (λ (x : Exchange). is_in_more x.phase) same ∙ h.in_more }
seen_stays s e w c l p v false no_ask no_end h =
    let same = answers_stay s e w c l p h.answered no_end in
    record { value = ap (λ (x : Exchange). x.value) same ∙ h.value; answered = ap (λ (x : Exchange). is_answered x.phase) same ∙ h.answered; in_more = ap (λ (x : Exchange). is_in_more x.phase) same ∙ h.in_more }

-- what the fold still has as seen was so before, and isn't replied to by the event
record Unreplied (p : ℕ) (k : PortKnown) (e : Event) : Type 0 where
  seen : (port_known_next p k e).seen ≡ k.seen
  more_ : (port_known_next p k e).more ≡ k.more
  no_ask : is_ask_at p e ≡ false
  no_end : is_end_at p e ≡ false

forgotten : (b : Bool) (x k : PortKnown) (v : ℕ) → x.seen ≡ None → (cond b x k).seen ≡ Some v → b ≡ false
forgotten true x k v none_ h = absurd (cc (none_, h))
forgotten false x k v none_ h = refl

unreplied : (p : ℕ) (k : PortKnown) (e : Event) (v : ℕ) → (port_known_next p k e).seen ≡ Some v → Unreplied p k e
unreplied p k (Begin q j u) v h = let other = forgotten (q == p) _ k v refl h in record { seen = rw other refl; more_ = rw other refl; no_ask = refl; no_end = refl }
unreplied p k (Call q j u) v h = let other = forgotten (q == p) _ k v refl h in record { seen = rw other refl; more_ = rw other refl; no_ask = refl; no_end = refl }
unreplied p k (Ask q j u) v h = let other = forgotten (q == p) _ k v refl h in record { seen = rw other refl; more_ = rw other refl; no_ask = other; no_end = refl }
unreplied p k (End q j u) v h = let other = forgotten (q == p) _ k v refl h in record { seen = rw other refl; more_ = rw other refl; no_ask = refl; no_end = other }
unreplied p k _ v h = record { seen = refl; more_ = refl; no_ask = refl; no_end = refl }

-- an Ask or an End at a port is done by the port's owner
reply_mine : (s : State) (e : Event) (n p : ℕ) → owner s.config p ≡ n → is_doer s n e ≡ false → (is_ask_at p e ≡ false) × (is_end_at p e ≡ false)
reply_mine s (Ask q j u) n p owned other =
    (false_from_ne_true (q == p) (λ h. both_ways (owner s.config q == n) other (eq-eqb (owner s.config q) n (ap (λ i. owner s.config i) (eqb-true q p h) ∙ owned))), refl)
reply_mine s (End q j u) n p owned other =
    (refl, false_from_ne_true (q == p) (λ h. both_ways (owner s.config q == n) other (eq-eqb (owner s.config q) n (ap (λ i. owner s.config i) (eqb-true q p h) ∙ owned))))
reply_mine s _ n p owned other = (refl, refl)

-- what is known of a port as one equation
as_one : (s : State) (p : ℕ) (k : PortKnown) → IsPortKnown s p k → as_own_port k ≡ own_port s p
as_one s p k h =
    ap (λ b. record { idle = b; serial = k.serial; consequent = k.consequent }) h.idle
    ∙ ap (λ i. record { idle = is_idle (exchange s p).phase; serial = i; consequent = k.consequent }) h.serial
    ∙ ap (λ b. record { idle = is_idle (exchange s p).phase; serial = (exchange s p).serial; consequent = b }) h.consequent

port_known : (s : State) (p : ℕ) (k : PortKnown) → as_own_port k ≡ own_port s p → ((v : ℕ) → k.seen ≡ Some v → StandsThere s p k.more v) → IsPortKnown s p k
port_known s p k same seen = record {
  idle = ap (λ (o : OwnPort). o.idle) same;
  serial = ap (λ (o : OwnPort). o.serial) same;
  consequent = ap (λ (o : OwnPort). o.consequent) same;
  seen = seen;
}

-- a port of its own, by its own event and by another's
port_by_own : (s : State) (e : Event) → IsWellFormed s → IsConsistent s → Legal s e → (p : ℕ) (k : PortKnown) → IsPortKnown s p k → IsPortKnown (effect s e) p (port_known_next p k e)
port_by_own s e w c l p k h = port_known (effect s e) p (port_known_next p k e)
    (own_next p k e ∙ ap (λ o. own_port_next p o e) (as_one s p k h) ∙ port_step s e p w c l)
    (λ v at.
    let u = unreplied p k e v at in
    subst (λ b. StandsThere (effect s e) p b v) (sym u.more_) (seen_stays s e w c l p v k.more u.no_ask u.no_end (h.seen v (sym u.seen ∙ at))))

port_by_other : (s : State) (e : Event) → IsWellFormed s → IsConsistent s → Legal s e → (n p : ℕ) (k : PortKnown) → owner s.config p ≡ n → is_doer s n e ≡ false → IsPortKnown s p k
    → IsPortKnown (effect s e) p k
port_by_other s e w c l n p k owned other h =
    let replies = reply_mine s e n p owned other in
    port_known (effect s e) p k
    (as_one s p k h ∙ sym (port_other s e n p (own_port s p) l other (λ made. owned)) ∙ port_step s e p w c l)
    (λ v at. seen_stays s e w c l p v k.more replies.0 replies.1 (h.seen v at))

-- a port of a node that was made was its port before
port_was : (s : State) (e : Event) → Legal s e → (n q : ℕ) → n < length s.config.slots → IsPortOf (effect s e).config n q → IsPortOf s.config n q
port_was s e l n q made o =
    let old = slot_was s.config (effect s e).config e (reconfigured s e l) n o.node made o.made in
    record {
      node = old.0;
      made = old.1;
      from = subst (λ i. i ≤ q) (sym old.2) o.from;
      below = subst (λ k. q < k) (sym (ap (λ i. i + length (row old.0.node.kind).requires_) old.2 ∙ ap (λ (x : _). o.node.first_port + length (row x.kind).requires_) old.3)) o.below;
    }

-- a node's own event moves what it knows as the fold does
pub known_by_own : (s : State) (e : Event) (n first : ℕ) (w : Known) → IsWellFormed s → IsConsistent s → Legal s e → n < length s.config.slots → is_doer s n e ≡ true → IsKnown s n first w
    → IsKnown (effect s e) n first (known_next first w e)
known_by_own s e n first k w c l made does h = record {
  two_ports = same_ports first k.ports e ∙ h.two_ports;
  service = subst (λ es. KnowsService (effect s e) (service (effect s e) n) (fold served_next k.service es)) (ap (λ b. cond b (e ∷ []) []) does) (service_next s e n k.service w c l h.service);
  ports = λ r x at o.
      let old = next_at first k.ports e r x at in
      subst (λ y. IsPortKnown (effect s e) (first + r) y) (sym old.2) (port_by_own s e w c l (first + r) old.0 (h.ports r old.0 old.1 (port_was s e l n (first + r) made o)));
}

-- and what others do leaves it
pub known_by_others : (s : State) (e : Event) (n first : ℕ) (w : Known) → IsWellFormed s → IsConsistent s → Legal s e → n < length s.config.slots → is_doer s n e ≡ false → IsKnown s n first w
    → IsKnown (effect s e) n first w
known_by_others s e n first k w c l made other h = record {
  two_ports = h.two_ports;
  service = subst (λ es. KnowsService (effect s e) (service (effect s e) n) (fold served_next k.service es)) (ap (λ b. cond b (e ∷ []) []) other) (service_next s e n k.service w c l h.service);
  ports = λ r x at o.
      let before = port_was s e l n (first + r) made o in
      port_by_other s e w c l n (first + r) x (owner_of s.config w.sound n (first + r) before) other (h.ports r x at before);
}

-- ---- runs

-- what it has of a port, where nothing was seen
pub record IsPortOfLog (p : ℕ) (es : List Event) (k : PortKnown) : Type 0 where
  pub port : as_own_port k ≡ own_port_after p es
  pub unseen : k.seen ≡ None

unseen_next : (p : ℕ) (k : PortKnown) (e : Event) → k.seen ≡ None → (port_known_next p k e).seen ≡ None
unseen_next p k (Begin q j v) h = ⊎_elim (λ (t : (q == p) ≡ true). rw t refl) (λ (f : (q == p) ≡ false). rw f h) (cases_Bool (q == p))
unseen_next p k (Call q j v) h = ⊎_elim (λ (t : (q == p) ≡ true). rw t refl) (λ (f : (q == p) ≡ false). rw f h) (cases_Bool (q == p))
unseen_next p k (Ask q j v) h = ⊎_elim (λ (t : (q == p) ≡ true). rw t refl) (λ (f : (q == p) ≡ false). rw f h) (cases_Bool (q == p))
unseen_next p k (End q j v) h = ⊎_elim (λ (t : (q == p) ≡ true). rw t refl) (λ (f : (q == p) ≡ false). rw f h) (cases_Bool (q == p))
unseen_next p k _ h = h

-- folds from anywhere
service_from : (first : ℕ) (w : Known) (es : List Event) → (fold (known_next first) w es).service ≡ fold served_next w.service es
service_from first w [] = refl
service_from first w (e ∷ es) = service_from first (known_next first w e) es

two_from : (first : ℕ) (w : Known) (es : List Event) → length (fold (known_next first) w es).ports ≡ length w.ports
two_from first w [] = refl
two_from first w (e ∷ es) = two_from first (known_next first w e) es ∙ same_ports first w.ports e

port_from : (first : ℕ) (w : Known) (es : List Event) (r : ℕ) (k : PortKnown) → slice_get (fold (known_next first) w es).ports r ≡ Some k
    → (old : PortKnown) × (slice_get w.ports r ≡ Some old) × (as_own_port k ≡ fold (own_port_next (first + r)) (as_own_port old) es) × (old.seen ≡ None → k.seen ≡ None)
port_from first w [] r k at = (k, at, refl, λ h. h)
port_from first w (e ∷ es) r k at =
    let rest = port_from first (known_next first w e) es r k at in
    let here = next_at first w.ports e r rest.0 rest.1 in (
      here.0,
      here.1,
      rest.2 ∙ ap (λ o. fold (own_port_next (first + r)) o es) (ap as_own_port here.2 ∙ own_next (first + r) here.0 e),
      λ h. rest.3 (ap (λ (x : PortKnown). x.seen) here.2 ∙ unseen_next (first + r) here.0 e h),
    )

start_at : (r : ℕ) (k : PortKnown) → slice_get nothing_known.ports r ≡ Some k → port_at_start ≡ k
start_at zero k at = same_Some port_at_start k at
start_at (suc zero) k at = same_Some port_at_start k at
start_at (suc (suc r)) k at = absurd (cc)

-- with one event more
pub known_after_more : (first : ℕ) (es : List Event) (e : Event) → known_after first (es ++ e ∷ []) ≡ known_next first (known_after first es) e
known_after_more first es e = fold_push (known_next first) nothing_known es e

pub service_of_log : (first : ℕ) (es : List Event) → (known_after first es).service ≡ served_after es
service_of_log first es = service_from first nothing_known es

pub ports_of_log : (first : ℕ) (es : List Event) → length (known_after first es).ports ≡ 2
ports_of_log first es = two_from first nothing_known es

pub port_of_log : (first : ℕ) (es : List Event) (r : ℕ) (k : PortKnown) → slice_get (known_after first es).ports r ≡ Some k → IsPortOfLog (first + r) es k
port_of_log first es r k at =
    let w = port_from first nothing_known es r k at in
    let start = start_at r w.0 w.1 in
    record {
      port = w.2 ∙ ap (λ o. fold (own_port_next (first + r)) (as_own_port o) es) (sym start);
      unseen = w.3 (ap (λ (x : PortKnown). x.seen) (sym start));
    }

-- in each run a node's own events tell it what the state has of it
pub nodes_know_by_index : (es : List Event) → IsRun es → (n first : ℕ) → IsKnown (state_after es) n first (known_after first (done_by n es))
nodes_know_by_index es run n first =
    let k = nodes_know es run n in
    record {
      two_ports = ports_of_log first (done_by n es);
      service = subst (λ u. KnowsService (state_after es) (service (state_after es) n) u) (sym (service_of_log first (done_by n es))) k.services;
      ports = λ r x at o.
          let log = port_of_log first (done_by n es) r x at in
          port_known (state_after es) (first + r) x (log.port ∙ k.ports (first + r) o) (λ v seen. absurd (cc (log.unseen, seen)));
    }

-- a node that was just made knows of nothing
pub new_nodes_know_nothing : (s : State) (n : ℕ) (node : Node) (from : Option ℕ) → IsWellFormed s → Legal s (Make n node from) → IsKnown (effect s (Make n node from)) n (length s.config.gates) nothing_known
new_nodes_know_nothing s n node from w l =
    let room = (and_parts (n == length s.config.slots && nat_lt n MAX_NODES) (nat_le (length s.config.gates + length (row node.kind).requires_) MAX_PORTS) l.room).0 in
    let next : n ≡ length s.config.slots = eqb-true n (length s.config.slots) (and_parts (n == length s.config.slots) (nat_lt n MAX_NODES) room).0 in
    let s' : State = effect s (Make n node from) in
    let none_ : service s' n ≡ None = fresh_behind s.traffic.services None 1 n ∙ get_or_past s.traffic.services n None (omega (arith, next, w.services)) in
    record {
      two_ports = refl;
      service = subst (λ o. KnowsService s' o None) (sym none_) tt;
      ports = λ r k at o.
          let fresh : exchange s' (length s.config.gates + r) ≡ fresh_exchange =
          fresh_behind s.traffic.exchanges fresh_exchange (length (row node.kind).requires_) (length s.config.gates + r)
          ∙ get_or_past s.traffic.exchanges (length s.config.gates + r) fresh_exchange (omega (arith, w.exchanges)) in
          let start = start_at r k at in
          port_known s' (length s.config.gates + r) k
          (ap as_own_port (sym start) ∙ ap (λ (x : Exchange). record { idle = is_idle x.phase; serial = x.serial; consequent = is_some x.within }) (sym fresh))
          (λ v seen. absurd (cc (ap (λ (x : PortKnown). x.seen) start, seen)));
    }

-- ---- the rules that a node can judge

module _ (s : State) (w : IsWellFormed s) (c : IsConsistent s) (n : ℕ) (m : Slot) (there : slot s.config n ≡ Some m) (k : Known) (known : IsKnown s n m.first_port k) (u : Served)
    (serves : k.service ≡ Some u) where
  -- it services what it knows of, by its only provision
  record Serving : Type 0 where
    served : Service
    is : service s n ≡ Some served
    same : IsServed s served u
    leads : target s.config u.port ≡ Some (record { node = n; provide = 0 })

  serving : Serving
  serving = by (service s n) refl (subst (λ o. KnowsService s (service s n) o) serves known.service)
    where
      by : (o : Option Service) → service s n ≡ o → KnowsService s (service s n) (Some u) → Serving
      by None at h = absurd (subst (λ o. KnowsService s o (Some u)) at h)
      by (Some v) at h =
          let same : IsServed s v u = subst (λ o. KnowsService s o (Some u)) at h in
          let it = c.serving n v at in
          let provided = (w.sound.targets v.port (record { node = n; provide = it.provide }) it.linked).provided in
          let few : it.provide < length (row m.node.kind).provides = subst (λ i. it.provide < i) (map_or_at (λ (m : Slot). length (row m.node.kind).provides) (slot s.config n) 0 m there) provided in
          let first : it.provide ≡ 0 = omega (arith, few, one_provision m.node.kind) in
          record {
            served = v;
            is = at;
            same = same;
            leads = ap (λ i. target s.config i) same.port ∙ it.linked ∙ ap (λ x. Some (record { node = n; provide = x })) first;
          }

  provided_by : provision s.config serving.served.port ≡ 0
  provided_by = ap (λ i. provision s.config i) (sym serving.same.port) ∙ provision_is s.config u.port n 0 serving.leads

  -- rule 14
  pub judged_taken : is_taken s u.port ≡ true
  judged_taken = is_taken_if s u.port (record { node = n; provide = 0 }) serving.served serving.leads serving.is (sym serving.same.port)

  -- rules 29 and 30
  pub judged_heard : (was_heard (service s n) ≡ u.heard) × (was_heard (target_service s u.port) ≡ u.heard)
  judged_heard =
      let here : was_heard (service s n) ≡ u.heard = ap was_heard serving.is ∙ sym serving.same.heard in
      (here, ap was_heard (target_service_is s u.port (record { node = n; provide = 0 }) serving.leads) ∙ here)

  -- rule 7, of its port with this requirement
  pub judged_serves_through : (r : ℕ) → r < length (row m.node.kind).requires_ → serves_through s n (m.first_port + r) ≡ depends_on m.node.kind 0 r
  judged_serves_through r within =
      map_or_at (λ (v : Service). depends s.config n (provision s.config v.port) (m.first_port + r)) (service s n) false serving.served serving.is
      ∙ ap (λ x. depends s.config n x (m.first_port + r)) provided_by
      ∙ map_or_at (λ (j : Slot). depends_on j.node.kind 0 (gate s.config (m.first_port + r)).require) (slot s.config n) false m there
      ∙ ap (depends_on m.node.kind 0) ((w.sound.rows n m there).in_order r within)

  -- rule 8
  pub judged_calls : has_calls_left s n ≡ nat_lt u.calls (calls_of m.node.kind 0)
  judged_calls =
      map_or_at (λ (v : Service). nat_lt v.calls (calls_allowed s.config n (provision s.config v.port))) (service s n) false serving.served serving.is
      ∙ ap (λ x. nat_lt serving.served.calls (calls_allowed s.config n x)) provided_by
      ∙ ap (nat_lt serving.served.calls) (map_or_at (λ (m : Slot). calls_of m.node.kind 0) (slot s.config n) 0 m there)
      ∙ ap (λ i. nat_lt i (calls_of m.node.kind 0)) (sym serving.same.calls)

  -- rule 28
  pub judged_mores : has_mores_left s u.port ≡ nat_lt u.mores (mores_of m.node.kind 0)
  judged_mores =
      map_or_at (λ (t : Target). option_map_or (λ (v : Service). nat_lt v.mores (mores_allowed s.config t.node t.provide)) (service s t.node) false) (target s.config u.port) false
      (record { node = n; provide = 0 }) serving.leads
      ∙ map_or_at (λ (v : Service). nat_lt v.mores (mores_allowed s.config n 0)) (service s n) false serving.served serving.is
      ∙ ap (nat_lt serving.served.mores) (map_or_at (λ (m : Slot). mores_of m.node.kind 0) (slot s.config n) 0 m there)
      ∙ ap (λ i. nat_lt i (mores_of m.node.kind 0)) (sym serving.same.mores)

  -- its calls have ended exactly where no port of its own is consequent
  ended_if : (calls_have_ended s u.port ≡ true) ↔ ((p : ℕ) → IsPortOf s.config n p → is_some (exchange s p).within ≡ false)
  ended_if = (
    λ h p o.
        let all : list_all (λ q. not (is_called_within s u.port q)) (ports_of s.config n) ≡ true =
        sym (map_or_at (λ (t : Target). list_all (λ q. not (is_called_within s u.port q)) (ports_of s.config t.node)) (target s.config u.port) true (record { node = n; provide = 0 }) serving.leads) ∙ h in
        by p o (not-true (is_called_within s u.port p) (all_of s.config n (λ q. not (is_called_within s u.port q)) p all o)) (exchange s p).within refl,
    λ none_.
        map_or_at (λ (t : Target). list_all (λ q. not (is_called_within s u.port q)) (ports_of s.config t.node)) (target s.config u.port) true (record { node = n; provide = 0 }) serving.leads
        ∙ of_all s.config n (λ q. not (is_called_within s u.port q)) (λ p o.
        not_from_false (is_called_within s u.port p) (ap (λ i. option_map_or (λ w. w == u.port) i false) (None-from_is_some (exchange s p).within (none_ p o)))),
  )
    where
      by : (p : ℕ) → IsPortOf s.config n p → is_called_within s u.port p ≡ false → (o : Option ℕ) → (exchange s p).within ≡ o → is_some (exchange s p).within ≡ false
      by p o never None at = ap is_some at
      by p o never (Some q) at =
          let h = c.consequent p q at in
          let mine : owner s.config p ≡ n = owner_of s.config w.sound n p o in
          let one : serving.served ≡ h.serving = same_Some serving.served h.serving (sym serving.is ∙ ap (service s) (sym mine) ∙ h.serviced) in
          let same : q ≡ u.port = sym h.of_port ∙ sym (ap (λ (v : Service). v.port) one) ∙ sym serving.same.port in
          absurd (both_ways (is_called_within s u.port p) never (ap (λ i. option_map_or (λ w. w == u.port) i false) at ∙ eq-eqb q u.port same))

  -- rule 16: which it knows of each
  pub judged_ended : (calls_have_ended s u.port ≡ true) ↔ ((r : ℕ) (x : PortKnown) → r < length (row m.node.kind).requires_ → slice_get k.ports r ≡ Some x → x.consequent ≡ false)
  judged_ended = (
    λ h r x within at.
        let o : IsPortOf s.config n (m.first_port + r) = record { node = m; made = there; from = omega arith; below = omega (arith, within) } in
        (known.ports r x at o).consequent ∙ ended_if.0 h (m.first_port + r) o,
    λ none_. ended_if.1 (λ p o.
        let one : o.node ≡ m = same_Some o.node m (sym o.made ∙ there) in
        let from : m.first_port ≤ p = subst (λ (j : Slot). j.first_port ≤ p) one o.from in
        let below : p < m.first_port + length (row m.node.kind).requires_ = subst (λ (j : Slot). p < j.first_port + length (row j.node.kind).requires_) one o.below in
        let within : p - m.first_port < length (row m.node.kind).requires_ = omega (arith, from, below) in
        let x = slice_get-there k.ports (p - m.first_port) (omega (arith, within, two_requires m.node.kind, known.two_ports)) in
        let at : m.first_port + (p - m.first_port) ≡ p = omega (arith, from) in
        let here : IsPortKnown s p x.0 = subst (λ i. IsPortKnown s i x.0) at (known.ports (p - m.first_port) x.0 x.1 (subst (λ i. IsPortOf s.config n i) (sym at) o)) in
        sym here.consequent ∙ none_ (p - m.first_port) x.0 within x.1),
  )

-- a node is in a service exactly where it knows of one
pub knows_some : (s : State) (o : Option Service) (u : Served) → KnowsService s o (Some u) → (v : Service) × (o ≡ Some v) × IsServed s v u
knows_some s None u h = absurd h
knows_some s (Some v) u h = (v, refl, h)

pub knows_none : (s : State) (o : Option Service) → KnowsService s o None → o ≡ None
knows_none s None h = refl
knows_none s (Some v) h = absurd h
