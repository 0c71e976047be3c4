-- What a change does in one of two worlds keeps them alike: each node that it touches is away from then on.
use Rattle.std.proofs.Common.{◌≡◌, ◌∙◌, ℕ, ◌+◌, ◌-◌, ◌<◌, ◌≤◌, inl, inr, Bool, true, false, cond, List, [], ◌∷◌, ◌++◌, length, Option, Some, None, refl, sym, ap, subst, ⊎_elim, arith}
use Rattle.std.specs.Prelude.{◌==◌, ◌&&◌, ◌||◌, nat_le, nat_lt, option_map, replicate, slice_index_or}
use Rattle.std.proofs.lemmas.Bool.{and_parts, both_ways, cases_Bool, cases_lt, eq-eqb, eqb-true, false_from_ne_true, leb-true, ltb-true, ne_eqb, or_left, or_parts, or_right}
use Rattle.std.proofs.lemmas.List.{get_or_append_left, get_or_past, length-append}
use Rattle.std.proofs.lemmas.Option.{none-some, slice_get_within}
use Rattle.base.proofs.PlaceLaws.{fresh_behind}
use Rattle.config_graph.specs.Kinds.{row}
use Rattle.config_graph.specs.Wiring.{Reach, direct, through}
use Rattle.config_graph.specs.declared.node.Target.{Target}
use Rattle.quiesce_word.specs.Phases.{is_idle}
use Rattle.quiesce_core.specs.Alters.{Reconfigures, gate_next, service_next, slot_next}
use Rattle.quiesce_core.specs.Doers.{is_of_change}
use Rattle.quiesce_core.specs.Effect.{effect}
use Rattle.quiesce_core.specs.Legal.{Legal}
use Rattle.quiesce_core.specs.Reach.{IsPortOf, wiring_of}
use Rattle.quiesce_core.specs.Rules.{denial, is_settled}
use Rattle.quiesce_core.specs.State.{Configuration, State, exchange, fresh_exchange, fresh_gate, gate, is_live, owner, service, slot, target}
use Rattle.quiesce_core.specs.WellFormed.{IsSound, IsWellFormed}
use Rattle.quiesce_core.specs.declared.event.Event.{Event}
use Rattle.quiesce_core.specs.declared.event.Event.TheVariants.{Close, Reopen, Make, Link, Unlink, Remove}
use Rattle.quiesce_core.specs.declared.state.Exchange.{Exchange}
use Rattle.quiesce_core.specs.declared.state.Gate.{Gate}
use Rattle.quiesce_core.specs.declared.state.Slot.{Slot}
use Rattle.quiesce_core.proofs.AlterLaws.{change_exchange, exchanges_next, reconfigured, services_next}
use Rattle.quiesce_core.proofs.LegalLaws.{legal}
use Rattle.quiesce_core.proofs.ReachLaws.{owner_of}
use Rattle.quiesce_core.proofs.SettledLaws.{reaching_made, settled_if}
use Rattle.quiesce_core.proofs.TableLaws.{live_made}
use Rattle.node_turn_laws.specs.Reached.{IsReached}
use Rattle.node_turn_laws.specs.World.{World, inbox, opened, state_of, waiting_of, with_event}
use Rattle.node_turn_laws.proofs.HintLaws.{hinted_where_reached, well_where_reached}
use Rattle.node_turn_laws.proofs.ReachedLaws.{holds_where_reached}
use Rattle.result_laws.proofs.Mirroring.{Alike, Apart, Between, Mirrors, ReachesAway, between_alike, mirrors_back, reach_between, same_depends, same_port}

-- the node that an event of the change touches
abbrev touched : Configuration → Event → ℕ → Bool
touched c (Link p m x) n = n == owner c p
touched c (Unlink p) n = n == owner c p
touched c (Remove m) n = n == m
touched c (Make k node from) n = n == length c.slots
touched c _ n = false

kept_slot : (c : Configuration) (e : Event) (n : ℕ) → touched c e n ≡ false → slot_next c n e ≡ slot c n
kept_slot c (Make k node from) n h = ap (λ b. cond b (Some (record { node = node; first_port = length c.gates; from = from; live = true })) (slot c n)) h
kept_slot c (Remove m) n h = ap (λ b. cond b (option_map (λ (k : Slot). record k { live = false }) (slot c n)) (slot c n)) h
kept_slot c _ n h = refl

-- a flag that is set leaves the target and the owner
gate_turned : (b x : Bool) (g : Gate) → ((cond b (record g { closed = x }) g).target ≡ g.target) × ((cond b (record g { closed = x }) g).owner ≡ g.owner)
gate_turned true x g = (refl, refl)
gate_turned false x g = (refl, refl)

leads_owner : (b : Bool) (t : Option Target) (g : Gate) → (cond b (record g { target = t }) g).owner ≡ g.owner
leads_owner true t g = refl
leads_owner false t g = refl

not_new : (c : Configuration) (k p : ℕ) → p < length c.gates → (nat_le (length c.gates) p && nat_lt p (length c.gates + k)) ≡ false
not_new c k p low = false_from_ne_true (nat_le (length c.gates) p && nat_lt p (length c.gates + k)) (λ h.
    let high = leb-true (length c.gates) p (and_parts (nat_le (length c.gates) p) (nat_lt p (length c.gates + k)) h).0 in absurd (omega (arith, low, high)))

kept_target : (c : Configuration) (e : Event) (p : ℕ) → p < length c.gates → touched c e (owner c p) ≡ false → (gate_next c p e).target ≡ target c p
kept_target c (Close q) p low h = (gate_turned (q == p) true (gate c p)).0
kept_target c (Reopen q) p low h = (gate_turned (q == p) false (gate c p)).0
kept_target c (Link q m x) p low h =
    rw (ne_eqb q p (λ same. both_ways (owner c p == owner c q) h (eq-eqb (owner c p) (owner c q) (ap (owner c) (sym same))))) refl
kept_target c (Unlink q) p low h =
    rw (ne_eqb q p (λ same. both_ways (owner c p == owner c q) h (eq-eqb (owner c p) (owner c q) (ap (owner c) (sym same))))) refl
kept_target c (Make k node from) p low h = rw (not_new c (length (row node.kind).requires_) p low) refl
kept_target c _ p low h = refl

kept_owner : (c : Configuration) (e : Event) (p : ℕ) → p < length c.gates → (gate_next c p e).owner ≡ owner c p
kept_owner c (Close q) p low = (gate_turned (q == p) true (gate c p)).1
kept_owner c (Reopen q) p low = (gate_turned (q == p) false (gate c p)).1
kept_owner c (Link q m x) p low = leads_owner (q == p) (Some (record { node = m; provide = x })) (gate c p)
kept_owner c (Unlink q) p low = leads_owner (q == p) None (gate c p)
kept_owner c (Make k node from) p low = rw (not_new c (length (row node.kind).requires_) p low) refl
kept_owner c _ p low = refl

-- a port that wasn't made before leads nowhere
new_unlinked : (s : State) (e : Event) → Legal s e → (p : ℕ) → length s.config.gates ≤ p → (gate_next s.config p e).target ≡ None
new_unlinked s (Close q) l p past = (gate_turned (q == p) true (gate s.config p)).0 ∙ ap (λ (g : Gate). g.target) (get_or_past s.config.gates p fresh_gate past)
new_unlinked s (Reopen q) l p past = (gate_turned (q == p) false (gate s.config p)).0 ∙ ap (λ (g : Gate). g.target) (get_or_past s.config.gates p fresh_gate past)
new_unlinked s (Link q m x) l p past =
    let low = ltb-true q (length s.config.gates) (and_parts (nat_lt q (length s.config.gates)) (is_live s.config (owner s.config q)) l.live).0 in
    rw (ne_eqb q p (λ same. absurd (omega (arith, low, past, same)))) (ap (λ (g : Gate). g.target) (get_or_past s.config.gates p fresh_gate past))
new_unlinked s (Unlink q) l p past =
    let low = ltb-true q (length s.config.gates) (and_parts (nat_lt q (length s.config.gates)) (is_live s.config (owner s.config q)) l.live).0 in
    rw (ne_eqb q p (λ same. absurd (omega (arith, low, past, same)))) (ap (λ (g : Gate). g.target) (get_or_past s.config.gates p fresh_gate past))
new_unlinked s (Make k node from) l p past = by (nat_le (length s.config.gates) p && nat_lt p (length s.config.gates + length (row node.kind).requires_))
  where
    by : (b : Bool) → (cond b (record { owner = length s.config.slots; require = p - length s.config.gates; closed = true; target = None }) (gate s.config p)).target ≡ None
    by true = refl
    by false = ap (λ (g : Gate). g.target) (get_or_past s.config.gates p fresh_gate past)
new_unlinked s _ l p past = ap (λ (g : Gate). g.target) (get_or_past s.config.gates p fresh_gate past)

kept_service : (s : State) (e : Event) (n : ℕ) → is_of_change e ≡ true → service_next s n e ≡ service s n
kept_service s (Close q) n h = refl
kept_service s (Reopen q) n h = refl
kept_service s (Make m node from) n h = refl
kept_service s (Link q m x) n h = refl
kept_service s (Unlink q) n h = refl
kept_service s (Remove m) n h = refl
kept_service s _ n h = absurd (both_ways false refl h)

-- ---- what the hints and states of a world are behind an event of the change

appended_elsewhere : {A : Type 0} (xs : List A) (x d : A) (n : ℕ) → (n ≡ length xs → ⊥) → slice_index_or (xs ++ x ∷ []) n d ≡ slice_index_or xs n d
appended_elsewhere xs x d n other = ⊎_elim
    (λ (low : n < length xs). get_or_append_left xs (x ∷ []) d n low)
    (λ (past : length xs ≤ n).
    let long = length-append xs (x ∷ []) in
    let high : length xs < n = ⊎_elim (λ (h : length xs < n). h) (λ (h : n ≤ length xs). absurd (other (omega (arith, h, past)))) (cases_lt (length xs) n) in
    get_or_past (xs ++ x ∷ []) n d (omega (arith, long, high)) ∙ sym (get_or_past xs n d past))
    (cases_lt n (length xs))

not_last : (c : Configuration) (n k : ℕ) → k ≡ length c.slots → (n == length c.slots) ≡ false → n ≡ k → ⊥
not_last c n k is h same = both_ways (n == length c.slots) h (eq-eqb n (length c.slots) (same ∙ is))

record Kept (w v : World) (n : ℕ) : Type 0 where
  state : state_of v n ≡ state_of w n
  box : inbox v n ≡ inbox w n
  waits : waiting_of v n ≡ waiting_of w n

kept_of : (w : World) (e : Event) → IsReached w → (n : ℕ) → touched w.machine.config e n ≡ false → Kept w (with_event w e) n
kept_of w (Make k node from) reached n h =
    let c = w.machine.config in
    let holds = holds_where_reached w reached in
    let fits = (hinted_where_reached w reached).fits in
    let folds : length w.folds ≡ length c.slots = holds.1.made ∙ ap (λ (s : State). length s.config.slots) (sym holds.0) in
    record {
      state = appended_elsewhere w.folds (opened w node from) None n (not_last c n (length w.folds) folds h);
      box = fresh_behind w.inboxes [] 1 n;
      waits = appended_elsewhere w.waiting (replicate (length (row node.kind).requires_) None) [] n (not_last c n (length w.waiting) fits.rows h);
    }
kept_of w _ reached n h = record { state = refl; box = refl; waits = refl }

event_machine : (w : World) (e : Event) → (with_event w e).machine ≡ effect w.machine e
event_machine w (Make k node from) = refl
event_machine w _ = refl

-- ---- a node at rest

record Rests (s : State) (n : ℕ) : Type 0 where
  serves : service s n ≡ None
  own : (p : ℕ) → IsPortOf s.config n p → is_idle (exchange s p).phase ≡ true
  reaching : (p : ℕ) → Reach (wiring_of s.config) n p → is_idle (exchange s p).phase ≡ true

settled_rests : (s : State) → IsSound s.config → (n : ℕ) → is_settled s n ≡ true → Rests s n
settled_rests s sound n h =
    let x = settled_if s sound n h in
    record {
      serves = x.services_nothing;
      own = λ p o. (and_parts (gate s.config p).closed (is_idle (exchange s p).phase) (x.own p o)).1;
      reaching = λ p r. (and_parts (gate s.config p).closed (is_idle (exchange s p).phase) (x.reaching p r)).1;
    }

reached_live : (c : Configuration) → IsSound c → (n p : ℕ) → Reach (wiring_of c) n p → is_live c n ≡ true
reached_live c sound n _ (direct {p} {x} e) = (sound.targets p (record { node = n; provide = x }) e).live
reached_live c sound n _ (through {p} {q} {m} {x} r dep e) = reached_live c sound n p r

new_rests : (s : State) → IsWellFormed s → (n : ℕ) → n ≡ length s.config.slots → Rests s n
new_rests s well n is = record {
  serves = get_or_past s.traffic.services n None (let long = well.services in omega (arith, long, is));
  own = λ p o. let low = slice_get_within s.config.slots n o.node o.made in absurd (omega (arith, low, is));
  reaching = λ p r. let low = live_made s.config n (reached_live s.config well.sound n p r) in absurd (omega (arith, low, is));
}

touched_rests : (s : State) → IsWellFormed s → (e : Event) → Legal s e → (n : ℕ) → touched s.config e n ≡ true → Rests s n
touched_rests s well (Link p m x) l n h = subst (Rests s) (sym (eqb-true n (owner s.config p) h)) (settled_rests s well.sound (owner s.config p) l.settled)
touched_rests s well (Unlink p) l n h = subst (Rests s) (sym (eqb-true n (owner s.config p) h)) (settled_rests s well.sound (owner s.config p) l.settled)
touched_rests s well (Remove m) l n h = subst (Rests s) (sym (eqb-true n m h)) (settled_rests s well.sound m l.settled)
touched_rests s well (Make k node from) l n h = new_rests s well n (eqb-true n (length s.config.slots) h)
touched_rests s well _ l n h = absurd (both_ways false refl h)

-- ---- one event of the change in the second world

module _ (away : ℕ → Bool) (a b : World) (m : Mirrors away a b) (e : Event) (change : is_of_change e ≡ true) (may : denial b.machine e ≡ None) where
  abbrev s : State
  s = b.machine

  abbrev c : Configuration
  c = s.config

  abbrev v : World
  v = with_event b e

  abbrev pub now : ℕ → Bool
  now n = away n || touched c e n

  l : Legal s e
  l = legal s e may

  reached : IsReached v
  reached = IsReached.by_change b e m.reached_there change may

  well : IsWellFormed s
  well = well_where_reached b m.reached_there

  well_then : IsWellFormed v.machine
  well_then = well_where_reached v reached

  well_here : IsWellFormed a.machine
  well_here = well_where_reached a m.reached_here

  then_is : v.machine ≡ effect s e
  then_is = event_machine b e

  remade : Reconfigures c e v.machine.config
  remade = subst (λ (u : State). Reconfigures c e u.config) (sym then_is) (reconfigured s e l)

  same_exchanges : (p : ℕ) → exchange v.machine p ≡ exchange s p
  same_exchanges p = ap (λ u. exchange u p) then_is ∙ exchanges_next s e well l p ∙ change_exchange s p e change

  same_services : (n : ℕ) → service v.machine n ≡ service s n
  same_services n = ap (λ u. service u n) then_is ∙ services_next s e well l n ∙ kept_service s e n change

  same_slot : (n : ℕ) → touched c e n ≡ false → slot v.machine.config n ≡ slot c n
  same_slot n h = remade.slots n ∙ kept_slot c e n h

  same_target : (p : ℕ) → p < length c.gates → touched c e (owner c p) ≡ false → target v.machine.config p ≡ target c p
  same_target p low h = ap (λ (g : Gate). g.target) (remade.gates p) ∙ kept_target c e p low h

  same_owner : (p : ℕ) → p < length c.gates → owner v.machine.config p ≡ owner c p
  same_owner p low = ap (λ (g : Gate). g.owner) (remade.gates p) ∙ kept_owner c e p low

  neither : (n : ℕ) → now n ≡ false → (away n ≡ false) × (touched c e n ≡ false)
  neither n h = or_parts (away n) (touched c e n) h

  rests : (n : ℕ) → now n ≡ true → Rests s n
  rests n h = ⊎_elim
      (λ (yes_ : away n ≡ true). record { serves = m.there.serves n yes_; own = λ p o. m.there.own n p yes_ o; reaching = λ p r. m.there.reaching n p yes_ r })
      (λ (no_ : away n ≡ false). touched_rests s well e l n (sym (ap (λ x. x || touched c e n) no_) ∙ h))
      (cases_Bool (away n))

  alike_then : Alike now a v
  alike_then = record {
    slots = λ n h. let x = neither n h in m.alike.slots n x.0 ∙ sym (same_slot n x.1);
    targets = λ n p h o.
        let x = neither n h in
        let o' = same_port a.machine.config c n p (m.alike.slots n x.0) o in
        let row_ = well.sound.rows n o'.node o'.made in
        let within = row_.within in
        let below = o'.below in
        let mine = owner_of c well.sound n p o' in
        m.alike.targets n p x.0 o ∙ sym (same_target p (omega (arith, within, below)) (ap (touched c e) mine ∙ x.1));
    exchanges = λ p. m.alike.exchanges p ∙ sym (same_exchanges p);
    services = λ n. m.alike.services n ∙ sym (same_services n);
    states = λ n h. let x = neither n h in m.alike.states n x.0 ∙ sym (kept_of b e m.reached_there n x.1).state;
    boxes = λ n h. let x = neither n h in m.alike.boxes n x.0 ∙ sym (kept_of b e m.reached_there n x.1).box;
    waits = λ n h. let x = neither n h in m.alike.waits n x.0 ∙ sym (kept_of b e m.reached_there n x.1).waits;
  }

  -- in the first world
  own_here : (n p : ℕ) → now n ≡ true → IsPortOf a.machine.config n p → is_idle (exchange a.machine p).phase ≡ true
  own_here n p h o = ⊎_elim
      (λ (yes_ : away n ≡ true). m.here.own n p yes_ o)
      (λ (no_ : away n ≡ false). ap (λ (x : Exchange). is_idle x.phase) (m.alike.exchanges p) ∙ (rests n h).own p (same_port a.machine.config c n p (m.alike.slots n no_) o))
      (cases_Bool (away n))

  between_here : Between now c a.machine.config
  between_here =
      let x = between_alike away a b m.alike well_here.sound well.sound in
      record {
        links = λ q n y leads. ⊎_elim (λ (own : away (owner a.machine.config q) ≡ true). inl (or_left (away (owner a.machine.config q)) (touched c e (owner a.machine.config q)) own)) (λ (old : target c q ≡ Some (record { node = n; provide = y })). inr old) (x.links q n y leads);
        depends = λ k y p h o dep. x.depends k y p (neither k h).0 o dep;
        owned = x.owned;
      }

  apart_here : Apart now a.machine
  apart_here = record {
    serves = λ n h. m.alike.services n ∙ (rests n h).serves;
    own = own_here;
    reaching = λ n p h r. ⊎_elim
        (λ (w : ReachesAway now c p). ap (λ (x : Exchange). is_idle x.phase) (m.alike.exchanges p) ∙ (rests w.node w.is_away).reaching p w.reaches)
        (λ (own : now (owner a.machine.config p) ≡ true). own_here (owner a.machine.config p) p own (well_here.sound.ports p (reaching_made a.machine.config n p r)))
        (reach_between now c a.machine.config between_here n p h r);
  }

  -- in the second, behind the event
  own_there : (n p : ℕ) → now n ≡ true → IsPortOf v.machine.config n p → is_idle (exchange v.machine p).phase ≡ true
  own_there n p h o = ⊎_elim
      (λ (low : p < length c.gates).
      let mine : owner c p ≡ n = sym (same_owner p low) ∙ owner_of v.machine.config well_then.sound n p o in
      ap (λ (x : Exchange). is_idle x.phase) (same_exchanges p) ∙ (rests n h).own p (subst (λ k. IsPortOf c k p) mine (well.sound.ports p low)))
      (λ (past : length c.gates ≤ p).
      let long = well.exchanges in
      ap (λ (x : Exchange). is_idle x.phase) (same_exchanges p ∙ get_or_past s.traffic.exchanges p fresh_exchange (omega (arith, long, past))))
      (cases_lt p (length c.gates))

  between_there : Between now c v.machine.config
  between_there = record {
    links = λ q n y leads. ⊎_elim
        (λ (low : q < length c.gates). ⊎_elim
        (λ (yes_ : touched c e (owner c q) ≡ true). inl (ap now (same_owner q low) ∙ or_right (away (owner c q)) (touched c e (owner c q)) yes_))
        (λ (no_ : touched c e (owner c q) ≡ false). inr (sym (same_target q low no_) ∙ leads))
        (cases_Bool (touched c e (owner c q))))
        (λ (past : length c.gates ≤ q). absurd (none-some (record { node = n; provide = y }) (sym (ap (λ (g : Gate). g.target) (remade.gates q) ∙ new_unlinked s e l q past) ∙ leads)))
        (cases_lt q (length c.gates));
    depends = λ k y p h o dep.
        let same = same_slot k (neither k h).1 in
        (same_port v.machine.config c k p same o, sym (same_depends v.machine.config c well_then.sound well.sound k y p same o) ∙ dep);
    owned = owner_of v.machine.config well_then.sound;
  }

  apart_there : Apart now v.machine
  apart_there = record {
    serves = λ n h. same_services n ∙ (rests n h).serves;
    own = own_there;
    reaching = λ n p h r. ⊎_elim
        (λ (w : ReachesAway now c p). ap (λ (x : Exchange). is_idle x.phase) (same_exchanges p) ∙ (rests w.node w.is_away).reaching p w.reaches)
        (λ (own : now (owner v.machine.config p) ≡ true). own_there (owner v.machine.config p) p own (well_then.sound.ports p (reaching_made v.machine.config n p r)))
        (reach_between now c v.machine.config between_there n p h r);
  }

  pub change_mirrors : Mirrors now a v
  change_mirrors = record { alike = alike_then; here = apart_here; there = apart_there; reached_here = m.reached_here; reached_there = reached }

-- ---- events of the change, one after the other

pub record Mirrored (a b : World) : Type 0 where
  pub away : ℕ → Bool
  pub mirrors : Mirrors away a b

pub change_mirrored : (a b : World) (e : Event) → is_of_change e ≡ true → denial b.machine e ≡ None → Mirrored a b → Mirrored a (with_event b e)
change_mirrored a b e change may h = record { away = now h.away a b h.mirrors e change may; mirrors = change_mirrors h.away a b h.mirrors e change may }

pub mirrored_back : (a b : World) → Mirrored a b → Mirrored b a
mirrored_back a b h = record { away = h.away; mirrors = mirrors_back h.away a b h.mirrors }
