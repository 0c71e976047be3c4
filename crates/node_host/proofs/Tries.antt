-- That the moves before the one that was made aren't possible, put together from what each call shows.
use Rattle.std.proofs.Common.{inl, inr, ◌≡◌, ◌∙◌, ◌⊎◌, ℕ, zero, suc, ◌+◌, ◌<◌, Bool, true, false, length, Option, Some, None, refl, sym, ap, subst, arith}
use Rattle.std.specs.Prelude.{◌&&◌, is_none, nat_lt}
use Rattle.std.proofs.lemmas.Bool.{both_ways, eqb-true}
use Rattle.config_graph.specs.Kinds.{row}
use Rattle.component_trait.specs.States.{NodeState}
use Rattle.component_trait.specs.declared.component.Component.{Ghosts as ComponentWords}
use Rattle.quiesce_core.specs.Knowledge.{KnowsService}
use Rattle.quiesce_core.specs.State.{State, service}
use Rattle.quiesce_core.specs.declared.event.Event.{Event}
use Rattle.quiesce_core.specs.declared.event.Event.TheVariants.{Ask, Begin, Call, End}
use Rattle.quiesce_core.specs.declared.known.Known.{Known}
use Rattle.quiesce_core.specs.declared.known.Served.{Served}
use Rattle.quiesce_core.specs.declared.state.Service.{Service}
use Rattle.node_turn_laws.specs.Turn.{serves}
use Rattle.node_gate.specs.Loads.{IsLed, IsLoaded, Loads, TellsLoads, leads_to, shows_asked}
use Rattle.node_gate.specs.Seats.{NodeAt}
use Rattle.node_gate.specs.declared.gate.GateSeat.{Ghosts as SeatWords}
use Rattle.node_gate.specs.declared.gate.PortGate.{Ghosts as GateWords}
use Rattle.port_queue.specs.Inboxes.{Counts}
use Rattle.node_host.specs.Acts.{Acts, LoadsSo, TellsState, gate_seen, node_at, state_of}
use Rattle.node_host.specs.Hosted.{node_of}
use Rattle.node_host.specs.Posting.{GateSeen, HintOf, Hinted, IsLooked, IsSent, IsSentAfter, IsSentBy, Looked, is_asking}
use Rattle.node_host.specs.Told.{FitsToldState}
use Rattle.node_host.specs.Tried.{CannotBegin, HasNoReply, HasNoRequest, HaveNoReplies, IsHeld, IsTried, Keeps, LoadsPort, StepsGrow, bars_begin, is_busy, is_move, is_passed, is_reply_at, is_stale_for, move_number, passed_ports, shows_in_more}
use Rattle.node_host.specs.declared.node.HostNode.{HostNode}
use Rattle.node_host.proofs.ActLaws.{as_before}
use Rattle.node_host.proofs.Hinting.{hint_free}
use Rattle.node_host.proofs.Loading.{led_kept, led_since, loaded_kept, loaded_since, then_so}

-- ---- numbers of moves

all_passed : (n : NodeAt) (o : Option Event) → is_passed 1 o ≡ true → passed_ports n o ≡ length (row n.kind).requires_
all_passed n None h = refl
all_passed n (Some (End q k v)) h = absurd (both_ways false refl h)
all_passed n (Some (Ask q k v)) h = absurd (both_ways false refl h)
all_passed n (Some e) h = refl

passed_by : (first r : ℕ) (n : NodeAt) (e : Event) → n.first ≡ first → is_reply_at (first + r) (Some e) ≡ true → passed_ports n (Some e) ≡ r
passed_by first r n (End q k v) is h = let there = eqb-true q (first + r) h in omega (arith, there, is)
passed_by first r n (Ask q k v) is h = let there = eqb-true q (first + r) h in omega (arith, there, is)
passed_by first r n e is h = absurd (both_ways false refl h)

-- ---- replies

no_reply_kept : (k first r : ℕ) (w : Known) (a b c : Option Loads) → TellsLoads (Keeps k first w) b c → HasNoReply first w r a b → HasNoReply first w r a c
no_reply_kept k first r w a b c kept (inl idle) = inl idle
no_reply_kept k first r w a b c kept (inr loaded) = by (is_busy w r) refl
  where
    by : (busy : Bool) → is_busy w r ≡ busy → HasNoReply first w r a c
    by false is = inl is
    by true is =
        inr (then_so (IsLoaded (first + r) shows_asked) (Keeps k first w) (IsLoaded (first + r) shows_asked)
        (λ x y z l s. loaded_kept (first + r) shows_asked x y z s.steps (s.busy r is) l) a b c loaded kept)

no_reply_since : (first r : ℕ) (w : Known) (a b c : Option Loads) → TellsLoads StepsGrow a b → HasNoReply first w r b c → HasNoReply first w r a c
no_reply_since first r w a b c steps (inl idle) = inl idle
no_reply_since first r w a b c steps (inr loaded) =
    inr (then_so StepsGrow (IsLoaded (first + r) shows_asked) (IsLoaded (first + r) shows_asked) (λ x y z s l. loaded_since (first + r) shows_asked x y z s l) a b c steps loaded)

no_reply_past : (first : ℕ) (w : Known) (a b c : Option Loads) → TellsLoads (LoadsPort (first + 1)) b c → HasNoReply first w 0 a b → HasNoReply first w 0 a c
no_reply_past first w a b c past (inl idle) = inl idle
no_reply_past first w a b c past (inr loaded) =
    inr (then_so (IsLoaded (first + 0) shows_asked) (LoadsPort (first + 1)) (IsLoaded (first + 0) shows_asked)
    (λ x y z l s. loaded_kept (first + 0) shows_asked x y z s.steps (s.others (first + 0) (λ same. apart same)) l) a b c loaded past)
  where
    apart : first + 0 ≡ first + 1 → ⊥
    apart same = omega (arith, same)

pub tried_right : (n : NodeAt) (w : Known) (o : Option Event) (a b c : Option Loads) → length (row n.kind).requires_ ≡ 2 → HasNoReply n.first w 0 a b → TellsLoads StepsGrow a b
    → TellsLoads (LoadsPort (n.first + 1)) b c → is_reply_at (n.first + 1) o ≡ true → (o ≡ None → HasNoReply n.first w 1 b c) → HaveNoReplies n w o a c
tried_right n w o a b c two left steps past is right zero below = no_reply_past n.first w a b c past left
tried_right n w None a b c two left steps past is right (suc zero) below = no_reply_since n.first 1 w a b c steps (right refl)
tried_right n w (Some e) a b c two left steps past is right (suc zero) below = let one = passed_by n.first 1 n e refl is in absurd (omega (arith, below, one))
tried_right n w None a b c two left steps past is right (suc (suc r)) below = absurd (omega (arith, below, two))
tried_right n w (Some e) a b c two left steps past is right (suc (suc r)) below = let one = passed_by n.first 1 n e refl is in absurd (omega (arith, below, one))

-- ---- the service

pub held_kept : (first : ℕ) (v w : Known) (o : Option Served) (a b c : Option Loads) → TellsLoads (Keeps 3 first v) b c → IsHeld w o a b → IsHeld w o a c
held_kept first v w None a b c kept h = h
held_kept first v w (Some u) a b c kept (inl left) = inl left
held_kept first v w (Some u) a b c kept (inr waits) =
    let led = then_so (λ x y. IsLed u.port shows_in_more x.steps y.steps y.hear) (Keeps 3 first v) (λ x y. IsLed u.port shows_in_more x.steps y.steps y.hear)
    (λ x y z l s. led_kept u.port shows_in_more x.steps y.steps z.steps y.hear z.hear s.steps (s.hear (omega arith)) l) a b c waits.1 kept in inr (waits.0, led)

held_since : (w : Known) (o : Option Served) (a b c : Option Loads) → TellsLoads StepsGrow a b → IsHeld w o b c → IsHeld w o a c
held_since w None a b c steps h = h
held_since w (Some u) a b c steps (inl left) = inl left
held_since w (Some u) a b c steps (inr waits) =
    let led = then_so StepsGrow (λ x y. IsLed u.port shows_in_more x.steps y.steps y.hear) (λ x y. IsLed u.port shows_in_more x.steps y.steps y.hear)
    (λ x y z s l. led_since u.port shows_in_more x.steps y.steps z.steps z.hear s l) a b c steps waits.1 in inr (waits.0, led)

-- ---- the next request

pub request_kept : (n first : ℕ) (w : Known) (c c' : Counts) (a b d : Option Loads) → TellsLoads (Keeps 4 first w) b d → HasNoRequest n c c' a b → HasNoRequest n c c' a d
request_kept n first w c c' a b d kept (inl empty) = inl empty
request_kept n first w c c' a b d kept (inr (p, gave, led)) =
    let later = then_so (λ x y. IsLed p (is_stale_for n) x.steps y.steps y.take) (Keeps 4 first w) (λ x y. IsLed p (is_stale_for n) x.steps y.steps y.take)
    (λ x y z l s. led_kept p (is_stale_for n) x.steps y.steps z.steps y.take z.take s.steps (s.take (omega arith)) l) a b d led kept in inr (p, gave, later)

request_since : (n : ℕ) (c c' : Counts) (a b d : Option Loads) → TellsLoads StepsGrow a b → HasNoRequest n c c' b d → HasNoRequest n c c' a d
request_since n c c' a b d steps (inl empty) = inl empty
request_since n c c' a b d steps (inr (p, gave, led)) =
    let later = then_so StepsGrow (λ x y. IsLed p (is_stale_for n) x.steps y.steps y.take) (λ x y. IsLed p (is_stale_for n) x.steps y.steps y.take)
    (λ x y z s l. led_since p (is_stale_for n) x.steps y.steps z.steps z.take s l) a b d steps led in inr (p, gave, later)

-- ---- a beginning

cannot_since : (first : ℕ) (t : NodeState) (w : Known) (a b c : Option Loads) → TellsLoads StepsGrow a b → CannotBegin first t w b c → CannotBegin first t w a c
cannot_since first t w a b c steps cannot r wants = by (cannot r wants)
  where
    by : (is_busy w r.require ≡ true) ⊎ TellsLoads (IsLoaded (first + r.require) bars_begin) b c → (is_busy w r.require ≡ true) ⊎ TellsLoads (IsLoaded (first + r.require) bars_begin) a c
    by (inl busy) = inl busy
    by (inr loaded) =
        inr (then_so StepsGrow (IsLoaded (first + r.require) bars_begin) (IsLoaded (first + r.require) bars_begin) (λ x y z s l. loaded_since (first + r.require) bars_begin x y z s l) a b c steps loaded)

-- ---- hints

sent_since : (s : Option State) (a b c : Option Loads) (first p : ℕ) (old new : Hinted) → TellsLoads StepsGrow a b → IsSent (record { state = s; before = b; after = c }) first p old new
    → IsSent (record { state = s; before = a; after = c }) first p old new
sent_since s a b c first p old new steps h = record {
  target = h.target;
  leads = h.leads;
  loaded = then_so StepsGrow (IsLoaded p (leads_to h.target)) (IsLoaded p (leads_to h.target)) (λ x y z s l. loaded_since p (leads_to h.target) x y z s l) a b c steps h.loaded;
  posted = h.posted;
}

pub hint_since : (s : Option State) (a b c : Option Loads) (first : ℕ) (e : Option Event) (old new : Hinted) → TellsLoads StepsGrow a b → HintOf (record { state = s; before = b; after = c }) first e old new
    → HintOf (record { state = s; before = a; after = c }) first e old new
hint_since s a b c first None old new steps h = h
hint_since s a b c first (Some (Begin p k v)) old new steps h = sent_since s a b c first p old new steps h
hint_since s a b c first (Some (Call p k v)) old new steps h = sent_since s a b c first p old new steps h
hint_since s a b c first (Some e) old new steps h = h

-- the turn of a node whose waiting hints were posted
pub tried_posted : (slot slot' first first' : ℕ) (t t' : NodeState) (w w' : Known) (allowed : Bool) (o : Option Event) (a a' b : Option Loads) → slot' ≡ slot → first' ≡ first → t' ≡ t → w' ≡ w → a' ≡ a
    → IsTried (node_of slot' first' t') t' w' allowed o a' b → IsTried (node_of slot first t) t w allowed o a b
tried_posted slot slot' first first' t t' w w' allowed o a a' b es ef et ew ea h =
    subst (λ x. IsTried (node_of slot first t) t w allowed o x b) ea
    (subst (λ x. IsTried (node_of slot first t) t x allowed o a' b) ew
    (subst (λ x. IsTried (node_of slot first x) x w' allowed o a' b) et
    (subst (λ x. IsTried (node_of slot x t') t' w' allowed o a' b) ef
    (subst (λ x. IsTried (node_of x first' t') t' w' allowed o a' b) es h))))

-- ---- hints after such moves

after_since : (s : Option State) (a b d : Option Loads) (slot first : ℕ) (asked : Bool) (e : Option Event) (old new : Hinted) → TellsLoads StepsGrow a b → IsSentAfter (record { state = s; before = b; after = d }) slot first asked e old new
    → IsSentAfter (record { state = s; before = a; after = d }) slot first asked e old new
after_since s a b d slot first asked e old new steps h = record {
  between = h.between;
  looked = h.looked;
  request = λ yes_ passed. request_since slot (old.counts slot) (h.between.counts slot) a b d steps (h.request yes_ passed);
  sent = hint_since s a b d first e h.between new steps h.sent;
}

-- ---- after a move that did no event

module _ {C S : Type 0} {component : ComponentWords C} {seats : SeatWords S} {G : Type 0} {words : GateWords G S} {gate gate' : G} {h h' : HostNode C S component seats} (a : Acts words gate gate' h h' None) (steps : LoadsSo StepsGrow h h') (k : HostNode C S component seats) where
  abbrev at : HostNode C S component seats → Option Loads
  at x = seats.loads x.seat

  pub cannot_then : CannotBegin h'.first_port (state_of h') h'.known (at h') (at k) → CannotBegin h.first_port (state_of h) h.known (at h) (at k)
  cannot_then cannot = as_before a (λ slot first t w seat o. CannotBegin first t w (at h) (at k)) (cannot_since h'.first_port (state_of h') h'.known (at h) (at h') (at k) steps cannot)

  pub tried_then : {allowed : Bool} {e : Option Event} → HaveNoReplies (node_at h) h.known None (at h) (at h') → TellsLoads (Keeps 2 h'.first_port h'.known) (at h') (at k) → is_passed 1 e ≡ true
      → (is_passed 2 e ≡ true → IsHeld h'.known h'.known.service (at h') (at k)) → (e ≡ None → allowed ≡ true → CannotBegin h'.first_port (state_of h') h'.known (at h') (at k))
      → IsTried (node_at h) (state_of h) h.known allowed e (at h) (at k)
  tried_then {e = e} replies kept passed held cannot = record {
    replies = λ r below.
        no_reply_kept 2 h.first_port r h.known (at h) (at h') (at k) (as_before a (λ slot first t w seat o. TellsLoads (Keeps 2 first w) (at h') (at k)) kept)
        (replies r (subst (λ i. r < i) (all_passed (node_at h) e passed) below));
    service = λ after. held_since h.known h.known.service (at h) (at h') (at k) steps (as_before a (λ slot first t w seat o. IsHeld w w.service (at h') (at k)) (held after));
    begin = λ none_ may. cannot_then (cannot none_ may);
  }

  pub sent_then : {e : Option Event} {old old' new : Hinted} → old' ≡ old → IsSentAfter (gate_seen words gate' h' k) h'.slot h'.first_port (is_none h'.known.service) e old' new
      → IsSentAfter (gate_seen words gate h k) h.slot h.first_port (is_none h.known.service) e old new
  sent_then {e = e} {old = old} {new = new} same later =
      after_since (words.state gate) (at h) (at h') (at k) h.slot h.first_port (is_none h.known.service) e old new steps
      (as_before a (λ slot first t w seat o. IsSentAfter (record { state = o; before = at h'; after = at k }) slot first (is_none w.service) e old new)
      (subst (λ x. IsSentAfter (gate_seen words gate' h' k) h'.slot h'.first_port (is_none h'.known.service) e x new) same later))

  pub sent_by_then : {rule rule' : State → Bool} {e : Option Event} {old old' new : Hinted} → old' ≡ old → ((s : State) → TellsState words gate h s → rule' s ≡ rule s)
      → IsSentBy (gate_seen words gate' h' k) (node_at h') (seats.known h'.seat) rule' e old' new → IsSentBy (gate_seen words gate h k) (node_at h) (seats.known h.seat) rule e old new
  sent_by_then {rule' = rule'} {e = e} {old = old} {new = new} same ruled later =
      let b : IsSentBy (record { state = words.state gate; before = at h'; after = at k }) (node_at h) (seats.known h.seat) rule' e old new =
      as_before a (λ slot first t w seat o. IsSentBy (record { state = o; before = at h'; after = at k }) (node_of slot first t) seat rule' e old new)
      (subst (λ x. IsSentBy (gate_seen words gate' h' k) (node_at h') (seats.known h'.seat) rule' e x new) same later) in
      record {
        asked = b.asked;
        exact = b.exact;
        ruled = λ s told. b.ruled s told ∙ ruled s told;
        after = after_since (words.state gate) (at h) (at h') (at k) h.slot h.first_port b.asked e old new steps b.after;
      }

-- the inbox wasn't asked
pub sent_unasked : {g : GateSeen} {slot first : ℕ} {asked : Bool} {e : Option Event} {old new : Hinted} → asked ≡ false → HintOf g first e old new → IsSentAfter g slot first asked e old new
sent_unasked {slot = slot} {asked = asked} {old = old} is h = record {
  between = old;
  looked = subst (λ b. Looked b slot old old) (sym is) refl;
  request = λ yes_ passed. absurd (both_ways asked is yes_);
  sent = h;
}

-- the request at the hint that it gave was taken up
pub sent_taken : {g : GateSeen} {slot first : ℕ} {e : Event} {old new : Hinted} → IsLooked slot old new → is_move 3 (Some e) ≡ true → is_asking (Some e) ≡ false → IsSentAfter g slot first true (Some e) old new
sent_taken {g = g} {first = first} {e = e} {new = new} looks number quiet = record {
  between = new;
  looked = looks;
  request = λ yes_ passed. absurd (both_ways (is_passed 3 (Some e)) (ap (nat_lt 3) (eqb-true (move_number e) 3 number)) passed);
  sent = hint_free g first (Some e) new new quiet refl;
}

-- where a gate tells its state, a service is known exactly where there is one
same_none : (s : State) (o : Option Service) (u : Option Served) → KnowsService s o u → is_none u ≡ is_none o
same_none s None None h = refl
same_none s None (Some u) h = absurd h
same_none s (Some v) None h = absurd h
same_none s (Some v) (Some u) h = refl

-- the look after the service
pub sent_after_service : {g : GateSeen} {n : NodeAt} (t : NodeState) {w seat : Known} {e : Option Event} {old new : Hinted} → w ≡ seat → is_passed 2 e ≡ true → ((s : State) → FitsToldState g.state n seat s → None ≡ serves s n.slot t)
    → IsSentAfter g n.slot n.first (is_none w.service) e old new → IsSentBy g n seat (λ s. is_none (serves s n.slot t) && is_none (service s n.slot)) e old new
sent_after_service {n = n} t {w = w} {seat = seat} kept passed exact h = record {
  asked = is_none w.service;
  exact = ap (λ (k : Known). is_none k.service) kept ∙ ap (λ b. b && is_none seat.service) (sym passed);
  ruled = λ s told.
      ap (λ (k : Known). is_none k.service) kept ∙ same_none s (service s n.slot) seat.service told.fits.known.service
      ∙ ap (λ o. is_none o && is_none (service s n.slot)) (exact s told);
  after = h;
}

-- a move before the look
pub sent_before_look : {g : GateSeen} {n : NodeAt} {w : Known} {rule : State → Bool} (k : ℕ) {e : Event} {old new : Hinted} → nat_lt 2 k ≡ false → is_move k (Some e) ≡ true → ((s : State) → FitsToldState g.state n w s → rule s ≡ false)
    → HintOf g n.first (Some e) old new → IsSentBy g n w rule (Some e) old new
sent_before_look {w = w} k {e = e} below number ruled h = record {
  asked = false;
  exact = ap (λ b. b && is_none w.service) (sym (ap (nat_lt 2) (eqb-true (move_number e) k number) ∙ below));
  ruled = λ s told. sym (ruled s told);
  after = sent_unasked refl h;
}
