-- While a transaction is open some node has a reply, goes on with a service, or services nothing and has a hint.
use Rattle.std.proofs.Common.{rules, ◌≡◌, ◌∙◌, ℕ, ◌+◌, ◌<◌, Bool, true, false, cond, List, [], ◌∷◌, length, Option, Some, None, refl, sym, ap, subst, ⊎_elim, arith, not}
use Rattle.std.specs.Prelude.{◌==◌, find, is_none, is_some, nat_lt, option_and_then, option_map, slice_get}
use Rattle.std.specs.List.{Contains, list_all, list_any, range_with_len}
use Rattle.std.specs.Option.{option_map_or}
use Rattle.std.proofs.lemmas.Bool.{and_from, and_parts, both_ways, cases_Bool, eq-eqb, eqb-true, false_from_ne_true, not-true, or_left, or_right, true_from_ne_false}
use Rattle.std.proofs.lemmas.Option.{none-some, same_Some}
use Rattle.base.proofs.ContainsLaws.{Contains-filter, Contains-from_filter}
use Rattle.base.proofs.FindLaws.{is_some-find}
use Rattle.base.proofs.OptionLaws.{None-from_is_none, Some-from_is_some, map_or_at, map_or_true}
use Rattle.base.proofs.RangeLaws.{range_has_it}
use Rattle.component_trait.specs.Fold.{asked_by, wants_at}
use Rattle.component_trait.specs.Moves as moves
use Rattle.component_trait.specs.States.{NodeState, Service as Serving}
use Rattle.component_trait.specs.Tables.{next_of}
use Rattle.component_trait.specs.declared.next.Ask.{Ask as Request}
use Rattle.component_trait.specs.declared.next.Next.{Next}
use Rattle.component_trait.specs.declared.next.Next.TheVariants as next
use Rattle.config_graph.specs.Kinds.{row}
use Rattle.config_graph.specs.declared.kind.Kind.{Kind}
use Rattle.config_graph.specs.declared.kind.Kind.TheVariants.{Place, Map, Branch, Adder}
use Rattle.config_graph.specs.declared.node.Target.{Target}
use Rattle.quiesce_laws.specs.Advances.{is_onward}
use Rattle.quiesce_laws.specs.Drain.{Possible, is_heard_between_calls}
use Rattle.quiesce_word.proofs.PhaseLaws.{asked_busy}
use Rattle.quiesce_word.specs.Phases.{is_answered, is_asked, is_idle, is_in_more}
use Rattle.quiesce_core.proofs.CycleLaws.{all_of, any_of, of_any}
use Rattle.quiesce_core.proofs.LegalLaws.{legal}
use Rattle.quiesce_core.proofs.ReachLaws.{owner_of}
use Rattle.quiesce_core.proofs.StateLaws.{taken_is, target_service_is}
use Rattle.quiesce_core.proofs.TableLaws.{gate_place, live_made}
use Rattle.quiesce_core.specs.Knowledge.{KnowsService, OwnPort, own_port_after, served_after}
use Rattle.quiesce_core.specs.Legal.{Legal}
use Rattle.quiesce_core.specs.Reach.{IsPortOf}
use Rattle.quiesce_core.specs.Rules.{calls_have_ended, is_called_within, is_live_port, is_missing, is_taken, was_heard}
use Rattle.quiesce_core.specs.Runs.{done_by, state_after}
use Rattle.quiesce_core.specs.State.{State, exchange, is_live, owner, ports_of, service, slot, target, target_service}
use Rattle.quiesce_core.specs.Traffic.{IsConsistent}
use Rattle.quiesce_core.specs.WellFormed.{IsWellFormed}
use Rattle.quiesce_core.specs.declared.event.Event.{Event}
use Rattle.quiesce_core.specs.declared.event.Event.TheVariants as event
use Rattle.quiesce_core.specs.declared.known.Served.{Served}
use Rattle.quiesce_core.specs.declared.state.Gate.{Gate}
use Rattle.quiesce_core.specs.declared.state.Service.{Service}
use Rattle.quiesce_core.specs.declared.state.Slot.{Slot}
use Rattle.node_turn_laws.proofs.ReachedLaws.{holds_where_reached, placed}
use Rattle.node_turn_laws.specs.Agreement.{ServicesAgree, expects}
use Rattle.node_turn_laws.specs.Placed.{IsPlaced}
use Rattle.node_turn_laws.specs.Reached.{IsReached}
use Rattle.node_turn_laws.specs.Round.{live_nodes, round}
use Rattle.node_turn_laws.specs.Turn.{awaits_call, does_next, ends, goes_on, has_reply, hears, is_call, reply_to, serves}
use Rattle.node_turn_laws.specs.World.{World, first_port, inbox, state_of}
use Rattle.node_turn_laws.specs.Posted.{ArePosted, waiting_at}
use Rattle.node_turn_laws.specs.Requests.{kept_back, leads_to, waits, waits_for}
use Rattle.node_turn_laws.proofs.HintLaws.{hinted_where_reached, traffic_where_reached, well_where_reached}
use Rattle.node_turn_laws.proofs.PostLemmas.{count_of, is_at, read}
use Rattle.node_turn_laws.proofs.RestLaws.{AreIdle}
use Rattle.node_turn_laws.proofs.StillLaws.{IsQuiet, stayed_itself, still_turns}

-- what quiesce_laws and component_trait say
abbrev pub SomeEventIsPossible : Type 0
SomeEventIsPossible = (s : State) → IsWellFormed s → IsConsistent s → (p : ℕ) → is_idle (exchange s p).phase ≡ false → Possible s

abbrev pub WhoWantsAsksNothing : Type 0
WhoWantsAsksNothing = (t : NodeState) (x : Request) → moves.wants t ≡ Some x → asked_by (moves.next t) ≡ None

-- a service asks at a requirement of its kind
asks_within : (k : Kind) (a v r : ℕ) (answers : List ℕ) (x : Request) → next_of k a v r answers ≡ next.Ask x → x.require < length (row k).requires_
asks_within Place a v r [] x e = search rules
asks_within Place a v r (b ∷ []) x e = search rules
asks_within Place a v r (b ∷ c ∷ []) x e = search rules
asks_within Place a v r (b ∷ c ∷ d ∷ []) x e = search rules
asks_within Place a v r (b ∷ c ∷ d ∷ f ∷ g) x e = search rules
asks_within Map a v r [] x e = search rules
asks_within Map a v r (b ∷ c) x e = search rules
asks_within Branch a v r [] x e = search rules
asks_within Branch a v r (b ∷ []) x e = search rules
asks_within Branch a v r (b ∷ c ∷ d) x e = search rules
asks_within Adder a v r [] x e = search rules
asks_within Adder a v r (b ∷ c) x e = search rules
asks_within _ a v r answers x e = search rules

-- ---- one node

some_none : {A : Type 0} (x : A) → Some x ≡ None → ⊥
some_none x h = none-some x (sym h)

module _ (s : State) (n : ℕ) (m : Slot) (t : NodeState) (es : List Event) (at : IsPlaced s n m t es) where
  first_is : first_port s n ≡ m.first_port
  first_is = map_or_at (λ (j : Slot). j.first_port) (slot s.config n) 0 m at.made

  -- a reply at a port of its own is one that it ends or answers
  pub replies : (p : ℕ) → IsPortOf s.config n p → has_reply s p ≡ true → ends s n t ≡ None → ⊥
  replies p o reply none_ = by (find (has_reply s) (ports_of s.config n)) refl none_
    where
      by : (x : Option ℕ) → find (has_reply s) (ports_of s.config n) ≡ x → option_map (reply_to s t) x ≡ None → ⊥
      by (Some q) e h = some_none (reply_to s t q) h
      by None e h =
          both_ways (list_any (has_reply s) (ports_of s.config n))
          (sym (is_some-find (has_reply s) (ports_of s.config n)) ∙ ap is_some e)
          (of_any s.config n (has_reply s) p o reply)

  -- its service, as it has it itself
  record Inside (v : Service) : Type 0 where
    held : Serving
    held_is : t.service ≡ Some held
    waits_is : held.waits ≡ not v.heard

  inside : (v : Service) → service s n ≡ Some v → Inside v
  inside v is = by (served_after es) t.service refl refl (subst (λ o. KnowsService s o (served_after es)) is at.knows.services) at.agrees.services
    where
      far : ℕ → OwnPort
      far p = own_port_after p es

      by : (u : Option Served) (x : Option Serving) → served_after es ≡ u → t.service ≡ x → KnowsService s (Some v) (served_after es) → ServicesAgree (λ p. own_port_after p es) t.service (served_after es) → Inside v
      by None x e f k a = absurd (subst (λ o. KnowsService s (Some v) o) e k)
      by (Some u) None e f k a = absurd (subst (λ o. ServicesAgree (λ p. own_port_after p es) o (Some u)) f (subst (λ o. ServicesAgree (λ p. own_port_after p es) t.service o) e a))
      by (Some u) (Some w) e f k a =
          let known = subst (λ o. KnowsService s (Some v) o) e k in
          let agree = subst (λ o. ServicesAgree (λ p. own_port_after p es) o (Some u)) f (subst (λ o. ServicesAgree (λ p. own_port_after p es) t.service o) e a) in
          record { held = w; held_is = f; waits_is = agree.waits ∙ ap not known.heard }

  module _ (v : Service) (is : service s n ≡ Some v) (still : awaits_call s n ≡ false) (none_ : serves s n t ≡ None) where
    goes_nowhere : goes_on s n t v ≡ None
    goes_nowhere = sym ((λ i. cond (still i) None (option_and_then (goes_on s n t) (is i)))) ∙ none_

    pub hears_it : v.heard ≡ false → is_asked (exchange s v.port).phase ≡ true → ⊥
    hears_it unheard asked =
        some_none (event.Hear v.port (exchange s v.port).serial (exchange s v.port).value)
        (sym (λ i. cond (unheard i) (option_and_then (does_next s (first_port s n) v.port) (moves.next t)) (cond (asked i) (Some (event.Hear v.port (exchange s v.port).serial (exchange s v.port).value)) None)) ∙ goes_nowhere)

    -- at a port where it calls no transaction is open: neither a call, nor one that it wants
    asked_idle : WhoWantsAsksNothing → (x : Request) → moves.next t ≡ Some (next.Ask x) → (w : Serving) → t.service ≡ Some w → next_of t.kind t.arg w.value w.reply w.answers ≡ next.Ask x
        → is_idle (exchange s (first_port s n + x.require)).phase ≡ true
    asked_idle law x is_next w held table =
        let q = first_port s n + x.require in
        let within : x.require < length (row m.node.kind).requires_ = subst (λ k. x.require < length (row k).requires_) at.kind (asks_within t.kind t.arg w.value w.reply w.answers x table) in
        let first = first_is in
        let o : IsPortOf s.config n q = record { node = m; made = at.made; from = omega (arith, first); below = omega (arith, first, within) } in
        true_from_ne_false (is_idle (exchange s q).phase) (λ busy. by q o busy (exchange s q).within refl)
      where
        wants_it : (q : ℕ) (y : Request) → moves.wants t ≡ Some y → ⊥
        wants_it q y wanted = some_none x (sym (ap asked_by is_next) ∙ law t y wanted)

        by : (q : ℕ) → IsPortOf s.config n q → is_idle (exchange s q).phase ≡ false → (o : Option ℕ) → (exchange s q).within ≡ o → ⊥
        by q o busy (Some i) e =
            both_ways (awaits_call s n) still
            (of_any s.config n (is_call s) q o (and_from (not (is_idle (exchange s q).phase)) (is_some (exchange s q).within) (ap not busy) (ap is_some e)))
        by q o busy None e =
            let known = at.knows.ports q o in
            let expected = at.agrees.ports q (ap (λ (y : OwnPort). y.idle) known ∙ busy) in
            let begun : wants_at m.first_port t q ≡ true = sym (ap (λ b. expects b m.first_port t q) (ap (λ (y : OwnPort). y.consequent) known ∙ ap is_some e)) ∙ expected in
            let y = map_or_true (λ (y : Request). m.first_port + y.require == q) (moves.wants t) begun in
            wants_it q y.0 y.1

    pub gives_it : WhoWantsAsksNothing → v.heard ≡ true → ⊥
    gives_it law heard =
        let i = inside v is in
        let next_is : moves.next t ≡ Some (next_of t.kind t.arg i.held.value i.held.reply i.held.answers) =
        ap (option_and_then (moves.next_in t)) i.held_is ∙ ap (λ b. cond b None (Some (next_of t.kind t.arg i.held.value i.held.reply i.held.answers))) (i.waits_is ∙ ap not heard) in
        let goes : option_and_then (does_next s (first_port s n) v.port) (moves.next t) ≡ None =
        sym (ap (λ b. cond b (option_and_then (does_next s (first_port s n) v.port) (moves.next t)) (hears s v.port)) heard) ∙ goes_nowhere in
        by i.held i.held_is (next_of t.kind t.arg i.held.value i.held.reply i.held.answers) refl next_is (sym (ap (option_and_then (does_next s (first_port s n) v.port)) next_is) ∙ goes)
      where
        calls_none : (q y : ℕ) (a b : Bool) → a ≡ true → cond (not a) None (cond b (Some (event.Miss q)) (Some (event.Call q ((exchange s q).serial + 1) y))) ≡ None → ⊥
        calls_none q y true true h g = some_none (event.Miss q) g
        calls_none q y true false h g = some_none (event.Call q ((exchange s q).serial + 1) y) g
        calls_none q y false b h g = both_ways false refl h

        by : (w : Serving) → t.service ≡ Some w → (x : Next) → next_of t.kind t.arg w.value w.reply w.answers ≡ x → moves.next t ≡ Some (next_of t.kind t.arg w.value w.reply w.answers)
            → does_next s (first_port s n) v.port (next_of t.kind t.arg w.value w.reply w.answers) ≡ None → ⊥
        by w held (next.Give y) table is_next h = some_none (event.Give v.port (exchange s v.port).serial y) (sym (ap (does_next s (first_port s n) v.port) table) ∙ h)
        by w held (next.More y) table is_next h = some_none (event.More v.port (exchange s v.port).serial y) (sym (ap (does_next s (first_port s n) v.port) table) ∙ h)
        by w held (next.Ask x) table is_next h =
            let q = first_port s n + x.require in
            calls_none q x.value (is_idle (exchange s q).phase) (is_missing s q) (asked_idle law x (is_next ∙ ap Some table) w held table) (sym (ap (does_next s (first_port s n) v.port) table) ∙ h)

-- ---- all nodes

module _ (possible : SomeEventIsPossible) (law : WhoWantsAsksNothing) (w : World) (r : IsReached w) (posted : ArePosted w) (quiet : (n : ℕ) → is_live w.machine.config n ≡ true → IsQuiet w n) where
  abbrev s : State
  s = w.machine

  well : IsWellFormed s
  well = well_where_reached w r

  traffic : IsConsistent s
  traffic = traffic_where_reached w r

  record AtPlace (n : ℕ) : Type 0 where
    made : Slot
    state : NodeState
    told : state_of w n ≡ Some state
    at : IsPlaced s n made state (done_by n w.events)

  at_place : (n : ℕ) → is_live s.config n ≡ true → AtPlace n
  at_place n live =
      let h = holds_where_reached w r in
      let m = map_or_true (λ (x : Slot). x.live) (slot s.config n) live in
      let there : slot (state_after w.events).config n ≡ Some m.0 = sym (ap (λ (x : State). slot x.config n) h.0) ∙ m.1 in
      let node = h.1.nodes n m.0 there in
      record {
        made = m.0;
        state = node.state;
        told = node.is;
        at = subst (λ x. IsPlaced x n m.0 node.state (done_by n w.events)) (sym h.0) (placed w.folds w.events h.1 n m.0 there m.2 node.state node.is);
      }

  live_owner : (p : ℕ) → is_live_port s.config p ≡ true → is_live s.config (owner s.config p) ≡ true
  live_owner p h = (and_parts (nat_lt p (length s.config.gates)) (is_live s.config (owner s.config p)) h).1

  no_replies : (p : ℕ) → is_live_port s.config p ≡ true → has_reply s p ≡ true → ⊥
  no_replies p live reply =
      let n = owner s.config p in
      let alive = live_owner p live in
      let x = at_place n alive in
      replies s n x.made x.state (done_by n w.events) x.at p (well.sound.ports p (gate_place s p live)) reply ((quiet n alive).no_reply x.state x.told)

  -- the service of a port by its target, none of whose calls is open
  record Served_ (p : ℕ) : Type 0 where
    node : ℕ
    serving : Service
    serviced : service s node ≡ Some serving
    of_port : serving.port ≡ p
    heard_is : was_heard (target_service s p) ≡ serving.heard
    live : is_live s.config node ≡ true
    no_calls : awaits_call s node ≡ false

  served : (p : ℕ) → is_taken s p ≡ true → calls_have_ended s p ≡ true → Served_ p
  served p taken ended =
      let u = taken_is s p taken in
      let n = u.to.node in
      record {
        node = n;
        serving = u.serving;
        serviced = u.serviced;
        of_port = u.of_port;
        heard_is = ap was_heard (target_service_is s p u.to u.leads ∙ u.serviced);
        live = (well.sound.targets p u.to u.leads).live;
        no_calls = false_from_ne_true (awaits_call s n) (λ h. none_called n u.serving u.serviced u.of_port
            (sym (map_or_at (λ (t : Target). list_all (λ q. not (is_called_within s p q)) (ports_of s.config t.node)) (target s.config p) true u.to u.leads) ∙ ended) h);
      }
    where
      none_called : (n : ℕ) (v : Service) → service s n ≡ Some v → v.port ≡ p → list_all (λ q. not (is_called_within s p q)) (ports_of s.config n) ≡ true → awaits_call s n ≡ true → ⊥
      none_called n v is of_port all h =
          let q = any_of s.config n (is_call s) h in
          let both = and_parts (not (is_idle (exchange s q.port).phase)) (is_some (exchange s q.port).within) q.passes in
          let i = Some-from_is_some (exchange s q.port).within both.1 in
          let c = traffic.consequent q.port i.0 i.1 in
          let mine : owner s.config q.port ≡ n = owner_of s.config well.sound n q.port q.owned in
          let same : c.serving ≡ v = same_Some c.serving v (sym c.serviced ∙ ap (service s) mine ∙ is) in
          let within : is_called_within s p q.port ≡ true =
          ap (λ o. option_map_or (λ x. x == p) o false) i.1 ∙ eq-eqb i.0 p (sym c.of_port ∙ ap (λ (x : Service). x.port) same ∙ of_port) in
          both_ways (not (is_called_within s p q.port)) (ap not within)
          (all_of s.config n (λ j. not (is_called_within s p j)) q.port all q.owned)

  no_further : (p : ℕ) → is_taken s p ≡ true → calls_have_ended s p ≡ true → (was_heard (target_service s p) ≡ true → ⊥) × (was_heard (target_service s p) ≡ false → is_asked (exchange s p).phase ≡ true → ⊥)
  no_further p taken ended =
      let u = served p taken ended in
      let x = at_place u.node u.live in
      let none_ = (quiet u.node u.live).no_service x.state x.told in (
        λ heard. gives_it s u.node x.made x.state (done_by u.node w.events) x.at u.serving u.serviced u.no_calls none_ law (sym u.heard_is ∙ heard),
        λ unheard asked. hears_it s u.node x.made x.state (done_by u.node w.events) x.at u.serving u.serviced u.no_calls none_ (sym u.heard_is ∙ unheard)
            (ap (λ q. is_asked (exchange s q).phase) u.of_port ∙ asked),
      )

  no_requests : (p : ℕ) → is_asked (exchange s p).phase ≡ true → not (is_taken s p) ≡ true → is_none (target_service s p) ≡ true → (t : Target) → target s.config p ≡ Some t → ⊥
  no_requests p asked untaken free t leads =
      let n = t.node in
      let live : is_live s.config n ≡ true = (well.sound.targets p t leads).live in
      let x = at_place n live in
      let nothing_ : service s n ≡ None = sym (target_service_is s p t leads) ∙ None-from_is_none (target_service s p) free in
      let empty = (quiet n live).no_hint x.state x.told nothing_ in
      let waits_ : waits_for s n p ≡ true =
      and_from (waits s p) (leads_to s.config n p) (and_from (is_asked (exchange s p).phase) (not (is_taken s p)) asked untaken)
      (map_or_at (λ (y : Target). y.node == n) (target s.config p) false t leads ∙ eq-eqb n n refl) in
      let h = hinted_where_reached w r in
      let one : ◌≡◌ {A = ℕ} (cond (waits_for s n p) 1 0) 1 = ap {B = ℕ} (λ b. cond b 1 0) waits_ in
      let all = h.hints n p in
      let none_ = ap (count_of p) empty in
      by n p (kept_back w p) refl empty (omega (arith, one, all, none_))
    where
      by : (n p : ℕ) (o : Option ℕ) → kept_back w p ≡ o → inbox w n ≡ [] → ◌≡◌ {A = ℕ} (cond (is_at n (kept_back w p)) 1 0) 1 → ⊥
      by n p None e empty h = let none_ : ◌≡◌ {A = ℕ} (cond (is_at n (kept_back w p)) 1 0) 0 = ap {B = ℕ} (λ o. cond (is_at n o) 1 0) e in absurd (omega (arith, h, none_))
      by n p (Some k) e empty h = ⊎_elim
          (λ (same : (k == n) ≡ true).
          let there : kept_back w p ≡ Some n = e ∙ ap Some (eqb-true k n same) in
          let some_ = waits_at n p there in
          let none_ = ap (λ (xs : List ℕ). length xs) empty in
          let low = posted some_.0 some_.1 n some_.2 in
          absurd (omega (arith, low, none_)))
          (λ (other : (k == n) ≡ false).
          let none_ : ◌≡◌ {A = ℕ} (cond (is_at n (kept_back w p)) 1 0) 0 = ap {B = ℕ} (λ o. cond (is_at n o) 1 0) e ∙ ap {B = ℕ} (λ b. cond b 1 0) other in
          absurd (omega (arith, h, none_)))
          (cases_Bool (k == n))
        where
          waits_at : (n p : ℕ) → kept_back w p ≡ Some n → (i : ℕ) × (j : ℕ) × (waiting_at w i j ≡ Some n)
          waits_at n p h = from (slice_get s.config.gates p) h
            where
              from : (o : Option Gate) → option_and_then (read w.waiting) o ≡ Some n → (i : ℕ) × (j : ℕ) × (waiting_at w i j ≡ Some n)
              from None g = absurd (none-some n g)
              from (Some g) is = (g.owner, g.require, is)

  none_possible : (e : Event) → is_onward e ≡ true → Legal s e → is_heard_between_calls s e ≡ true → ⊥
  none_possible (event.End p k v) on l between =
      no_replies p l.live (or_left (is_answered (exchange s p).phase) (is_in_more (exchange s p).phase) l.answered)
  none_possible (event.Ask p k v) on l between =
      no_replies p l.live (or_right (is_answered (exchange s p).phase) (is_in_more (exchange s p).phase) l.in_more)
  none_possible (event.Give p k v) on l between = (no_further p l.taken l.calls_ended).0 l.heard
  none_possible (event.Hear p k v) on l between =
      (no_further p l.taken between).1 (not-true (was_heard (target_service s p)) l.unheard) l.asked
  none_possible (event.Take p k v) on l between =
      let t = Some-from_is_some (target s.config p) (traffic.linked p (asked_busy (exchange s p).phase l.asked)) in
      no_requests p l.asked l.untaken l.free t.0 t.1
  none_possible _ on l between = both_ways false refl on

  pub all_idle : AreIdle s
  all_idle p = true_from_ne_false (is_idle (exchange s p).phase) (λ busy.
      let e = possible s well traffic p busy in
      none_possible e.event e.onward (legal s e.event e.allowed) e.between_calls)

pub still_is_idle : SomeEventIsPossible → WhoWantsAsksNothing → (w : World) (allowed : Bool) → IsReached w → ArePosted w → (round allowed w).moved ≡ false → AreIdle w.machine
still_is_idle possible law w allowed r posted still =
    all_idle possible law w r posted (λ n live.
    still_turns allowed w (live_nodes w) (record { world = w; moved = false }) r
    (λ k in_. (Contains-from_filter (is_live w.machine.config) (range_with_len 0 (length w.machine.config.slots)) k in_).1)
    (stayed_itself w) still n
    (Contains-filter (is_live w.machine.config) (range_with_len 0 (length w.machine.config.slots)) n (in_range n live) live))
  where
    in_range : (n : ℕ) → is_live w.machine.config n ≡ true → Contains (range_with_len 0 (length w.machine.config.slots)) n
    in_range n live = range_has_it 0 (length w.machine.config.slots) n (omega arith) (let made = live_made w.machine.config n live in omega (arith, made))
