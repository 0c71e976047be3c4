-- Each event of a node leads a value on its way through a row.
use Rattle.std.proofs.Common.{◌≡◌, ◌∙◌, ℕ, ◌+◌, ◌%◌, ◌<◌, ◌≤◌, Bool, true, false, cond, List, [], ◌∷◌, ◌++◌, Option, Some, None, refl, sym, ap, subst, arith, inl, inr}
use Rattle.std.specs.Prelude.{◌⊎◌, ⊤, ◌==◌, ◌||◌, option_and_then, is_none, is_some}
use Rattle.std.proofs.lemmas.Bool.{and_parts, both_ways, eq-eqb, eqb-true, false_from_ne_true, ne_eqb}
use Rattle.base.proofs.PlaceLaws.{heads_are}
use Rattle.config_graph.specs.declared.TheConstants.{VALUE_LIMIT}
use Rattle.config_graph.specs.declared.kind.Kind.TheVariants.{Map}
use Rattle.component_trait.specs.Fold.{after_event, asked_by, is_request}
use Rattle.component_trait.specs.Moves as moves
use Rattle.component_trait.proofs.FoldLaws.{where_so_then}
use Rattle.component_trait.specs.States.{Kept, NodeState}
use Rattle.component_trait.specs.States as node
use Rattle.quiesce_word.specs.Phases.{is_idle, is_asked, is_answered, is_in_more}
use Rattle.quiesce_word.specs.declared.word.TheConstants.{LAST_SERIAL}
use Rattle.quiesce_word.specs.declared.phase.Phase.TheVariants as phase
use Rattle.quiesce_word.proofs.PhaseLaws.{answered_busy, answered_not_asked, answered_not_more, asked_busy, asked_not_more}
use Rattle.quiesce_core.specs.Alters.{exchange_by}
use Rattle.quiesce_core.specs.Doers.{is_end_at, is_give_at}
use Rattle.quiesce_core.specs.Effect.{effect}
use Rattle.quiesce_core.specs.Rules.{is_missing, is_taken}
use Rattle.quiesce_core.specs.Runs.{is_doer}
use Rattle.quiesce_core.specs.State.{State, exchange, owner, service, target}
use Rattle.quiesce_core.specs.declared.event.Event.{Event}
use Rattle.quiesce_core.specs.declared.event.Event.TheVariants.{Begin, Call, Give, End}
use Rattle.quiesce_core.specs.declared.state.Exchange.{Exchange}
use Rattle.quiesce_core.proofs.AlterLaws.{exchanges_next}
use Rattle.quiesce_core.proofs.PortEventLaws.{next_serial}
use Rattle.quiesce_core.proofs.StabilityLaws.{answers_stay, taken_ports_stay}
use Rattle.quiesce_core.proofs.StateLaws.{is_taken_if}
use Rattle.node_turn_laws.specs.Agreement.{expects}
use Rattle.result_laws.proofs.EventLaws.{no_start, serial_stays, starts_at, Now, is_take, take_of, answered_untaken, asked_by_same, asked_stays, idle_by_same, idle_not_asked, idle_not_more, idle_stays, idle_untaken, led_to, no_reply, no_take, not_end, passes_by, take_at, takes_at, took_up, untaken_no_reply, untaken_stays, valued_by_same}
use Rattle.result_laws.proofs.FactLaws.{Facts, at_work, of_parts}
use Rattle.result_laws.proofs.Passing.{Few, Stop, OnlyTo, ToMap, ToSink, Way, passed, last_port, Inside, MapHas, SinkHas, At, Going, MapDoes, SinkDoes, TakesUp, map_does, map_takes, sink_does, sink_keeps, sink_takes}
use Rattle.result_laws.proofs.Passing as at

-- an idle map expects nothing
idle_expects_nothing : (first q : ℕ) (n : NodeState) (b : Bool) → n.kind ≡ Map → n.service ≡ None → expects b first n q ≡ false
idle_expects_nothing first q n b kind none_ = ap (λ x. expects b first x q) (of_parts n Map None kind none_) ∙ by b
  where
    by : (b : Bool) → expects b first (record { kind = Map; arg = n.arg; kept = n.kept; service = None }) q ≡ false
    by true = refl
    by false = refl

-- a request that waits
pub waits_there : (s : State) (f : ℕ → NodeState) (n : ℕ) (ms : List Stop) (q y t : ℕ) → is_asked (exchange s q).phase ≡ true → (exchange s q).value ≡ y → is_taken s q ≡ false → Few s n ms → Going s f n q y ms t false
waits_there s f n [] q y t a v u few = at.waiting a v u refl tt
waits_there s f n (m ∷ ms) q y t a v u few = at.waiting a v u refl few

module _ (s : State) (f g : ℕ → NodeState) (facts : Facts s f) where
  -- ---- the way below a port that isn't taken is still

  pub free_map : (m : Stop) (p : ℕ) → ToMap s.config f p m → (f m.at).service ≡ None → is_idle (exchange s m.port).phase ≡ true
  free_map m p to none_ = by (is_idle (exchange s m.port).phase) refl
    where
      by : (b : Bool) → is_idle (exchange s m.port).phase ≡ b → is_idle (exchange s m.port).phase ≡ true
      by true is = is
      by false is =
          absurd (both_ways (expects (is_some (exchange s m.port).within) to.to.made.first_port (f m.at) m.port)
          (idle_expects_nothing to.to.made.first_port m.port (f m.at) (is_some (exchange s m.port).within) to.kind none_)
          (facts.expected m.at m.port to.to.made to.to.there to.owned is))

  pub unserved : (m : Stop) (p : ℕ) → ToMap s.config f p m → is_taken s p ≡ false → (f m.at).service ≡ None
  unserved m p to untaken = by (f m.at).service refl
    where
      by : (o : Option node.Service) → (f m.at).service ≡ o → (f m.at).service ≡ None
      by None is = is
      by (Some u) is =
          let v = facts.served m.at u is in
          let it = facts.traffic.serving m.at v.0 v.1 in
          let one : v.0.port ≡ p = to.to.only v.0.port it.provide it.linked in
          absurd (both_ways (is_taken s p) untaken (is_taken_if s p (record { node = m.at; provide = 0 }) v.0 to.to.leads v.1 one))

  still : (ms : List Stop) (q t : ℕ) → Way s.config f q ms t → is_idle (exchange s q).phase ≡ true → is_idle (exchange s (last_port q ms)).phase ≡ true
  still [] q t w idle = idle
  still (m ∷ ms) q t w idle = still ms m.port t w.1 (free_map m q w.0 (unserved m q w.0 (idle_untaken s f g facts q idle)))

  still_below : (m : Stop) (ms : List Stop) (p t : ℕ) → Way s.config f p (m ∷ ms) t → is_taken s p ≡ false → is_idle (exchange s (last_port m.port ms)).phase ≡ true
  still_below m ms p t w untaken = still ms m.port t w.1 (free_map m p w.0 (unserved m p w.0 untaken))

  -- a map in no service begins nothing at its port
  no_start_there : (e : Event) → Now s f g e → (m : Stop) (p : ℕ) → ToMap s.config f p m → (f m.at).service ≡ None → starts_at m.port e ≡ false
  no_start_there e now m p to none_ = false_from_ne_true (starts_at m.port e) (λ h. by e refl h)
    where
      mine : (z : Event) → e ≡ z → is_doer s m.at z ≡ true → after_event to.to.made.first_port (f m.at) z ≡ Some (g m.at)
      mine z is does = ap (after_event to.to.made.first_port (f m.at)) (sym is) ∙ now.folds.mine m.at to.to.made to.to.there (ap (is_doer s m.at) is ∙ does)

      own : (q : ℕ) → (q == m.port) ≡ true → (owner s.config q == m.at) ≡ true
      own q h = eq-eqb (owner s.config q) m.at (ap (owner s.config) (eqb-true q m.port h) ∙ to.owned)

      by : (z : Event) → e ≡ z → starts_at m.port z ≡ true → ⊥
      by (Begin q k v) is h =
          let w = where_so_then (is_request to.to.made.first_port q v (moves.wants (f m.at))) (f m.at) (g m.at) (mine (Begin q k v) is (own q h)) in
          both_ways _ (ap (λ o. is_request to.to.made.first_port q v o) (ap moves.wants (of_parts (f m.at) Map (f m.at).service to.kind refl))) w.0
      by (Call q k v) is h =
          let w = where_so_then (is_request to.to.made.first_port q v (asked_by (moves.next (f m.at)))) (f m.at) (g m.at) (mine (Call q k v) is (own q h)) in
          both_ways _ (ap (λ o. is_request to.to.made.first_port q v (asked_by o)) (ap (λ o. option_and_then (moves.next_in (f m.at)) o) none_)) w.0
      by _ is h = both_ways false refl h

  -- nothing begins below a port that isn't taken
  pub few_stay : (e : Event) → Now s f g e → (k : ℕ) (ms : List Stop) (p t : ℕ) → Way s.config f p ms t → is_taken s p ≡ false → Few s k ms → Few (effect s e) k ms
  few_stay e now k [] p t w untaken few = tt
  few_stay e now k (m ∷ ms) p t w untaken few =
      let rest = unserved m p w.0 untaken in
      let same = serial_stays s f g facts m.port e now.legal (no_start_there e now m p w.0 rest) in
      let low = few.0 in
      (omega (arith, same, low), few_stay e now k ms m.port t w.1 (idle_untaken s f g facts m.port (free_map m p w.0 rest)) few.1)

  -- ---- the items of the sink

  pub way_end : (ms : List Stop) (p t : ℕ) → Way s.config f p ms t → ToSink s.config f (last_port p ms) t
  way_end [] p t w = w
  way_end (m ∷ ms) p t w = way_end ms m.port t w.1

  pub items_stay : (e : Event) → Now s f g e → (r t : ℕ) → ToSink s.config f r t → takes_at r e ≡ false → (g t).kept.items ≡ (f t).kept.items
  items_stay e now r t to no_take_there = by (is_doer s t e) refl
    where
      not_take : is_doer s t e ≡ true → (b : Bool) → is_take e ≡ b → is_take e ≡ false
      not_take does false is = is
      not_take does true is =
          let q = take_of e is in
          let it = take_at q.0 e q.1 in
          let led = led_to s f g facts q.0 t (subst (λ z. is_doer s t z ≡ true) it.is does) in
          let one : q.0 ≡ r = to.to.only q.0 led.0.provide (led.1 ∙ ap (λ n. Some (record { node = n; provide = led.0.provide })) led.2) in
          absurd (both_ways (takes_at r e) no_take_there (ap (λ i. takes_at i e) (sym one) ∙ q.1))

      by : (b : Bool) → is_doer s t e ≡ b → (g t).kept.items ≡ (f t).kept.items
      by false other = ap (λ (n : NodeState). n.kept.items) (now.folds.others t other)
      by true does =
          ap (λ (k : Kept). k.items) (sink_keeps to.to.made.first_port (f t) (g t) e to.kind (not_take does (is_take e) refl) (now.folds.mine t to.to.made to.to.there does))

  -- the sink has nothing to take up below an idle port, and below one that isn't taken
  pub rest_stays : (e : Event) → Now s f g e → (ms : List Stop) (q t : ℕ) → Way s.config f q ms t → is_idle (exchange s q).phase ≡ true → (g t).kept.items ≡ (f t).kept.items
  rest_stays e now ms q t w idle =
      let last = last_port q ms in items_stay e now last t (way_end ms q t w) (no_take s f g facts last e now.legal (idle_not_asked s f g facts last (still ms q t w idle)))

-- ---- before which n values went through the row

module _ (s : State) (f g : ℕ → NodeState) (facts : Facts s f) (n : ℕ) (room : n < LAST_SERIAL) where
  pub record Led (e : Event) (ms : List Stop) (p x t : ℕ) (d : Bool) : Type 0 where
    pub next : Bool
    pub going : Going (effect s e) g n p x ms t next
    pub items : ((next ≡ d) × ((g t).kept.items ≡ (f t).kept.items)) ⊎ ((d ≡ false) × (next ≡ true) × ((g t).kept.items ≡ (f t).kept.items ++ passed x ms ∷ []))

  -- ---- at the sink

  given_by_sink : (e : Event) → Now s f g e → (p x t : ℕ) (d : Bool) (a : ℕ) (kept : Kept) → ToSink s.config f p t → (f t).kept ≡ kept → d ≡ true → is_doer s t e ≡ true
      → SinkDoes a kept x (g t) e → Led e [] p x t d
  given_by_sink _ now p x t d a kept to was given does (at.gives_1 q j v one keeps) =
      let led = led_to s f g facts q t does in
      let here : q ≡ p = to.to.only q led.0.provide (led.1 ∙ ap (λ n. Some (record { node = n; provide = led.0.provide })) led.2) in
      let after : exchange (effect s (Give q j v)) p ≡ record (exchange s p) { phase = phase.Answered; value = v } =
      exchanges_next s (Give q j v) facts.well now.legal p ∙ ap (λ b. cond b (record (exchange s p) { phase = phase.Answered; value = v }) (exchange s p)) (eq-eqb q p here) in
      record {
        next = d;
        going = at.answered (ap (λ (y : Exchange). is_answered y.phase) after) (ap (λ (y : Exchange). y.value == 0) after ∙ ap (λ i. i == 0) one) given tt;
        items = inl (refl, ap (λ (k : Kept). k.items) (keeps ∙ sym was));
      }

  sink_step : (e : Event) → Now s f g e → (p x t : ℕ) (d : Bool) → ToSink s.config f p t → At s p x ⊤ ⊤ (SinkHas (f t) x) d → is_end_at p e ≡ false → Led e [] p x t d
  sink_step e now p x t d to (at.answered a not_0 sure after) no_end =
      let same = answers_stay s e facts.well facts.traffic now.legal p a no_end in
      record {
        next = d;
        going = at.answered (ap (λ (y : Exchange). is_answered y.phase) same ∙ a) (ap (λ (y : Exchange). y.value == 0) same ∙ not_0) sure tt;
        items = inl (refl, items_stay s f g facts e now p t to (no_take s f g facts p e now.legal (answered_not_asked (exchange s p).phase a)));
      }
  sink_step e now p x t d to (at.waiting a v u dn before) no_end = by (takes_at p e) refl
    where
      by : (b : Bool) → takes_at p e ≡ b → Led e [] p x t d
      by true h =
          let up = took_up s f g facts e p t x to.to.made.first_port now to.to.leads v (now.folds.mine t to.to.made to.to.there) (take_at p e h) in
          let has = sink_takes to.to.made.first_port (f t) (g t) p up.serial x to.kind up.folds in
          record {
            next = true;
            going = at.taken (asked_by_same s f g facts e p up.same a) (valued_by_same s f g facts e p x up.same v) up.taken (record { arg = (f t).arg; kept = has.0.kept; is = has.0.is; given = refl });
            items = inr (dn, refl, has.1);
          }
      by false h =
          let r = untaken_no_reply s f g facts p e now.legal u in
          let same = asked_stays s f g facts p e now.legal a r.0 r.1 in
          record {
            next = d;
            going = at.waiting (asked_by_same s f g facts e p same a) (valued_by_same s f g facts e p x same v) (untaken_stays s f g facts p e now h u) dn tt;
            items = inl (refl, items_stay s f g facts e now p t to h);
          }
  sink_step e now p x t d to (at.taken a v u has) no_end = by (is_doer s t e) refl
    where
      by : (b : Bool) → is_doer s t e ≡ b → Led e [] p x t d
      by false other =
          let r = no_reply s f g facts e p t 0 to.to.leads u other in
          let same = asked_stays s f g facts p e now.legal a r.0 r.1 in
          let kept = now.folds.others t other in
          record {
            next = d;
            going = at.taken (asked_by_same s f g facts e p same a) (valued_by_same s f g facts e p x same v) (taken_ports_stay s e facts.well facts.traffic now.legal p u r.0)
                (record { arg = has.arg; kept = has.kept; is = kept ∙ has.is; given = has.given });
            items = inl (refl, ap (λ (n : NodeState). n.kept.items) kept);
          }
      by true does =
          given_by_sink e now p x t d has.arg has.kept to (ap (λ (n : NodeState). n.kept) has.is) has.given does
          (sink_does to.to.made.first_port has.arg has.kept x e (g t) (ap (λ n. after_event to.to.made.first_port n e) (sym has.is) ∙ now.folds.mine t to.to.made to.to.there does))

  -- ---- at a map

  going_busy : (q y : ℕ) (Before After : Type 0) (Has : Bool → Type 0) (d : Bool) → At s q y Before After Has d → is_idle (exchange s q).phase ≡ true → ⊥
  going_busy q y Before After Has d (at.waiting a v u dn before) idle = both_ways (is_idle (exchange s q).phase) (asked_busy (exchange s q).phase a) idle
  going_busy q y Before After Has d (at.taken a v u has) idle = both_ways (is_idle (exchange s q).phase) (asked_busy (exchange s q).phase a) idle
  going_busy q y Before After Has d (at.answered a not_0 sure after) idle = both_ways (is_idle (exchange s q).phase) (answered_busy (exchange s q).phase a) idle

  going_heard : (q y : ℕ) (Before After : Type 0) (Has : Bool → Type 0) (d : Bool) → At s q y Before After Has d → is_in_more (exchange s q).phase ≡ true → ⊥
  going_heard q y Before After Has d (at.waiting a v u dn before) m = both_ways (is_in_more (exchange s q).phase) (asked_not_more (exchange s q).phase a) m
  going_heard q y Before After Has d (at.taken a v u has) m = both_ways (is_in_more (exchange s q).phase) (asked_not_more (exchange s q).phase a) m
  going_heard q y Before After Has d (at.answered a not_0 sure after) m = both_ways (is_in_more (exchange s q).phase) (answered_not_more (exchange s q).phase a) m

  -- what is known where a value was answered: that answer isn't 0, and the sink has got it
  pub record Sure (q : ℕ) (d : Bool) (After : Type 0) : Type 0 where
    pub not_0 : ((exchange s q).value == 0) ≡ false
    pub sure : d ≡ true
    pub after : After

  going_answered : (q y : ℕ) (Before After : Type 0) (Has : Bool → Type 0) (d : Bool) → At s q y Before After Has d → is_answered (exchange s q).phase ≡ true → Sure q d After
  going_answered q y Before After Has d (at.waiting a v u dn before) m = absurd (both_ways (is_asked (exchange s q).phase) (answered_not_asked (exchange s q).phase m) a)
  going_answered q y Before After Has d (at.taken a v u has) m = absurd (both_ways (is_asked (exchange s q).phase) (answered_not_asked (exchange s q).phase m) a)
  going_answered q y Before After Has d (at.answered a not_0 sure after) m = record { not_0 = not_0; sure = sure; after = after }

  pub way_busy : (ms : List Stop) (q y t : ℕ) (d : Bool) → Going s f n q y ms t d → is_idle (exchange s q).phase ≡ true → ⊥
  way_busy [] q y t d going = going_busy q y _ _ _ d going
  way_busy (m ∷ ms) q y t d going = going_busy q y _ _ _ d going

  way_heard : (ms : List Stop) (q y t : ℕ) (d : Bool) → Going s f n q y ms t d → is_in_more (exchange s q).phase ≡ true → ⊥
  way_heard [] q y t d going = going_heard q y _ _ _ d going
  way_heard (m ∷ ms) q y t d going = going_heard q y _ _ _ d going

  pub way_answered : (ms : List Stop) (q y t : ℕ) (d : Bool) → Going s f n q y ms t d → is_answered (exchange s q).phase ≡ true → Sure q d (Few s (n + 1) ms)
  way_answered [] q y t d going = going_answered q y _ _ _ d going
  way_answered (m ∷ ms) q y t d going = going_answered q y _ _ _ d going

  -- the port of a map isn't missing where it leads on, and fewer than all transactions began there
  there_still : (q : ℕ) (ms : List Stop) (t : ℕ) → Way s.config f q ms t → (exchange s q).serial ≤ n → is_missing s q ≡ true → ⊥
  there_still q ms t w low missing =
      both_ways (is_missing s q) (λ i. is_none (leads ms w i) || ne_eqb (exchange s q).serial LAST_SERIAL (λ h. omega (arith, low, room, h)) i) missing
    where
      to_node : (ms : List Stop) → Way s.config f q ms t → ℕ
      to_node [] w = t
      to_node (m ∷ ms) w = m.at

      leads : (ms : List Stop) → (w : Way s.config f q ms t) → target s.config q ≡ Some (record { node = to_node ms w; provide = 0 })
      leads [] w = w.to.leads
      leads (m ∷ ms) w = w.0.to.leads

  module _ (m : Stop) (ms : List Stop) (p x t : ℕ) (w : Way s.config f p (m ∷ ms) t) where
    abbrev y : ℕ
    y = (x + m.arg) % VALUE_LIMIT

    abbrev Below : Bool → Type 0
    Below = Going s f n m.port y ms t

    abbrev first : ℕ
    first = w.0.to.made.first_port

    own : (q : ℕ) → q ≡ first → q ≡ m.port
    own q here = here ∙ w.0.first

    -- an event at the map's own port leaves this one
    other_port : (q : ℕ) (b : Bool) → is_asked (exchange s p).phase ≡ true → is_asked (exchange s q).phase ≡ b → b ≡ false → (q == p) ≡ false
    other_port q b a is no_ = false_from_ne_true (q == p) (λ h. both_ways (is_asked (exchange s q).phase) (is ∙ no_) (ap (λ i. is_asked (exchange s i).phase) (eqb-true q p h) ∙ a))

    -- the port is as it was, and taken, and so the value is still s f g facts in the map
    in_map : (e : Event) → Now s f g e → (d next : Bool) → is_asked (exchange s p).phase ≡ true → (exchange s p).value ≡ x → is_taken s p ≡ true → is_give_at p e ≡ false → exchange (effect s e) p ≡ exchange s p
        → MapHas (effect s e) (g m.at) m x n (Few (effect s e) n ms) (Few (effect s e) (n + 1) ms) (Going (effect s e) g n m.port y ms t) next
        → ((next ≡ d) × ((g t).kept.items ≡ (f t).kept.items)) ⊎ ((d ≡ false) × (next ≡ true) × ((g t).kept.items ≡ (f t).kept.items ++ passed x (m ∷ ms) ∷ []))
        → Led e (m ∷ ms) p x t d
    in_map e now d next a v u no_give same has items = record {
      next = next;
      going = at.taken (asked_by_same s f g facts e p same a) (valued_by_same s f g facts e p x same v) (taken_ports_stay s e facts.well facts.traffic now.legal p u no_give) has;
      items = items;
    }

    to_last : ToSink s.config f (last_port m.port ms) t
    to_last = way_end s f g facts ms m.port t w.1

    by_map :
        (e : Event) → Now s f g e → (d : Bool) (kept : Kept) (reply : ℕ) (answers : List ℕ) → is_asked (exchange s p).phase ≡ true → (exchange s p).value ≡ x → is_taken s p ≡ true → is_doer s m.at e ≡ true
        → Inside s m.port n (Few s n ms) (Few s (n + 1) ms) Below answers d → MapDoes first m.arg kept x reply answers (g m.at) e → Led e (m ∷ ms) p x t d
    by_map _ now d kept reply _ a v u does (at.not_yet idle own_few before) (at.calls q j z none_ here val is) =
        let same = passes_by s f g facts p (Call q j z) now.legal (other_port q (is_asked (exchange s q).phase) a refl (idle_not_asked s f g facts q now.legal.idle)) in
        let after : exchange (effect s (Call q j z)) m.port ≡ exchange_by (service s (owner s.config m.port)) (exchange s m.port) (Call q j z) =
        exchanges_next s (Call q j z) facts.well now.legal m.port
        ∙ ap (λ b. cond b (exchange_by (service s (owner s.config m.port)) (exchange s m.port) (Call q j z)) (exchange s m.port)) (eq-eqb q m.port (own q here)) in
        in_map (Call q j z) now false false a v u refl same
        (record {
          kept = kept;
          reply = reply;
          answers = [];
          is = is;
          inside = at.below false
              (let up = ap (λ (k : Exchange). k.serial) after ∙ next_serial s q j now.legal.next_serial ∙ ap (λ i. (exchange s i).serial + 1) (own q here) in omega (arith, up, own_few))
              (waits_there (effect s (Call q j z)) g n ms m.port y t (ap (λ (k : Exchange). is_asked k.phase) after) (ap (λ (k : Exchange). k.value) after ∙ val)
              (untaken_stays s f g facts m.port (Call q j z) now refl (idle_untaken s f g facts m.port idle)) (few_stay s f g facts (Call q j z) now n ms m.port t w.1 (idle_untaken s f g facts m.port idle) before));
        })
        (inl (refl, items_stay s f g facts (Call q j z) now (last_port m.port ms) t to_last refl))
    by_map _ now d kept reply _ a v u does (at.below _ own_few dp) (at.calls q j z none_ here val is) =
        absurd (way_busy ms m.port y t d dp (ap (λ i. is_idle (exchange s i).phase) (sym (own q here)) ∙ now.legal.idle))
    by_map _ now d kept reply _ a v u does (at.back b _ idle not_0 sure own_few after) (at.calls q j z none_ here val is) = absurd (cc none_)
    by_map _ now d kept reply _ a v u does (at.not_yet idle own_few before) (at.misses q none_ here is) =
        absurd (there_still m.port ms t w.1 own_few (ap (is_missing s) (sym (own q here)) ∙ now.legal.missing))
    by_map _ now d kept reply _ a v u does (at.below _ own_few dp) (at.misses q none_ here is) =
        absurd (way_busy ms m.port y t d dp (ap (λ i. is_idle (exchange s i).phase) (sym (own q here)) ∙ now.legal.idle))
    by_map _ now d kept reply _ a v u does (at.back b _ idle not_0 sure own_few after) (at.misses q none_ here is) = absurd (cc none_)
    by_map _ now d kept reply _ a v u does (at.not_yet idle own_few before) (at.asks q j z none_ here) =
        absurd (idle_not_more s f g facts m.port idle (ap (λ i. is_in_more (exchange s i).phase) (sym (own q here)) ∙ now.legal.in_more))
    by_map _ now d kept reply _ a v u does (at.below _ own_few dp) (at.asks q j z none_ here) =
        absurd (way_heard ms m.port y t d dp (ap (λ i. is_in_more (exchange s i).phase) (sym (own q here)) ∙ now.legal.in_more))
    by_map _ now d kept reply _ a v u does (at.back b _ idle not_0 sure own_few after) (at.asks q j z none_ here) = absurd (cc none_)
    by_map _ now d kept reply _ a v u does (at.not_yet idle own_few before) (at.ends q j z none_ here is) =
        absurd (both_ways (is_idle (exchange s m.port).phase) (answered_busy (exchange s m.port).phase (ap (λ i. is_answered (exchange s i).phase) (sym (own q here)) ∙ now.legal.answered)) idle)
    by_map _ now d kept reply _ a v u does (at.below _ own_few dp) (at.ends q j z none_ here is) =
        let answered_there = ap (λ i. is_answered (exchange s i).phase) (sym (own q here)) ∙ now.legal.answered in
        let same = passes_by s f g facts p (End q j z) now.legal (other_port q (is_asked (exchange s q).phase) a refl (answered_not_asked (exchange s q).phase now.legal.answered)) in
        let said = eqb-true z (exchange s q).value (and_parts (j == (exchange s q).serial) (z == (exchange s q).value) now.legal.message).1 in
        let after : exchange (effect s (End q j z)) m.port ≡ exchange_by (service s (owner s.config m.port)) (exchange s m.port) (End q j z) =
        exchanges_next s (End q j z) facts.well now.legal m.port
        ∙ ap (λ b. cond b (exchange_by (service s (owner s.config m.port)) (exchange s m.port) (End q j z)) (exchange s m.port)) (eq-eqb q m.port (own q here)) in
        in_map (End q j z) now d d a v u refl same
        (record {
          kept = kept;
          reply = reply;
          answers = z ∷ [];
          is = is;
          inside =
              (let k = way_answered ms m.port y t d dp answered_there in
              at.back z d (ap (λ (k : Exchange). is_idle k.phase) after) (ap (λ i. i == 0) (said ∙ ap (λ i. (exchange s i).value) (own q here)) ∙ k.not_0) k.sure
              (let kept_serial = serial_stays s f g facts m.port (End q j z) now.legal refl in omega (arith, kept_serial, own_few))
              (few_stay s f g facts (End q j z) now (n + 1) ms m.port t w.1 (answered_untaken s f g facts m.port answered_there) k.after));
        })
        (inl (refl, items_stay s f g facts (End q j z) now (last_port m.port ms) t to_last refl))
    by_map _ now d kept reply _ a v u does (at.back b _ idle not_0 sure own_few after) (at.ends q j z none_ here is) = absurd (cc none_)
    by_map _ now d kept reply _ a v u does (at.not_yet idle own_few before) (at.gives q j z more_ ans) = absurd (cc ans)
    by_map _ now d kept reply _ a v u does (at.below _ own_few dp) (at.gives q j z more_ ans) = absurd (cc ans)
    by_map _ now d kept reply _ a v u does (at.back b _ idle not_0 sure own_few later) (at.gives q j z more_ ans) =
        let led = led_to s f g facts q m.at does in
        let here : q ≡ p = w.0.to.only q led.0.provide (led.1 ∙ ap (λ n. Some (record { node = n; provide = led.0.provide })) led.2) in
        let after : exchange (effect s (Give q j z)) p ≡ record (exchange s p) { phase = phase.Answered; value = z } =
        exchanges_next s (Give q j z) facts.well now.legal p ∙ ap (λ k. cond k (record (exchange s p) { phase = phase.Answered; value = z }) (exchange s p)) (eq-eqb q p here) in
        record {
          next = d;
          going = at.answered (ap (λ (k : Exchange). is_answered k.phase) after) (ap (λ (k : Exchange). k.value == 0) after ∙ ap (λ i. i == 0) (sym (heads_are b z [] more_ ans)) ∙ not_0) sure (
            (let kept_serial = serial_stays s f g facts m.port (Give q j z) now.legal refl in omega (arith, kept_serial, own_few)),
            few_stay s f g facts (Give q j z) now (n + 1) ms m.port t w.1 (idle_untaken s f g facts m.port idle) later,
          );
          items = inl (refl, items_stay s f g facts (Give q j z) now (last_port m.port ms) t to_last refl);
        }

    -- another node begins nothing at its port
    serial_low : (e : Event) → Now s f g e → is_doer s m.at e ≡ false → (k : ℕ) → (exchange s m.port).serial ≤ k → (exchange (effect s e) m.port).serial ≤ k
    serial_low e now other k low =
        let same = serial_stays s f g facts m.port e now.legal (no_start s f g facts m.port e (ap (λ i. is_doer s i e) w.0.owned ∙ other)) in omega (arith, same, low)

    -- an event of another node
    by_other :
        (e : Event) → Now s f g e → ((d : Bool) → Below d → is_end_at m.port e ≡ false → Led e ms m.port y t d) → (d : Bool) (kept : Kept) (reply : ℕ) (answers : List ℕ)
        → is_asked (exchange s p).phase ≡ true → (exchange s p).value ≡ x → is_taken s p ≡ true → g m.at ≡ at_work Map m.arg kept x reply answers → is_doer s m.at e ≡ false
        → Inside s m.port n (Few s n ms) (Few s (n + 1) ms) Below answers d → Led e (m ∷ ms) p x t d
    by_other e now deeper d kept reply _ a v u is other (at.not_yet idle own_few before) =
        let r = no_reply s f g facts e p m.at 0 w.0.to.leads u other in
        in_map e now false false a v u r.0 (asked_stays s f g facts p e now.legal a r.0 r.1)
        (record {
          kept = kept;
          reply = reply;
          answers = [];
          is = is;
          inside = at.not_yet (idle_by_same s f g facts e m.port (idle_stays s f g facts m.port e now.legal idle (ap (λ i. is_doer s i e) w.0.owned ∙ other)) idle) (serial_low e now other n own_few)
              (few_stay s f g facts e now n ms m.port t w.1 (idle_untaken s f g facts m.port idle) before);
        })
        (inl (refl, rest_stays s f g facts e now ms m.port t w.1 idle))
    by_other e now deeper d kept reply _ a v u is other (at.below _ own_few dp) =
        let r = no_reply s f g facts e p m.at 0 w.0.to.leads u other in
        let led = deeper d dp (not_end s f g facts m.port e (ap (λ i. is_doer s i e) w.0.owned ∙ other)) in
        in_map e now d led.next a v u r.0 (asked_stays s f g facts p e now.legal a r.0 r.1) (record { kept = kept; reply = reply; answers = []; is = is; inside = at.below led.next (serial_low e now other (n + 1) own_few) led.going }) led.items
    by_other e now deeper d kept reply _ a v u is other (at.back b _ idle not_0 sure own_few after) =
        let r = no_reply s f g facts e p m.at 0 w.0.to.leads u other in
        in_map e now d d a v u r.0 (asked_stays s f g facts p e now.legal a r.0 r.1)
        (record {
          kept = kept;
          reply = reply;
          answers = b ∷ [];
          is = is;
          inside = at.back b d (idle_by_same s f g facts e m.port (idle_stays s f g facts m.port e now.legal idle (ap (λ i. is_doer s i e) w.0.owned ∙ other)) idle) not_0 sure (serial_low e now other (n + 1) own_few)
              (few_stay s f g facts e now (n + 1) ms m.port t w.1 (idle_untaken s f g facts m.port idle) after);
        })
        (inl (refl, rest_stays s f g facts e now ms m.port t w.1 idle))

    map_step : (e : Event) → Now s f g e → ((d : Bool) → Below d → is_end_at m.port e ≡ false → Led e ms m.port y t d) → (d : Bool) → At s p x (Few s n (m ∷ ms)) (Few s (n + 1) (m ∷ ms)) (MapHas s (f m.at) m x n (Few s n ms) (Few s (n + 1) ms) Below) d → is_end_at p e ≡ false
        → Led e (m ∷ ms) p x t d
    map_step e now deeper d (at.answered a not_0 sure after) no_end =
        let same = answers_stay s e facts.well facts.traffic now.legal p a no_end in
        let last = last_port m.port ms in
        record {
          next = d;
          going = at.answered (ap (λ (k : Exchange). is_answered k.phase) same ∙ a) (ap (λ (k : Exchange). k.value == 0) same ∙ not_0) sure
              (few_stay s f g facts e now (n + 1) (m ∷ ms) p t w (answered_untaken s f g facts p a) after);
          items = inl (refl, items_stay s f g facts e now last t to_last (no_take s f g facts last e now.legal (idle_not_asked s f g facts last (still_below s f g facts m ms p t w (answered_untaken s f g facts p a)))));
        }
    map_step e now deeper d (at.waiting a v u dn before) no_end =
        let last = last_port m.port ms in
        let quiet = items_stay s f g facts e now last t to_last (no_take s f g facts last e now.legal (idle_not_asked s f g facts last (still_below s f g facts m ms p t w u))) in
        by quiet (takes_at p e) refl
      where
        by : (g t).kept.items ≡ (f t).kept.items → (b : Bool) → takes_at p e ≡ b → Led e (m ∷ ms) p x t d
        by quiet true h =
            let up = took_up s f g facts e p m.at x first now w.0.to.leads v (now.folds.mine m.at w.0.to.made w.0.to.there) (take_at p e h) in
            let has = map_takes first (f m.at) (g m.at) p up.serial x w.0.kind up.folds in
            record {
              next = false;
              going = at.taken (asked_by_same s f g facts e p up.same a) (valued_by_same s f g facts e p x up.same v) up.taken
                  (record {
                    kept = has.kept;
                    reply = 0;
                    answers = [];
                    is = has.is ∙ ap (λ i. at_work Map i has.kept x 0 []) w.0.arg;
                    inside =
                        (let few = few_stay s f g facts e now n (m ∷ ms) p t w u before in
                        at.not_yet (idle_by_same s f g facts e m.port (up.quiet m.port) (free_map s f g facts m p w.0 has.idle)) few.0 few.1);
                  });
              items = inl (sym dn, quiet);
            }
        by quiet false h =
            let r = untaken_no_reply s f g facts p e now.legal u in
            let same = asked_stays s f g facts p e now.legal a r.0 r.1 in
            record {
              next = d;
              going = at.waiting (asked_by_same s f g facts e p same a) (valued_by_same s f g facts e p x same v) (untaken_stays s f g facts p e now h u) dn (few_stay s f g facts e now n (m ∷ ms) p t w u before);
              items = inl (refl, quiet);
            }
    map_step e now deeper d (at.taken a v u has) no_end = by (is_doer s m.at e) refl
      where
        by : (b : Bool) → is_doer s m.at e ≡ b → Led e (m ∷ ms) p x t d
        by false other = by_other e now deeper d has.kept has.reply has.answers a v u (now.folds.others m.at other ∙ has.is) other has.inside
        by true does =
            by_map e now d has.kept has.reply has.answers a v u does has.inside
            (map_does first m.arg has.kept x has.reply has.answers e (g m.at) (ap (λ n. after_event first n e) (sym has.is) ∙ now.folds.mine m.at w.0.to.made w.0.to.there does))

  -- ---- an event of a node, other than the End of the row's first port, leads the value on: the sink gets it once
  pub onward : (e : Event) → Now s f g e → (ms : List Stop) (p x t : ℕ) (d : Bool) → Way s.config f p ms t → Going s f n p x ms t d → is_end_at p e ≡ false → Led e ms p x t d
  onward e now [] p x t d w going no_end = sink_step e now p x t d w going no_end
  onward e now (m ∷ ms) p x t d w going no_end =
      map_step m ms p x t w e now (λ d' dp none_. onward e now ms m.port ((x + m.arg) % VALUE_LIMIT) t d' w.1 dp none_) d going no_end
