-- An event of a node: who had a fork keeps it, or gives it back; and who takes it up is the one to which it is lent.
use Rattle.std.proofs.Common.{◌≡◌, ◌∙◌, ℕ, ◌+◌, ◌<◌, Bool, true, false, cond, not, List, [], ◌∷◌, ◌++◌, length, Option, Some, None, refl, sym, ap, subst, arith, ⊎_elim}
use Rattle.std.specs.Prelude.{◌==◌, ◌||◌, is_none, is_some, option_and_then, option_map}
use Rattle.std.specs.Option.{option_map_or}
use Rattle.std.proofs.lemmas.Bool.{and_parts, both_ways, cases_eq, eq-eqb, eqb-true, false_from_ne_true, ne_eqb, not-true}
use Rattle.std.proofs.lemmas.Option.{none-some, same_Some}
use Rattle.config_graph.specs.Kinds.{mores_of, row}
use Rattle.config_graph.specs.declared.kind.Kind.TheVariants.{Fork, Place}
use Rattle.config_graph.specs.declared.node.Target.{Target}
use Rattle.component_trait.specs.Fold.{after_event, asked_by, calls_at, is_give, is_more, is_request, is_request_at, may_take, wants_at}
use Rattle.component_trait.specs.Moves as moves
use Rattle.component_trait.specs.States.{Kept, NodeState}
use Rattle.component_trait.specs.Tables.{wants}
use Rattle.component_trait.specs.States as node
use Rattle.component_trait.proofs.FoldLaws.{where_so_then}
use Rattle.quiesce_word.specs.declared.word.TheConstants.{LAST_SERIAL}
use Rattle.quiesce_word.specs.Phases.{is_answered, is_asked, is_idle, is_in_more}
use Rattle.quiesce_word.specs.declared.phase.Phase.{Phase}
use Rattle.quiesce_word.specs.declared.phase.Phase.TheVariants as phase
use Rattle.quiesce_word.proofs.PhaseLaws.{answered_busy, answered_not_asked, asked_busy}
use Rattle.quiesce_core.specs.Alters.{exchange_by, exchange_next, is_message_at, service_by, service_next}
use Rattle.quiesce_core.specs.Doers.{is_of_change}
use Rattle.quiesce_core.specs.Legal.{Legal}
use Rattle.quiesce_core.specs.Rules.{is_missing, is_taken}
use Rattle.quiesce_core.specs.Runs.{IsRun, is_doer, state_after}
use Rattle.quiesce_core.specs.State.{Configuration, State, exchange, gate, owner, service, slot, target, target_service}
use Rattle.quiesce_core.specs.declared.event.Event.{Event}
use Rattle.quiesce_core.specs.declared.event.Event.TheVariants.{Begin, Call, Take, Give, End, More, Ask, Hear, Miss}
use Rattle.quiesce_core.specs.declared.state.Exchange.{Exchange}
use Rattle.quiesce_core.specs.declared.state.Service.{Service}
use Rattle.quiesce_core.specs.declared.state.Slot.{Slot}
use Rattle.quiesce_core.proofs.AlterLaws.{exchanges_next, services_next}
use Rattle.quiesce_core.proofs.ConfigurationLaws.{linked_made, port_is}
use Rattle.quiesce_core.proofs.InductionLaws.{IsNext}
use Rattle.quiesce_core.proofs.RunLaws.{node_events_keep_the_configuration}
use Rattle.quiesce_core.proofs.StateLaws.{is_taken_if, taken_busy, taken_is}
use Rattle.change_round_laws.proofs.FoldLaws.{StatesAreHanded}
use Rattle.result_laws.specs.Coming.{HasFolds, come}
use Rattle.result_laws.proofs.ComingLaws.{facts, fits_of, folds_before}
use Rattle.result_laws.proofs.EventLaws.{answered_untaken, idle_untaken, led_to}
use Rattle.result_laws.proofs.FactLaws.{Facts}
use Rattle.result_laws.specs.Holding.{forks_serve_places, has_fork, is_fork, is_place}
use Rattle.result_laws.proofs.Dining.{Asking, Lending, Lends, ask_value, asking, called_with, calls_no_give, gives, lending, lends, one_call, having_no_give, place_expects, reply_of, resting_has_none, sends_no_more, takes}
use Rattle.result_laws.proofs.Doing.{Does, does_at, waits_not}
use Rattle.result_laws.proofs.Linking.{AllLinked}
use Rattle.result_laws.proofs.Lent.{AllHeld, AreSpare, Claims, Forks, HeldBy, Joined, LentAt, free_lent, gets, got, keeps, place_if, same_claims, same_lent}

module _ (handed : StatesAreHanded) (es : List Event) (e : Event) (here : IsNext es e) (run' : IsRun (es ++ e ∷ [])) (later : HasFolds (es ++ e ∷ [])) (linked : AllLinked forks_serve_places (state_after es).config) (was : Forks es) where
  abbrev s : State
  s = state_after es

  abbrev t : State
  t = state_after (es ++ e ∷ [])

  abbrev f : ℕ → NodeState
  f = come es

  abbrev g : ℕ → NodeState
  g = come (es ++ e ∷ [])

  now_facts : Facts s f
  now_facts = facts handed es here.run (folds_before handed es e here run' later)

  kind_of : (n : ℕ) (m : Slot) → slot s.config n ≡ Some m → (f n).kind ≡ m.node.kind
  kind_of n m there = (fits_of handed es here.run (folds_before handed es e here run' later)).kinds n m there

  exchange_now : (q : ℕ) → exchange t q ≡ exchange_next s q e
  exchange_now q = ap (λ (x : State). exchange x q) here.next ∙ exchanges_next s e here.well here.legal q

  service_now : (n : ℕ) → service t n ≡ service_next s n e
  service_now n = ap (λ (x : State). service x n) here.next ∙ services_next s e here.well here.legal n

  -- ---- an event of a node

  module _ (of_node : is_of_change e ≡ false) where
    w : Does es e
    w = does_at handed es e here run' later of_node

    same_config : t.config ≡ s.config
    same_config = ap (λ (x : State). x.config) here.next ∙ node_events_keep_the_configuration s e of_node

    abbrev lend_next : Event → Option ℕ → Option ℕ
    lend_next (Take p k v) h = cond (v == 1) (cond ((f w.at).kept.count == 0) (Some p) h) (cond (v == 0) None h)
    lend_next _ h = h

    abbrev lent' : ℕ → Option ℕ
    lent' n = cond (n == w.at) (lend_next e (was.lent n)) (was.lent n)

    lent_else : (n : ℕ) → (n ≡ w.at → ⊥) → lent' n ≡ was.lent n
    lent_else n other = ap (λ b. cond b (lend_next e (was.lent n)) (was.lent n)) (ne_eqb n w.at other)

    lent_mine : (n : ℕ) → n ≡ w.at → lent' n ≡ lend_next e (was.lent n)
    lent_mine n same = ap (λ b. cond b (lend_next e (was.lent n)) (was.lent n)) (eq-eqb n w.at same)

    fork_mores : (m : Slot) → m.node.kind ≡ Fork → slot s.config w.at ≡ Some m → moves.waits (f w.at) ≡ false
    fork_mores m kind there = waits_not (f w.at) (ap (λ k. mores_of k 0) (kind_of w.at m there ∙ kind)) w.bounded

    fork_acts : (m : Slot) → m.node.kind ≡ Fork → slot s.config w.at ≡ Some m → Lending (f w.at) (g w.at) e
    fork_acts m kind there = lending w.made.first_port (f w.at) (g w.at) e (kind_of w.at m there ∙ kind) (fork_mores m kind there) w.led

    counted_then : (n q : ℕ) (m : Slot) → slot t.config n ≡ Some m → m.node.kind ≡ Fork → lent' n ≡ Some q → ((g n).kept.count == 0) ≡ false
    counted_then n q m there' kind is = ⊎_elim
        (λ (same : n ≡ w.at).
        let at = ap (slot s.config) (sym same) ∙ there in
        subst (λ i. ((g i).kept.count == 0) ≡ false) (sym same) (mine (kind_of w.at m at ∙ kind) e (fork_acts m kind at) (subst (λ i. lend_next e (was.lent i) ≡ Some q) same (sym (lent_mine n same) ∙ is)) (λ h. was.counted w.at q m at kind h)))
        (λ (other : n ≡ w.at → ⊥). ap (λ (x : NodeState). x.kept.count == 0) (w.others n other) ∙ was.counted n q m there kind (sym (lent_else n other) ∙ is))
        (cases_eq n w.at)
      where
        there : slot s.config n ≡ Some m
        there = ap (λ (c : Configuration). slot c n) (sym same_config) ∙ there'

        mine : (f w.at).kind ≡ Fork → (z : Event) → Lending (f w.at) (g w.at) z → lend_next z (was.lent w.at) ≡ Some q → (was.lent w.at ≡ Some q → ((f w.at).kept.count == 0) ≡ false) → ((g w.at).kept.count == 0) ≡ false
        mine is_fork_ _ (gives p k v r then_) h old = ap (λ (x : NodeState). x.kept.count == 0) then_ ∙ old h
        mine is_fork_ _ (takes p k v then_) h old = ap (λ (x : NodeState). x.kept.count == 0) then_ ∙ by (v == 1) refl (v == 0) refl ((f w.at).kept.count == 0) refl h
          where
            l : Lends (f w.at) (moves.after_take (f w.at) v) v
            l = lends (f w.at) v is_fork_

            by : (a : Bool) → (v == 1) ≡ a → (z : Bool) → (v == 0) ≡ z → (c : Bool) → ((f w.at).kept.count == 0) ≡ c → cond a (cond c (Some p) (was.lent w.at)) (cond z None (was.lent w.at)) ≡ Some q → ((moves.after_take (f w.at) v).kept.count == 0) ≡ false
            by true a z zz c cc_ h = l.taken (eqb-true v 1 a)
            by false a true zz c cc_ h = absurd (none-some q h)
            by false a false zz c cc_ h = l.held (λ same. both_ways (v == 0) zz (eq-eqb v 0 same)) (old h)

    -- ---- a port that leads to a fork

    module _ (p : ℕ) (to : Target) (j : Joined s.config p to) where
      abbrev o : ℕ
      o = owner s.config p

      old : LentAt s f was.lent p to
      old = was.ports p to j

      apart : o ≡ to.node → ⊥
      apart same = cc (sym j.is_place_ ∙ ap (λ (m : Slot). m.node.kind) (same_Some j.from j.into (sym j.from_there ∙ ap (slot s.config) same ∙ j.into_there)) ∙ j.is_fork_)

      low : p < length s.config.gates
      low = linked_made s.config p to j.leads

      at_port : (p ≡ j.from.first_port + (gate s.config p).require) × ((gate s.config p).require < length (row j.from.node.kind).requires_)
      at_port = port_is s.config here.well.sound p j.from low j.from_there

      two : (gate s.config p).require < 2
      two = let n : length (row j.from.node.kind).requires_ ≡ 2 = ap (λ k. length (row k).requires_) j.is_place_ in let b = at_port.1 in omega (arith, n, b)

      place_kind : (f o).kind ≡ Place
      place_kind = kind_of o j.from j.from_there ∙ j.is_place_

      own_then : owner t.config p ≡ owner s.config p
      own_then = ap (λ (c : Configuration). owner c p) same_config

      req_then : (gate t.config p).require ≡ (gate s.config p).require
      req_then = ap (λ (c : Configuration). (gate c p).require) same_config

      -- the place expects an answer where the port is busy
      busy_calls : is_idle (exchange s p).phase ≡ false → calls_at j.from.first_port (f o) p ≡ true
      busy_calls busy = place_expects (is_some (exchange s p).within) (f o) j.from.first_port p place_kind (now_facts.expected o p j.from j.from_there refl busy)

      -- whether it is taken goes by what the fork services
      took_by : service t to.node ≡ service s to.node → is_taken t p ≡ is_taken s p
      took_by same = (λ i. option_map_or (λ (v : Service). v.port == p) (option_and_then (λ (x : Target). service t x.node) (target (same_config i) p)) false)
          ∙ ap (λ y. option_map_or (λ (v : Service). v.port == p) (option_and_then (λ (x : Target). service t x.node) y) false) j.leads
          ∙ ap (λ y. option_map_or (λ (v : Service). v.port == p) y false) same
          ∙ sym (ap (λ y. option_map_or (λ (v : Service). v.port == p) (option_and_then (λ (x : Target). service s x.node) y) false) j.leads)

      taken_is_by : (x : State) (v : Option Service) → target x.config p ≡ Some to → service x to.node ≡ v → is_taken x p ≡ option_map_or (λ (u : Service). u.port == p) v false
      taken_is_by x v leads is = ap (λ y. option_map_or (λ (u : Service). u.port == p) (option_and_then (λ (z : Target). service x z.node) y) false) leads ∙ ap (λ y. option_map_or (λ (u : Service). u.port == p) y false) is

      leads_then : target t.config p ≡ Some to
      leads_then = ap (λ (c : Configuration). target c p) same_config ∙ j.leads

      service_else : (to.node ≡ w.at → ⊥) → service t to.node ≡ service s to.node
      service_else other = service_now to.node ∙ ap (λ b. cond b (service_by (service s to.node) e) (service s to.node)) (w.only_one to.node other)

      -- who sends a message there is its owner or its fork
      passes : is_message_at p e ≡ false → exchange t p ≡ exchange s p
      passes h = exchange_now p ∙ ap (λ b. cond b (exchange_by (service s (owner s.config p)) (exchange s p) e) (exchange s p)) h

      by_owner : (q : ℕ) → (owner s.config q == w.at) ≡ true → q ≡ p → o ≡ w.at
      by_owner q does same = ap (owner s.config) (sym same) ∙ eqb-true (owner s.config q) w.at does

      by_target : (q : ℕ) → option_map_or (λ m. m == w.at) (option_map (λ (x : Target). x.node) (target s.config q)) false ≡ true → q ≡ p → to.node ≡ w.at
      by_target q does same =
          let led = led_to s f f now_facts q w.at does in
          ap (λ (x : Target). x.node) (same_Some to led.0 (sym j.leads ∙ ap (target s.config) (sym same) ∙ led.1)) ∙ led.2

      silent : (o ≡ w.at → ⊥) → (to.node ≡ w.at → ⊥) → is_message_at p e ≡ false
      silent first second = by e w.does
        where
          by : (z : Event) → is_doer s w.at z ≡ true → is_message_at p z ≡ false
          by (Begin q k v) d = false_from_ne_true (q == p) (λ h. first (by_owner q d (eqb-true q p h)))
          by (Call q k v) d = false_from_ne_true (q == p) (λ h. first (by_owner q d (eqb-true q p h)))
          by (Ask q k v) d = false_from_ne_true (q == p) (λ h. first (by_owner q d (eqb-true q p h)))
          by (End q k v) d = false_from_ne_true (q == p) (λ h. first (by_owner q d (eqb-true q p h)))
          by (Give q k v) d = false_from_ne_true (q == p) (λ h. second (by_target q d (eqb-true q p h)))
          by (More q k v) d = false_from_ne_true (q == p) (λ h. second (by_target q d (eqb-true q p h)))
          by _ d = refl

      -- ---- another node does it

      by_others : (o ≡ w.at → ⊥) → (to.node ≡ w.at → ⊥) → LentAt t g lent' p to
      by_others first second =
          same_lent s t f g was.lent lent' p to (passes (silent first second)) (took_by (service_else second)) own_then req_then (w.others o first) (w.others to.node second) (lent_else to.node second) old

      -- ---- its fork does it

      lent_on : to.node ≡ w.at → (q k v : ℕ) → e ≡ Take q k v → (q ≡ p → ⊥) → was.lent to.node ≡ Some p → lent' to.node ≡ Some p
      lent_on mine q k v at other is = lent_mine to.node mine ∙ ap (λ z. lend_next z (was.lent to.node)) at ∙ by (v == 1) refl (v == 0) refl ((f w.at).kept.count == 0) refl
        where
          lent_here : was.lent w.at ≡ Some p
          lent_here = ap was.lent (sym mine) ∙ is

          l : Legal s (Take q k v)
          l = subst (Legal s) at here.legal

          leads_q : (x : Target) × (target s.config q ≡ Some x) × (x.node ≡ w.at)
          leads_q = led_to s f f now_facts q w.at (subst (λ z. is_doer s w.at z ≡ true) at w.does)

          asked_value : v ≡ (exchange s q).value
          asked_value = eqb-true v (exchange s q).value (and_parts (k == (exchange s q).serial) (v == (exchange s q).value) l.message).1

          -- who asks there to give back holds it, so it is this one
          giving_back : (v == 0) ≡ true → ⊥
          giving_back zero_ =
              let into_q : slot s.config leads_q.0.node ≡ Some j.into = ap (slot s.config) (leads_q.2 ∙ sym mine) ∙ j.into_there in
              let low_q = linked_made s.config q leads_q.0 leads_q.1 in
              let own_q = here.well.sound.ports q low_q in
              let kind_q = place_if own_q.node.node.kind (sym (ap (λ k. not (is_fork k) || is_place own_q.node.node.kind) j.is_fork_) ∙ linked q leads_q.0 own_q.node j.into leads_q.1 own_q.made into_q) in
              let jq : Joined s.config q leads_q.0 = record { leads = leads_q.1; from = own_q.node; from_there = own_q.made; is_place_ = kind_q; into = j.into; into_there = into_q; is_fork_ = j.is_fork_ } in
              let at_q = was.ports q leads_q.0 jq in
              let busy = asked_busy (exchange s q).phase l.asked in
              let port_q = port_is s.config here.well.sound q own_q.node low_q own_q.made in
              let n : length (row own_q.node.node.kind).requires_ ≡ 2 = ap (λ k. length (row k).requires_) kind_q in
              let bound = port_q.1 in
              let calls = place_expects (is_some (exchange s q).within) (f (owner s.config q)) own_q.node.first_port q (kind_of (owner s.config q) own_q.node own_q.made ∙ kind_q) (now_facts.expected (owner s.config q) q own_q.node own_q.made refl busy) in
              let a = asking (f (owner s.config q)) own_q.node.first_port q 0 (kind_of (owner s.config q) own_q.node own_q.made ∙ kind_q) calls in
              let has = a.had (gate s.config q).require (omega (arith, n, bound)) port_q.0 (sym (at_q.value l.asked) ∙ sym asked_value ∙ eqb-true v 0 zero_) in
              let to_q = at_q.before_ (not-true (is_taken s q) l.untaken) (not_answered (exchange s q).phase l.asked) has in
              other (some_same q p (sym to_q ∙ ap was.lent leads_q.2 ∙ lent_here))
            where
              some_same : (a b : ℕ) → ◌≡◌ {A = Option ℕ} (Some a) (Some b) → a ≡ b
              some_same a b h = same_Some a b h

              not_answered : (x : Phase) → is_asked x ≡ true → is_answered x ≡ false
              not_answered phase.Asked h = refl
              not_answered phase.Idle h = refl
              not_answered phase.More h = refl
              not_answered phase.Answered h = absurd (both_ways false refl h)

          by : (a : Bool) → (v == 1) ≡ a → (z : Bool) → (v == 0) ≡ z → (c : Bool) → ((f w.at).kept.count == 0) ≡ c → cond a (cond c (Some q) (was.lent to.node)) (cond z None (was.lent to.node)) ≡ Some p
          by true a z zz true cc_ = absurd (both_ways ((f w.at).kept.count == 0) (was.counted w.at p j.into (ap (slot s.config) (sym mine) ∙ j.into_there) j.is_fork_ lent_here) cc_)
          by true a z zz false cc_ = is
          by false a true zz c cc_ = absurd (giving_back zz)
          by false a false zz c cc_ = is

      by_fork : to.node ≡ w.at → LentAt t g lent' p to
      by_fork mine = acts e refl (fork_acts j.into j.is_fork_ (ap (slot s.config) (sym mine) ∙ j.into_there))
        where
          other_one : o ≡ w.at → ⊥
          other_one same = apart (same ∙ sym mine)

          same_place : g (owner t.config p) ≡ f o
          same_place = ap g own_then ∙ w.others o other_one

          service_mine : service t to.node ≡ service_by (service s to.node) e
          service_mine = service_now to.node ∙ ap (λ b. cond b (service_by (service s to.node) e) (service s to.node)) (ap (λ i. is_doer s i e) mine ∙ w.does)

          kept_has : has_fork (g (owner t.config p)) (gate t.config p).require ≡ has_fork (f o) (gate s.config p).require
          kept_has = λ i. has_fork (same_place i) (req_then i)

          acts : (z : Event) → e ≡ z → Lending (f w.at) (g w.at) z → LentAt t g lent' p to
          acts _ at (takes q k v then_) = ⊎_elim at_this at_other (cases_eq q p)
            where
              same_exchange : exchange t p ≡ exchange s p
              same_exchange = passes (ap (is_message_at p) at)

              served_now : service t to.node ≡ Some (record { port = q; calls = 0; mores = 0; heard = true })
              served_now = service_mine ∙ ap (service_by (service s to.node)) at

              taken_now : is_taken t p ≡ (q == p)
              taken_now = taken_is_by t (Some (record { port = q; calls = 0; mores = 0; heard = true })) leads_then served_now

              l : Legal s (Take q k v)
              l = subst (Legal s) at here.legal

              at_this : q ≡ p → LentAt t g lent' p to
              at_this same =
                  let asked : is_asked (exchange s p).phase ≡ true = ap (λ i. is_asked (exchange s i).phase) (sym same) ∙ l.asked in
                  let value : v ≡ ask_value (f o) =
                  eqb-true v (exchange s q).value (and_parts (k == (exchange s q).serial) (v == (exchange s q).value) l.message).1 ∙ ap (λ i. (exchange s i).value) same ∙ old.value asked in
                  record {
                    none_replied = ap (λ (x : Exchange). is_in_more x.phase) same_exchange ∙ old.none_replied;
                    value = λ h. ap (λ (x : Exchange). x.value) same_exchange ∙ old.value asked ∙ sym (ap ask_value same_place);
                    before_ = λ u a h. absurd (both_ways (is_taken t p) u (taken_now ∙ eq-eqb q p same));
                    taken = λ u ask reply.
                        let one_v : v ≡ 1 = value ∙ sym (ap ask_value same_place) ∙ ask in
                        let free = (lends (f w.at) v (kind_of w.at j.into (ap (slot s.config) (sym mine) ∙ j.into_there) ∙ j.is_fork_)).lent one_v (sym (ap reply_of then_) ∙ sym (ap (λ i. reply_of (g i)) mine) ∙ reply) in
                        lent_mine to.node mine ∙ ap (λ z. lend_next z (was.lent to.node)) at ∙ gets one_v free ∙ ap Some same;
                    answered = λ a ask reply. absurd (both_ways (is_asked (exchange s p).phase) (answered_not_asked (exchange s p).phase (sym (ap (λ (x : Exchange). is_answered x.phase) same_exchange) ∙ a)) asked);
                  }
                where
                  gets : v ≡ 1 → ((f w.at).kept.count == 0) ≡ true → lend_next (Take q k v) (was.lent to.node) ≡ Some q
                  gets one_v free = (λ i. cond (eq-eqb v 1 one_v i) (cond (free i) (Some q) (was.lent to.node)) (cond (v == 0) None (was.lent to.node)))

              at_other : (q ≡ p → ⊥) → LentAt t g lent' p to
              at_other other =
                  let untaken : is_taken s p ≡ false = taken_is_by s None j.leads (none_is (service s to.node) (ap (λ i. is_none (service s i)) mine ∙ sym free_is ∙ l.free)) in
                  record {
                    none_replied = ap (λ (x : Exchange). is_in_more x.phase) same_exchange ∙ old.none_replied;
                    value = λ h. ap (λ (x : Exchange). x.value) same_exchange ∙ old.value (sym (ap (λ (x : Exchange). is_asked x.phase) same_exchange) ∙ h) ∙ sym (ap ask_value same_place);
                    before_ = λ u a h. lent_on mine q k v at other (old.before_ untaken (sym (ap (λ (x : Exchange). is_answered x.phase) same_exchange) ∙ a) (sym kept_has ∙ h));
                    taken = λ u ask reply. absurd (both_ways (is_taken t p) (taken_now ∙ ne_eqb q p other) u);
                    answered = λ a ask reply. lent_on mine q k v at other (old.answered (sym (ap (λ (x : Exchange). is_answered x.phase) same_exchange) ∙ a) (sym (ap ask_value same_place) ∙ ask) (sym (ap (λ (x : Exchange). x.value) same_exchange) ∙ reply));
                  }
                where
                  none_is : (x : Option Service) → is_none x ≡ true → x ≡ None
                  none_is None h = refl
                  none_is (Some v) h = absurd (both_ways false refl h)

                  free_is : is_none (target_service s q) ≡ is_none (service s w.at)
                  free_is =
                      let led = led_to s f f now_facts q w.at (subst (λ z. is_doer s w.at z ≡ true) at w.does) in
                      ap (λ y. is_none (option_and_then (λ (z : Target). service s z.node) y)) led.1 ∙ ap (λ i. is_none (service s i)) led.2
          acts _ at (gives q k v r then_) = ⊎_elim at_this at_other (cases_eq q p)
            where
              lent_same : lent' to.node ≡ was.lent to.node
              lent_same = lent_mine to.node mine ∙ ap (λ z. lend_next z (was.lent to.node)) at

              none_now : is_taken t p ≡ false
              none_now = taken_is_by t None leads_then (service_mine ∙ ap (service_by (service s to.node)) at)

              l : Legal s (Give q k v)
              l = subst (Legal s) at here.legal

              at_this : q ≡ p → LentAt t g lent' p to
              at_this same =
                  let after : exchange t p ≡ record (exchange s p) { phase = phase.Answered; value = v } =
                  exchange_now p ∙ ap (exchange_next s p) at ∙ ap (λ b. cond b (record (exchange s p) { phase = phase.Answered; value = v }) (exchange s p)) (eq-eqb q p same) in
                  record {
                    none_replied = ap (λ (x : Exchange). is_in_more x.phase) after;
                    value = λ h. absurd (both_ways false refl (sym (ap (λ (x : Exchange). is_asked x.phase) after) ∙ h));
                    before_ = λ u a h. absurd (both_ways true (sym (ap (λ (x : Exchange). is_answered x.phase) after) ∙ a) refl);
                    taken = λ u ask reply. absurd (both_ways (is_taken t p) none_now u);
                    answered = λ a ask reply.
                        lent_same ∙ old.taken (ap (is_taken s) (sym same) ∙ l.taken) (sym (ap ask_value same_place) ∙ ask) (ap (λ i. reply_of (f i)) mine ∙ r ∙ sym (ap (λ (x : Exchange). x.value) after) ∙ reply);
                  }

              at_other : (q ≡ p → ⊥) → LentAt t g lent' p to
              at_other other =
                  let same_exchange : exchange t p ≡ exchange s p = passes (ap (is_message_at p) at ∙ ne_eqb q p other) in
                  let serving = taken_is s q l.taken in
                  let led = led_to s f f now_facts q w.at (subst (λ z. is_doer s w.at z ≡ true) at w.does) in
                  let served : service s to.node ≡ Some serving.serving =
                  ap (service s) (mine ∙ sym led.2 ∙ ap (λ (x : Target). x.node) (same_Some led.0 serving.to (sym led.1 ∙ serving.leads))) ∙ serving.serviced in
                  let untaken : is_taken s p ≡ false = taken_is_by s (Some serving.serving) j.leads served ∙ ap (λ i. i == p) serving.of_port ∙ ne_eqb q p other in
                  record {
                    none_replied = ap (λ (x : Exchange). is_in_more x.phase) same_exchange ∙ old.none_replied;
                    value = λ h. ap (λ (x : Exchange). x.value) same_exchange ∙ old.value (sym (ap (λ (x : Exchange). is_asked x.phase) same_exchange) ∙ h) ∙ sym (ap ask_value same_place);
                    before_ = λ u a h. lent_same ∙ old.before_ untaken (sym (ap (λ (x : Exchange). is_answered x.phase) same_exchange) ∙ a) (sym kept_has ∙ h);
                    taken = λ u ask reply. absurd (both_ways (is_taken t p) none_now u);
                    answered = λ a ask reply. lent_same ∙ old.answered (sym (ap (λ (x : Exchange). is_answered x.phase) same_exchange) ∙ a) (sym (ap ask_value same_place) ∙ ask) (sym (ap (λ (x : Exchange). x.value) same_exchange) ∙ reply);
                  }

      -- ---- its place does it

      by_place : o ≡ w.at → LentAt t g lent' p to
      by_place mine = acts e refl
        where
          other_one : to.node ≡ w.at → ⊥
          other_one same = apart (mine ∙ sym same)

          lent_same : lent' to.node ≡ was.lent to.node
          lent_same = lent_else to.node other_one

          took_same : is_taken t p ≡ is_taken s p
          took_same = took_by (service_else other_one)

          one_slot : w.made ≡ j.from
          one_slot = same_Some w.made j.from (sym w.there ∙ ap (slot s.config) (sym mine) ∙ j.from_there)

          after : (z : Event) → e ≡ z → after_event j.from.first_port (f o) z ≡ Some (g o)
          after z at =
              ap (λ i. after_event j.from.first_port (f i) z) mine ∙ ap (λ (m : Slot). after_event m.first_port (f w.at) z) (sym one_slot) ∙ sym (ap (after_event w.made.first_port (f w.at)) at) ∙ w.led ∙ sym (ap (λ i. Some (g i)) mine)

          -- nothing changes but what others do
          kept_all : exchange t p ≡ exchange s p → g o ≡ f o → LentAt t g lent' p to
          kept_all ex same = same_lent s t f g was.lent lent' p to ex took_same own_then req_then same (w.others to.node other_one) lent_same old

          -- it has nothing then, and the port is idle
          has_none : exchange t p ≡ exchange s p → is_idle (exchange s p).phase ≡ true → has_fork (g o) (gate s.config p).require ≡ false → LentAt t g lent' p to
          has_none ex idle none_ =
              free_lent t g lent' p to (ap (λ (x : Exchange). is_idle x.phase) ex ∙ idle) (took_same ∙ idle_untaken s f f now_facts p idle)
              ((λ i. has_fork (g (own_then i)) (req_then i)) ∙ none_)

          idle_unless : (calls_at j.from.first_port (f o) p ≡ true → ⊥) → is_idle (exchange s p).phase ≡ true
          idle_unless none_ = by (is_idle (exchange s p).phase) refl
            where
              by : (b : Bool) → is_idle (exchange s p).phase ≡ b → is_idle (exchange s p).phase ≡ true
              by true is = is
              by false is = absurd (none_ (busy_calls is))

          -- an answer, or a miss, at this port or at the other one
          answer : (q y : ℕ) → calls_at j.from.first_port (f o) q ≡ true → g o ≡ moves.after_answer (f o) y
              → (q ≡ p → (is_idle (exchange t p).phase ≡ true) × (ask_value (f o) ≡ 1 → y ≡ 1 → was.lent to.node ≡ Some p)) → ((q ≡ p → ⊥) → exchange t p ≡ exchange s p) → LentAt t g lent' p to
          answer q y calls then_ here_ else_ = ⊎_elim
              (λ (same : q ≡ p).
              let w' = here_ same in
              record {
                none_replied = idle_more (exchange t p).phase w'.0;
                value = λ h. absurd (both_ways (is_idle (exchange t p).phase) (asked_busy (exchange t p).phase h) w'.0);
                before_ = λ u a h.
                    let got = a_.got (gate s.config p).require two (same ∙ at_port.0) (sym ((λ i. has_fork (g (own_then i)) (req_then i)) ∙ ap (λ x. has_fork x (gate s.config p).require) then_) ∙ h) in
                    lent_same ∙ w'.1 got.0 got.1;
                taken = λ u ask reply. absurd (both_ways (is_idle (exchange t p).phase) (taken_busy t p then_facts.traffic u) w'.0);
                answered = λ a ask reply. absurd (both_ways (is_idle (exchange t p).phase) (answered_busy (exchange t p).phase a) w'.0);
              })
              (λ (other : q ≡ p → ⊥).
              let ex = else_ other in
              let idle = idle_unless (λ c. other (one_call (f o) j.from.first_port q p calls c)) in
              let idle_t : is_idle (exchange t p).phase ≡ true = ap (λ (x : Exchange). is_idle x.phase) ex ∙ idle in
              record {
                none_replied = idle_more (exchange t p).phase idle_t;
                value = λ h. absurd (both_ways (is_idle (exchange t p).phase) (asked_busy (exchange t p).phase h) idle_t);
                before_ = λ u a h.
                    lent_same ∙ old.before_ (sym took_same ∙ u) (sym (ap (λ (x : Exchange). is_answered x.phase) ex) ∙ a)
                    (sym (a_.others (gate s.config p).require two (λ e_. other (e_ ∙ sym at_port.0))) ∙ sym (ap (λ x. has_fork x (gate s.config p).require) then_) ∙ sym ((λ i. has_fork (g (own_then i)) (req_then i))) ∙ h);
                taken = λ u ask reply. absurd (both_ways (is_idle (exchange t p).phase) (taken_busy t p then_facts.traffic u) idle_t);
                answered = λ a ask reply. absurd (both_ways (is_idle (exchange t p).phase) (answered_busy (exchange t p).phase a) idle_t);
              })
              (cases_eq q p)
            where
              a_ : Asking (f o) j.from.first_port q y
              a_ = asking (f o) j.from.first_port q y place_kind calls

              then_facts : Facts t g
              then_facts = facts handed (es ++ e ∷ []) run' later

              idle_more : (x : Phase) → is_idle x ≡ true → is_in_more x ≡ false
              idle_more phase.Idle h = refl
              idle_more phase.Asked h = refl
              idle_more phase.Answered h = refl
              idle_more phase.More h = absurd (both_ways false refl h)

          wants_none : (q : ℕ) → wants_at j.from.first_port (f o) q ≡ false
          wants_none q = ap (λ k. is_request_at j.from.first_port q (wants k (f o).arg (f o).kept)) place_kind

          acts : (z : Event) → e ≡ z → LentAt t g lent' p to
          acts (Begin q k v) at =
              absurd (both_ways false refl (sym (ap (λ n. is_request j.from.first_port q v (wants n (f o).arg (f o).kept)) place_kind) ∙ (where_so_then (is_request j.from.first_port q v (moves.wants (f o))) (f o) (g o) (after (Begin q k v) at)).0))
          acts (Call q k v) at = ⊎_elim
              (λ (same : q ≡ p).
              let l = subst (Legal s) at here.legal in
              let idle : is_idle (exchange s p).phase ≡ true = ap (λ i. is_idle (exchange s i).phase) (sym same) ∙ l.idle in
              let x : exchange t p ≡ record { phase = phase.Asked; serial = k; value = v; within = option_map (λ (y : Service). y.port) (service s (owner s.config p)) } =
              exchange_now p ∙ ap (exchange_next s p) at ∙ ap (λ b. cond b (record { phase = phase.Asked; serial = k; value = v; within = option_map (λ (y : Service). y.port) (service s (owner s.config p)) }) (exchange s p)) (eq-eqb q p same) in
              let led = where_so_then (is_request j.from.first_port q v (asked_by (moves.next (f o)))) (f o) (g o) (after (Call q k v) at) in
              let same_n : g (owner t.config p) ≡ f o = ap g own_then ∙ sym led.1 in
              let untaken = took_same ∙ idle_untaken s f f now_facts p idle in
              record {
                none_replied = ap (λ (y : Exchange). is_in_more y.phase) x;
                value = λ h. ap (λ (y : Exchange). y.value) x ∙ sym (called_with (f o) j.from.first_port q v led.0).0 ∙ sym (ap ask_value same_n);
                before_ = λ u a h. lent_same ∙ old.before_ (idle_untaken s f f now_facts p idle) (false_from_ne_true (is_answered (exchange s p).phase) (λ h'. both_ways (is_idle (exchange s p).phase) (answered_busy (exchange s p).phase h') idle)) (sym (λ i. has_fork (same_n i) (req_then i)) ∙ h);
                taken = λ u ask reply. absurd (both_ways (is_taken t p) untaken u);
                answered = λ a ask reply. absurd (both_ways false refl (sym (ap (λ (y : Exchange). is_answered y.phase) x) ∙ a));
              })
              (λ (other : q ≡ p → ⊥). kept_all (passes (ap (is_message_at p) at ∙ ne_eqb q p other)) (sym (where_so_then _ (f o) (g o) (after (Call q k v) at)).1))
              (cases_eq q p)
          acts (Ask q k v) at = ⊎_elim
              (λ (same : q ≡ p). let l = subst (Legal s) at here.legal in absurd (both_ways (is_in_more (exchange s p).phase) old.none_replied (ap (λ i. is_in_more (exchange s i).phase) (sym same) ∙ l.in_more)))
              (λ (other : q ≡ p → ⊥). kept_all (passes (ap (is_message_at p) at ∙ ne_eqb q p other)) (sym (where_so_then _ (f o) (g o) (after (Ask q k v) at)).1))
              (cases_eq q p)
          acts (Miss q) at =
              let led = where_so_then (calls_at j.from.first_port (f o) q) (moves.after_answer (f o) 0) (g o) (after (Miss q) at) in
              let ex : exchange t p ≡ exchange s p = passes (ap (is_message_at p) at) in
              answer q 0 led.0 (sym led.1)
              (λ same. (ap (λ (x : Exchange). is_idle x.phase) ex ∙ (let l = subst (Legal s) at here.legal in ap (λ i. is_idle (exchange s i).phase) (sym same) ∙ l.idle), λ ask y. absurd (cc y)))
              (λ other. ex)
          acts (End q k v) at = at_end (calls_at j.from.first_port (f o) q) refl (after (End q k v) at)
            where
              l : Legal s (End q k v)
              l = subst (Legal s) at here.legal

              value_is : v ≡ (exchange s q).value
              value_is = eqb-true v (exchange s q).value (and_parts (k == (exchange s q).serial) (v == (exchange s q).value) l.message).1

              at_end : (b : Bool) → calls_at j.from.first_port (f o) q ≡ b → cond b (Some (moves.after_answer (f o) v)) (cond (wants_at j.from.first_port (f o) q) (Some (moves.after_end (f o) v)) None) ≡ Some (g o) → LentAt t g lent' p to
              at_end true is h =
                  answer q v is (sym (same_Some (moves.after_answer (f o) v) (g o) h))
                  (λ same. (
                    ap (λ (x : Exchange). is_idle x.phase) (exchange_now p ∙ ap (exchange_next s p) at)
                        ∙ ap (λ b. is_idle (cond b (exchange_by (service s (owner s.config p)) (exchange s p) (End q k v)) (exchange s p)).phase) (eq-eqb q p same),
                    λ ask y. old.answered (ap (λ i. is_answered (exchange s i).phase) (sym same) ∙ l.answered) ask (ap (λ i. (exchange s i).value) (sym same) ∙ sym value_is ∙ y),
                  ))
                  (λ other. passes (ap (is_message_at p) at ∙ ne_eqb q p other))
              at_end false is h = absurd (both_ways _ (wants_none q) (where_so_then (wants_at j.from.first_port (f o) q) (moves.after_end (f o) v) (g o) h).0)
          acts (Take q k v) at =
              let led = where_so_then (may_take (f o)) (moves.after_take (f o) v) (g o) (after (Take q k v) at) in
              let none_ : (f o).service ≡ None = none_is (f o).service (and_parts _ (is_none (f o).service) led.0).1 in
              has_none (passes (ap (is_message_at p) at)) (idle_unless (λ c. both_ways false refl (sym (ap (λ x. is_request_at j.from.first_port p (asked_by (option_and_then (moves.next_in (f o)) x))) none_) ∙ c))) (sym (ap (λ x. has_fork x (gate s.config p).require) led.1))
            where
              none_is : (x : Option node.Service) → is_none x ≡ true → x ≡ None
              none_is None h = refl
              none_is (Some v) h = absurd (both_ways false refl h)
          acts (Give q k v) at =
              let led = where_so_then (is_give v (moves.next (f o))) (moves.after_give (f o)) (g o) (after (Give q k v) at) in
              has_none (passes (ap (is_message_at p) at ∙ not_here q k v at)) (idle_unless (λ c. calls_no_give (f o) j.from.first_port p v c led.0)) (sym (ap (λ x. has_fork x (gate s.config p).require) led.1))
            where
              not_here : (q k v : ℕ) → e ≡ Give q k v → (q == p) ≡ false
              not_here q k v at = false_from_ne_true (q == p) (λ h. other_one (by_target q (subst (λ z. is_doer s w.at z ≡ true) at w.does) (eqb-true q p h)))
          acts (More q k v) at =
              absurd (both_ways _ (sends_no_more (f o) v place_kind) (where_so_then (is_more v (moves.next (f o))) (moves.after_more (f o)) (g o) (after (More q k v) at)).0)
          acts (Hear q k v) at =
              absurd (both_ways _ (ap (λ i. moves.waits (f i)) mine ∙ waits_not (f w.at) (ap (λ k. mores_of k 0) (sym (ap (λ i. (f i).kind) mine) ∙ place_kind)) w.bounded) (where_so_then (moves.waits (f o)) (moves.after_answer (f o) v) (g o) (after (Hear q k v) at)).0)
          acts _ at = absurd (both_ways true (sym (ap is_of_change at) ∙ of_node) refl)

      -- ---- and it stays held

      claims_others : (o ≡ w.at → ⊥) → (to.node ≡ w.at → ⊥) → Claims s f p to → Claims t g p to
      claims_others first second c = same_claims s t f g p to (passes (silent first second)) (took_by (service_else second)) own_then req_then (w.others o first) (w.others to.node second) c

      claims_fork : (mine : to.node ≡ w.at) → ((g w.at).kept.count == 0) ≡ false → Claims s f p to → Claims t g p to
      claims_fork mine still c = acts e refl (fork_acts j.into j.is_fork_ (ap (slot s.config) (sym mine) ∙ j.into_there)) c
        where
          other_one : o ≡ w.at → ⊥
          other_one same = apart (same ∙ sym mine)

          same_place : g (owner t.config p) ≡ f o
          same_place = ap g own_then ∙ w.others o other_one

          fork_kind : (f w.at).kind ≡ Fork
          fork_kind = kind_of w.at j.into (ap (slot s.config) (sym mine) ∙ j.into_there) ∙ j.is_fork_

          service_mine : service t to.node ≡ service_by (service s to.node) e
          service_mine = service_now to.node ∙ ap (λ b. cond b (service_by (service s to.node) e) (service s to.node)) (ap (λ i. is_doer s i e) mine ∙ w.does)

          acts : (z : Event) → e ≡ z → Lending (f w.at) (g w.at) z → Claims s f p to → Claims t g p to
          acts _ at (takes q k v then_) c = ⊎_elim (λ (same : q ≡ p). absurd (at_this same c)) (λ (other : q ≡ p → ⊥). at_other other c) (cases_eq q p)
            where
              l : Legal s (Take q k v)
              l = subst (Legal s) at here.legal

              at_this : q ≡ p → Claims s f p to → ⊥
              at_this same (keeps u a h) =
                  let asked : is_asked (exchange s p).phase ≡ true = ap (λ i. is_asked (exchange s i).phase) (sym same) ∙ l.asked in
                  let value : v ≡ ask_value (f o) =
                  eqb-true v (exchange s q).value (and_parts (k == (exchange s q).serial) (v == (exchange s q).value) l.message).1 ∙ ap (λ i. (exchange s i).value) same ∙ old.value asked in
                  let x = asking (f o) j.from.first_port p 0 place_kind (busy_calls (asked_busy (exchange s p).phase asked)) in
                  ⊎_elim
                  (λ (zero_ : ask_value (f o) ≡ 0). both_ways ((g w.at).kept.count == 0) still (ap (λ (y : NodeState). y.kept.count == 0) then_ ∙ (lends (f w.at) v fork_kind).freed (value ∙ zero_)))
                  (λ (one_ : ask_value (f o) ≡ 1). both_ways (has_fork (f o) (gate s.config p).require) (x.lacks (gate s.config p).require two at_port.0 one_) h)
                  x.few
              at_this same (gets u a r) = both_ways (is_taken s p) (ap (is_taken s) (sym same) ∙ not-true (is_taken s q) l.untaken) u
              at_this same (got u a v') = both_ways (is_asked (exchange s p).phase) (answered_not_asked (exchange s p).phase u) (ap (λ i. is_asked (exchange s i).phase) (sym same) ∙ l.asked)

              same_exchange : exchange t p ≡ exchange s p
              same_exchange = passes (ap (is_message_at p) at)

              taken_then : is_taken t p ≡ (q == p)
              taken_then = taken_is_by t (Some (record { port = q; calls = 0; mores = 0; heard = true })) leads_then (service_mine ∙ ap (service_by (service s to.node)) at)

              at_other : (q ≡ p → ⊥) → Claims s f p to → Claims t g p to
              at_other other (keeps u a h) = keeps (taken_then ∙ ne_eqb q p other) (ap (λ (x : Exchange). is_answered x.phase) same_exchange ∙ a) ((λ i. has_fork (same_place i) (req_then i)) ∙ h)
              at_other other (gets u a r) =
                  let led = led_to s f f now_facts q w.at (subst (λ z. is_doer s w.at z ≡ true) at w.does) in
                  let x = taken_is s p u in
                  let served : service s w.at ≡ Some x.serving = ap (service s) (sym mine ∙ ap (λ (y : Target). y.node) (same_Some to x.to (sym j.leads ∙ x.leads))) ∙ x.serviced in
                  absurd (both_ways false refl (sym (ap is_none served) ∙ sym (ap (λ y. is_none (option_and_then (λ (z : Target). service s z.node) y)) led.1 ∙ ap (λ i. is_none (service s i)) led.2) ∙ l.free))
              at_other other (got u a v') = got (ap (λ (x : Exchange). is_answered x.phase) same_exchange ∙ u) (ap ask_value same_place ∙ a) (ap (λ (x : Exchange). x.value) same_exchange ∙ v')
          acts _ at (gives q k v r then_) c = ⊎_elim (λ (same : q ≡ p). at_this same c) (λ (other : q ≡ p → ⊥). at_other other c) (cases_eq q p)
            where
              l : Legal s (Give q k v)
              l = subst (Legal s) at here.legal

              none_then : is_taken t p ≡ false
              none_then = taken_is_by t None leads_then (service_mine ∙ ap (service_by (service s to.node)) at)

              at_this : q ≡ p → Claims s f p to → Claims t g p to
              at_this same (keeps u a h) = absurd (both_ways (is_taken s p) u (ap (is_taken s) (sym same) ∙ l.taken))
              at_this same (gets u a r') =
                  let after : exchange t p ≡ record (exchange s p) { phase = phase.Answered; value = v } =
                  exchange_now p ∙ ap (exchange_next s p) at ∙ ap (λ b. cond b (record (exchange s p) { phase = phase.Answered; value = v }) (exchange s p)) (eq-eqb q p same) in
                  got (ap (λ (x : Exchange). is_answered x.phase) after) (ap ask_value same_place ∙ a) (ap (λ (x : Exchange). x.value) after ∙ sym r ∙ sym (ap (λ i. reply_of (f i)) mine) ∙ r')
              at_this same (got u a v') = absurd (both_ways (is_taken s p) (answered_untaken s f f now_facts p u) (ap (is_taken s) (sym same) ∙ l.taken))

              at_other : (q ≡ p → ⊥) → Claims s f p to → Claims t g p to
              at_other other c =
                  let same_exchange : exchange t p ≡ exchange s p = passes (ap (is_message_at p) at ∙ ne_eqb q p other) in
                  let serving = taken_is s q l.taken in
                  let led = led_to s f f now_facts q w.at (subst (λ z. is_doer s w.at z ≡ true) at w.does) in
                  let served : service s to.node ≡ Some serving.serving =
                  ap (service s) (mine ∙ sym led.2 ∙ ap (λ (x : Target). x.node) (same_Some led.0 serving.to (sym led.1 ∙ serving.leads))) ∙ serving.serviced in
                  let untaken : is_taken s p ≡ false = taken_is_by s (Some serving.serving) j.leads served ∙ ap (λ i. i == p) serving.of_port ∙ ne_eqb q p other in
                  by_claim same_exchange untaken c
                where
                  by_claim : exchange t p ≡ exchange s p → is_taken s p ≡ false → Claims s f p to → Claims t g p to
                  by_claim ex untaken (keeps u a h) = keeps none_then (ap (λ (x : Exchange). is_answered x.phase) ex ∙ a) ((λ i. has_fork (same_place i) (req_then i)) ∙ h)
                  by_claim ex untaken (gets u a r') = absurd (both_ways (is_taken s p) untaken u)
                  by_claim ex untaken (got u a v') = got (ap (λ (x : Exchange). is_answered x.phase) ex ∙ u) (ap ask_value same_place ∙ a) (ap (λ (x : Exchange). x.value) ex ∙ v')

      claims_place : o ≡ w.at → ((exchange s p).serial == LAST_SERIAL) ≡ false → Claims s f p to → Claims t g p to
      claims_place mine spare = acts e refl
        where
          other_one : to.node ≡ w.at → ⊥
          other_one same = apart (mine ∙ sym same)

          took_same : is_taken t p ≡ is_taken s p
          took_same = took_by (service_else other_one)

          one_slot : w.made ≡ j.from
          one_slot = same_Some w.made j.from (sym w.there ∙ ap (slot s.config) (sym mine) ∙ j.from_there)

          after : (z : Event) → e ≡ z → after_event j.from.first_port (f o) z ≡ Some (g o)
          after z at =
              ap (λ i. after_event j.from.first_port (f i) z) mine ∙ ap (λ (m : Slot). after_event m.first_port (f w.at) z) (sym one_slot) ∙ sym (ap (after_event w.made.first_port (f w.at)) at) ∙ w.led ∙ sym (ap (λ i. Some (g i)) mine)

          kept_all : exchange t p ≡ exchange s p → g o ≡ f o → Claims s f p to → Claims t g p to
          kept_all ex same c = same_claims s t f g p to ex took_same own_then req_then same (w.others to.node other_one) c

          busy_taken : is_taken s p ≡ true → is_idle (exchange s p).phase ≡ false
          busy_taken u = taken_busy s p here.traffic u

          -- at the other port an answer, or a miss
          elsewhere : (q y : ℕ) → calls_at j.from.first_port (f o) q ≡ true → g o ≡ moves.after_answer (f o) y → (q ≡ p → ⊥) → exchange t p ≡ exchange s p → Claims s f p to → Claims t g p to
          elsewhere q y calls then_ other ex (keeps u a h) =
              keeps (took_same ∙ u) (ap (λ (x : Exchange). is_answered x.phase) ex ∙ a)
              ((λ i. has_fork (g (own_then i)) (req_then i)) ∙ ap (λ x. has_fork x (gate s.config p).require) then_
              ∙ (asking (f o) j.from.first_port q y place_kind calls).others (gate s.config p).require two (λ e_. other (e_ ∙ sym at_port.0)) ∙ h)
          elsewhere q y calls then_ other ex (gets u a r) = absurd (other (one_call (f o) j.from.first_port q p calls (busy_calls (busy_taken u))))
          elsewhere q y calls then_ other ex (got u a v) = absurd (other (one_call (f o) j.from.first_port q p calls (busy_calls (answered_busy (exchange s p).phase u))))

          -- it isn't idle where it waits for the fork, nor with an answer
          not_idle : is_idle (exchange s p).phase ≡ true → Claims s f p to → (is_taken s p ≡ false) × (is_answered (exchange s p).phase ≡ false) × (has_fork (f o) (gate s.config p).require ≡ true)
          not_idle idle (keeps u a h) = (u, a, h)
          not_idle idle (gets u a r) = absurd (both_ways (is_idle (exchange s p).phase) (busy_taken u) idle)
          not_idle idle (got u a v) = absurd (both_ways (is_idle (exchange s p).phase) (answered_busy (exchange s p).phase u) idle)

          -- a place that doesn't call there has it
          no_call : (calls_at j.from.first_port (f o) p ≡ true → ⊥) → Claims s f p to → has_fork (f o) (gate s.config p).require ≡ true
          no_call none_ (keeps u a h) = h
          no_call none_ (gets u a r) = absurd (none_ (busy_calls (busy_taken u)))
          no_call none_ (got u a v) = absurd (none_ (busy_calls (answered_busy (exchange s p).phase u)))

          wants_none : (q : ℕ) → wants_at j.from.first_port (f o) q ≡ false
          wants_none q = ap (λ k. is_request_at j.from.first_port q (wants k (f o).arg (f o).kept)) place_kind

          acts : (z : Event) → e ≡ z → Claims s f p to → Claims t g p to
          acts (Begin q k v) at c =
              absurd (both_ways false refl (sym (ap (λ n. is_request j.from.first_port q v (wants n (f o).arg (f o).kept)) place_kind) ∙ (where_so_then (is_request j.from.first_port q v (moves.wants (f o))) (f o) (g o) (after (Begin q k v) at)).0))
          acts (Call q k v) at c = ⊎_elim
              (λ (same : q ≡ p).
              let l = subst (Legal s) at here.legal in
              let idle : is_idle (exchange s p).phase ≡ true = ap (λ i. is_idle (exchange s i).phase) (sym same) ∙ l.idle in
              let x : exchange t p ≡ record { phase = phase.Asked; serial = k; value = v; within = option_map (λ (y : Service). y.port) (service s (owner s.config p)) } =
              exchange_now p ∙ ap (exchange_next s p) at ∙ ap (λ b. cond b (record { phase = phase.Asked; serial = k; value = v; within = option_map (λ (y : Service). y.port) (service s (owner s.config p)) }) (exchange s p)) (eq-eqb q p same) in
              let led = where_so_then (is_request j.from.first_port q v (asked_by (moves.next (f o)))) (f o) (g o) (after (Call q k v) at) in
              let same_n : g (owner t.config p) ≡ f o = ap g own_then ∙ sym led.1 in
              let k' = not_idle idle c in
              keeps (took_same ∙ k'.0) (ap (λ (y : Exchange). is_answered y.phase) x) ((λ i. has_fork (same_n i) (req_then i)) ∙ k'.2))
              (λ (other : q ≡ p → ⊥). kept_all (passes (ap (is_message_at p) at ∙ ne_eqb q p other)) (sym (where_so_then _ (f o) (g o) (after (Call q k v) at)).1) c)
              (cases_eq q p)
          acts (Ask q k v) at c = ⊎_elim
              (λ (same : q ≡ p). let l = subst (Legal s) at here.legal in absurd (both_ways (is_in_more (exchange s p).phase) old.none_replied (ap (λ i. is_in_more (exchange s i).phase) (sym same) ∙ l.in_more)))
              (λ (other : q ≡ p → ⊥). kept_all (passes (ap (is_message_at p) at ∙ ne_eqb q p other)) (sym (where_so_then _ (f o) (g o) (after (Ask q k v) at)).1) c)
              (cases_eq q p)
          acts (Miss q) at c =
              let led = where_so_then (calls_at j.from.first_port (f o) q) (moves.after_answer (f o) 0) (g o) (after (Miss q) at) in
              ⊎_elim
              (λ (same : q ≡ p).
              let l = subst (Legal s) at here.legal in
              absurd (both_ways ((exchange s p).serial == LAST_SERIAL) spare (sym (ap (λ y. is_none y || (exchange s p).serial == LAST_SERIAL) j.leads) ∙ sym (ap (λ i. is_missing s i) same) ∙ l.missing)))
              (λ (other : q ≡ p → ⊥). elsewhere q 0 led.0 (sym led.1) other (passes (ap (is_message_at p) at)) c)
              (cases_eq q p)
          acts (End q k v) at c = at_end (calls_at j.from.first_port (f o) q) refl (after (End q k v) at)
            where
              l : Legal s (End q k v)
              l = subst (Legal s) at here.legal

              value_is : v ≡ (exchange s q).value
              value_is = eqb-true v (exchange s q).value (and_parts (k == (exchange s q).serial) (v == (exchange s q).value) l.message).1

              here_ : calls_at j.from.first_port (f o) q ≡ true → g o ≡ moves.after_answer (f o) v → q ≡ p → Claims s f p to → Claims t g p to
              here_ calls then_ same (keeps u a h) = absurd (both_ways (is_answered (exchange s p).phase) a (ap (λ i. is_answered (exchange s i).phase) (sym same) ∙ l.answered))
              here_ calls then_ same (gets u a r) = absurd (both_ways (is_taken s p) (answered_untaken s f f now_facts p (ap (λ i. is_answered (exchange s i).phase) (sym same) ∙ l.answered)) u)
              here_ calls then_ same (got u a v') =
                  let idle : is_idle (exchange t p).phase ≡ true =
                  ap (λ (x : Exchange). is_idle x.phase) (exchange_now p ∙ ap (exchange_next s p) at)
                  ∙ ap (λ b. is_idle (cond b (exchange_by (service s (owner s.config p)) (exchange s p) (End q k v)) (exchange s p)).phase) (eq-eqb q p same) in
                  let x = asking (f o) j.from.first_port q v place_kind calls in
                  keeps (took_same ∙ answered_untaken s f f now_facts p u) (false_from_ne_true (is_answered (exchange t p).phase) (λ y. both_ways (is_idle (exchange t p).phase) (answered_busy (exchange t p).phase y) idle))
                  ((λ i. has_fork (g (own_then i)) (req_then i)) ∙ ap (λ y. has_fork y (gate s.config p).require) then_ ∙ x.gets (gate s.config p).require two (same ∙ at_port.0) a (value_is ∙ ap (λ i. (exchange s i).value) same ∙ v'))

              at_end : (b : Bool) → calls_at j.from.first_port (f o) q ≡ b → cond b (Some (moves.after_answer (f o) v)) (cond (wants_at j.from.first_port (f o) q) (Some (moves.after_end (f o) v)) None) ≡ Some (g o) → Claims t g p to
              at_end true is h =
                  let then_ = sym (same_Some (moves.after_answer (f o) v) (g o) h) in
                  ⊎_elim (λ (same : q ≡ p). here_ is then_ same c) (λ (other : q ≡ p → ⊥). elsewhere q v is then_ other (passes (ap (is_message_at p) at ∙ ne_eqb q p other)) c) (cases_eq q p)
              at_end false is h = absurd (both_ways _ (wants_none q) (where_so_then (wants_at j.from.first_port (f o) q) (moves.after_end (f o) v) (g o) h).0)
          acts (Take q k v) at c =
              let led = where_so_then (may_take (f o)) (moves.after_take (f o) v) (g o) (after (Take q k v) at) in
              let none_ : (f o).service ≡ None = none_is (f o).service (and_parts _ (is_none (f o).service) led.0).1 in
              absurd (both_ways (has_fork (f o) (gate s.config p).require) (resting_has_none (f o) (gate s.config p).require none_)
              (no_call (λ y. both_ways false refl (sym (ap (λ x. is_request_at j.from.first_port p (asked_by (option_and_then (moves.next_in (f o)) x))) none_) ∙ y)) c))
            where
              none_is : (x : Option node.Service) → is_none x ≡ true → x ≡ None
              none_is None h = refl
              none_is (Some v) h = absurd (both_ways false refl h)
          acts (Give q k v) at c =
              let led = where_so_then (is_give v (moves.next (f o))) (moves.after_give (f o)) (g o) (after (Give q k v) at) in
              absurd (having_no_give (f o) (gate s.config p).require v place_kind (no_call (λ y. calls_no_give (f o) j.from.first_port p v y led.0) c) led.0)
          acts (More q k v) at c =
              absurd (both_ways _ (sends_no_more (f o) v place_kind) (where_so_then (is_more v (moves.next (f o))) (moves.after_more (f o)) (g o) (after (More q k v) at)).0)
          acts (Hear q k v) at c =
              absurd (both_ways _ (ap (λ i. moves.waits (f i)) mine ∙ waits_not (f w.at) (ap (λ k. mores_of k 0) (sym (ap (λ i. (f i).kind) mine) ∙ place_kind)) w.bounded) (where_so_then (moves.waits (f o)) (moves.after_answer (f o) v) (g o) (after (Hear q k v) at)).0)
          acts _ at c = absurd (both_ways true (sym (ap is_of_change at) ∙ of_node) refl)

      claims_then : ((exchange s p).serial == LAST_SERIAL) ≡ false → (to.node ≡ w.at → ((g w.at).kept.count == 0) ≡ false) → Claims s f p to → Claims t g p to
      claims_then spare still c = ⊎_elim
          (λ (place_ : o ≡ w.at). claims_place place_ spare c)
          (λ (other : o ≡ w.at → ⊥). ⊎_elim (λ (fork_ : to.node ≡ w.at). claims_fork fork_ (still fork_) c) (λ (else_ : to.node ≡ w.at → ⊥). claims_others other else_ c) (cases_eq to.node w.at))
          (cases_eq o w.at)

      lent_then : LentAt t g lent' p to
      lent_then = ⊎_elim
          (λ (place_ : o ≡ w.at). by_place place_)
          (λ (other : o ≡ w.at → ⊥). ⊎_elim (λ (fork_ : to.node ≡ w.at). by_fork fork_) (λ (else_ : to.node ≡ w.at → ⊥). by_others other else_) (cases_eq to.node w.at))
          (cases_eq o w.at)

    -- ---- a fork that isn't free is held

    -- who asks a fork is a place
    asking_place : (q k v : ℕ) → e ≡ Take q k v → (m : Slot) → slot s.config w.at ≡ Some m → m.node.kind ≡ Fork → (to : Target) × (to.node ≡ w.at) × Joined s.config q to
    asking_place q k v at m there kind =
        let leads = led_to s f f now_facts q w.at (subst (λ z. is_doer s w.at z ≡ true) at w.does) in
        let into : slot s.config leads.0.node ≡ Some m = ap (slot s.config) leads.2 ∙ there in
        let own = here.well.sound.ports q (linked_made s.config q leads.0 leads.1) in
        let kind_q = place_if own.node.node.kind (sym (ap (λ k. not (is_fork k) || is_place own.node.node.kind) kind) ∙ linked q leads.0 own.node m leads.1 own.made into) in
        (leads.0, leads.2, record { leads = leads.1; from = own.node; from_there = own.made; is_place_ = kind_q; into = m; into_there = into; is_fork_ = kind })

    -- a fork that was free and is lent now
    newly : (q k v : ℕ) → e ≡ Take q k v → g w.at ≡ moves.after_take (f w.at) v → v ≡ 1 → (m : Slot) → slot s.config w.at ≡ Some m → m.node.kind ≡ Fork → ((f w.at).kept.count == 0) ≡ true → HeldBy t g w.at
    newly q k v at then_ one_ m there kind free =
        let j = asking_place q k v at m there kind in
        let l = subst (Legal s) at here.legal in
        let own_not : owner s.config q ≡ w.at → ⊥ = λ same. cc (sym j.2.is_place_ ∙ ap (λ (x : Slot). x.node.kind) (same_Some j.2.from m (sym j.2.from_there ∙ ap (slot s.config) same ∙ there)) ∙ kind) in
        let same_place : g (owner t.config q) ≡ f (owner s.config q) = ap (λ (c : Configuration). g (owner c q)) same_config ∙ w.others (owner s.config q) own_not in
        let value : v ≡ ask_value (f (owner s.config q)) =
        eqb-true v (exchange s q).value (and_parts (k == (exchange s q).serial) (v == (exchange s q).value) l.message).1 ∙ (was.ports q j.0 j.2).value l.asked in
        let served : service t j.0.node ≡ Some (record { port = q; calls = 0; mores = 0; heard = true }) =
        ap (service t) j.1 ∙ service_now w.at ∙ ap (λ b. cond b (service_by (service s w.at) e) (service s w.at)) w.does ∙ ap (service_by (service s w.at)) at in
        let leads_then : target t.config q ≡ Some j.0 = ap (λ (c : Configuration). target c q) same_config ∙ j.2.leads in
        record {
          port = q;
          to = j.0;
          at = j.1;
          joined = subst (λ c. Joined c q j.0) (sym same_config) j.2;
          claims = gets (is_taken_if t q j.0 (record { port = q; calls = 0; mores = 0; heard = true }) leads_then served refl) (ap ask_value same_place ∙ sym value ∙ one_)
              (ap (λ i. reply_of (g i)) j.1 ∙ ap reply_of then_ ∙ (lends (f w.at) v (kind_of w.at m there ∙ kind)).replies one_ free);
        }

    pub held_then : AreSpare s → AllHeld es → AllHeld (es ++ e ∷ [])
    held_then spare held_ n m there' kind still = by ((f n).kept.count == 0) refl
      where
        there : slot s.config n ≡ Some m
        there = ap (λ (c : Configuration). slot c n) (sym same_config) ∙ there'

        fresh : n ≡ w.at → ((f n).kept.count == 0) ≡ true → HeldBy t g n
        fresh same free =
            let at_w = ap (slot s.config) (sym same) ∙ there in
            subst (λ i. HeldBy t g i) (sym same)
            (acts e refl (fork_acts m kind at_w) at_w (sym (ap (λ i. (f i).kept.count == 0) same) ∙ free) (sym (ap (λ i. (g i).kept.count == 0) same) ∙ still))
          where
            acts : (z : Event) → e ≡ z → Lending (f w.at) (g w.at) z → slot s.config w.at ≡ Some m → ((f w.at).kept.count == 0) ≡ true → ((g w.at).kept.count == 0) ≡ false → HeldBy t g w.at
            acts _ at (gives p k v r then_) at_w free still = absurd (both_ways ((g w.at).kept.count == 0) still (ap (λ (x : NodeState). x.kept.count == 0) then_ ∙ free))
            acts _ at (takes q k v then_) at_w free still = ⊎_elim
                (λ (one_ : v ≡ 1). newly q k v at then_ one_ m at_w kind free)
                (λ (not_1 : v ≡ 1 → ⊥). ⊎_elim
                (λ (zero_ : v ≡ 0). absurd (both_ways ((g w.at).kept.count == 0) still (ap (λ (x : NodeState). x.kept.count == 0) then_ ∙ (lends (f w.at) v (kind_of w.at m at_w ∙ kind)).freed zero_)))
                (λ (not_0 : v ≡ 0 → ⊥). absurd (both_ways ((g w.at).kept.count == 0) still (ap (λ (x : NodeState). x.kept.count == 0) then_ ∙ ap (λ (x : Kept). x.count == 0) ((lends (f w.at) v (kind_of w.at m at_w ∙ kind)).kept not_0 not_1) ∙ free)))
                (cases_eq v 0))
                (cases_eq v 1)

        by : (b : Bool) → ((f n).kept.count == 0) ≡ b → HeldBy t g n
        by false busy =
            let h = held_ n m there kind busy in
            record {
              port = h.port;
              to = h.to;
              at = h.at;
              joined = subst (λ c. Joined c h.port h.to) (sym same_config) h.joined;
              claims = claims_then h.port h.to h.joined (spare h.port) (λ same. ap (λ i. (g i).kept.count == 0) (sym same ∙ h.at) ∙ still) h.claims;
            }
        by true free = ⊎_elim
            (λ (same : n ≡ w.at). fresh same free)
            (λ (other : n ≡ w.at → ⊥). absurd (both_ways ((g n).kept.count == 0) still (ap (λ (x : NodeState). x.kept.count == 0) (w.others n other) ∙ free)))
            (cases_eq n w.at)

    pub node_forks : Forks (es ++ e ∷ [])
    node_forks = record {
      lent = lent';
      counted = counted_then;
      ports = λ p to j. lent_then p to (subst (λ c. Joined c p to) same_config j);
    }
