-- In each run in which each node made has a fold, what nodes have come to agrees with the machine's state; and one more
-- event leads on the fold of the node that does it.
use Rattle.std.proofs.Common.{◌≡◌, ◌∙◌, ◌<◌, ◌≤◌, ◌+◌, ℕ, Bool, true, false, cond, List, [], ◌∷◌, ◌++◌, length, Option, Some, None, refl, sym, ap, subst, arith, ⊎_elim}
use Rattle.std.specs.Prelude.{◌==◌, nat_lt, option_map}
use Rattle.std.specs.Option.{option_map_or}
use Rattle.std.proofs.lemmas.Bool.{and_parts, both_ways, cases_lt, eqb-true, ltb-true, false_from_ne_true}
use Rattle.std.proofs.lemmas.List.{append-nil}
use Rattle.std.proofs.lemmas.List.Sums.{fold_push}
use Rattle.std.proofs.lemmas.Option.{none-some, same_Some, slice_get_within}
use Rattle.base.proofs.OptionLaws.{map_or_true, option_map_some}
use Rattle.config_graph.specs.declared.node.Target.{Target}
use Rattle.component_trait.specs.Fold.{after_event, asked_by, calls_at, fold_from, fold_next, is_more, is_request, is_request_at}
use Rattle.component_trait.specs.Moves as moves
use Rattle.component_trait.specs.States.{Kept, NodeState, at_rest}
use Rattle.component_trait.specs.declared.next.Ask.{Ask as Request}
use Rattle.component_trait.specs.declared.next.Next.{Next}
use Rattle.component_trait.specs.declared.next.Next.TheVariants as next
use Rattle.component_trait.proofs.FoldLaws.{where_so_then}
use Rattle.quiesce_word.proofs.PhaseLaws.{answered_busy}
use Rattle.quiesce_core.specs.Alters.{nodes_next}
use Rattle.quiesce_core.specs.Doers.{is_of_change}
use Rattle.quiesce_core.specs.Effect.{effect}
use Rattle.quiesce_core.specs.Knowledge.{OwnPort, own_port, own_port_after, own_port_next, served_after, served_next}
use Rattle.quiesce_core.specs.Legal.{Legal}
use Rattle.quiesce_core.specs.Reach.{IsPortOf}
use Rattle.quiesce_core.specs.Rules.{is_live_port}
use Rattle.quiesce_core.specs.Runs.{IsRun, done_by, is_doer, state_after}
use Rattle.quiesce_core.specs.State.{Configuration, State, exchange, is_live, owner, slot, target}
use Rattle.quiesce_core.specs.WellFormed.{IsWellFormed}
use Rattle.quiesce_core.specs.declared.event.Event.{Event}
use Rattle.quiesce_core.specs.declared.event.Event.TheVariants.{Begin, Call, Take, Give, End, More, Ask, Hear, Miss, Close, Reopen, Make, Link, Unlink, Remove}
use Rattle.quiesce_core.specs.declared.known.Served.{Served}
use Rattle.quiesce_core.specs.declared.state.Slot.{Slot}
use Rattle.quiesce_core.proofs.AlterLaws.{reconfigured}
use Rattle.quiesce_core.proofs.ConfigurationLaws.{slot_was}
use Rattle.quiesce_core.proofs.InductionLaws.{IsNext, always}
use Rattle.quiesce_core.proofs.RunLaws.{done_by_more, node_events_keep_the_configuration, nodes_know, runs_are_well_formed, state_more}
use Rattle.node_turn_laws.specs.Agreement.{Agrees, HasNoCall, IsInTurn, expects, ports_next}
use Rattle.node_turn_laws.proofs.AgreementLaws.{agrees_next, no_call_where_none_is_asked, same_request}
use Rattle.change_spec.specs.Opening.{argument_of, fold_at}

-- ---- the node that does an event is live

pub doer_lives : (s : State) (e : Event) (n : ℕ) → IsWellFormed s → Legal s e → is_of_change e ≡ false → is_doer s n e ≡ true → is_live s.config n ≡ true
doer_lives s e n well l node does = by e l node does
  where
    owned : (p : ℕ) → is_live_port s.config p ≡ true → (owner s.config p == n) ≡ true → is_live s.config n ≡ true
    owned p live same = ap (is_live s.config) (sym (eqb-true (owner s.config p) n same)) ∙ (and_parts (nat_lt p (length s.config.gates)) (is_live s.config (owner s.config p)) live).1

    led : (p : ℕ) → option_map_or (λ m. m == n) (option_map (λ (t : Target). t.node) (target s.config p)) false ≡ true → is_live s.config n ≡ true
    led p h =
        let a = map_or_true (λ m. m == n) (option_map (λ (t : Target). t.node) (target s.config p)) h in
        let b = option_map_some (λ (t : Target). t.node) (target s.config p) a.0 a.1 in
        ap (is_live s.config) (sym (b.2 ∙ eqb-true a.0 n a.2)) ∙ (well.sound.targets p b.0 b.1).live

    by : (e : Event) → Legal s e → is_of_change e ≡ false → is_doer s n e ≡ true → is_live s.config n ≡ true
    by (Begin p k v) l node h = owned p l.live h
    by (Call p k v) l node h = owned p l.live h
    by (Miss p) l node h = owned p l.live h
    by (Ask p k v) l node h = owned p l.live h
    by (End p k v) l node h = owned p l.live h
    by (Take p k v) l node h = led p h
    by (Give p k v) l node h = led p h
    by (More p k v) l node h = led p h
    by (Hear p k v) l node h = led p h
    by _ l node h = absurd (both_ways true node refl)

pub change_does : (s : State) (e : Event) (n : ℕ) → is_of_change e ≡ true → is_doer s n e ≡ false
change_does s (Close p) n h = refl
change_does s (Reopen p) n h = refl
change_does s (Make k node from) n h = refl
change_does s (Link p k x) n h = refl
change_does s (Unlink p) n h = refl
change_does s (Remove k) n h = refl
change_does s _ n h = absurd (both_ways false refl h)

-- ---- an event that is legal and that the fold takes comes in turn

asks_at : (first p v : ℕ) (o : Option Request) → is_request first p v o ≡ true → is_request_at first p o ≡ true
asks_at first p v None h = absurd (both_ways false refl h)
asks_at first p v (Some x) h = (and_parts (first + x.require == p) (x.value == v) h).0

more_asks_nothing : (o : Option Next) (v first q : ℕ) → is_more v o ≡ true → is_request_at first q (asked_by o) ≡ false
more_asks_nothing None v first q h = absurd (both_ways false refl h)
more_asks_nothing (Some (next.More w)) v first q h = refl
more_asks_nothing (Some (next.Give w)) v first q h = absurd (both_ways false refl h)
more_asks_nothing (Some (next.Ask w)) v first q h = absurd (both_ways false refl h)

-- where the port of a call is idle, no call is open
no_other_call : (first : ℕ) (t : NodeState) (u : Option Served) (ports : ℕ → OwnPort) (p : ℕ) → Agrees first t u ports → calls_at first t p ≡ true → (ports p).idle ≡ true → HasNoCall ports
no_other_call first t u ports p a here idle q busy = by (ports q).consequent refl
  where
    by : (b : Bool) → (ports q).consequent ≡ b → (ports q).consequent ≡ false
    by false is = is
    by true is =
        let there : calls_at first t q ≡ true = sym (ap (λ b. expects b first t q) is) ∙ a.ports q busy in
        let one : p ≡ q = same_request first p q (asked_by (moves.next t)) here there in
        absurd (both_ways (ports q).idle busy (sym (ap (λ i. (ports i).idle) one) ∙ idle))

module _ (es : List Event) (run : IsRun es) (n : ℕ) (m : Slot) (there : slot (state_after es).config n ≡ Some m) where
  abbrev s : State
  s = state_after es

  abbrev log : List Event
  log = done_by n es

  -- its own ports are those that it knows
  own : (p : ℕ) → is_live_port s.config p ≡ true → (owner s.config p == n) ≡ true → own_port_after p log ≡ own_port s p
  own p live mine =
      let made = (and_parts (nat_lt p (length s.config.gates)) (is_live s.config (owner s.config p)) live).0 in
      (nodes_know es run n).ports p (subst (λ i. IsPortOf s.config i p) (eqb-true (owner s.config p) n mine) ((runs_are_well_formed es run).sound.ports p (ltb-true p (length s.config.gates) made)))

  in_turn : (e : Event) (t t' : NodeState) → Legal s e → is_doer s n e ≡ true → Agrees m.first_port t (served_after log) (λ p. own_port_after p log) → after_event m.first_port t e ≡ Some t'
      → IsInTurn (λ p. own_port_after p log) e
  in_turn (Begin p k v) t t' l mine a h = ap (λ (x : OwnPort). x.idle) (own p l.live mine) ∙ l.idle
  in_turn (End p k v) t t' l mine a h = ap (λ (x : OwnPort). x.idle) (own p l.live mine) ∙ answered_busy (exchange s p).phase l.answered
  in_turn (Call p k v) t t' l mine a h =
      let w = where_so_then (is_request m.first_port p v (asked_by (moves.next t))) t t' h in
      no_other_call m.first_port t (served_after log) (λ p. own_port_after p log) p a (asks_at m.first_port p v (asked_by (moves.next t)) w.0) (ap (λ (x : OwnPort). x.idle) (own p l.live mine) ∙ l.idle)
  in_turn (Miss p) t t' l mine a h =
      let w = where_so_then (calls_at m.first_port t p) (moves.after_answer t 0) t' h in
      no_other_call m.first_port t (served_after log) (λ p. own_port_after p log) p a w.0 (ap (λ (x : OwnPort). x.idle) (own p l.live mine) ∙ l.idle)
  in_turn (More p k v) t t' l mine a h =
      let w = where_so_then (is_more v (moves.next t)) (moves.after_more t) t' h in
      no_call_where_none_is_asked m.first_port t (served_after log) (λ p. own_port_after p log) a (λ q. more_asks_nothing (moves.next t) v m.first_port q w.0)
  in_turn _ t t' l mine a h = tt

-- ---- agreement along a run

abbrev AgreesWith : Slot → List Event → Type 0
AgreesWith m log = (kept : Kept) (t : NodeState) → fold_at m log kept ≡ Some t → Agrees m.first_port t (served_after log) (λ p. own_port_after p log)

pub record Agreed (es : List Event) : Type 0 where
  pub unmade : (n : ℕ) → length (state_after es).config.slots ≤ n → done_by n es ≡ []
  pub made : (n : ℕ) (m : Slot) → slot (state_after es).config n ≡ Some m → AgreesWith m (done_by n es)

fresh_agrees : (m : Slot) → AgreesWith m []
fresh_agrees m kept t is = subst (λ x. Agrees m.first_port x None (λ p. own_port_after p [])) (same_Some _ t is) (record { services = tt; ports = λ p busy. absurd (both_ways true busy refl) })

-- the last step of a fold
last_fold : (first : ℕ) (o : Option NodeState) (e : Event) (t' : NodeState) → fold_next first o e ≡ Some t' → (t : NodeState) × (o ≡ Some t) × (after_event first t e ≡ Some t')
last_fold first None e t' h = absurd (none-some t' h)
last_fold first (Some t) e t' h = (t, refl, h)

agrees_more : (es : List Event) (e : Event) (n : ℕ) (m : Slot) → IsRun es → Legal (state_after es) e → slot (state_after es).config n ≡ Some m → is_doer (state_after es) n e ≡ true → AgreesWith m (done_by n es)
    → AgreesWith m (done_by n es ++ e ∷ [])
agrees_more es e n m run l there mine before kept t' is =
    let log = done_by n es in
    let w = last_fold m.first_port (fold_at m log kept) e t' (sym (fold_push (fold_next m.first_port) (Some (at_rest m.node.kind (argument_of m) kept)) log e) ∙ is) in
    let a = before kept w.0 w.1 in
    let next_ = agrees_next m.first_port w.0 t' (served_after log) (λ p. own_port_after p log) e a (in_turn es run n m there e w.0 t' l mine a w.2) w.2 in
    let served = fold_push served_next None log e in
    let all : ◌≡◌ {A = ℕ → OwnPort} (λ p. own_port_after p (log ++ e ∷ [])) (ports_next (λ p. own_port_after p log) e) =
    λ i. λ p. fold_push (own_port_next p) (record { idle = true; serial = 0; consequent = false }) log e i in
    subst (λ u. Agrees m.first_port t' u (λ p. own_port_after p (log ++ e ∷ []))) (sym served)
    (subst (λ (f : ℕ → OwnPort). Agrees m.first_port t' (served_next (served_after log) e) f) (sym all) next_)

live_below : (c : Configuration) (n : ℕ) → is_live c n ≡ true → n < length c.slots
live_below c n live = let m = map_or_true (λ (x : Slot). x.live) (slot c n) live in slice_get_within c.slots n m.0 m.1

more_nodes : (c : Configuration) (e : Event) → length c.slots ≤ nodes_next c e
more_nodes c (Make n node from) = omega arith
more_nodes c _ = omega arith

-- by the kind of event
agreed_next : (es : List Event) (e : Event) → IsNext es e → Agreed es → Agreed (es ++ e ∷ [])
agreed_next es e here so_far = by (is_of_change e) refl
  where
    not_mine : (n : ℕ) → is_doer (state_after es) n e ≡ false → done_by n (es ++ e ∷ []) ≡ done_by n es
    not_mine n other = done_by_more n es e ∙ ap (λ b. done_by n es ++ cond b (e ∷ []) []) other ∙ append-nil (done_by n es)

    mine_too : (n : ℕ) → is_doer (state_after es) n e ≡ true → done_by n (es ++ e ∷ []) ≡ done_by n es ++ e ∷ []
    mine_too n mine = done_by_more n es e ∙ ap (λ b. done_by n es ++ cond b (e ∷ []) []) mine

    same_slot : (old m : Slot) (log : List Event) → old.first_port ≡ m.first_port → old.node ≡ m.node → AgreesWith old log → AgreesWith m log
    same_slot old m log first node a kept t is =
        subst (λ i. Agrees i t (served_after log) (λ p. own_port_after p log)) first
        (a kept t ((λ i. fold_from (first i) (at_rest (node i).kind (argument_of (record m { node = node i })) kept) log) ∙ is))

    by : (b : Bool) → is_of_change e ≡ b → Agreed (es ++ e ∷ [])
    by true change = record {
      unmade = λ n past.
          not_mine n (change_does (state_after es) e n change)
          ∙ so_far.unmade n (let grows = more_nodes (state_after es).config e in let here_ = (reconfigured (state_after es) e here.legal).nodes in omega (arith, grows, here_, ap (λ (x : State). length x.config.slots) (state_more es e), past));
      made = λ n m at. ⊎_elim
          (λ (old : n < length (state_after es).config.slots).
          let was = slot_was (state_after es).config (effect (state_after es) e).config e (reconfigured (state_after es) e here.legal) n m old (sym (ap (λ (x : State). slot x.config n) (state_more es e)) ∙ at) in
          subst (AgreesWith m) (sym (not_mine n (change_does (state_after es) e n change))) (same_slot was.0 m (done_by n es) was.2 was.3 (so_far.made n was.0 was.1)))
          (λ (past : length (state_after es).config.slots ≤ n).
          subst (AgreesWith m) (sym (not_mine n (change_does (state_after es) e n change) ∙ so_far.unmade n past)) (fresh_agrees m))
          (cases_lt n (length (state_after es).config.slots));
    }
    by false node =
        let config : (state_after (es ++ e ∷ [])).config ≡ (state_after es).config = ap (λ (x : State). x.config) (state_more es e) ∙ node_events_keep_the_configuration (state_after es) e node in
        record {
          unmade = λ n past.
              let before : length (state_after es).config.slots ≤ n = subst (λ (c : Configuration). length c.slots ≤ n) config past in
              not_mine n (false_from_ne_true (is_doer (state_after es) n e) (λ mine.
              let low = live_below (state_after es).config n (doer_lives (state_after es) e n here.well here.legal node mine) in omega (arith, low, before)))
              ∙ so_far.unmade n before;
          made = λ n m at'.
              let at : slot (state_after es).config n ≡ Some m = sym (ap (λ (c : Configuration). slot c n) config) ∙ at' in doer_or n m at (is_doer (state_after es) n e) refl;
        }
      where
        doer_or : (n : ℕ) (m : Slot) → slot (state_after es).config n ≡ Some m → (b : Bool) → is_doer (state_after es) n e ≡ b → AgreesWith m (done_by n (es ++ e ∷ []))
        doer_or n m at true mine = subst (AgreesWith m) (sym (mine_too n mine)) (agrees_more es e n m here.run here.legal at mine (so_far.made n m at))
        doer_or n m at false other = subst (AgreesWith m) (sym (not_mine n other)) (so_far.made n m at)

pub agreed : (es : List Event) → IsRun es → Agreed es
agreed es run = always Agreed agreed_next (record { unmade = λ n past. refl; made = λ n m at. absurd (cc at) }) es run
