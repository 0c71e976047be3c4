-- A table goes on showing a world through a node's turn: it does what the world's turn does.
use Rattle.std.proofs.Common.{◌≡◌, ◌∙◌, ◌≢◌, ℕ, ◌-◌, ◌<◌, Bool, true, false, cond, List, [], ◌∷◌, ◌++◌, length, set, Option, Some, None, refl, ap, sym, subst, ⊎_elim, arith, take, get_or, append-nil}
use Rattle.std.specs.Prelude.{slice_get, nat_lt, ◌==◌, option_map}
use Rattle.std.specs.Option.{option_map_or}
use Rattle.std.proofs.lemmas.Bool.{and_parts, cases_eq, eqb-true, ltb-true}
use Rattle.std.proofs.lemmas.List.{get_or-set_other, get_or-set_same, length-set}
use Rattle.std.proofs.lemmas.Option.{none-some, same_Some, slice_get_within}
use Rattle.base.proofs.OptionLaws.{map_or_at, map_or_true, option_map_some}
use Rattle.base.proofs.PlaceLaws.{slice_get-set_other, slice_get-set_same}
use Rattle.config_graph.proofs.KindLaws.{two_requires}
use Rattle.config_graph.specs.Kinds.{row}
use Rattle.config_graph.specs.declared.node.Target.{Target}
use Rattle.component_trait.specs.Fold.{fold_next}
use Rattle.component_trait.specs.States.{NodeState}
use Rattle.component_trait.proofs.FoldLaws.{fold_keeps_argument, fold_keeps_kind}
use Rattle.quiesce_core.specs.Doers.{is_of_change}
use Rattle.quiesce_core.specs.Effect.{effect}
use Rattle.quiesce_core.specs.Legal.{Legal}
use Rattle.quiesce_core.specs.Rules.{is_live_port}
use Rattle.quiesce_core.specs.Runs.{Step, doer}
use Rattle.quiesce_core.specs.State.{Configuration, State, is_live, owner, slot, target}
use Rattle.quiesce_core.specs.Traffic.{IsConsistent}
use Rattle.quiesce_core.specs.WellFormed.{IsWellFormed}
use Rattle.quiesce_core.specs.declared.event.Event.{Event}
use Rattle.quiesce_core.specs.declared.event.Event.TheVariants.{Begin, Call}
use Rattle.quiesce_core.specs.declared.state.Slot.{Slot}
use Rattle.quiesce_core.proofs.ConfigurationLaws.{port_is}
use Rattle.quiesce_core.proofs.LegalLaws.{legal}
use Rattle.quiesce_core.proofs.RunLaws.{changes_are_of_no_node, node_events_keep_the_configuration, runs_are_consistent, runs_are_well_formed}
use Rattle.quiesce_core.proofs.TableLaws.{live_made}
use Rattle.node_gate.specs.Core.{FitsCore}
use Rattle.node_gate.specs.Loads.{Loads}
use Rattle.port_queue.specs.Inboxes.{Counts}
use Rattle.node_turn_laws.specs.Reached.{IsReached, by_turn}
use Rattle.node_turn_laws.specs.Turn.{Turn, Request, do_event, looks, move_of, post_request, post_waiting, request_at, request_of, turn, turn_in, without_hint}
use Rattle.node_turn_laws.specs.World.{World, first_port, inbox, state_of, waiting_of, with_event_of}
use Rattle.node_host.specs.Hosted.{SeatSeen, node_of}
use Rattle.node_host.specs.Moved.{Moved}
use Rattle.node_host.specs.Posting.{GateSeen, HintOf, Hinted, IsHinted, IsSent}
use Rattle.node_host.specs.Told.{FitsToldState}
use Rattle.node_host.specs.Trying.{own_box}
use Rattle.step_board.specs.Entries.{SlotEntry, NodeSeen, here}
use Rattle.step_board.specs.Holding.{HoldsIn, IsHere}
use Rattle.step_board.specs.Worlds.{IsShown, ShowsIn}
use Rattle.step_board.proofs.ChangeLemmas.{IsStill, holds_moved, holds_still}
use Rattle.step_board.proofs.Hinting.{Agree, SameBut, looked_agrees, own_is, posted_agrees, same_then, same_world, waiting_posted}

-- ---- a node's event, and the hint of a request

-- what is seen of a gate that tells this state
abbrev pub gate_of : State → Option Loads → Option Loads → GateSeen
gate_of s before after = record { state = Some s; before = before; after = after }

-- the port of a request is one of the node's own, and leads to a node that was made
record Requests (s : State) (n first r p target_ : ℕ) : Type 0 where
  own : p - first < r
  made : target_ < length s.config.slots

requests_by : (s : State) (n first p t : ℕ) (m : Slot) → IsWellFormed s → slot s.config n ≡ Some m → m.first_port ≡ first → p < length s.config.gates → owner s.config p ≡ n → option_map (λ (x : Target). x.node) (target s.config p) ≡ Some t
    → Requests s n first (length (row m.node.kind).requires_) p t
requests_by s n first p t m wf there first_is made own leads =
    let at = port_is s.config wf.sound p m made (ap (slot s.config) own ∙ there) in
    let x = option_map_some (λ (x : Target). x.node) (target s.config p) t leads in
    let provision = wf.sound.targets p x.0 x.1 in
    record {
      own = omega (arith, at.0, at.1, first_is);
      made = subst (λ k. k < length s.config.slots) x.2 (live_made s.config x.0.node provision.live);
    }

module _ (v : World) (n r : ℕ) (h h' : Hinted) (first : ℕ) (s : State) (lo lo' : Option Loads) (m : Slot) (a : Agree v n r h) (machine : v.machine ≡ s) (wf : IsWellFormed s) (there : slot s.config n ≡ Some m) (first_is : m.first_port ≡ first)
    (kind : length (row m.node.kind).requires_ ≡ r) (many : length v.inboxes ≡ length s.config.slots) (waiting : n < length v.waiting) where
  first_port_is : first_port v.machine n ≡ first
  first_port_is = ap (λ (u : State). first_port u n) machine ∙ map_or_at (λ (x : Slot). x.first_port) (slot s.config n) 0 m there ∙ first_is

  agree_after : (e : Event) → Agree (with_event_of v n e) n r h
  agree_after e = record { told = a.told; two = a.two; waits = a.waits; own = a.own }

  request_is : (p k : ℕ) → option_map (λ (x : Target). x.node) (target s.config p) ≡ Some k → request_at v.machine n p ≡ Some (record { require = p - first; node = k })
  request_is p k leads =
      let x = option_map_some (λ (x : Target). x.node) (target s.config p) k leads in
      ap (λ (u : State). option_map (λ (y : Target). record { require = p - first_port v.machine n; node = y.node }) (target u.config p)) machine
      ∙ ap (option_map (λ (y : Target). record { require = p - first_port v.machine n; node = y.node })) x.1
      ∙ ap (λ f. Some (record { require = p - f; node = x.0.node })) first_port_is
      ∙ ap (λ i. Some (record { require = p - first; node = i })) x.2

  request_sent : (e : Event) (p : ℕ) → is_of_change e ≡ false → request_of v.machine n e ≡ request_at v.machine n p → IsSent (gate_of s lo lo') first p h h' → p < length s.config.gates → owner s.config p ≡ n
      → Agree (do_event v n e) n r h' × SameBut (with_event_of v n e) (do_event v n e) n
  request_sent e p of_node asks sent made own =
      let q = requests_by s n first p sent.target m wf there first_is made own sent.leads in
      let first_then : first_port (effect v.machine e) n ≡ first = ap (λ (c : Configuration). option_map_or (λ (x : Slot). x.first_port) (slot c n) 0) (node_events_keep_the_configuration v.machine e of_node) ∙ first_port_is in
      subst (λ (o : Option Request). Agree (post_request (with_event_of v n e) n o) n r h' × SameBut (with_event_of v n e) (post_request (with_event_of v n e) n o) n)
      (sym (asks ∙ request_is p sent.target sent.leads))
      (posted_agrees (with_event_of v n e) n r (p - first) sent.target h h' first (agree_after e) sent.posted (subst (λ i. p - first < i) kind q.own) (subst (λ i. sent.target < i) (sym many) q.made) waiting first_then)

  made_port : (p : ℕ) → is_live_port s.config p ≡ true → p < length s.config.gates
  made_port p h = ltb-true p (length s.config.gates) (and_parts (nat_lt p (length s.config.gates)) (is_live s.config (owner s.config p)) h).0

  own_port : (p : ℕ) → Some (owner s.config p) ≡ Some n → owner s.config p ≡ n
  own_port p h = same_Some (owner s.config p) n h

  pub sent_agrees : (e : Event) → Legal s e → doer s e ≡ Some n → HintOf (gate_of s lo lo') first (Some e) h h' → Agree (do_event v n e) n r h' × SameBut (with_event_of v n e) (do_event v n e) n
  sent_agrees (Begin p k x) l does hint = request_sent (Begin p k x) p refl refl hint (made_port p l.live) (own_port p does)
  sent_agrees (Call p k x) l does hint = request_sent (Call p k x) p refl refl hint (made_port p l.live) (own_port p does)
  sent_agrees e l does hint = (subst (λ y. Agree (with_event_of v n e) n r y) (sym hint) (agree_after e), same_world (with_event_of v n e) n)

-- ---- a turn

-- what the world is then, beside its hints
record Went (w v : World) (n : ℕ) (x' : NodeSeen) (t : State) (es : List Event) : Type 0 where
  machine : v.machine ≡ t
  events : v.events ≡ es
  state : state_of v n ≡ Some x'.state
  others : (k : ℕ) → k ≢ n → state_of v k ≡ state_of w k
  folds : length v.folds ≡ length w.folds

module _ (s t : State) (nodes : List SlotEntry) (ends : List ℕ) (tells tells' : ℕ → Option (List ℕ)) (w : World) (h : ShowsIn s nodes ends tells w) (x x' : NodeSeen) (at : slice_get nodes x.slot ≡ Some (here x))
    (live : is_live s.config x.slot ≡ true) (begins : Bool) (c c' : ℕ → Counts) (lo lo' : Option Loads) (e : Option Event) (seat seat' : SeatSeen) (known_is : seat.known ≡ x.known) (known_is' : seat'.known ≡ x'.known)
    (moved : Moved (node_of x.slot x.first x.state) e x.state x'.state x.log x'.log seat seat' (Some s) (Some t))
    (slot_kept : x'.slot ≡ x.slot) (first_kept : x'.first ≡ x.first) (past_kept : x'.past ≡ x.past) (fits : FitsCore t x.slot x'.known) (told : x'.known.service ≡ None → x'.state.service ≡ None)
    (is_told : FitsToldState (Some s) (node_of x.slot x.first x.state) seat.known s)
    (exact : (held : List ℕ) → tells x.slot ≡ Some held → e ≡ move_of s x.slot x.state (own_box x.slot x.first x.waiting held) begins)
    (hinted : IsHinted (gate_of s lo lo') (node_of x.slot x.first x.state) seat.known (λ u. looks u x.slot x.state) e (record { waiting = x.waiting; counts = c; told = tells }) (record { waiting = x'.waiting; counts = c'; told = tells' })) where
  abbrev n : ℕ
  n = x.slot

  abbrev r : ℕ
  r = length (row x.state.kind).requires_

  abbrev old_hints : Hinted
  old_hints = record { waiting = x.waiting; counts = c; told = tells }

  abbrev new_hints : Hinted
  new_hints = record { waiting = x'.waiting; counts = c'; told = tells' }

  abbrev nodes_then : List SlotEntry
  nodes_then = set nodes n (here x')

  old : IsHere w.events n x
  old = h.holds.nodes_here n x at

  shown : IsShown w n x
  shown = h.nodes_shown n x at

  within : n < length nodes
  within = slice_get_within nodes n (here x) at

  well : IsWellFormed s
  well = subst (λ (u : State). IsWellFormed u) (sym h.holds.state) (runs_are_well_formed w.events h.holds.runs)

  there : slot s.config n ≡ Some old.made
  there = ap (λ (u : State). slot u.config n) h.holds.state ∙ old.there

  first_is : first_port w.machine n ≡ x.first
  first_is = ap (λ (u : State). first_port u n) h.machine ∙ map_or_at (λ (m : Slot). m.first_port) (slot s.config n) 0 old.made there ∙ sym old.first

  -- its waiting hints are posted
  agrees : Agree w n r old_hints
  agrees = record { told = h.inboxes; two = shown.two; waits = shown.waits; own = shown.own }

  abbrev v0 : World
  v0 = post_waiting w n

  first_posted : Agree v0 n r hinted.posted × SameBut w v0 n
  first_posted = waiting_posted w n r old_hints hinted.posted x.first agrees hinted.waits (two_requires x.state.kind) (omega (arith, within, h.waiting_made)) first_is

  machine0 : v0.machine ≡ s
  machine0 = first_posted.1.machine ∙ h.machine

  state0 : state_of v0 n ≡ Some x.state
  state0 = ap (λ f. get_or f n None) first_posted.1.folds ∙ shown.state

  -- its inbox is asked
  asks : Bool
  asks = looks v0.machine n x.state

  abbrev v1 : World
  v1 = cond (looks v0.machine n x.state) (without_hint v0 n) v0

  asked : Agree v1 n r hinted.sent.after.between × SameBut v0 v1 n
  asked =
      subst (λ b. Agree (cond b (without_hint v0 n) v0) n r hinted.sent.after.between × SameBut v0 (cond b (without_hint v0 n) v0) n)
      (hinted.sent.ruled s is_told ∙ ap (λ (u : State). looks u n x.state) (sym machine0))
      (looked_agrees v0 n r hinted.posted hinted.sent.after.between hinted.sent.asked first_posted.0 hinted.sent.after.looked (omega (arith, within, h.inboxes_made, first_posted.1.inboxes)))

  same1 : SameBut w v1 n
  same1 = same_then w v0 v1 n first_posted.1 asked.1

  machine1 : v1.machine ≡ s
  machine1 = same1.machine ∙ h.machine

  state1 : state_of v1 n ≡ Some x.state
  state1 = ap (λ f. get_or f n None) same1.folds ∙ shown.state

  -- the world's turn
  abbrev final : World
  final = option_map_or (do_event v1 n) e v1

  event_is : move_of v0.machine n x.state (inbox v0 n) begins ≡ e
  event_is =
      ap (λ (u : State). move_of u n x.state (inbox v0 n) begins) machine0
      ∙ ap (λ b. move_of s n x.state b begins) (own_is w n r old_hints hinted.posted x.first agrees hinted.waits (two_requires x.state.kind) (omega (arith, within, h.waiting_made)) first_is)
      ∙ sym (exact (inbox w n) (h.inboxes n))

  turn_is : turn w n begins ≡ record { event = e; world = final }
  turn_is =
      ap (λ o. option_map_or (turn_in v0 n begins) o (record { event = None; world = v0 })) state0
      ∙ ap (λ o. record { event = o; world = option_map_or (do_event v1 n) o v1 }) event_is

  reached : IsReached final
  reached = subst (λ v. IsReached v) (ap (λ (u : Turn). u.world) turn_is) (by_turn w n begins h.reached (ap (λ (u : State). is_live u.config n) h.machine ∙ live))

  -- all that is left to show of the world behind it
  shows_by : Agree final n r new_hints → length final.inboxes ≡ length w.inboxes → length final.waiting ≡ length w.waiting → ((k : ℕ) → k ≢ n → waiting_of final k ≡ waiting_of w k)
      → (es : List Event) → Went w final n x' t es → HoldsIn t nodes_then ends es → x'.state.kind ≡ x.state.kind → ShowsIn t nodes_then ends tells' final
  shows_by a inboxes waiting others es went holds kind = record {
    reached = reached;
    holds = subst (λ l. HoldsIn t nodes_then ends l) (sym went.events) holds;
    machine = went.machine;
    inboxes = a.told;
    folds_made = went.folds ∙ h.folds_made ∙ sym (length-set nodes n (here x'));
    inboxes_made = inboxes ∙ h.inboxes_made ∙ sym (length-set nodes n (here x'));
    waiting_made = waiting ∙ h.waiting_made ∙ sym (length-set nodes n (here x'));
    nodes_shown = λ k y is. ⊎_elim
        (λ (same : k ≡ n). subst (λ i. IsShown final i y) (sym same)
        (subst (λ z. IsShown final n z) (inside y (same_Some (here x') (here y) (sym (slice_get-set_same nodes n (here x') within) ∙ subst (λ i. slice_get nodes_then i ≡ Some (here y)) same is))) own_shown))
        (λ (other : k ≢ n).
        let i = h.nodes_shown k y (sym (slice_get-set_other nodes n (here x') k other) ∙ is) in
        record {
          state = went.others k other ∙ i.state;
          two = i.two;
          waits = others k other ∙ i.waits;
          own = λ q m there. let o = i.own q m there in (o.0, omega (arith, o.1, inboxes));
        })
        (cases_eq k n);
  }
    where
      inside : (y : NodeSeen) → here x' ≡ here y → x' ≡ y
      inside y h = cc

      own_shown : IsShown final n x'
      own_shown = record {
        state = went.state;
        two = a.two;
        waits = a.waits ∙ ap (λ k. take (length (row k).requires_) x'.waiting) (sym kind);
        own = λ q m is. let o = a.own q m is in (subst (λ k. q < length (row k).requires_) (sym kind) o.0, o.1);
      }

  -- it moved nothing
  still_turn : e ≡ None → ShowsIn t nodes_then ends tells' final
  still_turn none_ =
      let m : Moved (node_of x.slot x.first x.state) None x.state x'.state x.log x'.log seat seat' (Some s) (Some t) = subst (λ o. Moved (node_of x.slot x.first x.state) o x.state x'.state x.log x'.log seat seat' (Some s) (Some t)) none_ moved in
      let state_is : x'.state ≡ x.state = sym (same_Some x.state x'.state m.folds) in
      let machine_is : t ≡ s = same_Some t s m.does.steps in
      let final_is : final ≡ v1 = ap (λ o. option_map_or (do_event v1 n) o v1) none_ in
      let hint : new_hints ≡ hinted.sent.after.between = subst (λ o. HintOf (gate_of s lo lo') x.first o hinted.sent.after.between new_hints) none_ hinted.sent.after.sent in
      let still : IsStill x x' = record {
        slot_kept = slot_kept;
        first_kept = first_kept;
        state_kept = state_is;
        known_kept = sym known_is' ∙ m.does.knows ∙ known_is;
        logged = m.logged ∙ append-nil x.log;
        past_kept = past_kept;
      } in
      shows_by
      (subst (λ v. Agree v n r new_hints) (sym final_is) (subst (λ y. Agree v1 n r y) (sym hint) asked.0))
      (ap (λ (v : World). length v.inboxes) final_is ∙ same1.inboxes)
      (ap (λ (v : World). length v.waiting) final_is ∙ same1.waiting)
      (λ k ne. ap (λ (v : World). waiting_of v k) final_is ∙ same1.others k ne)
      w.events
      (record {
        machine = ap (λ (v : World). v.machine) final_is ∙ machine1 ∙ sym machine_is;
        events = ap (λ (v : World). v.events) final_is ∙ same1.events;
        state = ap (λ (v : World). state_of v n) final_is ∙ state1 ∙ ap Some (sym state_is);
        others = λ k ne. ap (λ (v : World). state_of v k) final_is ∙ ap (λ f. get_or f k None) same1.folds;
        folds = ap (λ (v : World). length v.folds) final_is ∙ ap length same1.folds;
      })
      (subst (λ u. HoldsIn u nodes_then ends w.events) (sym machine_is) (holds_still s nodes ends w.events h.holds n x x' at still))
      (ap (λ (y : NodeState). y.kind) state_is)

  -- it did an event
  moved_turn : (d : Event) → e ≡ Some d → ShowsIn t nodes_then ends tells' final
  moved_turn d some_ =
      let m : Moved (node_of x.slot x.first x.state) (Some d) x.state x'.state x.log x'.log seat seat' (Some s) (Some t) = subst (λ o. Moved (node_of x.slot x.first x.state) o x.state x'.state x.log x'.log seat seat' (Some s) (Some t)) some_ moved in
      let u = m.does.steps in
      let machine_is : t ≡ u.0 = same_Some t u.0 u.1 in
      let step : Step s d t = subst (λ (y : State). Step s d y) (sym machine_is) u.2 in
      let l : Legal s d = legal s d step.allowed in
      let doer_is : doer s d ≡ Some n = (let q = map_or_true (λ k. k == n) (doer s d) u.3 in q.1 ∙ ap Some (eqb-true q.0 n q.2)) in
      let of_node : is_of_change d ≡ false = node_event d step doer_is in
      let final_is : final ≡ do_event v1 n d = ap (λ o. option_map_or (do_event v1 n) o v1) some_ in
      let hint : HintOf (gate_of s lo lo') x.first (Some d) hinted.sent.after.between new_hints = subst (λ o. HintOf (gate_of s lo lo') x.first o hinted.sent.after.between new_hints) some_ hinted.sent.after.sent in
      let kind_is : x'.state.kind ≡ x.state.kind = fold_keeps_kind x.first x.state x'.state (d ∷ []) m.folds in
      let many : length v1.inboxes ≡ length s.config.slots = same1.inboxes ∙ h.inboxes_made ∙ h.holds.made ∙ ap (λ (y : State). length y.config.slots) (sym h.holds.state) in
      let sent = sent_agrees v1 n r hinted.sent.after.between new_hints x.first s lo lo' old.made asked.0 machine1 well there (sym old.first) (ap (λ k. length (row k).requires_) (sym old.kind)) many (omega (arith, within, h.waiting_made, same1.waiting)) d l doer_is hint in
      let first1 : first_port v1.machine n ≡ x.first = ap (λ (y : State). first_port y n) same1.machine ∙ first_is in
      let folded : fold_next (first_port v1.machine n) (state_of v1 n) d ≡ Some x'.state = ap (λ f. fold_next f (state_of v1 n) d) first1 ∙ ap (λ o. fold_next x.first o d) state1 ∙ m.folds in
      let folds_low : n < length v1.folds = (let l1 = ap length same1.folds in omega (arith, within, h.folds_made, l1)) in
      shows_by
      (subst (λ v. Agree v n r new_hints) (sym final_is) sent.0)
      (ap (λ (v : World). length v.inboxes) final_is ∙ sent.1.inboxes ∙ same1.inboxes)
      (ap (λ (v : World). length v.waiting) final_is ∙ sent.1.waiting ∙ same1.waiting)
      (λ k ne. ap (λ (v : World). waiting_of v k) final_is ∙ sent.1.others k ne ∙ same1.others k ne)
      (w.events ++ d ∷ [])
      (record {
        machine = ap (λ (v : World). v.machine) final_is ∙ sent.1.machine ∙ ap (λ (y : State). effect y d) machine1 ∙ sym step.changed;
        events = ap (λ (v : World). v.events) final_is ∙ sent.1.events ∙ ap (λ es. es ++ d ∷ []) same1.events;
        state =
            ap (λ (v : World). state_of v n) final_is ∙ ap (λ f. get_or f n None) sent.1.folds
            ∙ get_or-set_same v1.folds n (fold_next (first_port v1.machine n) (state_of v1 n) d) None folds_low ∙ folded;
        others = λ k ne.
            ap (λ (v : World). state_of v k) final_is ∙ ap (λ f. get_or f k None) sent.1.folds
            ∙ get_or-set_other v1.folds n k (fold_next (first_port v1.machine n) (state_of v1 n) d) None ne ∙ ap (λ f. get_or f k None) same1.folds;
        folds = ap (λ (v : World). length v.folds) final_is ∙ ap length sent.1.folds ∙ length-set v1.folds n (fold_next (first_port v1.machine n) (state_of v1 n) d) ∙ ap length same1.folds;
      })
      (holds_moved s t nodes ends w.events d h.holds step n x x' at u.3 of_node
      (record {
        slot_kept = slot_kept;
        first_kept = first_kept;
        kind_kept = kind_is;
        arg_kept = fold_keeps_argument x.first x.state x'.state (d ∷ []) m.folds;
        logged = m.logged;
        past_kept = past_kept;
        told = told;
      }) fits)
      kind_is
    where
      node_event : (d : Event) → Step s d t → doer s d ≡ Some n → is_of_change d ≡ false
      node_event d step does =
          by (is_of_change d) refl
        where
          by : (b : Bool) → is_of_change d ≡ b → is_of_change d ≡ false
          by false is = is
          by true is = absurd (none-some n (sym ((changes_are_of_no_node s d (subst (λ (y : State). IsConsistent y) (sym h.holds.state) (runs_are_consistent w.events h.holds.runs)) step.allowed).0 is) ∙ does))

  pub turn_shows : ShowsIn t nodes_then ends tells' (turn w n begins).world × ((turn w n begins).event ≡ e)
  turn_shows =
      (subst (λ v. ShowsIn t nodes_then ends tells' v) (sym (ap (λ (u : Turn). u.world) turn_is)) (by e refl), ap (λ (u : Turn). u.event) turn_is)
    where
      by : (o : Option Event) → e ≡ o → ShowsIn t nodes_then ends tells' final
      by None is = still_turn is
      by (Some d) is = moved_turn d is
