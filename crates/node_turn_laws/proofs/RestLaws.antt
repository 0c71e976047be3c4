-- A world at rest has no hints, no node moves in it, and a round leaves it as it is.
use Rattle.std.proofs.Common.{◌≡◌, ◌∙◌, ℕ, suc, ◌+◌, ◌<◌, ◌≤◌, Bool, true, false, cond, List, [], ◌∷◌, length, set, Option, Some, None, refl, sym, ap, ⊎_elim, arith}
use Rattle.std.specs.Prelude.{IsTrue, ◌==◌, ◌&&◌, ◌||◌, drop, fold, is_none, is_some, option_and_then, option_map, slice_index_or}
use Rattle.std.specs.List.{Contains, enumerate_from, list_all, range_with_len}
use Rattle.std.specs.Option.{option_map_or}
use Rattle.std.proofs.lemmas.Bool.{and_parts, both_ways, cases_lt, eq-eqb}
use Rattle.std.proofs.lemmas.List.{get_or_past, set-get_or}
use Rattle.std.proofs.lemmas.Option.{none-some}
use Rattle.std.proofs.lemmas.List.Elements.{All-contains}
use Rattle.std.proofs.lemmas.List.Sums.{AllPass-from_list_all}
use Rattle.base.proofs.ContainsLaws.{Contains-from_filter, Contains-here, Contains-there}
use Rattle.base.proofs.FindLaws.{find-none}
use Rattle.base.proofs.OptionLaws.{map_or_true}
use Rattle.base.proofs.RangeLaws.{all_in_range}
use Rattle.component_trait.specs.Moves as moves
use Rattle.component_trait.specs.States.{NodeState}
use Rattle.component_trait.specs.Tables as tables
use Rattle.component_trait.specs.declared.next.Ask.{Ask}
use Rattle.component_trait.proofs.WantLaws.{wants_none}
use Rattle.quiesce_word.proofs.PhaseLaws.{idle_is, serving_busy, idle_not_asked}
use Rattle.quiesce_word.specs.Phases.{is_answered, is_idle, is_in_more}
use Rattle.quiesce_word.specs.declared.phase.Phase.{Phase}
use Rattle.quiesce_core.specs.State.{State, exchange, fresh_exchange, is_live, ports_of, service, slot}
use Rattle.quiesce_core.specs.Traffic.{IsConsistent}
use Rattle.quiesce_core.specs.WellFormed.{IsWellFormed}
use Rattle.quiesce_core.specs.declared.event.Event.{Event}
use Rattle.quiesce_core.specs.declared.state.Exchange.{Exchange}
use Rattle.quiesce_core.specs.declared.state.Service.{Service}
use Rattle.quiesce_core.specs.declared.state.Slot.{Slot}
use Rattle.node_turn_laws.specs.Reached.{IsReached}
use Rattle.node_turn_laws.specs.Round.{give_turn, is_at_rest, is_done, live_nodes, round}
use Rattle.node_turn_laws.specs.Turn.{Turn, begins, begins_at, do_event, ends, goes_on, has_reply, looks, move_of, post_one, or_else, post_waiting, reply_to, serves, awaits_call, takes, turn, turn_in, without_hint}
use Rattle.node_turn_laws.specs.World.{World, first_port, inbox, state_of, waiting_of}
use Rattle.node_turn_laws.specs.Requests.{hints_for, kept_back, leads_to}
use Rattle.node_turn_laws.proofs.HintLaws.{Hinted, hinted_where_reached, kept_there, place_of, traffic_where_reached, well_where_reached}
use Rattle.node_turn_laws.proofs.PostLemmas.{count_front, count_of, is_at}
use Rattle.node_turn_laws.proofs.RequestLemmas.{unasked}

-- ---- a state in which no transaction is left

abbrev pub AreIdle : State → Type 0
AreIdle s = (p : ℕ) → is_idle (exchange s p).phase ≡ true

no_reply_phase : (f : Phase) → is_idle f ≡ true → (is_answered f || is_in_more f) ≡ false
no_reply_phase f h = ap (λ x. is_answered x || is_in_more x) (idle_is f h)

module _ (s : State) (traffic : IsConsistent s) (idle : AreIdle s) where
  pub no_service : (n : ℕ) → service s n ≡ None
  no_service n = by (service s n) refl
    where
      by : (o : Option Service) → service s n ≡ o → service s n ≡ None
      by None e = e
      by (Some v) e = absurd (both_ways (is_idle (exchange s v.port).phase) (serving_busy (exchange s v.port).phase (traffic.serving n v e).busy) (idle v.port))

  no_end : (n : ℕ) (t : NodeState) → ends s n t ≡ None
  no_end n t = ap (option_map (reply_to s t)) (find-none (has_reply s) (ports_of s.config n) (λ p in_. no_reply_phase (exchange s p).phase (idle p)))

  either_none : {A : Type 0} (b : Bool) (x : Option A) → x ≡ None → cond b None x ≡ None
  either_none true x h = refl
  either_none false x h = h

  no_move : (n : ℕ) (t : NodeState) (allowed : Bool) → moves.is_done t ≡ true → move_of s n t [] allowed ≡ None
  no_move n t allowed done =
      by (ends s n t) (serves s n t) (service s n) (begins s n t) (no_end n t)
      (either_none (awaits_call s n) (option_and_then (goes_on s n t) (service s n)) (ap (option_and_then (goes_on s n t)) (no_service n))) (no_service n)
      (ap (option_and_then (λ (a : Ask). begins_at s (first_port s n + a.require) a.value)) (wants_none t.kind t.arg t.kept done))
    where
      by : (a b : Option Event) (c : Option Service) (d : Option Event) → a ≡ None → b ≡ None → c ≡ None → d ≡ None
          → or_else a (or_else b (or_else (cond (is_none c) (takes s n []) None) (cond allowed d None))) ≡ None
      by None None None None w x y z = at_last allowed
        where
          at_last : (b : Bool) → ◌≡◌ {A = Option Event} (cond b None None) None
          at_last true = refl
          at_last false = refl
      by (Some e) b c d w x y z = absurd (none-some e (sym w))
      by None (Some e) c d w x y z = absurd (none-some e (sym x))
      by None None (Some v) d w x y z = absurd (none-some v (sym y))
      by None None None (Some e) w x y z = absurd (none-some e (sym z))

-- ---- no hint is left

module _ (w : World) (h : Hinted w) (idle : AreIdle w.machine) where
  none_for : (m p : ℕ) → hints_for w m p ≡ 0
  none_for m p =
      h.hints m p ∙ (λ i. cond (unasked w.machine p (idle_not_asked (exchange w.machine p).phase (idle p)) i && leads_to w.machine.config m p) 1 0)

  pub empty_box : (m : ℕ) → inbox w m ≡ []
  empty_box m = by (inbox w m) refl
    where
      by : (box : List ℕ) → inbox w m ≡ box → inbox w m ≡ []
      by [] e = e
      by (q ∷ box) e =
          let all = none_for m q in
          let count = ap (count_of q) e ∙ count_front q q box in
          let one : ◌≡◌ {A = ℕ} (cond (q == q) 1 0) 1 = ap {B = ℕ} (λ b. cond b 1 0) (eq-eqb q q refl) in
          absurd (omega (arith, all, count, one))

  none_kept : (p : ℕ) → kept_back w p ≡ None
  none_kept p = by (kept_back w p) refl
    where
      by : (o : Option ℕ) → kept_back w p ≡ o → kept_back w p ≡ None
      by None e = e
      by (Some m) e =
          let all = none_for m p in
          let one : ◌≡◌ {A = ℕ} (cond (is_at m (kept_back w p)) 1 0) 1 = ap {B = ℕ} (λ o. cond (is_at m o) 1 0) e ∙ ap {B = ℕ} (λ b. cond b 1 0) (eq-eqb m m refl) in
          absurd (omega (arith, all, one))

  module _ (well : IsWellFormed w.machine) (n : ℕ) (k : Slot) (there : slot w.machine.config n ≡ Some k) where
    none_waits : (r : ℕ) → slice_index_or (waiting_of w n) r None ≡ None
    none_waits r = ⊎_elim
        (λ (low : r < length (waiting_of w n)).
        let long = h.fits.row_of n k there in
        sym (kept_there w n r (k.first_port + r) (place_of w h.fits well.sound n r k there (omega (arith, low, long)))) ∙ none_kept (k.first_port + r))
        (λ (past : length (waiting_of w n) ≤ r). get_or_past (waiting_of w n) r None past)
        (cases_lt r (length (waiting_of w n)))

    nothing_posted : (i : ℕ) (xs : List (Option ℕ)) → ((j : ℕ) → slice_index_or xs j None ≡ None) → fold (post_one n) w (enumerate_from i xs) ≡ w
    nothing_posted i [] none_ = refl
    nothing_posted i (None ∷ xs) none_ = nothing_posted (i + 1) xs (λ j. none_ (suc j))
    nothing_posted i (Some m ∷ xs) none_ = absurd (none-some m (sym (none_ 0)))

    pub posts_nothing : post_waiting w n ≡ w
    posts_nothing = nothing_posted 0 (waiting_of w n) none_waits

  pub box_stays : (n : ℕ) (b : Bool) → cond b (without_hint w n) w ≡ w
  box_stays n true =
      let same : set w.inboxes n (drop 1 (inbox w n)) ≡ w.inboxes =
      ap (set w.inboxes n) (ap (drop 1) (empty_box n) ∙ sym (empty_box n)) ∙ set-get_or w.inboxes n [] in
      λ i. record w { inboxes = same i }
  box_stays n false = refl

-- ---- a turn, and a round

module _ (w : World) (reached : IsReached w) (at_rest : is_at_rest w ≡ true) where
  abbrev s : State
  s = w.machine

  parts : (list_all (is_done w) (live_nodes w) ≡ true) × (list_all (λ p. is_idle (exchange s p).phase) (range_with_len 0 (length s.config.gates)) ≡ true)
  parts = and_parts (list_all (is_done w) (live_nodes w)) (list_all (λ p. is_idle (exchange s p).phase) (range_with_len 0 (length s.config.gates))) at_rest

  pub all_idle : AreIdle s
  all_idle p = ⊎_elim
      (λ (low : p < length s.config.gates). all_in_range (λ q. is_idle (exchange s q).phase) 0 (length s.config.gates) p parts.1 (omega arith) (omega (arith, low)))
      (λ (past : length s.config.gates ≤ p).
      let long = (well_where_reached w reached).exchanges in
      ap (λ (x : Exchange). is_idle x.phase) (get_or_past s.traffic.exchanges p fresh_exchange (omega (arith, long, past))))
      (cases_lt p (length s.config.gates))

  abbrev hinted : Hinted w
  hinted = hinted_where_reached w reached

  turn_stays : (n : ℕ) (allowed : Bool) → is_live s.config n ≡ true → is_done w n ≡ true → turn w n allowed ≡ record { event = None; world = w }
  turn_stays n allowed live done =
      let k = map_or_true (λ (x : Slot). x.live) (slot s.config n) live in
      ap (λ (v : World). option_map_or (turn_in v n allowed) (state_of v n) (record { event = None; world = v })) (posts_nothing w hinted all_idle (well_where_reached w reached) n k.0 k.1)
      ∙ by (state_of w n) refl
    where
      by : (o : Option NodeState) → state_of w n ≡ o → option_map_or (turn_in w n allowed) o (record { event = None; world = w }) ≡ record { event = None; world = w }
      by None e = refl
      by (Some t) e =
          let still : move_of s n t (inbox w n) allowed ≡ None =
          ap (λ box. move_of s n t box allowed) (empty_box w hinted all_idle n)
          ∙ no_move s (traffic_where_reached w reached) all_idle n t allowed (sym (ap (λ o. option_map_or (λ x. moves.is_done x) o false) e) ∙ done) in
          let v = cond (looks s n t) (without_hint w n) w in
          (λ i. record { event = still i; world = option_map_or (do_event v n) (still i) v })
          ∙ (λ i. record { event = None; world = box_stays w hinted all_idle n (looks s n t) i })

  turns_stay : (ns : List ℕ) (allowed : Bool) → ((n : ℕ) → Contains ns n → (is_live s.config n ≡ true) × (is_done w n ≡ true))
      → fold (give_turn allowed) (record { world = w; moved = false }) ns ≡ record { world = w; moved = false }
  turns_stay [] allowed all = refl
  turns_stay (n ∷ ns) allowed all =
      let here = all n (Contains-here n ns) in
      ap (λ (t : Turn). fold (give_turn allowed) (record { world = t.world; moved = false || is_some t.event }) ns) (turn_stays n allowed here.0 here.1)
      ∙ turns_stay ns allowed (λ k in_. all k (Contains-there n k ns in_))

  pub round_stays : (allowed : Bool) → round allowed w ≡ record { world = w; moved = false }
  round_stays allowed = turns_stay (live_nodes w) allowed (λ n in_. ((Contains-from_filter (is_live s.config) (range_with_len 0 (length s.config.slots)) n in_).1, all_done n in_))
    where
      all_done : (n : ℕ) → Contains (live_nodes w) n → is_done w n ≡ true
      all_done n in_ = All-contains (λ k. IsTrue (is_done w k)) (live_nodes w) n (AllPass-from_list_all (is_done w) (live_nodes w) parts.0) in_
