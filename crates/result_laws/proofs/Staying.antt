-- A rest stays by each event but a reopen: all ports of the row stay idle, and a source or a sink that is made has what the last one
-- had.
use Rattle.std.proofs.Common.{◌≡◌, ◌∙◌, ℕ, ◌+◌, ◌-◌, ◌<◌, ◌≤◌, Bool, true, false, cond, List, [], ◌∷◌, ◌++◌, length, Option, Some, None, refl, sym, ap, subst, arith, ⊎_elim}
use Rattle.std.specs.Prelude.{◌==◌, ◌&&◌, nat_lt, nat_le, option_map}
use Rattle.std.specs.Option.{option_map_or}
use Rattle.std.proofs.lemmas.Bool.{and_parts, both_ways, cases_Bool, cases_lt, eq-eqb, eqb-true, ne_eqb}
use Rattle.std.proofs.lemmas.List.{get_or_past}
use Rattle.std.proofs.lemmas.Option.{none-some, same_Some, slice_get_within}
use Rattle.base.proofs.PlaceLaws.{slice_get-there}
use Rattle.config_graph.specs.Kinds.{row}
use Rattle.config_graph.specs.declared.kind.Kind.{Kind}
use Rattle.config_graph.specs.declared.kind.Kind.TheVariants.{Map, Sink, Source}
use Rattle.config_graph.specs.declared.node.Node.{Node}
use Rattle.component_trait.specs.States.{Kept, NodeState}
use Rattle.component_trait.specs.Tables.{opening}
use Rattle.quiesce_word.specs.Phases.{is_idle}
use Rattle.quiesce_core.specs.Alters.{Reconfigures, gate_next, slot_next}
use Rattle.quiesce_core.specs.Doers.{is_make, is_of_change}
use Rattle.quiesce_core.specs.Effect.{effect}
use Rattle.quiesce_core.specs.Legal.{Legal}
use Rattle.quiesce_core.specs.Rules.{is_kind}
use Rattle.quiesce_core.specs.Runs.{IsRun, is_doer, state_after}
use Rattle.quiesce_core.specs.State.{Configuration, State, exchange, fresh_exchange, fresh_gate, gate, is_live, owner, slot}
use Rattle.quiesce_core.specs.declared.event.Event.{Event}
use Rattle.quiesce_core.specs.declared.event.Event.TheVariants as event
use Rattle.quiesce_core.specs.declared.state.Exchange.{Exchange}
use Rattle.quiesce_core.specs.declared.state.Gate.{Gate}
use Rattle.quiesce_core.specs.declared.state.Slot.{Slot}
use Rattle.quiesce_core.proofs.ConfigurationLaws.{owner_kept}
use Rattle.quiesce_core.proofs.AlterLaws.{exchanges_next, reconfigured}
use Rattle.quiesce_core.proofs.InductionLaws.{IsNext, always}
use Rattle.quiesce_core.proofs.RunLaws.{node_events_keep_the_configuration, runs_are_well_formed}
use Rattle.change_round_laws.proofs.FoldLaws.{StatesAreHanded}
use Rattle.result_laws.specs.Rows.{is_of_row, rows_serve_rows}
use Rattle.result_laws.proofs.AtRest.{IsStill, none_does}
use Rattle.result_laws.specs.Coming.{HasFolds, come}
use Rattle.result_laws.proofs.EventLaws.{Now, idle_stays, nothing_there}
use Rattle.result_laws.proofs.FactLaws.{Facts}
use Rattle.result_laws.proofs.Linking.{AllLinked}
use Rattle.result_laws.proofs.RowSlots.{port_was, row_port, row_slot, slot_is}
use Rattle.result_laws.proofs.ComingLaws.{facts, fits_of, folds_before, folds_on, given_to, made_has, old_stays, stays}
use Rattle.result_laws.proofs.Ends.{IsMadeWell, is_reopen, last_made, last_more, last_next, same_sink, same_source}
use Rattle.result_laws.proofs.Resting.{Rest}

-- ---- the last one made is made, and of its kind

record IsMadeAs (k : Kind) (es : List Event) (a : ℕ) : Type 0 where
  made : Slot
  there : slot (state_after es).config a ≡ Some made
  kind : made.node.kind ≡ k

module _ (k : Kind) (same : (j : Kind) → is_kind j k ≡ true → j ≡ k) where
  last_kind_next : (es : List Event) (e : Event) → IsNext es e → ((a : ℕ) → last_made k es ≡ Some a → IsMadeAs k es a) → (a : ℕ) → last_made k (es ++ e ∷ []) ≡ Some a → IsMadeAs k (es ++ e ∷ []) a
  last_kind_next es e here earlier a is = by e refl (sym (last_more k es e) ∙ is)
    where
      r : Reconfigures (state_after es).config e (effect (state_after es) e).config
      r = reconfigured (state_after es) e here.legal

      on : IsMadeAs k es a → IsMadeAs k (es ++ e ∷ []) a
      on w =
          let x = stays (state_after es).config (effect (state_after es) e).config e r a w.made w.there in
          record { made = x.then_; there = ap (λ (t : State). slot t.config a) here.next ∙ x.there; kind = ap (λ (n : Node). n.kind) x.node ∙ w.kind }

      by : (z : Event) → e ≡ z → last_next k (last_made k es) z ≡ Some a → IsMadeAs k (es ++ e ∷ []) a
      by (event.Make i node from) at h = ⊎_elim
          (λ (yes_ : is_kind node.kind k ≡ true).
          let c = (state_after es).config in
          let legal = subst (Legal (state_after es)) at here.legal in
          let room = and_parts (i == length c.slots && nat_lt i _) _ legal.room in
          let last_ : i ≡ length c.slots = eqb-true i (length c.slots) (and_parts (i == length c.slots) _ room.0).0 in
          let one : i ≡ a = same_Some i a (sym (ap (λ b. cond b (Some i) (last_made k es)) yes_) ∙ h) in
          let new_one : Slot = record { node = node; first_port = length c.gates; from = from; live = true } in
          record {
            made = new_one;
            there = ap (λ (t : State). slot t.config a) here.next ∙ r.slots a ∙ ap (slot_next c a) at ∙ ap (λ b. cond b (Some new_one) (slot c a)) (eq-eqb a (length c.slots) (sym one ∙ last_));
            kind = same node.kind yes_;
          })
          (λ (no_ : is_kind node.kind k ≡ false). on (earlier a (sym (ap (λ b. cond b (Some i) (last_made k es)) no_) ∙ h)))
          (cases_Bool (is_kind node.kind k))
      by _ at h = on (earlier a h)

  last_kind : (es : List Event) → IsRun es → (a : ℕ) → last_made k es ≡ Some a → IsMadeAs k es a
  last_kind es run = always (λ xs. (a : ℕ) → last_made k xs ≡ Some a → IsMadeAs k xs a) (λ before e here earlier a is. last_kind_next before e here earlier a is) (λ a is. absurd (none-some a is)) es run

-- ---- gates and messages

-- a gate that is open behind such an event was open before it
was_open : (c : Configuration) (e : Event) (q : ℕ) → is_reopen e ≡ false → (gate_next c q e).closed ≡ false → ((gate c q).closed ≡ false) × ((gate_next c q e).owner ≡ owner c q)
was_open c (event.Close p) q calm h = by (p == q) h
  where
    by : (b : Bool) → (cond b (record (gate c q) { closed = true }) (gate c q)).closed ≡ false → ((gate c q).closed ≡ false) × ((cond b (record (gate c q) { closed = true }) (gate c q)).owner ≡ owner c q)
    by true h = absurd (both_ways true h refl)
    by false h = (h, refl)
was_open c (event.Link p n x) q calm h = by (p == q) h
  where
    by : (b : Bool) → (cond b (record (gate c q) { target = Some (record { node = n; provide = x }) }) (gate c q)).closed ≡ false
        → ((gate c q).closed ≡ false) × ((cond b (record (gate c q) { target = Some (record { node = n; provide = x }) }) (gate c q)).owner ≡ owner c q)
    by true h = (h, refl)
    by false h = (h, refl)
was_open c (event.Unlink p) q calm h = by (p == q) h
  where
    by : (b : Bool) → (cond b (record (gate c q) { target = None }) (gate c q)).closed ≡ false → ((gate c q).closed ≡ false) × ((cond b (record (gate c q) { target = None }) (gate c q)).owner ≡ owner c q)
    by true h = (h, refl)
    by false h = (h, refl)
was_open c (event.Make n node from) q calm h = by (nat_le (length c.gates) q && nat_lt q (length c.gates + length (row node.kind).requires_)) h
  where
    by : (b : Bool) → (cond b (record { owner = length c.slots; require = q - length c.gates; closed = true; target = None }) (gate c q)).closed ≡ false
        → ((gate c q).closed ≡ false) × ((cond b (record { owner = length c.slots; require = q - length c.gates; closed = true; target = None }) (gate c q)).owner ≡ owner c q)
    by true h = absurd (both_ways true h refl)
    by false h = (h, refl)
was_open c (event.Reopen p) q calm h = absurd (both_ways true calm refl)
was_open c _ q calm h = (h, refl)

-- a node that is live then was live before, where it was made
live_before : (c d : Configuration) (e : Event) → Reconfigures c e d → (n : ℕ) → n < length c.slots → is_live d n ≡ true → is_live c n ≡ true
live_before c d e r n low live = by e (ap (λ o. option_map_or (λ (m : Slot). m.live) o false) (sym (r.slots n)) ∙ live)
  where
    removed : (b : Bool) (o : Option Slot) → option_map_or (λ (m : Slot). m.live) (cond b (option_map (λ (k : Slot). record k { live = false }) o) o) false ≡ true → option_map_or (λ (m : Slot). m.live) o false ≡ true
    removed true None h = absurd (both_ways false refl h)
    removed true (Some m) h = absurd (both_ways false refl h)
    removed false o h = h

    by : (z : Event) → option_map_or (λ (m : Slot). m.live) (slot_next c n z) false ≡ true → is_live c n ≡ true
    by (event.Make k node from) h = rw (ne_eqb n (length c.slots) (λ same. omega (arith, low, same))) at h
    by (event.Remove k) h = removed (n == k) (slot c n) h
    by _ h = h

pub makes_none : (e : Event) → is_of_change e ≡ false → is_make e ≡ false
makes_none (event.Make n node from) h = absurd (both_ways true h refl)
makes_none _ h = refl

pub calm_last : (k : Kind) (o : Option ℕ) (e : Event) → is_make e ≡ false → last_next k o e ≡ o
calm_last k o (event.Make n node from) h = absurd (both_ways true h refl)
calm_last k o _ h = refl

module _ (handed : StatesAreHanded) (es : List Event) (e : Event) (here : IsNext es e) (run' : IsRun (es ++ e ∷ [])) (later : HasFolds (es ++ e ∷ [])) (change : is_of_change e ≡ true) where
  still_on : is_reopen e ≡ false → IsStill (state_after es) (come es) → IsStill (state_after (es ++ e ∷ [])) (come (es ++ e ∷ []))
  still_on calm still = record { idle = idle; opened = opened }
    where
      r : Reconfigures (state_after es).config e (state_after (es ++ e ∷ [])).config
      r = subst (λ (t : State). Reconfigures (state_after es).config e t.config) (sym here.next) (reconfigured (state_after es) e here.legal)

      was_of_row : (q : ℕ) → q < length (state_after es).config.gates → row_port (state_after (es ++ e ∷ [])).config q ≡ true → row_port (state_after es).config q ≡ true
      was_of_row q made of_port = sym (port_was (state_after es).config (state_after (es ++ e ∷ [])).config e here.well.sound r q made) ∙ of_port

      idle : (q : ℕ) → row_port (state_after (es ++ e ∷ [])).config q ≡ true → is_idle (exchange (state_after (es ++ e ∷ [])) q).phase ≡ true
      idle q of_port =
          ap (λ (s : State). is_idle (exchange s q).phase) here.next ∙ ap (λ (x : Exchange). is_idle x.phase) (exchanges_next (state_after es) e here.well here.legal q ∙ nothing_there (state_after es) q e change)
          ∙ ⊎_elim
          (λ (made : q < length (state_after es).config.gates). still.idle q (was_of_row q made of_port))
          (λ (beyond : length (state_after es).config.gates ≤ q).
          ap (λ (x : Exchange). is_idle x.phase) (get_or_past (state_after es).traffic.exchanges q fresh_exchange (let n = here.well.exchanges in omega (arith, n, beyond))))
          (cases_lt q (length (state_after es).config.gates))

      opened : (q : ℕ) → (gate (state_after (es ++ e ∷ [])).config q).closed ≡ false → row_port (state_after (es ++ e ∷ [])).config q ≡ true → (come (es ++ e ∷ []) (owner (state_after (es ++ e ∷ [])).config q)).kind ≡ Map
      opened q open_ of_port =
          let was = was_open (state_after es).config e q calm (sym (ap (λ (g : Gate). g.closed) (r.gates q)) ∙ open_) in
          let owned : owner (state_after (es ++ e ∷ [])).config q ≡ owner (state_after es).config q = ap (λ (g : Gate). g.owner) (r.gates q) ∙ was.1 in
          ⊎_elim
          (λ (made : q < length (state_after es).config.gates).
          let o = here.well.sound.ports q made in
          ap (λ i. (come (es ++ e ∷ []) i).kind) owned ∙ ap (λ (n : NodeState). n.kind) (old_stays handed es e here run' change (owner (state_after es).config q) o.node o.made)
          ∙ still.opened q was.0 (was_of_row q made of_port))
          (λ (beyond : length (state_after es).config.gates ≤ q). absurd (both_ways (gate (state_after es).config q).closed was.0 (ap (λ (g : Gate). g.closed) (get_or_past (state_after es).config.gates q fresh_gate beyond))))
          (cases_lt q (length (state_after es).config.gates))

  old_value : {A : Type 0} (k : Kind) (get : Kept → A) (d : A) (o : Option ℕ) → ((a : ℕ) → o ≡ Some a → a < length (state_after es).config.slots) → option_map_or (λ a. get (come (es ++ e ∷ []) a).kept) o d ≡ option_map_or (λ a. get (come es a).kept) o d
  old_value k get d None made = refl
  old_value k get d (Some a) made = let was = slice_get-there (state_after es).config.slots a (made a refl) in ap (λ (n : NodeState). get n.kept) (old_stays handed es e here run' change a was.0 was.1)

  same_value : {A : Type 0} (k : Kind) (get : Kept → A) (d : A) → ((j : Kind) → is_kind j k ≡ true → j ≡ k) → ((x : ℕ) → get (opening k x) ≡ d)
      → ((n : ℕ) (node : Node) (from : Option ℕ) → e ≡ event.Make n node from → node.kind ≡ k → from ≡ last_made k es)
      → option_map_or (λ a. get (come (es ++ e ∷ []) a).kept) (last_made k (es ++ e ∷ [])) d ≡ option_map_or (λ a. get (come es a).kept) (last_made k es) d
  same_value k get d same opens takes = ap (λ o. option_map_or (λ a. get (come (es ++ e ∷ []) a).kept) o d) (last_more k es e) ∙ by e refl
    where
      old_one : option_map_or (λ a. get (come (es ++ e ∷ []) a).kept) (last_made k es) d ≡ option_map_or (λ a. get (come es a).kept) (last_made k es) d
      old_one = old_value k get d (last_made k es) (λ a at. let w = last_kind k same es here.run a at in slice_get_within (state_after es).config.slots a w.made w.there)

      given : (node : Node) (o : Option ℕ) → node.kind ≡ k → get (given_to es node o) ≡ option_map_or (λ a. get (come es a).kept) o d
      given node None kind = ap (λ j. get (opening j (option_map_or (λ a. a) node.arg 0))) kind ∙ opens (option_map_or (λ a. a) node.arg 0)
      given node (Some a) kind = refl

      by : (z : Event) → e ≡ z → option_map_or (λ a. get (come (es ++ e ∷ []) a).kept) (last_next k (last_made k es) z) d ≡ option_map_or (λ a. get (come es a).kept) (last_made k es) d
      by (event.Make i node from) is = ⊎_elim
          (λ (yes_ : is_kind node.kind k ≡ true).
          let legal = subst (Legal (state_after es)) is here.legal in
          let room = and_parts (i == length (state_after es).config.slots && nat_lt i _) _ legal.room in
          let slot_is : i ≡ length (state_after es).config.slots = eqb-true i (length (state_after es).config.slots) (and_parts (i == length (state_after es).config.slots) _ room.0).0 in
          ap (λ b. option_map_or (λ a. get (come (es ++ e ∷ []) a).kept) (cond b (Some i) (last_made k es)) d) yes_
          ∙ ap (λ n. get (come (es ++ e ∷ []) n).kept) slot_is
          ∙ ap (λ z. get (come (es ++ z ∷ []) (length (state_after es).config.slots)).kept) is
          ∙ ap get (made_has handed es i node from (subst (IsNext es) is here) (subst (λ z. IsRun (es ++ z ∷ [])) is run') (subst (λ z. HasFolds (es ++ z ∷ [])) is later))
          ∙ given node from (same node.kind yes_)
          ∙ ap (λ o. option_map_or (λ a. get (come es a).kept) o d) (takes i node from is (same node.kind yes_)))
          (λ (no_ : is_kind node.kind k ≡ false). ap (λ b. option_map_or (λ a. get (come (es ++ e ∷ []) a).kept) (cond b (Some i) (last_made k es)) d) no_ ∙ old_one)
          (cases_Bool (is_kind node.kind k))
      by _ is = old_one

  -- no more transactions begin
  few_on : (past : List ℕ) → Rest es past → (q : ℕ) → is_live (state_after (es ++ e ∷ [])).config (owner (state_after (es ++ e ∷ [])).config q) ≡ true
      → (come (es ++ e ∷ []) (owner (state_after (es ++ e ∷ [])).config q)).kind ≡ Map → (exchange (state_after (es ++ e ∷ [])) q).serial ≤ length past
  few_on past rest q live kind = ⊎_elim (λ (made : q < length c.gates). of_old made) (λ (beyond : length c.gates ≤ q). of_new beyond) (cases_lt q (length c.gates))
    where
      c : Configuration
      c = (state_after es).config

      d : Configuration
      d = (state_after (es ++ e ∷ [])).config

      r : Reconfigures (state_after es).config e (state_after (es ++ e ∷ [])).config
      r = subst (λ (s : State). Reconfigures (state_after es).config e s.config) (sym here.next) (reconfigured (state_after es) e here.legal)

      same : exchange (state_after (es ++ e ∷ [])) q ≡ exchange (state_after es) q
      same = ap (λ (s : State). exchange s q) here.next ∙ exchanges_next (state_after es) e here.well here.legal q ∙ nothing_there (state_after es) q e change

      of_old : q < length (state_after es).config.gates → (exchange (state_after (es ++ e ∷ [])) q).serial ≤ length past
      of_old made =
          let owned = owner_kept (state_after es).config (state_after (es ++ e ∷ [])).config e r q made in
          let o = here.well.sound.ports q made in
          let low = slice_get_within (state_after es).config.slots (owner (state_after es).config q) o.node o.made in
          let was = live_before (state_after es).config (state_after (es ++ e ∷ [])).config e r (owner (state_after es).config q) low (ap (is_live (state_after (es ++ e ∷ [])).config) (sym owned) ∙ live) in
          let kind_was = sym (ap (λ (n : NodeState). n.kind) (old_stays handed es e here run' change (owner (state_after es).config q) o.node o.made)) ∙ ap (λ i. (come (es ++ e ∷ []) i).kind) (sym owned) ∙ kind in
          subst (λ (x : Exchange). x.serial ≤ length past) (sym same) (rest.few q was kind_was)

      of_new : length (state_after es).config.gates ≤ q → (exchange (state_after (es ++ e ∷ [])) q).serial ≤ length past
      of_new beyond =
          let fresh = ap (λ (x : Exchange). x.serial) (same ∙ get_or_past (state_after es).traffic.exchanges q fresh_exchange (let n = here.well.exchanges in omega (arith, n, beyond))) in omega (arith, fresh)

  pub rest_stays : is_reopen e ≡ false → ((n : ℕ) (node : Node) (from : Option ℕ) → e ≡ event.Make n node from → IsMadeWell es node from) → (past : List ℕ) → Rest es past → Rest (es ++ e ∷ []) past
  rest_stays calm well past rest = record {
    still = still_on calm rest.still;
    ends = record {
      count = same_value Source (λ (k : Kept). k.count) 0 same_source (λ x. refl) (λ n node from is kind. (well n node from is).source kind) ∙ rest.ends.count;
      items = same_value Sink (λ (k : Kept). k.items) [] same_sink (λ x. refl) (λ n node from is kind. (well n node from is).sink kind) ∙ rest.ends.items;
    };
    few = few_on past rest;
  }

-- ---- and by each event of a node: it is of none of the row

module _ (handed : StatesAreHanded) (es : List Event) (e : Event) (here : IsNext es e) (run' : IsRun (es ++ e ∷ [])) (later : HasFolds (es ++ e ∷ [])) (of_node : is_of_change e ≡ false) (linked : AllLinked rows_serve_rows (state_after es).config) where
  pub rest_passes : (past : List ℕ) → Rest es past → Rest (es ++ e ∷ []) past
  rest_passes past rest = record {
    still = record { idle = idle; opened = opened };
    ends = record {
      count = same_value Source refl same_source (λ (k : Kept). k.count) 0 ∙ rest.ends.count;
      items = same_value Sink refl same_sink (λ (k : Kept). k.items) [] ∙ rest.ends.items;
    };
    few = few;
  }
    where
      facts_here : Facts (state_after es) (come es)
      facts_here = facts handed es here.run (folds_before handed es e here run' later)

      now : Now (state_after es) (come es) (come (es ++ e ∷ [])) e
      now = record { legal = here.legal; of_node = of_node; folds = folds_on handed es e here run' later of_node }

      same : (state_after (es ++ e ∷ [])).config ≡ (state_after es).config
      same = ap (λ (s : State). s.config) here.next ∙ node_events_keep_the_configuration (state_after es) e of_node

      none_ : (n : ℕ) → row_slot (state_after es).config n ≡ true → is_doer (state_after es) n e ≡ false
      none_ = none_does (state_after es) (come es) (come (es ++ e ∷ [])) facts_here rest.still linked e now

      was_of_row : (q : ℕ) → row_port (state_after (es ++ e ∷ [])).config q ≡ true → row_port (state_after es).config q ≡ true
      was_of_row q of_port = subst (λ c. row_port c q ≡ true) same of_port

      exchange_same : (q : ℕ) → row_port (state_after es).config q ≡ true → exchange (state_after (es ++ e ∷ [])) q ≡ exchange (state_after es) q
      exchange_same q of_port =
          ap (λ (s : State). exchange s q) here.next
          ∙ idle_stays (state_after es) (come es) (come (es ++ e ∷ [])) facts_here q e here.legal (rest.still.idle q of_port) (none_ (owner (state_after es).config q) of_port)

      kind_same : (q : ℕ) → row_port (state_after es).config q ≡ true → (come (es ++ e ∷ []) (owner (state_after (es ++ e ∷ [])).config q)).kind ≡ (come es (owner (state_after es).config q)).kind
      kind_same q of_port =
          ap (λ c. (come (es ++ e ∷ []) (owner c q)).kind) same ∙ ap (λ (n : NodeState). n.kind) (now.folds.others (owner (state_after es).config q) (none_ (owner (state_after es).config q) of_port))

      idle : (q : ℕ) → row_port (state_after (es ++ e ∷ [])).config q ≡ true → is_idle (exchange (state_after (es ++ e ∷ [])) q).phase ≡ true
      idle q of_port = let was = was_of_row q of_port in ap (λ (x : Exchange). is_idle x.phase) (exchange_same q was) ∙ rest.still.idle q was

      opened : (q : ℕ) → (gate (state_after (es ++ e ∷ [])).config q).closed ≡ false → row_port (state_after (es ++ e ∷ [])).config q ≡ true → (come (es ++ e ∷ []) (owner (state_after (es ++ e ∷ [])).config q)).kind ≡ Map
      opened q open_ of_port = let was = was_of_row q of_port in kind_same q was ∙ rest.still.opened q (subst (λ c. (gate c q).closed ≡ false) same open_) was

      same_value : {A : Type 0} (k : Kind) → is_of_row k ≡ true → ((j : Kind) → is_kind j k ≡ true → j ≡ k) → (get : Kept → A) (d : A)
          → option_map_or (λ a. get (come (es ++ e ∷ []) a).kept) (last_made k (es ++ e ∷ [])) d ≡ option_map_or (λ a. get (come es a).kept) (last_made k es) d
      same_value k of_row same_kind get d =
          ap (λ o. option_map_or (λ a. get (come (es ++ e ∷ []) a).kept) o d) (last_more k es e ∙ calm_last k (last_made k es) e (makes_none e of_node)) ∙ by (last_made k es) refl
        where
          by : (o : Option ℕ) → last_made k es ≡ o → option_map_or (λ a. get (come (es ++ e ∷ []) a).kept) o d ≡ option_map_or (λ a. get (come es a).kept) o d
          by None is = refl
          by (Some a) is =
              let w = last_kind k same_kind es here.run a is in
              ap (λ (n : NodeState). get n.kept) (now.folds.others a (none_ a (slot_is (state_after es).config a w.made w.there ∙ ap is_of_row w.kind ∙ of_row)))

      few : (q : ℕ) → is_live (state_after (es ++ e ∷ [])).config (owner (state_after (es ++ e ∷ [])).config q) ≡ true → (come (es ++ e ∷ []) (owner (state_after (es ++ e ∷ [])).config q)).kind ≡ Map
          → (exchange (state_after (es ++ e ∷ [])) q).serial ≤ length past
      few q live kind = ⊎_elim
          (λ (made : q < length (state_after (es ++ e ∷ [])).config.gates).
          let own = (runs_are_well_formed (es ++ e ∷ []) run').sound.ports q made in
          let d = (state_after (es ++ e ∷ [])).config in
          let is = (fits_of handed (es ++ e ∷ []) run' later).kinds (owner d q) own.node own.made in
          let was = was_of_row q (slot_is d (owner d q) own.node own.made ∙ ap is_of_row (sym is ∙ kind)) in
          subst (λ (x : Exchange). x.serial ≤ length past) (sym (exchange_same q was)) (rest.few q (subst (λ c. is_live c (owner c q) ≡ true) same live) (sym (kind_same q was) ∙ kind)))
          (λ (beyond : length (state_after (es ++ e ∷ [])).config.gates ≤ q).
          let fresh = ap (λ (x : Exchange). x.serial) (get_or_past (state_after (es ++ e ∷ [])).traffic.exchanges q fresh_exchange (let n = (runs_are_well_formed (es ++ e ∷ []) run').exchanges in omega (arith, n, beyond))) in omega (arith, fresh))
          (cases_lt q (length (state_after (es ++ e ∷ [])).config.gates))
