-- In every world that is reached there is one hint of each request that waits, and no other hint.
use Rattle.std.proofs.Common.{◌≡◌, ◌∙◌, ℕ, suc, ◌+◌, ◌-◌, ◌<◌, ◌≤◌, Bool, true, false, cond, List, [], ◌∷◌, ◌++◌, ◌⊎◌, length, set, Option, Some, None, refl, sym, ap, subst, ⊎_elim, arith, get_or-set_same, get_or-set_other, length-append, length-set, not}
use Rattle.std.specs.Prelude.{◌==◌, ◌&&◌, fold, is_some, nat_le, nat_lt, option_and_then, option_map, replicate, slice_get, slice_index_or}
use Rattle.std.specs.List.{enumerate_from}
use Rattle.std.specs.Option.{option_map_or}
use Rattle.std.proofs.lemmas.Bool.{and_parts, both_ways, cases_Bool, cases_eq, cases_lt, eq-eqb, eqb-true, false_from_ne_true, le-leb, leb-true, lt-ltb, ltb-true, ne_eqb}
use Rattle.std.proofs.lemmas.List.{get_or_append_left, get_or_past, length-replicate}
use Rattle.std.proofs.lemmas.Option.{get_or_from_slice_get, none-some, same_Some, slice_get-get_or, slice_get_past, slice_get_within}
use Rattle.std.proofs.Math.Seq.{get_or-append_seam}
use Rattle.base.proofs.OptionLaws.{Some-from_is_some, map_or_at, map_or_true}
use Rattle.base.proofs.PlaceLaws.{fresh_behind, slice_get-there}
use Rattle.config_graph.specs.Kinds.{row}
use Rattle.config_graph.specs.declared.node.Node.{Node}
use Rattle.config_graph.specs.declared.node.Target.{Target}
use Rattle.component_trait.specs.States.{NodeState}
use Rattle.quiesce_word.specs.Phases.{is_asked, is_idle}
use Rattle.quiesce_word.proofs.PhaseLaws.{idle_not_asked}
use Rattle.quiesce_core.proofs.AlterLaws.{exchanges_next, reconfigured, services_next, change_exchange}
use Rattle.quiesce_core.proofs.LegalLaws.{legal}
use Rattle.quiesce_core.proofs.RunLaws.{node_events_keep_the_configuration, runs_are_consistent, runs_are_well_formed}
use Rattle.quiesce_core.proofs.StabilityLaws.{busy_ports_stay}
use Rattle.quiesce_core.proofs.TableLaws.{gate_place, live_made}
use Rattle.quiesce_core.specs.Alters.{Reconfigures, gate_next, nodes_next, ports_next, service_next, slot_next}
use Rattle.quiesce_core.specs.Doers.{is_of_change}
use Rattle.quiesce_core.specs.Effect.{effect}
use Rattle.quiesce_core.specs.Legal.{Legal}
use Rattle.quiesce_core.specs.Rules.{is_live_port, is_taken}
use Rattle.quiesce_core.specs.Runs.{doer}
use Rattle.quiesce_core.specs.State.{Configuration, State, exchange, fresh_gate, gate, is_live, owner, service, slot, target}
use Rattle.quiesce_core.specs.Traffic.{IsConsistent}
use Rattle.quiesce_core.specs.WellFormed.{IsSound, IsWellFormed}
use Rattle.quiesce_core.specs.declared.event.Event.{Event}
use Rattle.quiesce_core.specs.declared.event.Event.TheVariants.{Begin, Call, Take, Give, End, More, Ask, Hear, Miss, Close, Reopen, Make, Link, Unlink, Remove}
use Rattle.quiesce_core.specs.declared.state.Exchange.{Exchange}
use Rattle.quiesce_core.specs.declared.state.Gate.{Gate}
use Rattle.quiesce_core.specs.declared.state.Slot.{Slot}
use Rattle.node_turn_laws.proofs.ReachedLaws.{holds_where_reached, turn_goes_on}
use Rattle.node_turn_laws.specs.Reached.{IsReached}
use Rattle.node_turn_laws.proofs.TurnLaws.{posts_keep}
use Rattle.node_turn_laws.specs.Turn.{do_event, is_full, looks, move_of, post, post_one, post_request, post_waiting, request_of, turn, turn_in, with_hint, with_waiting, without_hint}
use Rattle.node_turn_laws.specs.World.{World, first_port, inbox, state_of, waiting_of, with_event, with_event_of}
use Rattle.node_turn_laws.specs.Requests.{HintsAreRequests, hints_for, kept_back, leads_to, waits, waits_for}
use Rattle.node_turn_laws.proofs.LookLaws.{after_look, is_take_at, takes_at}
use Rattle.node_turn_laws.proofs.PostLemmas.{IsPlace, count_of, is_at, posted, read}
use Rattle.node_turn_laws.proofs.RequestLemmas.{is_of, same_taken, unasked, waits_after, waits_next}

-- ---- each node has an inbox, and a place for a hint of each of its requirements

pub record Fits (w : World) : Type 0 where
  pub boxes : length w.inboxes ≡ length w.machine.config.slots
  pub rows : length w.waiting ≡ length w.machine.config.slots
  pub row_of : (n : ℕ) (k : Slot) → slot w.machine.config n ≡ Some k → length (waiting_of w n) ≡ length (row k.node.kind).requires_

pub record Hinted (w : World) : Type 0 where
  pub fits : Fits w
  pub hints : HintsAreRequests w

post_machine : (w : World) (n r m : ℕ) → (post w n r m).machine ≡ w.machine
post_machine w n r m = by (is_full (inbox w m))
  where
    by : (b : Bool) → (cond b (with_waiting w n r (Some m)) (with_hint (with_waiting w n r None) m (first_port w.machine n + r))).machine ≡ w.machine
    by true = refl
    by false = refl

waiting_posted : (w : World) (n r m k : ℕ) → waiting_of (post w n r m) k ≡ slice_index_or (set w.waiting n (set (waiting_of w n) r (cond (is_full (inbox w m)) (Some m) None))) k []
waiting_posted w n r m k = by (is_full (inbox w m))
  where
    by : (b : Bool) → waiting_of (cond b (with_waiting w n r (Some m)) (with_hint (with_waiting w n r None) m (first_port w.machine n + r))) k
        ≡ slice_index_or (set w.waiting n (set (waiting_of w n) r (cond b (Some m) None))) k []
    by true = refl
    by false = refl

lengths_posted : (w : World) (n r m : ℕ) → (length (post w n r m).inboxes ≡ length w.inboxes) × (length (post w n r m).waiting ≡ length w.waiting)
lengths_posted w n r m = by (is_full (inbox w m))
  where
    by : (b : Bool) → (length (cond b (with_waiting w n r (Some m)) (with_hint (with_waiting w n r None) m (first_port w.machine n + r))).inboxes ≡ length w.inboxes)
        × (length (cond b (with_waiting w n r (Some m)) (with_hint (with_waiting w n r None) m (first_port w.machine n + r))).waiting ≡ length w.waiting)
    by true = (refl, length-set w.waiting n (set (waiting_of w n) r (Some m)))
    by false = (length-set w.inboxes m (inbox w m ++ (first_port w.machine n + r) ∷ []), length-set w.waiting n (set (waiting_of w n) r None))

row_length : (w : World) (n r k : ℕ) (o : Option ℕ) → n < length w.waiting → length (slice_index_or (set w.waiting n (set (waiting_of w n) r o)) k []) ≡ length (waiting_of w k)
row_length w n r k o low = ⊎_elim
    (λ (same : k ≡ n).
    ap (λ j. length (slice_index_or (set w.waiting n (set (waiting_of w n) r o)) j [])) same
    ∙ ap (λ (xs : List (Option ℕ)). length xs) (get_or-set_same w.waiting n (set (waiting_of w n) r o) [] low)
    ∙ length-set (waiting_of w n) r o ∙ ap (λ j. length (waiting_of w j)) (sym same))
    (λ (other : k ≡ n → ⊥). ap (λ (xs : List (Option ℕ)). length xs) (get_or-set_other w.waiting n k (set (waiting_of w n) r o) [] other))
    (cases_eq k n)

fits_posted : (w : World) (n r m : ℕ) → n < length w.waiting → Fits w → Fits (post w n r m)
fits_posted w n r m low h =
    let machine = post_machine w n r m in
    let count : length (post w n r m).machine.config.slots ≡ length w.machine.config.slots = ap (λ (s : State). length s.config.slots) machine in
    record {
      boxes = (lengths_posted w n r m).0 ∙ h.boxes ∙ sym count;
      rows = (lengths_posted w n r m).1 ∙ h.rows ∙ sym count;
      row_of = λ k j there.
          ap (λ (xs : List (Option ℕ)). length xs) (waiting_posted w n r m k)
          ∙ row_length w n r k (cond (is_full (inbox w m)) (Some m) None) low
          ∙ h.row_of k j (ap (λ (s : State). slot s.config k) (sym machine) ∙ there);
    }

-- a requirement of a node that was made
pub place_of : (w : World) → Fits w → IsSound w.machine.config → (n r : ℕ) (k : Slot) → slot w.machine.config n ≡ Some k → r < length (row k.node.kind).requires_ → IsPlace w n r (k.first_port + r)
place_of w h sound n r k there low =
    let c = w.machine.config in
    let in_row = sound.rows n k there in
    let within = in_row.within in
    let g = slice_get-there c.gates (k.first_port + r) (omega (arith, within, low)) in
    let is : gate c (k.first_port + r) ≡ g.0 = get_or_from_slice_get c.gates (k.first_port + r) g.0 fresh_gate g.1 in
    let long = h.row_of n k there in
    record {
      gate_of = g.0;
      there = g.1;
      owned = ap (λ (x : Gate). x.owner) (sym is) ∙ in_row.owned r low;
      required = ap (λ (x : Gate). x.require) (sym is) ∙ in_row.in_order r low;
      port = ap (λ i. i + r) (map_or_at (λ (j : Slot). j.first_port) (slot c n) 0 k there);
      has_row = (let made = slice_get_within c.slots n k there in let rows = h.rows in omega (arith, made, rows));
      in_row = omega (arith, long, low);
    }

pub kept_there : (w : World) (n r p : ℕ) → IsPlace w n r p → kept_back w p ≡ slice_index_or (waiting_of w n) r None
kept_there w n r p at =
    ap (option_and_then (read w.waiting)) at.there
    ∙ (λ i. slice_index_or (waiting_of w (at.owned i)) (at.required i) None)

-- a request is for a node that was made
for_made : (s : State) → IsSound s.config → (m p : ℕ) → waits_for s m p ≡ true → m < length s.config.slots
for_made s sound m p h =
    let t = map_or_true (λ (t : Target). t.node == m) (target s.config p) (and_parts (waits s p) (leads_to s.config m p) h).1 in
    subst (λ k. k < length s.config.slots) (eqb-true t.0.node m t.2) (live_made s.config t.0.node (sound.targets p t.0 t.1).live)

pub some_hint : (b : Bool) (n : ℕ) → n ≡ cond b 1 0 → 1 ≤ n → b ≡ true
some_hint true n e low = refl
some_hint false n e low = absurd (omega (arith, e, low))

-- ---- hints that wait are posted

same_hints : (w : World) (k p p0 m : ℕ) → kept_back w p0 ≡ Some m → cond (p == p0) (count_of p0 (inbox w k) + cond (m == k) 1 0) (hints_for w k p) ≡ hints_for w k p
same_hints w k p p0 m is = ⊎_elim
    (λ (same : p ≡ p0). rw (eq-eqb p p0 same) (ap (λ o. count_of p0 (inbox w k) + cond (is_at k o) 1 0) (sym is) ∙ ap (hints_for w k) (sym same)))
    (λ (other : p ≡ p0 → ⊥). rw (ne_eqb p p0 other) refl)
    (cases_eq p p0)

hinted_with : (u v : World) → Fits v → v.machine ≡ u.machine → ((k p : ℕ) → hints_for v k p ≡ hints_for u k p) → HintsAreRequests u → Hinted v
hinted_with u v fits machine same hints = record {
  fits = fits;
  hints = λ k p. same k p ∙ hints k p ∙ ap (λ (s : State). cond (waits_for s k p) 1 0) (sym machine);
}

hinted_posted : (u : World) (n r m : ℕ) (k : Slot) → Hinted u → IsSound u.machine.config → slot u.machine.config n ≡ Some k → r < length (row k.node.kind).requires_
    → slice_index_or (waiting_of u n) r None ≡ Some m → Hinted (post u n r m)
hinted_posted u n r m k h sound there low is =
    let p0 = k.first_port + r in
    let at = place_of u h.fits sound n r k there low in
    let kept : kept_back u p0 ≡ Some m = kept_there u n r p0 at ∙ is in
    let one : ◌≡◌ {A = ℕ} (cond (is_at m (kept_back u p0)) 1 0) 1 = ap {B = ℕ} (λ o. cond (is_at m o) 1 0) kept ∙ ap {B = ℕ} (λ b. cond b 1 0) (eq-eqb m m refl) in
    let asked = some_hint (waits_for u.machine m p0) (hints_for u m p0) (h.hints m p0) (omega (arith, one)) in
    let made = for_made u.machine sound m p0 asked in
    let boxes = h.fits.boxes in
    hinted_with u (post u n r m) (fits_posted u n r m at.has_row h.fits) (post_machine u n r m)
    (λ j p. posted u sound n r p0 at m (omega (arith, made, boxes)) j p ∙ same_hints u j p p0 m kept) h.hints

post_all : (n i : ℕ) (k : Slot) (xs : List (Option ℕ)) (u : World) → Hinted u → IsSound u.machine.config → slot u.machine.config n ≡ Some k → i + length xs ≡ length (row k.node.kind).requires_
    → ((j : ℕ) → slice_index_or (waiting_of u n) (i + j) None ≡ slice_index_or xs j None) → Hinted (fold (post_one n) u (enumerate_from i xs))
post_all n i k [] u h sound there long rest_is = h
post_all n i k (None ∷ xs) u h sound there long rest_is =
    post_all n (i + 1) k xs u h sound there (omega (arith, long))
    (λ j. let shift : (i + 1) + j ≡ i + suc j = omega arith in ap (λ a. slice_index_or (waiting_of u n) a None) shift ∙ rest_is (suc j))
post_all n i k (Some m ∷ xs) u h sound there long rest_is =
    let v = post u n i m in
    let low : i < length (row k.node.kind).requires_ = omega (arith, long) in
    let at = place_of u h.fits sound n i k there low in
    let machine = post_machine u n i m in
    let here : slice_index_or (waiting_of u n) i None ≡ Some m = (let zero_ : i ≡ i + 0 = omega arith in ap (λ a. slice_index_or (waiting_of u n) a None) zero_ ∙ rest_is 0) in
    post_all n (i + 1) k xs v (hinted_posted u n i m k h sound there low here) (subst (λ (s : State). IsSound s.config) (sym machine) sound)
    (ap (λ (s : State). slot s.config n) machine ∙ there) (omega (arith, long))
    (λ j. let shift : (i + 1) + j ≡ i + suc j = omega arith in
    let other : (i + 1) + j ≡ i → ⊥ = λ e. absurd (omega (arith, e)) in
    let o = cond (is_full (inbox u m)) (Some m) None in
    ap (λ ys. slice_index_or ys ((i + 1) + j) None) (waiting_posted u n i m n ∙ get_or-set_same u.waiting n (set (waiting_of u n) i o) [] at.has_row)
    ∙ get_or-set_other (waiting_of u n) i ((i + 1) + j) o None other
    ∙ ap (λ a. slice_index_or (waiting_of u n) a None) shift ∙ rest_is (suc j))

pub waiting_are_posted : (w : World) (n : ℕ) (k : Slot) → Hinted w → IsSound w.machine.config → slot w.machine.config n ≡ Some k → Hinted (post_waiting w n)
waiting_are_posted w n k h sound there = post_all n 0 k (waiting_of w n) w h sound there (let long = h.fits.row_of n k there in omega (arith, long)) (λ j. let zero_ : 0 + j ≡ j = omega arith in ap (λ a. slice_index_or (waiting_of w n) a None) zero_)

-- ---- an event of a node

fits_after : (v : World) (n : ℕ) (e : Event) → is_of_change e ≡ false → Fits v → Fits (with_event_of v n e)
fits_after v n e node h =
    let same : (effect v.machine e).config ≡ v.machine.config = node_events_keep_the_configuration v.machine e node in
    record {
      boxes = h.boxes ∙ ap (λ (c : Configuration). length c.slots) (sym same);
      rows = h.rows ∙ ap (λ (c : Configuration). length c.slots) (sym same);
      row_of = λ k j there. h.row_of k j (ap (λ (c : Configuration). slot c k) (sym same) ∙ there);
    }

-- hints as they are after a look, before the event that it leads to
abbrev pub IsLooked : World → State → Option Event → Type 0
IsLooked v s o = (m p : ℕ) → hints_for v m p ≡ cond (takes_at p o) 0 (cond (waits_for s m p) 1 0)

module _ (v : World) (n : ℕ) (fits : Fits v) (w : IsWellFormed v.machine) (traffic : IsConsistent v.machine) where
  abbrev s : State
  s = v.machine

  hints_after : (e : Event) → is_of_change e ≡ false → (m p : ℕ) → hints_for (with_event_of v n e) m p ≡ hints_for v m p
  hints_after e node m p =
      ap (λ (c : Configuration). count_of p (inbox v m) + cond (is_at m (option_and_then (read v.waiting) (slice_get c.gates p))) 1 0) (node_events_keep_the_configuration s e node)

  waiting_after : (e : Event) → Legal s e → is_of_change e ≡ false → (m p : ℕ) → waits_for (effect s e) m p ≡ (waits_after s p e && leads_to s.config m p)
  waiting_after e l node m p =
      λ i. waits_next s w traffic p e l node i && leads_to (node_events_keep_the_configuration s e node i) m p

  -- one that asks nothing new
  plain : (e : Event) → Legal s e → is_of_change e ≡ false → IsLooked v s (Some e) → request_of s n e ≡ None
      → ((p : ℕ) → waits_after s p e ≡ cond (is_take_at p e) false (waits s p)) → Hinted (do_event v n e)
  plain e l node looked none_ so =
      subst (λ o. Hinted (post_request (with_event_of v n e) n o)) (sym none_)
      (record {
        fits = fits_after v n e node fits;
        hints = λ m p.
            hints_after e node m p ∙ looked m p
            ∙ by (is_take_at p e) (waits s p) (leads_to s.config m p)
            ∙ ap (λ b. cond (b && leads_to s.config m p) 1 0) (sym (so p))
            ∙ ap {B = ℕ} (λ b. cond b 1 0) (sym (waiting_after e l node m p));
      })
    where
      by : (a b c : Bool) → ◌≡◌ {A = ℕ} (cond a 0 (cond (b && c) 1 0)) (cond (cond a false b && c) 1 0)
      by true b c = refl
      by false b c = refl

  -- one that asks at a port that was idle
  asking : (e : Event) (q : ℕ) → Legal s e → is_of_change e ≡ false → owner s.config q ≡ n → is_live_port s.config q ≡ true → (t : Target) → target s.config q ≡ Some t
      → is_idle (exchange s q).phase ≡ true → IsLooked v s (Some e) → ((p : ℕ) → is_take_at p e ≡ false) → request_of s n e ≡ Some (record { require = q - first_port s n; node = t.node })
      → ((p : ℕ) → waits_after s p e ≡ cond (q == p) true (waits s p)) → Hinted (do_event v n e)
  asking e q l node own live t leads idle looked no_take is so =
      let u = with_event_of v n e in
      let same : (effect s e).config ≡ s.config = node_events_keep_the_configuration s e node in
      let o = w.sound.ports q (gate_place s q live) in
      let from = o.from in
      let below = o.below in
      let made : slot s.config n ≡ Some o.node = ap (slot s.config) (sym own) ∙ o.made in
      let first : first_port s n ≡ o.node.first_port = map_or_at (λ (j : Slot). j.first_port) (slot s.config n) 0 o.node made in
      let r = q - first_port s n in
      let low : r < length (row o.node.node.kind).requires_ = omega (arith, first, from, below) in
      let sum : o.node.first_port + r ≡ q = omega (arith, first, from) in
      let sound : IsSound u.machine.config = subst IsSound (sym same) w.sound in
      let at : IsPlace u n r q =
      subst (IsPlace u n r) sum (place_of u (fits_after v n e node fits) sound n r o.node (ap (λ (c : Configuration). slot c n) same ∙ made) low) in
      let to_made = live_made s.config t.node (w.sound.targets q t leads).live in
      let boxes = fits.boxes in
      let within : t.node < length u.inboxes = omega (arith, to_made, boxes) in
      subst (λ x. Hinted (post_request u n x)) (sym is)
      (record {
        fits = fits_posted u n r t.node at.has_row (fits_after v n e node fits);
        hints = λ m p.
            posted u sound n r q at t.node within m p
            ∙ one m p
            ∙ ap {B = ℕ} (λ b. cond b 1 0) (sym (waiting_after e l node m p))
            ∙ ap (λ (x : State). cond (waits_for x m p) 1 0) (sym (post_machine u n r t.node));
      })
    where
      not_yet : (m : ℕ) → count_of q (inbox v m) ≡ 0
      not_yet m =
          let unasked_ : waits s q ≡ false = unasked s q (idle_not_asked (exchange s q).phase idle) in
          let none_ : ◌≡◌ {A = ℕ} (cond (waits_for s m q) 1 0) 0 = ap {B = ℕ} (λ b. cond (b && leads_to s.config m q) 1 0) unasked_ in
          let all = looked m q ∙ ap (λ b. cond b 0 (cond (waits_for s m q) 1 0)) (no_take q) in
          omega (arith, all, none_)

      one : (m p : ℕ) → cond (p == q) (count_of q (inbox v m) + cond (t.node == m) 1 0) (hints_for (with_event_of v n e) m p) ≡ cond (waits_after s p e && leads_to s.config m p) 1 0
      one m p = ⊎_elim
          (λ (here : p ≡ q).
          let count = not_yet m in
          let to : leads_to s.config m p ≡ (t.node == m) = ap (leads_to s.config m) here ∙ map_or_at (λ (x : Target). x.node == m) (target s.config q) false t leads in
          let asked : waits_after s p e ≡ true = so p ∙ ap (λ b. cond b true (waits s p)) (eq-eqb q p (sym here)) in
          rw (eq-eqb p q here) (let sum : count_of q (inbox v m) + cond (t.node == m) 1 0 ≡ cond (t.node == m) 1 0 = omega (arith, count) in sum ∙ (λ i. cond (sym asked i && sym to i) 1 0)))
          (λ (other : p ≡ q → ⊥).
          let kept : waits_after s p e ≡ waits s p = so p ∙ ap (λ b. cond b true (waits s p)) (ne_eqb q p (λ x. other (sym x))) in
          rw (ne_eqb p q other)
          (hints_after e node m p ∙ looked m p ∙ ap (λ b. cond b 0 (cond (waits_for s m p) 1 0)) (no_take p) ∙ ap (λ b. cond (b && leads_to s.config m p) 1 0) (sym kept)))
          (cases_eq p q)

  requested : (q : ℕ) → is_some (target s.config q) ≡ true → (t : Target) × (target s.config q ≡ Some t)
  requested q linked = Some-from_is_some (target s.config q) linked

  pub hinted_event : (e : Event) → Legal s e → is_of_change e ≡ false → doer s e ≡ Some n → IsLooked v s (Some e) → Hinted (do_event v n e)
  hinted_event (Begin q k x) l node own looked =
      let t = requested q l.linked in
      asking (Begin q k x) q l node (same_Some (owner s.config q) n own) l.live t.0 t.1 l.idle looked (λ p. refl)
      (ap (option_map (λ (t : Target). record { require = q - first_port s n; node = t.node })) t.1) (λ p. refl)
  hinted_event (Call q k x) l node own looked =
      let t = requested q l.linked in
      asking (Call q k x) q l node (same_Some (owner s.config q) n own) l.live t.0 t.1 l.idle looked (λ p. refl)
      (ap (option_map (λ (t : Target). record { require = q - first_port s n; node = t.node })) t.1) (λ p. refl)
  hinted_event (Take q k x) l node own looked = plain (Take q k x) l node looked refl (λ p. refl)
  hinted_event (Give q k x) l node own looked = plain (Give q k x) l node looked refl (λ p. refl)
  hinted_event (More q k x) l node own looked = plain (More q k x) l node looked refl (λ p. refl)
  hinted_event (Ask q k x) l node own looked = plain (Ask q k x) l node looked refl (λ p. refl)
  hinted_event (Hear q k x) l node own looked = plain (Hear q k x) l node looked refl (λ p. refl)
  hinted_event (End q k x) l node own looked = plain (End q k x) l node looked refl (λ p. refl)
  hinted_event (Miss q) l node own looked = plain (Miss q) l node looked refl (λ p. refl)
  hinted_event (Close q) l node own looked = absurd (both_ways true node refl)
  hinted_event (Reopen q) l node own looked = absurd (both_ways true node refl)
  hinted_event (Make k made from) l node own looked = absurd (both_ways true node refl)
  hinted_event (Link q k x) l node own looked = absurd (both_ways true node refl)
  hinted_event (Unlink q) l node own looked = absurd (both_ways true node refl)
  hinted_event (Remove k) l node own looked = absurd (both_ways true node refl)

-- ---- a turn

pub well_where_reached : (w : World) → IsReached w → IsWellFormed w.machine
well_where_reached w r = let h = holds_where_reached w r in subst IsWellFormed (sym h.0) (runs_are_well_formed w.events h.1.run)

pub traffic_where_reached : (w : World) → IsReached w → IsConsistent w.machine
traffic_where_reached w r = let h = holds_where_reached w r in subst IsConsistent (sym h.0) (runs_are_consistent w.events h.1.run)

pub posted_machine : (w : World) (n : ℕ) → (post_waiting w n).machine ≡ w.machine
posted_machine w n = ap (λ (u : World). u.machine) (posts_keep n w (enumerate_from 0 (waiting_of w n)))

fits_looked : (v : World) (n : ℕ) (b : Bool) → Fits v → Fits (cond b (without_hint v n) v)
fits_looked v n true h = record { boxes = length-set v.inboxes n _ ∙ h.boxes; rows = h.rows; row_of = h.row_of }
fits_looked v n false h = h

machine_looked : (v : World) (n : ℕ) (b : Bool) → (cond b (without_hint v n) v).machine ≡ v.machine
machine_looked v n true = refl
machine_looked v n false = refl

-- what the machine says of the event of the turn
record MayDo (s : State) (n : ℕ) (e : Event) : Type 0 where
  legal_so : Legal s e
  own : doer s e ≡ Some n
  of_node : is_of_change e ≡ false

in_turn_hinted : (v : World) (n : ℕ) (allowed : Bool) (t : NodeState) → Hinted v → IsWellFormed v.machine → IsConsistent v.machine → (o : Option Event)
    → move_of v.machine n t (inbox v n) allowed ≡ o → ((e : Event) → o ≡ Some e → MayDo v.machine n e)
    → Hinted (option_map_or (do_event (cond (looks v.machine n t) (without_hint v n) v) n) o (cond (looks v.machine n t) (without_hint v n) v))
in_turn_hinted v n allowed t h well traffic o is may =
    let u = cond (looks v.machine n t) (without_hint v n) v in
    let machine = machine_looked v n (looks v.machine n t) in
    let fits = fits_looked v n (looks v.machine n t) h.fits in
    let looked : IsLooked u u.machine o =
    λ m p. subst (λ (s : State). hints_for u m p ≡ cond (takes_at p o) 0 (cond (waits_for s m p) 1 0)) (sym machine)
    (after_look v h.hints h.fits.boxes n t allowed m p ∙ ap (λ x. cond (takes_at p x) 0 (cond (waits_for v.machine m p) 1 0)) is) in
    by u (subst (λ s. (e : Event) → o ≡ Some e → MayDo s n e) (sym machine) may) fits (subst IsWellFormed (sym machine) well) (subst IsConsistent (sym machine) traffic) o refl looked
  where
    by : (u : World) → ((e : Event) → o ≡ Some e → MayDo u.machine n e) → Fits u → IsWellFormed u.machine → IsConsistent u.machine → (x : Option Event) → o ≡ x → IsLooked u u.machine x → Hinted (option_map_or (do_event u n) x u)
    by u may fits well traffic None e looked = record { fits = fits; hints = looked }
    by u may fits well traffic (Some x) e looked =
        let m = may x e in hinted_event u n fits well traffic x m.legal_so m.of_node m.own looked

turn_hinted : (w : World) (n : ℕ) (allowed : Bool) → IsReached w → is_live w.machine.config n ≡ true → Hinted w → Hinted (turn w n allowed).world
turn_hinted w n allowed r live h =
    let well = well_where_reached w r in
    let m = map_or_true (λ (x : Slot). x.live) (slot w.machine.config n) live in
    let v = post_waiting w n in
    let machine = posted_machine w n in
    by (state_of v n) refl (waiting_are_posted w n m.0 h well.sound m.1) (subst IsWellFormed (sym machine) well) (subst IsConsistent (sym machine) (traffic_where_reached w r))
  where
    may : (v : World) → v.machine ≡ w.machine → (e : Event) → (turn w n allowed).event ≡ Some e → MayDo v.machine n e
    may v machine e is =
        let g = turn_goes_on w n allowed e r live is in
        subst (λ s. MayDo s n e) (sym machine) (record { legal_so = legal w.machine e g.allowed; own = g.own; of_node = g.of_node })

    by : (o : Option NodeState) → state_of (post_waiting w n) n ≡ o → Hinted (post_waiting w n) → IsWellFormed (post_waiting w n).machine → IsConsistent (post_waiting w n).machine
        → Hinted (option_map_or (turn_in (post_waiting w n) n allowed) o (record { event = None; world = post_waiting w n })).world
    by None e h well traffic = h
    by (Some t) e h well traffic =
        in_turn_hinted (post_waiting w n) n allowed t h well traffic (move_of (post_waiting w n).machine n t (inbox (post_waiting w n) n) allowed) refl
        (λ x is. may (post_waiting w n) (posted_machine w n) x
        (ap (λ o. (option_map_or (turn_in (post_waiting w n) n allowed) o (record { event = None; world = post_waiting w n })).event) e ∙ is))

-- ---- an event of the change

kept_is : (waiting : List (List (Option ℕ))) (c : Configuration) (p : ℕ) → option_and_then (read waiting) (slice_get c.gates p) ≡ cond (nat_lt p (length c.gates)) (read waiting (gate c p)) None
kept_is waiting c p = ⊎_elim
    (λ (low : p < length c.gates). rw (lt-ltb p (length c.gates) low) (ap (option_and_then (read waiting)) (slice_get-get_or c.gates p fresh_gate low)))
    (λ (past : length c.gates ≤ p). rw (beyond past) (ap (option_and_then (read waiting)) (slice_get_past c.gates p past)))
    (cases_lt p (length c.gates))
  where
    beyond : length c.gates ≤ p → nat_lt p (length c.gates) ≡ false
    beyond past = false_from_ne_true (nat_lt p (length c.gates)) (λ h. absurd (omega (arith, past, ltb-true p (length c.gates) h)))

change_service : (s : State) (n : ℕ) (e : Event) → is_of_change e ≡ true → service_next s n e ≡ service s n
change_service s n (Close q) h = refl
change_service s n (Reopen q) h = refl
change_service s n (Make m node from) h = refl
change_service s n (Link q m x) h = refl
change_service s n (Unlink q) h = refl
change_service s n (Remove m) h = refl
change_service s n _ h = absurd (both_ways false refl h)

-- no request comes or goes
waiting_stays : (s : State) (e : Event) → IsWellFormed s → IsConsistent s → Legal s e → is_of_change e ≡ true → (m p : ℕ) → waits_for (effect s e) m p ≡ waits_for s m p
waiting_stays s e w traffic l change m p =
    let there : exchange (effect s e) p ≡ exchange s p = exchanges_next s e w l p ∙ change_exchange s p e change in
    let phase : is_asked (exchange (effect s e) p).phase ≡ is_asked (exchange s p).phase = ap (λ (x : Exchange). is_asked x.phase) there in
    ⊎_elim
    (λ (idle : is_idle (exchange s p).phase ≡ true).
    let no = idle_not_asked (exchange s p).phase idle in
    (λ i. unasked (effect s e) p (phase ∙ no) i && leads_to (effect s e).config m p) ∙ sym (λ i. unasked s p no i && leads_to s.config m p))
    (λ (busy : is_idle (exchange s p).phase ≡ false).
    let to : target (effect s e).config p ≡ target s.config p = busy_ports_stay s e w traffic l p busy in
    let taken : is_taken (effect s e) p ≡ is_taken s p =
    same_taken s (effect s e) p to (λ n. ap (λ o. is_of p o) (services_next s e w l n ∙ change_service s n e change)) in
    λ i. (phase i && not (taken i)) && option_map_or (λ (t : Target). t.node == m) (to i) false)
    (cases_Bool (is_idle (exchange s p).phase))

-- gates keep their owners and requirements
same_places : (s : State) (e : Event) → ports_next s.config e ≡ length s.config.gates → ((p : ℕ) (waiting : List (List (Option ℕ))) → read waiting (gate_next s.config p e) ≡ read waiting (gate s.config p)) → Legal s e
    → (waiting : List (List (Option ℕ))) (p : ℕ) → option_and_then (read waiting) (slice_get (effect s e).config.gates p) ≡ option_and_then (read waiting) (slice_get s.config.gates p)
same_places s e ports alike l waiting p =
    let d = reconfigured s e l in
    kept_is waiting (effect s e).config p
    ∙ (λ i. cond (nat_lt p ((d.ports ∙ ports) i)) ((ap (read waiting) (d.gates p) ∙ alike p waiting) i) None)
    ∙ sym (kept_is waiting s.config p)

read_closed : (waiting : List (List (Option ℕ))) (b c : Bool) (g : Gate) → read waiting (cond b (record g { closed = c }) g) ≡ read waiting g
read_closed waiting true c g = refl
read_closed waiting false c g = refl

read_target : (waiting : List (List (Option ℕ))) (b : Bool) (t : Option Target) (g : Gate) → read waiting (cond b (record g { target = t }) g) ≡ read waiting g
read_target waiting true t g = refl
read_target waiting false t g = refl

-- a change's event by which no node is made
quiet_change : (w : World) (e : Event) → Hinted w → IsWellFormed w.machine → IsConsistent w.machine → Legal w.machine e → is_of_change e ≡ true
    → with_event w e ≡ record w { machine = effect w.machine e; events = w.events ++ e ∷ [] } → nodes_next w.machine.config e ≡ length w.machine.config.slots
    → ((n : ℕ) (k : Slot) → slot_next w.machine.config n e ≡ Some k → (j : Slot) × (slot w.machine.config n ≡ Some j) × (j.node ≡ k.node))
    → ports_next w.machine.config e ≡ length w.machine.config.gates
    → ((p : ℕ) (waiting : List (List (Option ℕ))) → read waiting (gate_next w.machine.config p e) ≡ read waiting (gate w.machine.config p)) → Hinted (with_event w e)
quiet_change w e h well traffic l change is nodes slots ports gates =
    let d = reconfigured w.machine e l in
    let count : length (effect w.machine e).config.slots ≡ length w.machine.config.slots = d.nodes ∙ nodes in
    subst Hinted (sym is)
    (record {
      fits = record {
        boxes = h.fits.boxes ∙ sym count;
        rows = h.fits.rows ∙ sym count;
        row_of = λ n k there.
            let old = slots n k (sym (d.slots n) ∙ there) in
            h.fits.row_of n old.0 old.1 ∙ ap (λ (x : Node). length (row x.kind).requires_) old.2;
      };
      hints = λ m p.
          ap (λ o. count_of p (inbox w m) + cond (is_at m o) 1 0) (same_places w.machine e ports gates l w.waiting p)
          ∙ h.hints m p ∙ ap {B = ℕ} (λ b. cond b 1 0) (sym (waiting_stays w.machine e well traffic l change m p));
    })

same_slot : (c : Configuration) (n : ℕ) (k : Slot) → slot c n ≡ Some k → (j : Slot) × (slot c n ≡ Some j) × (j.node ≡ k.node)
same_slot c n k there = (k, there, refl)

removed_slot : (c : Configuration) (n : ℕ) (b : Bool) (k : Slot) → cond b (option_map (λ (x : Slot). record x { live = false }) (slot c n)) (slot c n) ≡ Some k → (j : Slot) × (slot c n ≡ Some j) × (j.node ≡ k.node)
removed_slot c n false k h = (k, h, refl)
removed_slot c n true k h = by (slot c n) refl h
  where
    by : (o : Option Slot) → slot c n ≡ o → option_map (λ (x : Slot). record x { live = false }) o ≡ Some k → (j : Slot) × (slot c n ≡ Some j) × (j.node ≡ k.node)
    by None e g = absurd (none-some k g)
    by (Some x) e g = (x, e, ap (λ (y : Slot). y.node) (same_Some (record x { live = false }) k g))

-- a node is made: its inbox is empty, and no hint of it waits
module _ (w : World) (n : ℕ) (node : Node) (from : Option ℕ) (h : Hinted w) (well : IsWellFormed w.machine) (traffic : IsConsistent w.machine) (l : Legal w.machine (Make n node from)) where
  abbrev c : Configuration
  c = w.machine.config

  abbrev e : Event
  e = Make n node from

  abbrev v : World
  v = with_event w e

  made : Reconfigures c e (effect w.machine e).config
  made = reconfigured w.machine e l

  new_row : (k : ℕ) (row_ : List (Option ℕ)) → slice_index_or (w.waiting ++ row_ ∷ []) k [] ≡ cond (k == length w.waiting) row_ (slice_index_or w.waiting k [])
  new_row k row_ = ⊎_elim
      (λ (same : k ≡ length w.waiting). rw (eq-eqb k (length w.waiting) same) (ap (λ i. slice_index_or (w.waiting ++ row_ ∷ []) i []) same ∙ get_or-append_seam w.waiting row_ [] []))
      (λ (other : k ≡ length w.waiting → ⊥). rw (ne_eqb k (length w.waiting) other) (⊎_elim
      (λ (low : k < length w.waiting). get_or_append_left w.waiting (row_ ∷ []) [] k low)
      (λ (past : length w.waiting ≤ k). get_or_past (w.waiting ++ row_ ∷ []) k [] (let long = length-append w.waiting (row_ ∷ []) in omega (arith, long, past, apart k (length w.waiting) other past)) ∙ sym (get_or_past w.waiting k [] past))
      (cases_lt k (length w.waiting))))
      (cases_eq k (length w.waiting))
    where
      apart : (i j : ℕ) → (i ≡ j → ⊥) → j ≤ i → j < i
      apart i j ne g = ⊎_elim (λ (low : j < i). low) (λ (high : i ≤ j). absurd (ne (omega (arith, g, high)))) (cases_lt j i)

  nothing_new : (k j : ℕ) → ◌≡◌ {A = Option ℕ} (slice_index_or (replicate k None) j None) None
  nothing_new k j = fresh_behind [] None k j

  same_box : (m : ℕ) → inbox v m ≡ inbox w m
  same_box m = fresh_behind w.inboxes [] 1 m

  -- the waiting hints of all ports
  kept_made : (p : ℕ) → kept_back v p ≡ kept_back w p
  kept_made p =
      kept_is v.waiting v.machine.config p
      ∙ ⊎_elim
      (λ (low : p < length c.gates).
      let old : gate v.machine.config p ≡ gate c p = made.gates p ∙ ap (λ b. cond b (record { owner = length c.slots; require = p - length c.gates; closed = true; target = None }) (gate c p)) (before p low) in
      let o = well.sound.ports p low in
      let there : owner c p < length w.waiting = (let rows = h.fits.rows in let below = slice_get_within c.slots (owner c p) o.node o.made in omega (arith, rows, below)) in
      rw (lt-ltb p (length v.machine.config.gates) (let ports = made.ports in omega (arith, ports, low)))
      (ap (read v.waiting) old ∙ ap (λ ys. slice_index_or ys (gate c p).require None) (get_or_append_left w.waiting (replicate (length (row node.kind).requires_) None ∷ []) [] (owner c p) there)
      ∙ sym (kept_is w.waiting c p ∙ rw (lt-ltb p (length c.gates) low) refl)))
      (λ (past : length c.gates ≤ p). new_port p past (cases_Bool (nat_lt p (length v.machine.config.gates))) ∙ sym (ap (option_and_then (read w.waiting)) (slice_get_past c.gates p past)))
      (cases_lt p (length c.gates))
    where
      before : (p : ℕ) → p < length c.gates → (nat_le (length c.gates) p && nat_lt p (length c.gates + length (row node.kind).requires_)) ≡ false
      before p low = false_from_ne_true (nat_le (length c.gates) p && nat_lt p (length c.gates + length (row node.kind).requires_))
          (λ b. let high = leb-true (length c.gates) p (and_parts (nat_le (length c.gates) p) (nat_lt p (length c.gates + length (row node.kind).requires_)) b).0 in absurd (omega (arith, low, high)))

      new_port : (p : ℕ) → length c.gates ≤ p → (nat_lt p (length v.machine.config.gates) ≡ true) ⊎ (nat_lt p (length v.machine.config.gates) ≡ false)
          → cond (nat_lt p (length v.machine.config.gates)) (read v.waiting (gate v.machine.config p)) None ≡ None
      new_port p past g = ⊎_elim
          (λ (yes_ : nat_lt p (length v.machine.config.gates) ≡ true).
          let high = ltb-true p (length v.machine.config.gates) yes_ in
          let ports = made.ports in
          let new : gate v.machine.config p ≡ record { owner = length c.slots; require = p - length c.gates; closed = true; target = None } =
          made.gates p ∙ (λ i. cond (le-leb (length c.gates) p past i && lt-ltb p (length c.gates + length (row node.kind).requires_) (omega (arith, high, ports)) i) (record { owner = length c.slots; require = p - length c.gates; closed = true; target = None }) (gate c p)) in
          let last : slice_index_or v.waiting (length c.slots) [] ≡ replicate (length (row node.kind).requires_) None =
          ap (λ k. slice_index_or v.waiting k []) (sym h.fits.rows) ∙ get_or-append_seam w.waiting (replicate (length (row node.kind).requires_) None) [] [] in
          rw yes_ (ap (read v.waiting) new ∙ ap (λ ys. slice_index_or ys (p - length c.gates) None) last ∙ nothing_new (length (row node.kind).requires_) (p - length c.gates)))
          (λ (no_ : nat_lt p (length v.machine.config.gates) ≡ false). rw no_ refl)
          g

  row_made : (k : ℕ) (j : Slot) → slot v.machine.config k ≡ Some j → length (waiting_of v k) ≡ length (row j.node.kind).requires_
  row_made k j there =
      ap (λ (ys : List (Option ℕ)). length ys) (new_row k (replicate (length (row node.kind).requires_) None)) ∙ by (k == length c.slots) refl (sym (made.slots k) ∙ there)
    where
      by : (b : Bool) → (k == length c.slots) ≡ b → cond b (Some (record { node = node; first_port = length c.gates; from = from; live = true })) (slot c k) ≡ Some j
          → length (cond (k == length w.waiting) (replicate (length (row node.kind).requires_) None) (slice_index_or w.waiting k [])) ≡ length (row j.node.kind).requires_
      by true is g =
          ap (λ b. length (cond b (replicate (length (row node.kind).requires_) None) (slice_index_or w.waiting k []))) (ap (λ i. k == i) h.fits.rows ∙ is)
          ∙ length-replicate (length (row node.kind).requires_) None
          ∙ ap (λ (x : Slot). length (row x.node.kind).requires_) (same_Some (record { node = node; first_port = length c.gates; from = from; live = true }) j g)
      by false is g =
          ap (λ b. length (cond b (replicate (length (row node.kind).requires_) None) (slice_index_or w.waiting k []))) (ap (λ i. k == i) h.fits.rows ∙ is) ∙ h.fits.row_of k j g

  make_hinted : Hinted v
  make_hinted =
      let nodes = made.nodes in
      let boxes = h.fits.boxes in
      let rows = h.fits.rows in
      record {
        fits = record {
          boxes = (let long = length-append w.inboxes ([] ∷ []) in omega (arith, long, nodes, boxes));
          rows = (let long = length-append w.waiting (replicate (length (row node.kind).requires_) None ∷ []) in omega (arith, long, nodes, rows));
          row_of = row_made;
        };
        hints = λ m p.
            (λ i. count_of p (same_box m i) + cond (is_at m (kept_made p i)) 1 0)
            ∙ h.hints m p ∙ ap {B = ℕ} (λ b. cond b 1 0) (sym (waiting_stays w.machine e well traffic l refl m p));
      }

change_hinted : (w : World) (e : Event) → Hinted w → IsWellFormed w.machine → IsConsistent w.machine → Legal w.machine e → is_of_change e ≡ true → Hinted (with_event w e)
change_hinted w (Make n node from) h well traffic l change = make_hinted w n node from h well traffic l
change_hinted w (Close p) h well traffic l change =
    quiet_change w (Close p) h well traffic l refl refl refl (λ n k there. same_slot w.machine.config n k there) refl (λ q waiting. read_closed waiting (p == q) true (gate w.machine.config q))
change_hinted w (Reopen p) h well traffic l change =
    quiet_change w (Reopen p) h well traffic l refl refl refl (λ n k there. same_slot w.machine.config n k there) refl (λ q waiting. read_closed waiting (p == q) false (gate w.machine.config q))
change_hinted w (Link p m x) h well traffic l change =
    quiet_change w (Link p m x) h well traffic l refl refl refl (λ n k there. same_slot w.machine.config n k there) refl
    (λ q waiting. read_target waiting (p == q) (Some (record { node = m; provide = x })) (gate w.machine.config q))
change_hinted w (Unlink p) h well traffic l change =
    quiet_change w (Unlink p) h well traffic l refl refl refl (λ n k there. same_slot w.machine.config n k there) refl (λ q waiting. read_target waiting (p == q) None (gate w.machine.config q))
change_hinted w (Remove m) h well traffic l change =
    quiet_change w (Remove m) h well traffic l refl refl refl (λ n k there. removed_slot w.machine.config n (n == m) k there) refl (λ q waiting. refl)
change_hinted w _ h well traffic l change = absurd (both_ways false refl change)

-- ---- every world that is reached

pub hinted_where_reached : (w : World) → IsReached w → Hinted w
hinted_where_reached _ IsReached.at_start = record {
  fits = record { boxes = refl; rows = refl; row_of = λ n k there. absurd (none-some k there) };
  hints = λ m p. refl;
}
hinted_where_reached _ (IsReached.by_change w e r change may) =
    change_hinted w e (hinted_where_reached w r) (well_where_reached w r) (traffic_where_reached w r) (legal w.machine e may) change
hinted_where_reached _ (IsReached.by_turn w n allowed r live) = turn_hinted w n allowed r live (hinted_where_reached w r)
