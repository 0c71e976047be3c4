-- Where a round moves nothing, no node has a reply, none goes on with a service, and none that services nothing has a hint.
use Rattle.std.proofs.Common.{◌≡◌, ◌∙◌, ℕ, ◌+◌, ◌<◌, ◌≤◌, Bool, true, false, cond, List, [], ◌∷◌, ◌++◌, length, set, Option, Some, None, refl, sym, ap, subst, ⊎_elim, arith, get_or-set_same, get_or-set_other, length-append}
use Rattle.std.specs.Prelude.{◌&&◌, ◌||◌, fold, is_none, is_some, slice_index_or}
use Rattle.std.specs.List.{Contains, enumerate_from}
use Rattle.std.specs.Option.{option_map_or}
use Rattle.std.proofs.lemmas.Bool.{both_ways, cases_eq, cases_lt}
use Rattle.std.proofs.lemmas.List.{get_or_past, nil_from_length}
use Rattle.std.proofs.lemmas.Option.{none-some}
use Rattle.base.proofs.ContainsLaws.{Contains-cons_cases, Contains-here, Contains-nil, Contains-there}
use Rattle.component_trait.specs.States.{NodeState}
use Rattle.quiesce_core.specs.State.{State, exchange, is_live, service}
use Rattle.quiesce_core.specs.declared.event.Event.{Event}
use Rattle.quiesce_core.specs.declared.event.Event.TheVariants.{Take}
use Rattle.quiesce_core.specs.declared.state.Slot.{Slot}
use Rattle.base.proofs.OptionLaws.{map_or_true}
use Rattle.node_turn_laws.specs.Reached.{IsReached}
use Rattle.node_turn_laws.proofs.TurnLaws.{posts_keep, turns_do}
use Rattle.node_turn_laws.specs.Hints.{after_move, without_hints}
use Rattle.node_turn_laws.specs.Round.{Round, give_turn}
use Rattle.node_turn_laws.specs.Turn.{begins, do_event, ends, is_full, looks, move_of, or_else, post, post_one, post_waiting, serves, takes, turn, turn_in, with_hint, with_waiting, without_hint}
use Rattle.node_turn_laws.specs.World.{World, first_port, inbox, state_of, waiting_of}
use Rattle.node_turn_laws.proofs.HintLaws.{Hinted, hinted_where_reached, posted_machine, waiting_are_posted, well_where_reached}
use Rattle.node_turn_laws.proofs.LookLaws.{asked_for, empty_stays, front_is_for, takes_front}

-- ---- inboxes grow by posts

abbrev pub Grows : World → World → Type 0
Grows w u = (k : ℕ) → length (inbox w k) ≤ length (inbox u k)

put_grows : (boxes : List (List ℕ)) (m p k : ℕ) → length (slice_index_or boxes k []) ≤ length (slice_index_or (set boxes m (slice_index_or boxes m [] ++ p ∷ [])) k [])
put_grows boxes m p k = ⊎_elim
    (λ (same : k ≡ m). ⊎_elim
    (λ (made : m < length boxes).
    let there = ap (λ (xs : List ℕ). length xs) (ap (λ i. slice_index_or (set boxes m (slice_index_or boxes m [] ++ p ∷ [])) i []) same ∙ get_or-set_same boxes m (slice_index_or boxes m [] ++ p ∷ []) [] made) in
    let more_ = length-append (slice_index_or boxes m []) (p ∷ []) in
    let here = ap (λ i. length (slice_index_or boxes i [])) same in
    omega (arith, there, more_, here))
    (λ (past : length boxes ≤ m).
    let none_ = ap (λ (xs : List ℕ). length xs) (get_or_past boxes k [] (let e = same in omega (arith, past, e))) in
    omega (arith, none_))
    (cases_lt m (length boxes)))
    (λ (other : k ≡ m → ⊥). let same = ap (λ (xs : List ℕ). length xs) (get_or-set_other boxes m k (slice_index_or boxes m [] ++ p ∷ []) [] other) in omega (arith, same))
    (cases_eq k m)

pub post_grows : (w : World) (n r m : ℕ) → Grows w (post w n r m)
post_grows w n r m k = by (is_full (inbox w m))
  where
    by : (b : Bool) → length (inbox w k) ≤ length (inbox (cond b (with_waiting w n r (Some m)) (with_hint (with_waiting w n r None) m (first_port w.machine n + r))) k)
    by true = omega arith
    by false = put_grows w.inboxes m (first_port w.machine n + r) k

posts_grow : (n : ℕ) (w : World) (qs : List (ℕ × Option ℕ)) → Grows w (fold (post_one n) w qs)
posts_grow n w [] k = omega arith
posts_grow n w ((r, None) ∷ qs) k = posts_grow n w qs k
posts_grow n w ((r, Some m) ∷ qs) k = let first = post_grows w n r m k in let rest = posts_grow n (post w n r m) qs k in omega (arith, first, rest)

pub waiting_grow : (w : World) (n : ℕ) → Grows w (post_waiting w n)
waiting_grow w n = posts_grow n w (enumerate_from 0 (waiting_of w n))

-- ---- a turn without an event

-- node n has nothing to do but to begin transactions
pub record IsQuiet (w : World) (n : ℕ) : Type 0 where
  pub no_reply : (t : NodeState) → state_of w n ≡ Some t → ends w.machine n t ≡ None
  pub no_service : (t : NodeState) → state_of w n ≡ Some t → serves w.machine n t ≡ None
  pub no_hint : (t : NodeState) → state_of w n ≡ Some t → service w.machine n ≡ None → inbox w n ≡ []

neither : (a b : Option Event) → or_else a b ≡ None → (a ≡ None) × (b ≡ None)
neither None b h = (refl, h)
neither (Some e) b h = absurd (none-some e (sym h))

module _ (v : World) (h : Hinted v) (n : ℕ) (allowed : Bool) (t : NodeState) (still : move_of v.machine n t (inbox v n) allowed ≡ None) where
  abbrev s : State
  s = v.machine

  parts : (ends s n t ≡ None) × (serves s n t ≡ None)
  parts =
      let taking = cond (is_none (service s n)) (takes s n (inbox v n)) None in
      let first = neither (ends s n t) (or_else (serves s n t) (or_else taking (cond allowed (begins s n t) None))) still in
      (first.0, (neither (serves s n t) (or_else taking (cond allowed (begins s n t) None)) first.1).0)

  look_finds_none : looks s n t ≡ true → inbox v n ≡ []
  look_finds_none look = by (inbox v n) refl
    where
      by : (box : List ℕ) → inbox v n ≡ box → inbox v n ≡ []
      by [] e = e
      by (q ∷ box) e =
          let taken = takes_front s n t q box allowed look (asked_for v h.hints h.fits.boxes n t allowed q (front_is_for v h.hints h.fits.boxes n t allowed q box e)) in
          absurd (none-some (Take q (exchange s q).serial (exchange s q).value) (sym still ∙ ap (λ xs. move_of s n t xs allowed) e ∙ taken))

  looks_if : service s n ≡ None → looks s n t ≡ true
  looks_if free = λ i. is_none (parts.0 i) && is_none (parts.1 i) && is_none (free i)

  pub quiet_box : service s n ≡ None → inbox v n ≡ []
  quiet_box free = look_finds_none (looks_if free)

  pub box_kept : (k : ℕ) → inbox (cond (looks s n t) (without_hint v n) v) k ≡ inbox v k
  box_kept k = by (looks s n t) refl
    where
      by : (b : Bool) → looks s n t ≡ b → inbox (cond b (without_hint v n) v) k ≡ inbox v k
      by true look = empty_stays v n (look_finds_none look) k
      by false look = refl

pub record Stayed (w u : World) : Type 0 where
  pub same : without_hints u ≡ without_hints w
  pub grows : Grows w u

pub stayed_itself : (w : World) → Stayed w w
stayed_itself w = record { same = refl; grows = λ k. omega arith }

pub stayed_then : (w u x : World) → Stayed w u → Stayed u x → Stayed w x
stayed_then w u x a b = record { same = b.same ∙ a.same; grows = λ k. let one = a.grows k in let two = b.grows k in omega (arith, one, two) }

module _ (w : World) (r : IsReached w) (n : ℕ) (live : is_live w.machine.config n ≡ true) (allowed : Bool) (still : (turn w n allowed).event ≡ None) where
  abbrev v : World
  v = post_waiting w n

  hinted : Hinted v
  hinted =
      let k = map_or_true (λ (x : Slot). x.live) (slot_at w n) live in
      waiting_are_posted w n k.0 (hinted_where_reached w r) (well_where_reached w r).sound k.1
    where
      slot_at : World → ℕ → Option Slot
      slot_at u k = Rattle.quiesce_core.specs.State.slot u.machine.config k

  posted : without_hints v ≡ without_hints w
  posted = posts_keep n w (enumerate_from 0 (waiting_of w n))

  machine : v.machine ≡ w.machine
  machine = posted_machine w n

  told : state_of v n ≡ state_of w n
  told = ap (λ (u : World). slice_index_or u.folds n None) posted

  none_moves : (t : NodeState) → state_of w n ≡ Some t → move_of v.machine n t (inbox v n) allowed ≡ None
  none_moves t is = sym (ap (λ o. (option_map_or (turn_in v n allowed) o (record { event = None; world = v })).event) (told ∙ is)) ∙ still

  no_more : (k : ℕ) → length (inbox v k) ≤ 0 → length (inbox w k) ≡ 0
  no_more k none_ = let grown = waiting_grow w n k in omega (arith, grown, none_)

  pub quiet : IsQuiet w n
  quiet = record {
    no_reply = λ t is. ap (λ s. ends s n t) (sym machine) ∙ (parts v hinted n allowed t (none_moves t is)).0;
    no_service = λ t is. ap (λ s. serves s n t) (sym machine) ∙ (parts v hinted n allowed t (none_moves t is)).1;
    no_hint = λ t is free.
        let empty = ap (λ (xs : List ℕ). length xs) (quiet_box v hinted n allowed t (none_moves t is) (ap (λ s. service s n) machine ∙ free)) in
        nil_from_length (inbox w n) (no_more n (omega (arith, empty)));
  }

  pub stayed : Stayed w (turn w n allowed).world
  stayed = record {
    same = turns_do w n allowed ∙ ap (λ e. without_hints (after_move w n e)) still;
    grows = λ k. by k (state_of v n) refl;
  }
    where
      by : (k : ℕ) (o : Option NodeState) → state_of v n ≡ o → length (inbox w k) ≤ length (inbox (option_map_or (turn_in v n allowed) o (record { event = None; world = v })).world k)
      by k None e = waiting_grow w n k
      by k (Some t) e =
          let none_ = none_moves t (sym told ∙ e) in
          let u = cond (looks v.machine n t) (without_hint v n) v in
          let kept = ap (λ (xs : List ℕ). length xs) (box_kept v hinted n allowed t none_ k) in
          let there = ap (λ o. length (inbox (option_map_or (do_event u n) o u) k)) none_ in
          let grown = waiting_grow w n k in
          omega (arith, kept, there, grown)

-- ---- a round

quiet_before : (w u : World) (n : ℕ) → Stayed w u → IsQuiet u n → IsQuiet w n
quiet_before w u n h q =
    let machine : u.machine ≡ w.machine = ap (λ (x : World). x.machine) h.same in
    let told : state_of u n ≡ state_of w n = ap (λ (x : World). slice_index_or x.folds n None) h.same in
    record {
      no_reply = λ t is. ap (λ s. ends s n t) (sym machine) ∙ q.no_reply t (told ∙ is);
      no_service = λ t is. ap (λ s. serves s n t) (sym machine) ∙ q.no_service t (told ∙ is);
      no_hint = λ t is free.
          let none_ = ap (λ (xs : List ℕ). length xs) (q.no_hint t (told ∙ is) (ap (λ s. service s n) machine ∙ free)) in
          let grown = h.grows n in nil_from_length (inbox w n) (omega (arith, none_, grown));
    }

pub moved_on : (allowed : Bool) (ns : List ℕ) (r : Round) → r.moved ≡ true → (fold (give_turn allowed) r ns).moved ≡ true
moved_on allowed [] r h = h
moved_on allowed (n ∷ ns) r h = moved_on allowed ns (give_turn allowed r n) (ap (λ b. b || is_some (turn r.world n allowed).event) h)

no_event : (b : Bool) (o : Option Event) → (b || is_some o) ≡ false → o ≡ None
no_event b None h = refl
no_event true (Some e) h = absurd (both_ways true h refl)
no_event false (Some e) h = absurd (both_ways true h refl)

pub still_turns : (allowed : Bool) (w : World) (ns : List ℕ) (r : Round) → IsReached r.world → ((n : ℕ) → Contains ns n → is_live w.machine.config n ≡ true) → Stayed w r.world
    → (fold (give_turn allowed) r ns).moved ≡ false → (n : ℕ) → Contains ns n → IsQuiet w n
still_turns allowed w [] r reached live h still n in_ = absurd (Contains-nil n in_)
still_turns allowed w (k ∷ ns) r reached live h still n in_ =
    let u = r.world in
    let here = by (r.moved || is_some (turn u k allowed).event) refl in
    let none_ = no_event r.moved (turn u k allowed).event here in
    let alive : is_live u.machine.config k ≡ true = ap (λ (x : World). is_live x.machine.config k) h.same ∙ live k (Contains-here k ns) in
    ⊎_elim
    (λ (same : n ≡ k). subst (IsQuiet w) (sym same) (quiet_before w u k h (quiet u reached k alive allowed none_)))
    (λ (later : Contains ns n).
    still_turns allowed w ns (give_turn allowed r k) (IsReached.by_turn u k allowed reached alive) (λ i at. live i (Contains-there k i ns at))
    (stayed_then w u (turn u k allowed).world h (stayed u reached k alive allowed none_)) still n later)
    (Contains-cons_cases k ns n in_)
  where
    by : (b : Bool) → (r.moved || is_some (turn r.world k allowed).event) ≡ b → (r.moved || is_some (turn r.world k allowed).event) ≡ false
    by false e = e
    by true e = absurd (both_ways (fold (give_turn allowed) (give_turn allowed r k) ns).moved still (moved_on allowed ns (give_turn allowed r k) e))
