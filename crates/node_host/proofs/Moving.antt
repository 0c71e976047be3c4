-- The rule of moves, port by port and move by move, in a state that a gate tells.
use Rattle.std.proofs.Common.{zero, suc, ◌≡◌, ◌∙◌, ℕ, ◌+◌, ◌<◌, ◌≤◌, Bool, true, false, cond, List, [], ◌∷◌, length, Option, Some, None, refl, sym, ap, subst, arith}
use Rattle.std.specs.Prelude.{not, ◌&&◌, ◌||◌, find, option_map, option_and_then, slice_index_or}
use Rattle.std.specs.List.{list_any, range_with_len}
use Rattle.std.specs.Option.{option_map_or}
use Rattle.std.proofs.lemmas.Bool.{both_ways, or_from}
use Rattle.std.proofs.lemmas.Option.{none-some, same_Some}
use Rattle.config_graph.specs.Kinds.{row}
use Rattle.config_graph.proofs.KindLaws.{two_requires}
use Rattle.component_trait.specs.Moves as moves
use Rattle.component_trait.specs.States.{NodeState}
use Rattle.quiesce_word.specs.Phases.{is_idle}
use Rattle.quiesce_core.specs.Knowledge.{IsServed, KnowsService, port_at_start}
use Rattle.quiesce_core.specs.State.{State, exchange, ports_of, service, slot}
use Rattle.quiesce_core.specs.declared.event.Event.{Event}
use Rattle.quiesce_core.specs.declared.known.Known.{Known}
use Rattle.quiesce_core.specs.declared.known.Served.{Served}
use Rattle.quiesce_core.specs.declared.state.Service.{Service}
use Rattle.quiesce_core.specs.declared.state.Slot.{Slot}
use Rattle.node_gate.specs.Core.{node_in}
use Rattle.node_gate.specs.Seats.{NodeAt}
use Rattle.port_queue.specs.Inboxes.{front}
use Rattle.node_turn_laws.specs.Turn.{awaits_call, does_next, ends, goes_on, has_reply, hears, is_call, or_else, reply_to, serves, takes}
use Rattle.node_turn_laws.specs.World.{first_port}
use Rattle.node_host.specs.Awaiting.{awaits}
use Rattle.node_host.specs.Hosted.{IsHosted, SeatSeen, node_of}
use Rattle.node_host.specs.Lines.{LineNode}
use Rattle.node_host.specs.Told.{FitsToldState, reply_at}
use Rattle.node_host.proofs.Exactly.{first_is, own_known}
use Rattle.node_host.proofs.Growing.{two_known}
use Rattle.node_host.proofs.InService.{called, two_shape, unowned}

-- ---- one after the other
pub first_one : (x y z : Option Event) (e : Event) → Some e ≡ x → z ≡ or_else x y → Some e ≡ z
first_one x y z e is whole = is ∙ by x is ∙ sym whole
  where
    by : (x : Option Event) → Some e ≡ x → x ≡ or_else x y
    by None h = absurd (none-some e (sym h))
    by (Some f) h = refl

pub later_one : (x y z r : Option Event) → None ≡ x → r ≡ y → z ≡ or_else x y → r ≡ z
later_one x y z r none_ is whole = is ∙ ap (λ a. or_else a y) none_ ∙ sym whole

-- ---- replies
found : (s : State) (t : NodeState) (p : ℕ) (ps : List ℕ) → option_map (reply_to s t) (find (has_reply s) (p ∷ ps)) ≡ or_else (reply_at s t p) (option_map (reply_to s t) (find (has_reply s) ps))
found s t p ps = by (has_reply s p)
  where
    by : (b : Bool) → option_map (reply_to s t) (cond b (Some p) (find (has_reply s) ps)) ≡ or_else (cond b (Some (reply_to s t p)) None) (option_map (reply_to s t) (find (has_reply s) ps))
    by true = refl
    by false = refl

else_none : (x : Option Event) → or_else x None ≡ x
else_none None = refl
else_none (Some e) = refl

module _ {o : Option State} {n : NodeAt} {known : Known} {s : State} (told : FitsToldState o n known s) where
  ports_are : ports_of s.config n.slot ≡ range_with_len n.first (length (row n.kind).requires_)
  ports_are = by (slot s.config n.slot) told.fits.live told.node
    where
      by : (x : Option Slot) → option_map_or (λ (m : Slot). m.live) x false ≡ true → node_in n.slot x ≡ n
          → option_map_or (λ (m : Slot). range_with_len m.first_port (length (row m.node.kind).requires_)) x [] ≡ range_with_len n.first (length (row n.kind).requires_)
      by None live same = absurd (both_ways false refl live)
      by (Some m) live same = ap (λ (x : NodeAt). range_with_len x.first (length (row x.kind).requires_)) same

  ends_in : (t : NodeState) (k : ℕ) → length (row n.kind).requires_ ≡ k → ends s n.slot t ≡ option_map (reply_to s t) (find (has_reply s) (range_with_len n.first k))
  ends_in t k is = ap (λ ps. option_map (reply_to s t) (find (has_reply s) ps)) (ports_are ∙ ap (range_with_len n.first) is)

  at_first : (t : NodeState) → reply_at s t (n.first + 0) ≡ reply_at s t n.first
  at_first t = let at : n.first + 0 ≡ n.first = omega arith in ap (reply_at s t) at

  pub ends_at_one : (t : NodeState) {r : Option Event} → length (row n.kind).requires_ ≡ 1 → r ≡ reply_at s t (n.first + 0) → r ≡ ends s n.slot t
  ends_at_one t {r = r} is h = h ∙ at_first t ∙ sym (else_none (reply_at s t n.first)) ∙ sym (found s t n.first []) ∙ sym (ends_in t 1 is)

  ends_at_two : (t : NodeState) → length (row n.kind).requires_ ≡ 2 → ends s n.slot t ≡ or_else (reply_at s t (n.first + 0)) (reply_at s t (n.first + 1))
  ends_at_two t is =
      ends_in t 2 is ∙ found s t n.first ((n.first + 1) ∷ [])
      ∙ ap (or_else (reply_at s t n.first)) (found s t (n.first + 1) [] ∙ else_none (reply_at s t (n.first + 1)))
      ∙ ap (λ x. or_else x (reply_at s t (n.first + 1))) (sym (at_first t))

  pub ends_at_left : (t : NodeState) {e : Event} → length (row n.kind).requires_ ≡ 2 → Some e ≡ reply_at s t (n.first + 0) → Some e ≡ ends s n.slot t
  ends_at_left t {e = e} is h = first_one (reply_at s t (n.first + 0)) (reply_at s t (n.first + 1)) (ends s n.slot t) e h (ends_at_two t is)

  pub ends_at_right : (t : NodeState) {r : Option Event} → length (row n.kind).requires_ ≡ 2 → None ≡ reply_at s t (n.first + 0) → r ≡ reply_at s t (n.first + 1) → r ≡ ends s n.slot t
  ends_at_right t {r = r} is none_ h = later_one (reply_at s t (n.first + 0)) (reply_at s t (n.first + 1)) (ends s n.slot t) r none_ h (ends_at_two t is)

  pub takes_front : (held : List ℕ) {p : ℕ} {r : Option Event} → Some p ≡ front held → ((later : List ℕ) → r ≡ takes s n.slot (p ∷ later)) → r ≡ takes s n.slot held
  takes_front [] {p = p} is h = absurd (none-some p (sym is))
  takes_front (q ∷ later) {p = p} is h = h later ∙ ap (λ i. takes s n.slot (i ∷ later)) (same_Some p q is)

  -- ---- services
  record ServesAs (u : Served) : Type 0 where
    held : Service
    is : service s n.slot ≡ Some held
    same : IsServed s held u

  serving_as : (u : Served) → known.service ≡ Some u → ServesAs u
  serving_as u is = by (service s n.slot) refl (subst (λ x. KnowsService s (service s n.slot) x) is told.fits.known.service)
    where
      by : (v : Option Service) → service s n.slot ≡ v → KnowsService s (service s n.slot) (Some u) → ServesAs u
      by None at h = absurd (subst (λ x. KnowsService s x (Some u)) at h)
      by (Some v) at h = record { held = v; is = at; same = subst (λ x. KnowsService s x (Some u)) at h }

  is_call_at : (r : ℕ) → r < length (row n.kind).requires_ → called (slice_index_or known.ports r port_at_start) ≡ is_call s (n.first + r)
  is_call_at r within =
      let k = own_known told r within in
      ap (λ b. not b && (slice_index_or known.ports r port_at_start).consequent) k.idle ∙ ap (λ b. not (is_idle (exchange s (n.first + r)).phase) && b) k.consequent

module _ {slot first : ℕ} {t : NodeState} {log : List Event} {line : List LineNode} {known : Known} {waiting : List (Option ℕ)} {seat : SeatSeen} (h : IsHosted slot first t log line known waiting seat)
    {o : Option State} {s : State} (tells : FitsToldState o (node_of slot first t) seat.known s) where
  told_here : FitsToldState o (node_of slot first t) known s
  told_here = subst (λ w. FitsToldState o (node_of slot first t) w s) (sym h.kept) tells

  abbrev at : ℕ → Bool
  at r = called (slice_index_or known.ports r port_at_start)

  -- whether it awaits a call is so
  pub awaits_there : awaits known ≡ awaits_call s slot
  awaits_there =
      two_shape known.ports (two_known h) ∙ by (length (row t.kind).requires_) refl
      ∙ sym (ap (list_any (is_call s)) (ports_are told_here))
    where
      zero_is : first + 0 ≡ first
      zero_is = omega arith

      own : (r : ℕ) → r < length (row t.kind).requires_ → at r ≡ is_call s (first + r)
      own r within = is_call_at told_here r within

      past : (r : ℕ) → r < 2 → length (row t.kind).requires_ ≤ r → at r ≡ false
      past r two none_ = unowned h r two none_

      by : (k : ℕ) → length (row t.kind).requires_ ≡ k → (at 0 || (at 1 || false)) ≡ list_any (is_call s) (range_with_len first (length (row t.kind).requires_))
      by zero is = or_from (at 0) (at 1 || false) (past 0 (omega arith) (omega (arith, is))) (or_from (at 1) false (past 1 (omega arith) (omega (arith, is))) refl) ∙ ap (λ j. list_any (is_call s) (range_with_len first j)) (sym is)
      by (suc zero) is =
          ap (λ b. b || (at 1 || false)) (own 0 (omega (arith, is)) ∙ ap (is_call s) zero_is) ∙ ap (λ b. is_call s first || (b || false)) (past 1 (omega arith) (omega (arith, is)))
          ∙ ap (λ j. list_any (is_call s) (range_with_len first j)) (sym is)
      by (suc (suc zero)) is =
          ap (λ b. b || (at 1 || false)) (own 0 (omega (arith, is)) ∙ ap (is_call s) zero_is) ∙ ap (λ b. is_call s first || (b || false)) (own 1 (omega (arith, is)))
          ∙ ap (λ j. list_any (is_call s) (range_with_len first j)) (sym is)
      by (suc (suc (suc k))) is = absurd (omega (arith, is, two_requires t.kind))

  pub serves_not_awaiting : awaits known ≡ true → None ≡ serves s slot t
  serves_not_awaiting is = ap (λ b. cond b None (option_and_then (goes_on s slot t) (service s slot))) (sym is ∙ awaits_there)

  goes_by : awaits known ≡ false → serves s slot t ≡ option_and_then (goes_on s slot t) (service s slot)
  goes_by still = ap (λ b. cond b None (option_and_then (goes_on s slot t) (service s slot))) (sym awaits_there ∙ still)

  module _ (still : awaits known ≡ false) (u : Served) (is : known.service ≡ Some u) where
    as_served : ServesAs told_here u
    as_served = serving_as told_here u is

    goes : serves s slot t ≡ goes_on s slot t as_served.held
    goes = goes_by still ∙ ap (option_and_then (goes_on s slot t)) as_served.is

    pub serves_hearing : u.heard ≡ false → serves s slot t ≡ hears s u.port
    serves_hearing unheard =
        goes ∙ ap (λ b. cond b (option_and_then (does_next s (first_port s slot) as_served.held.port) (moves.next t)) (hears s as_served.held.port)) (sym as_served.same.heard ∙ unheard)
        ∙ ap (hears s) (sym as_served.same.port)

    pub serves_next : u.heard ≡ true → serves s slot t ≡ option_and_then (does_next s first u.port) (moves.next t)
    serves_next heard =
        goes ∙ ap (λ b. cond b (option_and_then (does_next s (first_port s slot) as_served.held.port) (moves.next t)) (hears s as_served.held.port)) (sym as_served.same.heard ∙ heard)
        ∙ ap (λ p. option_and_then (does_next s (first_port s slot) p) (moves.next t)) (sym as_served.same.port)
        ∙ ap (λ f. option_and_then (does_next s f u.port) (moves.next t)) (first_is told_here)
