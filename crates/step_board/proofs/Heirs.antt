-- That a node whose state another took over isn't kept as a node: a line has one end.
use Rattle.std.proofs.Common.{◌≡◌, ◌∙◌, ℕ, ◌<◌, ◌≤◌, List, [], ◌∷◌, ◌++◌, length, Some, None, refl, ap, sym, subst, ⊎_elim, arith}
use Rattle.std.specs.Prelude.{slice_get}
use Rattle.std.specs.Option.{option_map_or}
use Rattle.std.proofs.lemmas.Option.{none-some, same_Some, slice_get_within}
use Rattle.base.proofs.PlaceLaws.{slice_get-snoc, slice_get-there}
use Rattle.quiesce_core.specs.Runs.{state_after}
use Rattle.quiesce_core.specs.State.{State, slot}
use Rattle.quiesce_core.specs.declared.event.Event.{Event}
use Rattle.quiesce_core.specs.declared.state.Slot.{Slot}
use Rattle.step_board.specs.Entries.{SlotEntry, Predecessor, NodeSeen, gone, here}
use Rattle.step_board.specs.Holding.{HoldsIn}
use Rattle.step_board.specs.Lines.{IsPast, behind, first_of_line, predecessor}

-- the slot of the first of a node's line
abbrev root : ℕ → List Predecessor → ℕ
root n ms = option_map_or (λ (m : Predecessor). m.slot) (slice_get ms 0) n

root_before : (es : List Event) (n k : ℕ) (old : Slot) (ms : List Predecessor) → root n (ms ++ predecessor es k old ∷ []) ≡ root k ms
root_before es n k old [] = refl
root_before es n k old (x ∷ ms) = refl

-- the line of the node whose state was taken over
record Before (es : List Event) (n k : ℕ) (ms : List Predecessor) : Type 0 where
  old : Slot
  rest : List Predecessor
  past : IsPast es k rest
  low : k < n
  all : ms ≡ rest ++ predecessor es k old ∷ []

before : (es : List Event) (n k : ℕ) (m : Slot) (ms : List Predecessor) → slot (state_after es).config n ≡ Some m → m.from ≡ Some k → IsPast es n ms → Before es n k ms
before es _ k m _ at from (first_of_line n s is none_) = absurd (none-some k (sym none_ ∙ ap (λ (x : Slot). x.from) (same_Some s m (sym is ∙ at)) ∙ from))
before es _ k m _ at from (behind n j s old ms is taken low was rest) =
    let same : j ≡ k = same_Some j k (sym taken ∙ ap (λ (x : Slot). x.from) (same_Some s m (sym is ∙ at)) ∙ from) in
    subst (λ i. Before es n i (ms ++ predecessor es j old ∷ [])) same (record { old = old; rest = ms; past = rest; low = low; all = refl })

nothing_before : (es : List Event) (n : ℕ) (m : Slot) (ms : List Predecessor) → slot (state_after es).config n ≡ Some m → m.from ≡ None → IsPast es n ms → ms ≡ []
nothing_before es _ m _ at from (first_of_line n s is none_) = refl
nothing_before es _ m _ at from (behind n j s old ms is taken low was rest) = absurd (none-some j (sym from ∙ ap (λ (x : Slot). x.from) (same_Some m s (sym at ∙ is)) ∙ taken))

root_once : (es : List Event) (n : ℕ) (ms ns : List Predecessor) → IsPast es n ms → IsPast es n ns → root n ms ≡ root n ns
root_once es _ _ ns (first_of_line n m at from) other = ap (root n) (sym (nothing_before es n m ns at from other))
root_once es _ _ ns (behind n k m old ms at from low was rest) other =
    let b = before es n k m ns at from other in
    root_before es n k old ms ∙ root_once es k ms b.rest rest b.past ∙ sym (ap (root n) b.all ∙ root_before es n k b.old b.rest)

-- a predecessor of a line has a line of its own, from the same first on
past_of_member : (es : List Event) (n : ℕ) (ms : List Predecessor) → IsPast es n ms → (i : ℕ) (x : Predecessor) → slice_get ms i ≡ Some x
    → (ns : List Predecessor) × IsPast es x.slot ns × (root x.slot ns ≡ root n ms) × (x.slot < n)
past_of_member es _ _ (first_of_line n m at from) i x is = absurd (none-some x is)
past_of_member es _ _ (behind n k m old ms at from low was rest) i x is = ⊎_elim
    (λ (earlier : (i < length ms) × (slice_get ms i ≡ Some x)).
    let p = past_of_member es k ms rest i x earlier.1 in
    let lower = p.3 in
    (p.0, p.1, p.2 ∙ sym (root_before es n k old ms), omega (arith, lower, low)))
    (λ (last : (i ≡ length ms) × (predecessor es k old ≡ x)).
    subst (λ (y : Predecessor). (ns : List Predecessor) × IsPast es y.slot ns × (root y.slot ns ≡ root n (ms ++ predecessor es k old ∷ [])) × (y.slot < n)) last.1
    (ms, rest, sym (root_before es n k old ms), low))
    (slice_get-snoc ms (predecessor es k old) x i is)

module _ (s : State) (nodes : List SlotEntry) (ends : List ℕ) (es : List Event) (h : HoldsIn s nodes ends es) (k : ℕ) (y : NodeSeen) (kept : slice_get nodes k ≡ Some (here y)) where
  end_at : (n : ℕ) (x : NodeSeen) → slice_get nodes n ≡ Some (here x) → slice_get ends (root n x.past) ≡ Some n
  end_at n x at = subst (λ i. slice_get ends (root i x.past) ≡ Some n) (h.nodes_here n x at).place (h.line_ends n x at)

  -- a line that goes on from this node ends at it and behind it
  not_behind : (n : ℕ) (m : Slot) (e : ℕ) (ms : List Predecessor) → slot (state_after es).config n ≡ Some m → m.from ≡ Some k → IsPast es n ms → n ≤ e → slice_get ends (root n ms) ≡ Some e → ⊥
  not_behind n m e ms at from past below ending =
      let b = before es n k m ms at from past in
      let same : root n ms ≡ root k y.past = ap (root n) b.all ∙ root_before es n k b.old b.rest ∙ root_once es k b.rest y.past b.past (h.nodes_here k y kept).past in
      let one : k ≡ e = same_Some k e (sym (end_at k y kept) ∙ ap (slice_get ends) (sym same) ∙ ending) in
      let lower = b.low in
      omega (arith, lower, below, one)

  pub not_taken : (n : ℕ) (m : Slot) → slot s.config n ≡ Some m → m.from ≡ Some k → ⊥
  not_taken n m at from = by entry.0 entry.1
    where
      there : slot (state_after es).config n ≡ Some m
      there = ap (λ (u : State). slot u.config n) (sym h.state) ∙ at

      entry : (x : SlotEntry) × (slice_get nodes n ≡ Some x)
      entry = slice_get-there nodes n (subst (λ i. n < i) (sym h.made) (slice_get_within (state_after es).config.slots n m there))

      by : (x : SlotEntry) → slice_get nodes n ≡ Some x → ⊥
      by (here x) is = not_behind n m n x.past there from (h.nodes_here n x is).past (omega arith) (end_at n x is)
      by (gone z) is =
          let g = h.nodes_gone n z is in
          let p = past_of_member es g.at g.last.past (h.nodes_here g.at g.last g.last_is).past z.place g.old g.old_is in
          let lower = p.3 in
          let place = g.slot_is in
          not_behind n m g.at p.0 there from (subst (λ i. IsPast es i p.0) place p.1) (omega (arith, lower, place))
          (subst (λ r. slice_get ends r ≡ Some g.at) (sym (ap (λ i. root i p.0) (sym place) ∙ p.2)) (end_at g.at g.last g.last_is))
