-- What becomes of hints where a node posts one, and where it takes one from its inbox.
use Rattle.std.proofs.Common.{◌≡◌, ◌∙◌, ℕ, ◌+◌, ◌-◌, ◌<◌, Bool, true, false, cond, List, [], ◌∷◌, ◌++◌, length, set, Option, Some, None, refl, sym, ap, subst, ⊎_elim, arith, get_or-set_same, get_or-set_other}
use Rattle.std.specs.Prelude.{◌==◌, ◌&&◌, option_and_then, slice_get, slice_index_or}
use Rattle.std.specs.List.{count_by}
use Rattle.std.specs.Option.{option_map_or}
use Rattle.std.proofs.lemmas.Bool.{and_right, cases_eq, eq-eqb, ne_eqb}
use Rattle.std.proofs.lemmas.List.Sums.{sum_by-cons}
use Rattle.std.proofs.lemmas.Option.{get_or_from_slice_get, none-some, slice_get_within}
use Rattle.base.proofs.MapLaws.{count_by-append}
use Rattle.base.proofs.OptionLaws.{map_or_at}
use Rattle.base.proofs.PlaceLaws.{one_at}
use Rattle.quiesce_core.specs.State.{State, fresh_gate, gate, owner, slot}
use Rattle.quiesce_core.specs.WellFormed.{IsSound}
use Rattle.quiesce_core.specs.declared.state.Gate.{Gate}
use Rattle.quiesce_core.specs.declared.state.Slot.{Slot}
use Rattle.node_turn_laws.specs.Turn.{is_full, post, with_hint, with_waiting}
use Rattle.node_turn_laws.specs.World.{World, first_port, inbox, waiting_of}
use Rattle.node_turn_laws.specs.Requests.{hints_for, kept_back}

-- how often a hint lies in an inbox
abbrev pub count_of : ℕ → List ℕ → ℕ
count_of p box = count_by (λ q. q == p) box

pub count_front : (p q : ℕ) (box : List ℕ) → count_of p (q ∷ box) ≡ cond (q == p) 1 0 + count_of p box
count_front p q box = sum_by-cons (λ y. cond (y == p) 1 0) q box

count_back : (p q : ℕ) (box : List ℕ) → count_of p (box ++ q ∷ []) ≡ count_of p box + cond (q == p) 1 0
count_back p q box = count_by-append (λ y. y == p) box (q ∷ []) ∙ (let one = count_front p q [] in omega (arith, one))

-- whether it is this node's
abbrev pub is_at : ℕ → Option ℕ → Bool
is_at m o = option_map_or (λ k. k == m) o false

-- ---- ports by their owners and requirements

module _ (s : State) (sound : IsSound s.config) where
  pub port_is : (p : ℕ) (g : Gate) → slice_get s.config.gates p ≡ Some g → first_port s g.owner + g.require ≡ p
  port_is p g e =
      let here : gate s.config p ≡ g = get_or_from_slice_get s.config.gates p g fresh_gate e in
      let o = sound.ports p (slice_get_within s.config.gates p g e) in
      let in_row = sound.rows (owner s.config p) o.node o.made in
      let from = o.from in
      let below = o.below in
      let there : o.node.first_port + (p - o.node.first_port) ≡ p = omega (arith, from) in
      let required : (gate s.config p).require ≡ p - o.node.first_port =
      subst (λ i. (gate s.config i).require ≡ p - o.node.first_port) there (in_row.in_order (p - o.node.first_port) (omega (arith, from, below))) in
      let is : g.require ≡ p - o.node.first_port = ap (λ (x : Gate). x.require) (sym here) ∙ required in
      let first : first_port s g.owner ≡ o.node.first_port =
      ap (λ k. first_port s k) (ap (λ (x : Gate). x.owner) (sym here)) ∙ map_or_at (λ (k : Slot). k.first_port) (slot s.config (owner s.config p)) 0 o.node o.made in
      omega (arith, is, first, from)

-- requirement r of node n is port p, and has a place among the hints that wait
pub record IsPlace (w : World) (n r p : ℕ) : Type 0 where
  pub gate_of : Gate
  pub there : slice_get w.machine.config.gates p ≡ Some gate_of
  pub owned : gate_of.owner ≡ n
  pub required : gate_of.require ≡ r
  pub port : first_port w.machine n + r ≡ p
  pub has_row : n < length w.waiting
  pub in_row : r < length (waiting_of w n)

-- ---- one place of the waiting hints

abbrev pub read : List (List (Option ℕ)) → Gate → Option ℕ
read waiting g = slice_index_or (slice_index_or waiting g.owner []) g.require None

read_here : (waiting : List (List (Option ℕ))) (n r : ℕ) (o : Option ℕ) (g : Gate) → n < length waiting → r < length (slice_index_or waiting n []) → g.owner ≡ n → g.require ≡ r
    → read (set waiting n (set (slice_index_or waiting n []) r o)) g ≡ o
read_here waiting n r o g low in_row own req =
    let xs = set (slice_index_or waiting n []) r o in
    ap (λ k. slice_index_or (slice_index_or (set waiting n xs) k []) g.require None) own
    ∙ ap (λ ys. slice_index_or ys g.require None) (get_or-set_same waiting n xs [] low)
    ∙ ap (λ k. slice_index_or xs k None) req ∙ get_or-set_same (slice_index_or waiting n []) r o None in_row

read_there : (waiting : List (List (Option ℕ))) (n r : ℕ) (o : Option ℕ) (g : Gate) → n < length waiting → (g.owner ≡ n → g.require ≡ r → ⊥)
    → read (set waiting n (set (slice_index_or waiting n []) r o)) g ≡ read waiting g
read_there waiting n r o g low other =
    let row_ = slice_index_or waiting n [] in
    let xs = set row_ r o in
    ⊎_elim
    (λ (own : g.owner ≡ n).
    ap (λ k. slice_index_or (slice_index_or (set waiting n xs) k []) g.require None) own
    ∙ ap (λ ys. slice_index_or ys g.require None) (get_or-set_same waiting n xs [] low)
    ∙ get_or-set_other row_ r g.require o None (other own)
    ∙ ap (λ k. slice_index_or (slice_index_or waiting k []) g.require None) (sym own))
    (λ (ne : g.owner ≡ n → ⊥). ap (λ ys. slice_index_or ys g.require None) (get_or-set_other waiting n g.owner xs [] ne))
    (cases_eq g.owner n)

module _ (w : World) (sound : IsSound w.machine.config) (n r p0 : ℕ) (at : IsPlace w n r p0) where
  kept_at : (o : Option ℕ) (p : ℕ) (x : Option Gate) → slice_get w.machine.config.gates p ≡ x
      → option_and_then (read (set w.waiting n (set (waiting_of w n) r o))) x ≡ cond (p == p0) o (option_and_then (read w.waiting) x)
  kept_at o p None e = ⊎_elim
      (λ (same : p ≡ p0). absurd (none-some at.gate_of (sym e ∙ ap (slice_get w.machine.config.gates) same ∙ at.there)))
      (λ (other : p ≡ p0 → ⊥). rw (ne_eqb p p0 other) refl)
      (cases_eq p p0)
  kept_at o p (Some g) e = ⊎_elim
      (λ (same : p ≡ p0). rw (eq-eqb p p0 same)
      (let is : at.gate_of ≡ g = one_at w.machine.config.gates p0 at.gate_of g at.there (ap (slice_get w.machine.config.gates) (sym same) ∙ e) in
      read_here w.waiting n r o g at.has_row at.in_row (ap (λ (x : Gate). x.owner) (sym is) ∙ at.owned) (ap (λ (x : Gate). x.require) (sym is) ∙ at.required)))
      (λ (other : p ≡ p0 → ⊥). rw (ne_eqb p p0 other)
      (read_there w.waiting n r o g at.has_row (λ own req.
      other (sym (port_is w.machine sound p g e) ∙ ap (λ k. first_port w.machine k + g.require) own ∙ ap (λ k. first_port w.machine n + k) req ∙ at.port))))
      (cases_eq p p0)

  -- the hint waits for this node, or for none
  kept_with : (o : Option ℕ) (p : ℕ) → kept_back (with_waiting w n r o) p ≡ cond (p == p0) o (kept_back w p)
  kept_with o p = kept_at o p (slice_get w.machine.config.gates p) refl

  module _ (m : ℕ) (m_made : m < length w.inboxes) where
    -- it is put behind the others
    pushed : (k p q : ℕ) → q ≡ p0 → count_of p (inbox (with_hint (with_waiting w n r None) m q) k) ≡ count_of p (inbox w k) + cond (m == k && p0 == p) 1 0
    pushed k p q is = ⊎_elim
        (λ (same : m ≡ k). rw (eq-eqb m k same)
        (ap (λ j. count_of p (slice_index_or (set w.inboxes m (inbox w m ++ q ∷ [])) j [])) (sym same)
        ∙ ap (count_of p) (get_or-set_same w.inboxes m (inbox w m ++ q ∷ []) [] m_made)
        ∙ count_back p q (inbox w m)
        ∙ ap (λ j. count_of p (inbox w m) + cond (j == p) 1 0) is
        ∙ ap (λ j. count_of p (inbox w j) + cond (p0 == p) 1 0) same))
        (λ (other : m ≡ k → ⊥). rw (ne_eqb m k other)
        (ap (count_of p) (get_or-set_other w.inboxes m k (inbox w m ++ q ∷ []) [] (λ e. other (sym e)))
        ∙ omega arith))
        (cases_eq m k)

    full_hints : (k p : ℕ) → hints_for (with_waiting w n r (Some m)) k p ≡ cond (p == p0) (count_of p0 (inbox w k) + cond (m == k) 1 0) (hints_for w k p)
    full_hints k p =
        ap (λ o. count_of p (inbox w k) + cond (is_at k o) 1 0) (kept_with (Some m) p)
        ∙ ⊎_elim
        (λ (same : p ≡ p0). rw (eq-eqb p p0 same) (ap (λ j. count_of j (inbox w k) + cond (m == k) 1 0) same))
        (λ (other : p ≡ p0 → ⊥). rw (ne_eqb p p0 other) refl)
        (cases_eq p p0)

    put_hints : (k p q : ℕ) → q ≡ p0 → hints_for (with_hint (with_waiting w n r None) m q) k p ≡ cond (p == p0) (count_of p0 (inbox w k) + cond (m == k) 1 0) (hints_for w k p)
    put_hints k p q is =
        (λ i. pushed k p q is i + cond (is_at k (kept_with None p i)) 1 0)
        ∙ ⊎_elim
        (λ (same : p ≡ p0). rw (eq-eqb p p0 same)
        (let both : (m == k && p0 == p) ≡ (m == k) = here (m == k) (p0 == p) (eq-eqb p0 p (sym same)) in
        let count : count_of p (inbox w k) ≡ count_of p0 (inbox w k) = ap (λ j. count_of j (inbox w k)) same in
        let one : ◌≡◌ {A = ℕ} (cond (m == k && p0 == p) 1 0) (cond (m == k) 1 0) = ap {B = ℕ} (λ b. cond b 1 0) both in
        omega (arith, count, one)))
        (λ (other : p ≡ p0 → ⊥). rw (ne_eqb p p0 other)
        (let none_ : (m == k && p0 == p) ≡ false = and_right (m == k) (p0 == p) (ne_eqb p0 p (λ e. other (sym e))) in
        let zero_ : ◌≡◌ {A = ℕ} (cond (m == k && p0 == p) 1 0) 0 = ap {B = ℕ} (λ b. cond b 1 0) none_ in
        omega (arith, zero_)))
        (cases_eq p p0)
      where
        here : (a b : Bool) → b ≡ true → (a && b) ≡ a
        here true b e = e
        here false b e = refl

    -- the hint of port p0 is there for node m then, and those of other ports as before
    pub posted : (k p : ℕ) → hints_for (post w n r m) k p ≡ cond (p == p0) (count_of p0 (inbox w k) + cond (m == k) 1 0) (hints_for w k p)
    posted k p = by (is_full (inbox w m))
      where
        by : (b : Bool) → hints_for (cond b (with_waiting w n r (Some m)) (with_hint (with_waiting w n r None) m (first_port w.machine n + r))) k p
            ≡ cond (p == p0) (count_of p0 (inbox w k) + cond (m == k) 1 0) (hints_for w k p)
        by true = full_hints k p
        by false = put_hints k p (first_port w.machine n + r) at.port
