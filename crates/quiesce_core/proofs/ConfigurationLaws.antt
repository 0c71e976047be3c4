-- What is read in configurations, and after an event of the change.
use Rattle.std.proofs.Common.{◌≡◌, ◌∙◌, ℕ, ◌+◌, ◌-◌, ◌<◌, ◌≤◌, ◌⊎◌, inl, inr, Bool, true, false, cond, ◌&&◌, length, set, Option, Some, None, refl, ap, sym, subst, ⊎_elim, arith}
use Rattle.std.specs.Prelude.{◌↔◌, ◌==◌, nat_lt, nat_le, option_map}
use Rattle.std.specs.Option.{option_map_or}
use Rattle.std.proofs.lemmas.Bool.{and_parts, both_ways, cases_Bool, cases_eq, cases_lt, eq-eqb, ne_eqb, leb-true}
use Rattle.std.proofs.lemmas.List.{get_or_past}
use Rattle.std.proofs.lemmas.Option.{same_Some, slice_get_within}
use Rattle.config_graph.specs.Kinds.{row}
use Rattle.config_graph.specs.declared.kind.Kind.{Kind}
use Rattle.config_graph.specs.declared.node.Node.{Node}
use Rattle.config_graph.specs.declared.node.Target.{Target}
use Rattle.quiesce_core.specs.declared.event.Event.{Event}
use Rattle.quiesce_core.specs.declared.event.Event.TheVariants.{Close, Reopen, Make, Link, Unlink, Remove}
use Rattle.quiesce_core.specs.declared.state.Slot.{Slot}
use Rattle.quiesce_core.specs.declared.state.Gate.{Gate}
use Rattle.quiesce_core.specs.State.{Configuration, fresh_gate, slot, gate, owner, target}
use Rattle.quiesce_core.specs.Alters.{Reconfigures, gate_next, slot_next}
use Rattle.quiesce_core.specs.Doers.{is_make, is_remove, relinks}
use Rattle.quiesce_core.specs.Effect.{with_removed}
use Rattle.quiesce_core.specs.Live.{IsLiveAt}
use Rattle.quiesce_core.specs.WellFormed.{IsSound}
use Rattle.base.proofs.OptionLaws.{option_map_some}

-- a linked port was made
pub linked_made : (c : Configuration) (p : ℕ) (t : Target) → target c p ≡ Some t → p < length c.gates
linked_made c p t e = ⊎_elim (λ (h : p < length c.gates). h)
    (λ (past : length c.gates ≤ p). absurd (cc (ap (λ (g : Gate). g.target) (get_or_past c.gates p fresh_gate past), e))) (cases_lt p (length c.gates))

-- a port's number is told by its owner and its requirement
pub port_is : (c : Configuration) → IsSound c → (p : ℕ) (m : Slot) → p < length c.gates → slot c (owner c p) ≡ Some m
    → (p ≡ m.first_port + (gate c p).require) × ((gate c p).require < length (row m.node.kind).requires_)
port_is c sound p m made there =
    let own = sound.ports p made in
    let one : own.node ≡ m = same_Some own.node m (sym own.made ∙ there) in
    let from : m.first_port ≤ p = subst (λ (x : Slot). x.first_port ≤ p) one own.from in
    let below : p < m.first_port + length (row m.node.kind).requires_ = subst (λ (x : Slot). p < x.first_port + length (row x.node.kind).requires_) one own.below in
    let at : m.first_port + (p - m.first_port) ≡ p = omega arith in
    let is : (gate c p).require ≡ p - m.first_port =
    ap (λ i. (gate c i).require) (sym at) ∙ (sound.rows (owner c p) m there).in_order (p - m.first_port) (omega arith) in
    (omega (arith, is, from), omega (arith, is, from, below))

-- a removed node's slot, where it is known
pub removed_is : (c : Configuration) (n : ℕ) (old : Slot) → slot c n ≡ Some old → with_removed c n ≡ record c { slots = set c.slots n (record old { live = false }) }
removed_is c n old e = ap (λ o. record c { slots = option_map_or (λ (m : Slot). set c.slots n (record m { live = false })) o c.slots }) e

-- who is live after a node is made, after one is removed, and after all else

pub live_made_then : (c d : Configuration) (k : ℕ) (node : Node) (from : Option ℕ) → Reconfigures c (Make k node from) d → (m : ℕ) (other : Node)
    → IsLiveAt d m other ↔ (IsLiveAt c m other ⊎ ((m ≡ length c.slots) × (node ≡ other)))
live_made_then c d k node from r m other = (
  λ h. ⊎_elim
      (λ (last : m ≡ length c.slots).
      let at : slot d m ≡ Some (record { node = node; first_port = length c.gates; from = from; live = true }) = r.slots m ∙ rw (eq-eqb m (length c.slots) last) refl in
      let one = same_Some _ h.made (sym at ∙ h.there) in
      inr (last, ap (λ (x : Slot). x.node) one ∙ h.is_node))
      (λ (before : m ≡ length c.slots → ⊥).
      inl (record { made = h.made; there = sym (r.slots m ∙ rw (ne_eqb m (length c.slots) before) refl) ∙ h.there; live = h.live; is_node = h.is_node }))
      (cases_eq m (length c.slots)),
  λ w. ⊎_elim
      (λ (h : IsLiveAt c m other).
      let before : m ≡ length c.slots → ⊥ = λ same. let within = slice_get_within c.slots m h.made h.there in omega (arith, within, same) in
      record { made = h.made; there = r.slots m ∙ rw (ne_eqb m (length c.slots) before) h.there; live = h.live; is_node = h.is_node })
      (λ (w : (m ≡ length c.slots) × (node ≡ other)). record {
        made = record { node = node; first_port = length c.gates; from = from; live = true };
        there = r.slots m ∙ rw (eq-eqb m (length c.slots) w.0) refl;
        live = refl;
        is_node = w.1;
      }) w,
)

pub live_removed_then : (c d : Configuration) (n : ℕ) → Reconfigures c (Remove n) d → (m : ℕ) (other : Node) → IsLiveAt d m other ↔ (IsLiveAt c m other × (m ≡ n → ⊥))
live_removed_then c d n r m other = (
  λ h.
      let other_ : m ≡ n → ⊥ = λ same.
      let at : slot d m ≡ option_map (λ (k : Slot). record k { live = false }) (slot c m) = r.slots m ∙ rw (eq-eqb m n same) refl in
      let old = option_map_some (λ (k : Slot). record k { live = false }) (slot c m) h.made (sym at ∙ h.there) in
      both_ways false refl (ap (λ (x : Slot). x.live) old.2 ∙ h.live) in
      (record { made = h.made; there = sym (r.slots m ∙ rw (ne_eqb m n other_) refl) ∙ h.there; live = h.live; is_node = h.is_node }, other_),
  λ w. record { made = w.0.made; there = r.slots m ∙ rw (ne_eqb m n w.1) w.0.there; live = w.0.live; is_node = w.0.is_node },
)

slots_kept : (c : Configuration) (e : Event) (m : ℕ) → is_make e ≡ false → is_remove e ≡ false → slot_next c m e ≡ slot c m
slots_kept c (Make n node from) m make remove = absurd (both_ways true make refl)
slots_kept c (Remove n) m make remove = absurd (both_ways true remove refl)
slots_kept c _ m make remove = refl

-- the nodes stay as they are but where one is made or removed
pub slots_stay : (c d : Configuration) (e : Event) → Reconfigures c e d → is_make e ≡ false → is_remove e ≡ false → (m : ℕ) → slot d m ≡ slot c m
slots_stay c d e r make remove m = r.slots m ∙ slots_kept c e m make remove

-- what was made in a slot stays there, live or removed
pub slot_was : (c d : Configuration) (e : Event) → Reconfigures c e d → (n : ℕ) (m : Slot) → n < length c.slots → slot d n ≡ Some m
    → (old : Slot) × (slot c n ≡ Some old) × (old.first_port ≡ m.first_port) × (old.node ≡ m.node)
slot_was c d (Make k node from) r n m h at = (m, sym (r.slots n ∙ rw (ne_eqb n (length c.slots) (λ same. omega (arith, h, same))) refl) ∙ at, refl, refl)
slot_was c d (Remove k) r n m h at = ⊎_elim
    (λ (same : n ≡ k).
    let old = option_map_some (λ (k : Slot). record k { live = false }) (slot c n) m (sym (r.slots n ∙ rw (eq-eqb n k same) refl) ∙ at) in
    (old.0, old.1, ap (λ (x : Slot). x.first_port) old.2, ap (λ (x : Slot). x.node) old.2))
    (λ (other : n ≡ k → ⊥). (m, sym (r.slots n ∙ rw (ne_eqb n k other) refl) ∙ at, refl, refl))
    (cases_eq n k)
slot_was c d _ r n m h at = (m, sym (r.slots n) ∙ at, refl, refl)

-- a removed node's slot stays just as it is
pub removed_stays : (c d : Configuration) (e : Event) → Reconfigures c e d → (k : ℕ) (old : Slot) → slot c k ≡ Some old → old.live ≡ false → slot d k ≡ Some old
removed_stays c d (Make n node from) r k old at gone =
    r.slots k ∙ rw (ne_eqb k (length c.slots) (λ same. let within = slice_get_within c.slots k old at in omega (arith, within, same))) at
removed_stays c d (Remove n) r k old at gone = ⊎_elim
    (λ (same : k ≡ n).
    r.slots k ∙ rw (eq-eqb k n same) (ap (option_map (λ (m : Slot). record m { live = false })) at ∙ ap (λ b. Some (record old { live = b })) (sym gone)))
    (λ (other : k ≡ n → ⊥). r.slots k ∙ rw (ne_eqb k n other) at)
    (cases_eq k n)
removed_stays c d _ r k old at gone = r.slots k ∙ at

-- ---- what all events keep of what was made

-- of a node, its kind
pub kind_kept : {A : Type 0} (c d : Configuration) (e : Event) → Reconfigures c e d → (n : ℕ) (f : Kind → A) (a : A) → n < length c.slots
    → option_map_or (λ (m : Slot). f m.node.kind) (slot d n) a ≡ option_map_or (λ (m : Slot). f m.node.kind) (slot c n) a
kind_kept c d (Make k node from) r n f a h =
    ap (λ o. option_map_or (λ (m : Slot). f m.node.kind) o a) (r.slots n ∙ rw (ne_eqb n (length c.slots) (λ same. omega (arith, h, same))) refl)
kind_kept c d (Remove k) r n f a h =
    ap (λ o. option_map_or (λ (m : Slot). f m.node.kind) o a) (r.slots n) ∙ ⊎_elim
    (λ (same : n ≡ k). rw (eq-eqb n k same) (dead (slot c n))) (λ (other : n ≡ k → ⊥). rw (ne_eqb n k other) refl) (cases_eq n k)
  where
    dead : (o : Option Slot) → option_map_or (λ (m : Slot). f m.node.kind) (option_map (λ (m : Slot). record m { live = false }) o) a ≡ option_map_or (λ (m : Slot). f m.node.kind) o a
    dead None = refl
    dead (Some m) = refl
kind_kept c d _ r n f a h = ap (λ o. option_map_or (λ (m : Slot). f m.node.kind) o a) (r.slots n)

-- of a port, what is neither its gate's state nor its target
gate_kept : {A : Type 0} (f : Gate → A) → ((g : Gate) (b : Bool) → f (record g { closed = b }) ≡ f g) → ((g : Gate) (t : Option Target) → f (record g { target = t }) ≡ f g) → (c : Configuration) (e : Event) (p : ℕ)
    → p < length c.gates → f (gate_next c p e) ≡ f (gate c p)
gate_kept f closed target_ c e p made = by e
  where
    written : (b : Bool) (g : Gate) → (b ≡ true → f g ≡ f (gate c p)) → f (cond b g (gate c p)) ≡ f (gate c p)
    written true g same = same refl
    written false g same = refl

    by : (e : Event) → f (gate_next c p e) ≡ f (gate c p)
    by (Close q) = written (q == p) _ (λ h. closed (gate c p) true)
    by (Reopen q) = written (q == p) _ (λ h. closed (gate c p) false)
    by (Link q n x) = written (q == p) _ (λ h. target_ (gate c p) (Some (record { node = n; provide = x })))
    by (Unlink q) = written (q == p) _ (λ h. target_ (gate c p) None)
    by (Make n node from) = written (nat_le (length c.gates) p && nat_lt p (length c.gates + length (row node.kind).requires_)) _ (λ h.
        absurd (omega (arith, made, leb-true (length c.gates) p (and_parts (nat_le (length c.gates) p) (nat_lt p (length c.gates + length (row node.kind).requires_)) h).0)))
    by _ = refl

-- its owner and its requirement
pub owner_kept : (c d : Configuration) (e : Event) → Reconfigures c e d → (p : ℕ) → p < length c.gates → owner d p ≡ owner c p
owner_kept c d e r p made = ap (λ (g : Gate). g.owner) (r.gates p) ∙ gate_kept (λ (g : Gate). g.owner) (λ g b. refl) (λ g t. refl) c e p made

pub require_kept : (c d : Configuration) (e : Event) → Reconfigures c e d → (p : ℕ) → p < length c.gates → (gate d p).require ≡ (gate c p).require
require_kept c d e r p made = ap (λ (g : Gate). g.require) (r.gates p) ∙ gate_kept (λ (g : Gate). g.require) (λ g b. refl) (λ g t. refl) c e p made

-- where ports lead after a link, an unlink, a make and a removal

pub target_linked : (c d : Configuration) (q n x : ℕ) → Reconfigures c (Link q n x) d → (p : ℕ) → target d p ≡ cond (q == p) (Some (record { node = n; provide = x })) (target c p)
target_linked c d q n x r p = ap (λ (g : Gate). g.target) (r.gates p) ∙ ⊎_elim
    (λ (same : q ≡ p). rw (eq-eqb q p same) refl) (λ (other : q ≡ p → ⊥). rw (ne_eqb q p other) refl) (cases_eq q p)

pub target_unlinked : (c d : Configuration) (q : ℕ) → Reconfigures c (Unlink q) d → (p : ℕ) → target d p ≡ cond (q == p) None (target c p)
target_unlinked c d q r p = ap (λ (g : Gate). g.target) (r.gates p) ∙ ⊎_elim
    (λ (same : q ≡ p). rw (eq-eqb q p same) refl) (λ (other : q ≡ p → ⊥). rw (ne_eqb q p other) refl) (cases_eq q p)

pub target_made : (c d : Configuration) (k : ℕ) (node : Node) (from : Option ℕ) → Reconfigures c (Make k node from) d → (p : ℕ) → target d p ≡ target c p
target_made c d k node from r p = ap (λ (g : Gate). g.target) (r.gates p) ∙ ⊎_elim
    (λ (new_ : (nat_le (length c.gates) p && nat_lt p (length c.gates + length (row node.kind).requires_)) ≡ true).
    let past = leb-true (length c.gates) p (and_parts (nat_le (length c.gates) p) (nat_lt p (length c.gates + length (row node.kind).requires_)) new_).0 in
    rw new_ (sym (ap (λ (g : Gate). g.target) (get_or_past c.gates p fresh_gate past))))
    (λ (old : (nat_le (length c.gates) p && nat_lt p (length c.gates + length (row node.kind).requires_)) ≡ false). rw old refl)
    (cases_Bool (nat_le (length c.gates) p && nat_lt p (length c.gates + length (row node.kind).requires_)))

pub target_removed : (c d : Configuration) (n : ℕ) → Reconfigures c (Remove n) d → (p : ℕ) → target d p ≡ target c p
target_removed c d n r p = ap (λ (g : Gate). g.target) (r.gates p)

-- a flag that is set leaves the target
turned : (b flag : Bool) (g : Gate) → (cond b (record g { closed = flag }) g).target ≡ g.target
turned true flag g = refl
turned false flag g = refl

-- where the port is neither linked nor unlinked, it leads where it led
pub target_kept : (c d : Configuration) (e : Event) → Reconfigures c e d → (p : ℕ) → relinks p e ≡ false → target d p ≡ target c p
target_kept c d (Link q n x) r p h = target_linked c d q n x r p ∙ rw h refl
target_kept c d (Unlink q) r p h = target_unlinked c d q r p ∙ rw h refl
target_kept c d (Make k node from) r p h = target_made c d k node from r p
target_kept c d (Close q) r p h = ap (λ (g : Gate). g.target) (r.gates p) ∙ turned (q == p) true (gate c p)
target_kept c d (Reopen q) r p h = ap (λ (g : Gate). g.target) (r.gates p) ∙ turned (q == p) false (gate c p)
target_kept c d _ r p h = ap (λ (g : Gate). g.target) (r.gates p)
