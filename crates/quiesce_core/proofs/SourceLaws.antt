-- The sources of nodes are gone after every run.
use Rattle.std.proofs.Common.{◌≡◌, ◌∙◌, ℕ, true, false, not, ◌&&◌, List, length, Option, Some, refl, ap, sym, subst, ⊎_elim, arith}
use Rattle.std.specs.Prelude.{◌==◌}
use Rattle.std.specs.Option.{option_map_or}
use Rattle.std.proofs.lemmas.Bool.{and_parts, both_ways, cases_eq, eq-eqb, ne_eqb, not-true}
use Rattle.std.proofs.lemmas.Option.{none-some, same_Some, slice_get_within}
use Rattle.config_graph.specs.declared.node.Node.{Node}
use Rattle.quiesce_core.specs.declared.event.Event.{Event}
use Rattle.quiesce_core.specs.declared.event.Event.TheVariants.{Make, Remove}
use Rattle.quiesce_core.specs.declared.state.Slot.{Slot}
use Rattle.quiesce_core.specs.State.{Configuration, State, empty, slot}
use Rattle.quiesce_core.specs.Effect.{effect}
use Rattle.quiesce_core.specs.Legal.{CanMake, Legal}
use Rattle.quiesce_core.specs.Rules.{can_move, is_kind, was_moved}
use Rattle.quiesce_core.specs.Runs.{IsRun, Step, state_after}
use Rattle.quiesce_core.specs.Start.{slot_of, started}
use Rattle.quiesce_core.specs.Alters.{Reconfigures}
use Rattle.quiesce_core.specs.Sources.{SourcesAreGone}
use Rattle.quiesce_core.proofs.AlterLaws.{reconfigured}
use Rattle.quiesce_core.proofs.ConfigurationLaws.{removed_stays, slots_stay}
use Rattle.quiesce_core.proofs.InductionLaws.{always}
use Rattle.quiesce_core.proofs.LegalLaws.{legal}
use Rattle.config_graph.specs.Graph.{Graph}
use Rattle.std.specs.List.{enumerate_from}
use Rattle.std.proofs.lemmas.Map.Keys.{any_passes_from_place}
use Rattle.base.proofs.PlaceLaws.{slice_get-map_some}
use Rattle.base.proofs.OptionLaws.{option_map_some, map_or_true}

-- what stays of the slots is enough
kept : (c d : Configuration) → ((n : ℕ) → slot d n ≡ slot c n) → SourcesAreGone c → SourcesAreGone d
kept c d same h = record {
  gone = λ n k m at from. let g = h.gone n k m (sym (same n) ∙ at) from in record { old = g.old; there = same k ∙ g.there; removed = g.removed; kind = g.kind };
  once = λ i j k m n at_i at_j from_i from_j. h.once i j k m n (sym (same i) ∙ at_i) (sym (same j) ∙ at_j) from_i from_j;
}

-- a node is made from one that is gone, and from which none was made
source_of : (c : Configuration) (node : Node) (from : Option ℕ) (k : ℕ) → option_map_or (λ k. can_move c k node.kind) from true ≡ true → from ≡ Some k
    → ((old : Slot) × (slot c k ≡ Some old) × (old.live ≡ false) × (is_kind old.node.kind node.kind ≡ true)) × (was_moved c k ≡ false)
source_of c node from k may is =
    let here : can_move c k node.kind ≡ true = sym (ap (λ o. option_map_or (λ k. can_move c k node.kind) o true) is) ∙ may in
    let both = and_parts (option_map_or (λ (m : Slot). not m.live && is_kind m.node.kind node.kind) (slot c k) false) (not (was_moved c k)) here in
    let m = map_or_true (λ (m : Slot). not m.live && is_kind m.node.kind node.kind) (slot c k) both.0 in
    let parts = and_parts (not m.0.live) (is_kind m.0.node.kind node.kind) m.2 in
    ((m.0, m.1, not-true m.0.live parts.0, parts.1), not-true (was_moved c k) both.1)

moved_if : (c : Configuration) (k i : ℕ) (m : Slot) → slot c i ≡ Some m → m.from ≡ Some k → was_moved c k ≡ true
moved_if c k i m at from = any_passes_from_place (λ (m : Slot). option_map_or (λ f. f == k) m.from false) c.slots i m at (ap (λ o. option_map_or (λ f. f == k) o false) from ∙ eq-eqb k k refl)

-- the slot of a node that is made next
abbrev pub new_slot : Configuration → Node → Option ℕ → Slot
new_slot c node from = record { node = node; first_port = length c.gates; from = from; live = true }

made : (c d : Configuration) (n : ℕ) (node : Node) (from : Option ℕ) → Reconfigures c (Make n node from) d → CanMake c n node from → SourcesAreGone c → SourcesAreGone d
made c d n node from r l h = record {
  gone = λ i k m at is. ⊎_elim
      (λ (last : i ≡ length c.slots).
      let one : new_slot c node from ≡ m = same_Some (new_slot c node from) m (sym (here i last) ∙ at) in
      let source = source_of c node from k l.moves (ap (λ (x : Slot). x.from) one ∙ is) in
      record {
        old = source.0.0;
        there = there k (before k source.0.0 source.0.1) ∙ source.0.1;
        removed = source.0.2;
        kind = subst (λ (x : Slot). is_kind source.0.0.node.kind x.node.kind ≡ true) one source.0.3;
      })
      (λ (earlier : i ≡ length c.slots → ⊥).
      let g = h.gone i k m (sym (there i earlier) ∙ at) is in record { old = g.old; there = there k (before k g.old g.there) ∙ g.there; removed = g.removed; kind = g.kind })
      (cases_eq i (length c.slots));
  once = λ i j k m w at_i at_j from_i from_j. ⊎_elim
      (λ (last_i : i ≡ length c.slots). ⊎_elim
      (λ (last_j : j ≡ length c.slots). last_i ∙ sym last_j)
      (λ (earlier : j ≡ length c.slots → ⊥). absurd (alone i j k m w last_i earlier at_i at_j from_i from_j))
      (cases_eq j (length c.slots)))
      (λ (earlier_i : i ≡ length c.slots → ⊥). ⊎_elim
      (λ (last_j : j ≡ length c.slots). absurd (alone j i k w m last_j earlier_i at_j at_i from_j from_i))
      (λ (earlier_j : j ≡ length c.slots → ⊥). h.once i j k m w (sym (there i earlier_i) ∙ at_i) (sym (there j earlier_j) ∙ at_j) from_i from_j)
      (cases_eq j (length c.slots)))
      (cases_eq i (length c.slots));
}
  where
    here : (i : ℕ) → i ≡ length c.slots → slot d i ≡ Some (new_slot c node from)
    here i last = r.slots i ∙ rw (eq-eqb i (length c.slots) last) refl

    there : (i : ℕ) → (i ≡ length c.slots → ⊥) → slot d i ≡ slot c i
    there i earlier = r.slots i ∙ rw (ne_eqb i (length c.slots) earlier) refl

    before : (k : ℕ) (old : Slot) → slot c k ≡ Some old → k ≡ length c.slots → ⊥
    before k old at same = let within = slice_get_within c.slots k old at in omega (arith, within, same)

    alone : (i j k : ℕ) (m w : Slot) → i ≡ length c.slots → (j ≡ length c.slots → ⊥) → slot d i ≡ Some m → slot d j ≡ Some w → m.from ≡ Some k → w.from ≡ Some k → ⊥
    alone i j k m w last earlier at_i at_j from_i from_j =
        let one : new_slot c node from ≡ m = same_Some (new_slot c node from) m (sym (here i last) ∙ at_i) in
        let source = source_of c node from k l.moves (ap (λ (x : Slot). x.from) one ∙ from_i) in
        both_ways (was_moved c k) source.1 (moved_if c k j w (sym (there j earlier) ∙ at_j) from_j)

-- a removed node keeps its source, and is none but as before
was : (c d : Configuration) (n : ℕ) → Reconfigures c (Remove n) d → (i : ℕ) (m : Slot) → slot d i ≡ Some m → (old : Slot) × (slot c i ≡ Some old) × (old.from ≡ m.from) × (old.node ≡ m.node)
was c d n r i m at = ⊎_elim
    (λ (same : i ≡ n).
    let old = option_map_some (λ (k : Slot). record k { live = false }) (slot c i) m (sym (r.slots i ∙ rw (eq-eqb i n same) refl) ∙ at) in
    (old.0, old.1, ap (λ (x : Slot). x.from) old.2, ap (λ (x : Slot). x.node) old.2))
    (λ (other : i ≡ n → ⊥). (m, sym (r.slots i ∙ rw (ne_eqb i n other) refl) ∙ at, refl, refl))
    (cases_eq i n)

removed : (c d : Configuration) (n : ℕ) → Reconfigures c (Remove n) d → SourcesAreGone c → SourcesAreGone d
removed c d n r h = record {
  gone = λ i k m at is.
      let o = was c d n r i m at in
      let g = h.gone i k o.0 o.1 (o.2 ∙ is) in
      record {
        old = g.old;
        there = removed_stays c d (Remove n) r k g.old g.there g.removed;
        removed = g.removed;
        kind = subst (λ (x : Node). is_kind g.old.node.kind x.kind ≡ true) o.3 g.kind;
      };
  once = λ i j k m w at_i at_j from_i from_j.
      let o = was c d n r i m at_i in
      let p = was c d n r j w at_j in
      h.once i j k o.0 p.0 o.1 p.1 (o.2 ∙ from_i) (p.2 ∙ from_j);
}

pub sources_next : (s : State) (e : Event) → Legal s e → SourcesAreGone s.config → SourcesAreGone (effect s e).config
sources_next s (Make n node from) l h = made s.config (effect s (Make n node from)).config n node from (reconfigured s (Make n node from) l) l h
sources_next s (Remove n) l h = removed s.config (effect s (Remove n)).config n (reconfigured s (Remove n) l) h
sources_next s e l h = kept s.config (effect s e).config (slots_stay s.config (effect s e).config e (reconfigured s e l) refl refl) h

-- each step keeps it so
pub sources_kept : (s t : State) (e : Event) → SourcesAreGone s.config → Step s e t → SourcesAreGone t.config
sources_kept s t e h step = subst (λ (u : State). SourcesAreGone u.config) (sym step.changed) (sources_next s e (legal s e step.allowed) h)

-- in a system that was just started no node took over what another was
pub sources_started : (g : Graph) → SourcesAreGone (started g).config
sources_started g = record {
  gone = λ n k m at from. absurd (fresh n k m at from);
  once = λ i j k m n at_i at_j from_i from_j. absurd (fresh i k m at_i from_i);
}
  where
    fresh : (n k : ℕ) (m : Slot) → slot (started g).config n ≡ Some m → m.from ≡ Some k → ⊥
    fresh n k m at from =
        let w = slice_get-map_some (slot_of g.nodes) (enumerate_from 0 g.nodes) n m at in none-some k (ap (λ (x : Slot). x.from) w.2 ∙ from)

pub sources_empty : SourcesAreGone empty.config
sources_empty = record { gone = λ n k m at. absurd (cc); once = λ i j k m n at. absurd (cc) }

-- after every run
pub sources_are_gone : (es : List Event) → IsRun es → SourcesAreGone (state_after es).config
sources_are_gone es h =
    always (λ xs. SourcesAreGone (state_after xs).config) (λ before e here so_far. subst (λ s. SourcesAreGone s.config) (sym here.next) (sources_next (state_after before) e here.legal so_far))
    sources_empty es h
