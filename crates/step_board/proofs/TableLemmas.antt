-- A node whose state no other took over is still there.
use Rattle.std.proofs.Common.{◌≡◌, ◌∙◌, ℕ, true, false, Some, None, refl, sym, ap}
use Rattle.std.specs.Prelude.{◌==◌, is_some}
use Rattle.std.specs.List.{list_any}
use Rattle.std.specs.Option.{option_map_or}
use Rattle.std.proofs.Math.Logic.{∥∥₁_elim}
use Rattle.std.proofs.Props.{props}
use Rattle.std.proofs.lemmas.Bool.{both_ways, eq-eqb}
use Rattle.std.proofs.lemmas.Option.{same_Some}
use Rattle.std.proofs.lemmas.Map.Keys.{any_passes_from_place}
use Rattle.base.proofs.FindLaws.{is_some-position}
use Rattle.base.proofs.OptionLaws.{map_or_true}
use Rattle.change_board.specs.Collecting.{heir_of, took_over}
use Rattle.quiesce_core.proofs.SourceLaws.{sources_are_gone}
use Rattle.quiesce_core.specs.State.{Configuration, State, is_live, slot}
use Rattle.quiesce_core.specs.declared.state.Slot.{Slot}
use Rattle.node_turn_laws.proofs.ReachedLaws.{holds_where_reached}
use Rattle.node_turn_laws.specs.Reached.{IsReached}
use Rattle.node_turn_laws.specs.World.{World}

-- some node took over the state of node k
abbrev pub IsTakenOver : Configuration → ℕ → Type 0
IsTakenOver c k = ∥ ((n : ℕ) × (m : Slot) × (slot c n ≡ Some m) × (m.from ≡ Some k)) ∥₁

pub no_heir : (c : Configuration) (k : ℕ) → heir_of c k ≡ None → IsTakenOver c k → ⊥
no_heir c k none_ taken = ∥∥₁_elim taken (Prim.hlevel props)
    (λ h.
    both_ways (list_any (took_over k) c.slots)
    (sym (is_some-position (took_over k) c.slots) ∙ ap is_some none_)
    (any_passes_from_place (took_over k) c.slots h.0 h.1 h.2 (ap (λ o. option_map_or (λ f. f == k) o false) h.3 ∙ eq-eqb k k refl)))

pub no_heir_of_live : (s : State) (k : ℕ) → is_live s.config k ≡ true → ∥ ((w : World) × IsReached w × (w.machine ≡ s)) ∥₁ → IsTakenOver s.config k → ⊥
no_heir_of_live s k live some taken = ∥∥₁_elim some (Prim.hlevel props)
    (λ v. ∥∥₁_elim taken (Prim.hlevel props)
    (λ h.
    let holds = holds_where_reached v.0 v.1 in
    let same = sym holds.0 ∙ v.2 in
    let g = (sources_are_gone (v.0).events holds.1.run).gone h.0 k h.1 (ap (λ (t : State). slot t.config h.0) same ∙ h.2) h.3 in
    let found = map_or_true (λ (x : Slot). x.live) (slot s.config k) live in
    let one : found.0 ≡ g.old = same_Some found.0 g.old (sym found.1 ∙ sym (ap (λ (t : State). slot t.config k) same) ∙ g.there) in
    both_ways found.0.live (ap (λ (x : Slot). x.live) one ∙ g.removed) found.2))
