-- What a table that shows some world has in a slot.
use Rattle.std.proofs.Common.{◌≡◌, ◌∙◌, ℕ, ◌<◌, true, false, List, length, map, Option, Some, ap, sym, subst, get_or}
use Rattle.std.specs.Prelude.{slice_get}
use Rattle.std.proofs.Props.{props}
use Rattle.std.proofs.Math.Logic.{∥∥₁_elim}
use Rattle.std.proofs.lemmas.Bool.{both_ways}
use Rattle.std.proofs.lemmas.List.{length-map}
use Rattle.std.proofs.lemmas.Option.{slice_get-get_or}
use Rattle.base.proofs.OptionLaws.{map_or_at}
use Rattle.base.proofs.PlaceLaws.{slice_get-map_at}
use Rattle.component_trait.specs.States.{NodeState}
use Rattle.quiesce_core.specs.State.{State, is_live, slot}
use Rattle.quiesce_core.specs.declared.state.Slot.{Slot}
use Rattle.quiesce_core.proofs.SourceLaws.{sources_are_gone}
use Rattle.quiesce_core.proofs.TableLaws.{live_made}
use Rattle.node_gate.specs.Core.{FitsCore, node_at, node_in}
use Rattle.state_handover.specs.declared.any_node.AnyNode.{AnyNode}
use Rattle.node_turn_laws.specs.World.{World}
use Rattle.node_host.specs.Hosted.{node_of}
use Rattle.step_board.specs.Entries.{SlotEntry, NodeSeen, gone, here}
use Rattle.step_board.specs.Holding.{IsHere}
use Rattle.step_board.specs.Seen.{seen}
use Rattle.step_board.specs.Worlds.{ShowsIn}
use Rattle.step_board.specs.declared.handed.Handed.{Handed}
use Rattle.step_board.specs.declared.held.Held.{Held}
use Rattle.step_board.proofs.FitProps.{fits_prop}

pub at_slot : {A : Type 0} (xs : List A) (i : ℕ) (d x : A) → i < length xs → d ≡ get_or xs i d → d ≡ x → slice_get xs i ≡ Some x
at_slot xs i d x low is to = slice_get-get_or xs i d low ∙ ap Some (sym is ∙ to)

module _ (S : AnyNode → NodeState) (s : State) (xs : List Held) (ends : List ℕ) (tells : ℕ → Option (List ℕ)) where
  abbrev nodes : List SlotEntry
  nodes = map (seen S) xs

  abbrev In : World → Type 0
  In w = ShowsIn s (map (seen S) xs) ends tells w

  number_is : (w : World) → In w → length xs ≡ length s.config.slots
  number_is w h = sym (length-map xs (seen S)) ∙ h.holds.made ∙ ap (λ (u : State). length u.config.slots) (sym h.holds.state)

  pub within_made : (n : ℕ) → n < length s.config.slots → ∥ ((w : World) × In w) ∥₁ → n < length xs
  within_made n low some_ = ∥∥₁_elim some_ (Prim.hlevel props) (λ (p : (w : World) × In w). subst (λ k. n < k) (sym (number_is p.0 p.1)) low)

  pub within_live : (n : ℕ) → is_live s.config n ≡ true → ∥ ((w : World) × In w) ∥₁ → n < length xs
  within_live n live some_ = within_made n (live_made s.config n live) some_

  pub here_in : (w : World) → In w → (n : ℕ) (h : Held) (x : NodeSeen) → slice_get xs n ≡ Some h → seen S h ≡ here x → IsHere w.events n x
  here_in w h n held x at is = h.holds.nodes_here n x (slice_get-map_at (seen S) xs n held at ∙ ap Some is)

  made_there : (w : World) → In w → (n : ℕ) (x : NodeSeen) (k : IsHere w.events n x) → slot s.config n ≡ Some k.made
  made_there w h n x k = ap (λ (u : State). slot u.config n) h.holds.state ∙ k.there

  pub fits_in : (w : World) → In w → (n : ℕ) (x : NodeSeen) → IsHere w.events n x → is_live s.config n ≡ true → FitsCore s n x.known
  fits_in w h n x k live =
      let made_live : k.made.live ≡ true = sym (map_or_at (λ (m : Slot). m.live) (slot s.config n) false k.made (made_there w h n x k)) ∙ live in
      subst (λ (u : State). FitsCore u n x.known) (sym h.holds.state) (k.fits made_live)

  pub node_in_ : (w : World) → In w → (n : ℕ) (x : NodeSeen) → IsHere w.events n x → node_at s.config n ≡ node_of n x.first x.state
  node_in_ w h n x k =
      ap (node_in n) (made_there w h n x k)
      ∙ ap (λ j. record { slot = n; kind = j; first = k.made.first_port }) (sym k.kind)
      ∙ ap (λ f. record { slot = n; kind = x.state.kind; first = f }) (sym k.first)

  -- what a turn asks of the node in a slot, whose seat is of this slot
  pub seat_fits : (n : ℕ) → is_live s.config n ≡ true → ∥ ((w : World) × In w) ∥₁ → (h : Held) (x : NodeSeen) → slice_get xs n ≡ Some h → seen S h ≡ here x → (k : ℕ) → k ≡ x.slot → FitsCore s k x.known
  seat_fits n live some_ held x at is k same = ∥∥₁_elim some_ (fits_prop s k x.known)
      (λ (p : (w : World) × In w).
      let there = here_in p.0 p.1 n held x at is in
      subst (λ i. FitsCore s i x.known) (sym (same ∙ there.place)) (fits_in p.0 p.1 n x there live))

  pub seat_node : (n : ℕ) → ∥ ((w : World) × In w) ∥₁ → (h : Held) (x : NodeSeen) → slice_get xs n ≡ Some h → seen S h ≡ here x → (k : ℕ) → k ≡ x.slot → node_at s.config k ≡ node_of x.slot x.first x.state
  seat_node n some_ held x at is k same = ∥∥₁_elim some_ (Prim.hlevel props)
      (λ (p : (w : World) × In w).
      let there = here_in p.0 p.1 n held x at is in
      ap (node_at s.config) (same ∙ there.place) ∙ node_in_ p.0 p.1 n x there ∙ ap (λ i. node_of i x.first x.state) (sym there.place))

  -- the state of a live node was handed to no other
  pub live_not_gone : (n : ℕ) → is_live s.config n ≡ true → ∥ ((w : World) × In w) ∥₁ → (h : Held) (y : Handed) → slice_get xs n ≡ Some h → seen S h ≡ gone y → ⊥
  live_not_gone n live some_ held y at is = ∥∥₁_elim some_ (Prim.hlevel props)
      (λ (p : (w : World) × In w).
      let h = p.1.holds in
      let g = h.nodes_gone n y (slice_get-map_at (seen S) xs n held at ∙ ap Some is) in
      let source = (sources_are_gone p.0.events h.runs).gone g.heir n g.taker g.there g.from in
      both_ways (is_live s.config n)
      (map_or_at (λ (m : Slot). m.live) (slot s.config n) false source.old (ap (λ (u : State). slot u.config n) h.state ∙ source.there) ∙ source.removed)
      live)
