-- Where the log of a node lies, and what it has come to.
use Rattle.std.proofs.Common.{◌≡◌, ◌∙◌, ℕ, ◌<◌, List, [], length, map, Option, Some, refl, ap, sym, subst, get_or}
use Rattle.std.specs.Prelude.{slice_get}
use Rattle.std.specs.Option.{option_map_or}
use Rattle.std.proofs.Props.{props}
use Rattle.std.proofs.Math.Logic.{∥∥₁_elim, ∥∥₁_map}
use Rattle.std.proofs.lemmas.List.{length-map}
use Rattle.std.proofs.lemmas.Option.{get_or_from_slice_get, same_Some, slice_get_within}
use Rattle.base.proofs.PlaceLaws.{slice_get-map_at}
use Rattle.component_trait.specs.States.{NodeState}
use Rattle.quiesce_core.specs.Runs.{done_by}
use Rattle.quiesce_core.specs.State.{State, slot}
use Rattle.quiesce_core.specs.declared.state.Slot.{Slot}
use Rattle.state_handover.specs.declared.any_node.AnyNode.{AnyNode}
use Rattle.node_turn_laws.specs.World.{World, state_of}
use Rattle.step_board.specs.Entries.{SlotEntry, Predecessor, NodeSeen, gone, here, log_in, past_log}
use Rattle.step_board.specs.Holding.{HasLog}
use Rattle.step_board.specs.Seen.{seen}
use Rattle.step_board.specs.Worlds.{ShowsIn}
use Rattle.step_board.specs.declared.handed.Handed.{Handed}
use Rattle.step_board.specs.declared.held.Held.{Held}
use Rattle.step_board.proofs.ChangeLemmas.{here_same, not_both}
use Rattle.step_board.proofs.Heirs.{not_taken}
use Rattle.step_board.specs.LogFacts.{log_is}
use Rattle.step_board.proofs.NodeTableLemmas.{at_slot}

module _ (S : AnyNode → NodeState) (s : State) (xs : List Held) (ends : List ℕ) (tells : ℕ → Option (List ℕ)) (n : ℕ) (h : Held) (x : SlotEntry) (at : slice_get xs n ≡ Some h) (is : seen S h ≡ x) where
  entry_at : slice_get (map (seen S) xs) n ≡ Some x
  entry_at = slice_get-map_at (seen S) xs n h at ∙ ap Some is

  pub log_found : log_in (map (seen S) xs) ends x ≡ get_or (map (log_in (map (seen S) xs) ends) (map (seen S) xs)) n []
  log_found =
      sym (get_or_from_slice_get (map (log_in (map (seen S) xs) ends) (map (seen S) xs)) n (log_in (map (seen S) xs) ends x) [] (slice_get-map_at (log_in (map (seen S) xs) ends) (map (seen S) xs) n x entry_at))

  pub log_done : (w : World) → ShowsIn s (map (seen S) xs) ends tells w → log_in (map (seen S) xs) ends x ≡ done_by n w.events
  log_done w shows = log_is s (map (seen S) xs) ends w.events shows.holds n x entry_at

module _ (S : AnyNode → NodeState) (s : State) (xs : List Held) (ends : List ℕ) (tells : ℕ → Option (List ℕ)) (n : ℕ) (h : Held) (at : slice_get xs n ≡ Some h) where
  pub state_shown : (x : NodeSeen) → seen S h ≡ here x → (w : World) → ShowsIn s (map (seen S) xs) ends tells w → state_of w n ≡ Some x.state
  state_shown x is w shows = (shows.nodes_shown n x (entry_at S s xs ends tells n h (here x) at is)).state

  pub has_log : (y : Handed) → seen S h ≡ gone y → ∥ ((w : World) × ShowsIn s (map (seen S) xs) ends tells w) ∥₁ → ∥ HasLog (map (seen S) xs) ends y ∥₁
  has_log y is some_ = ∥∥₁_map some_
      (λ (p : (w : World) × ShowsIn s (map (seen S) xs) ends tells w).
      let g = p.1.holds.nodes_gone n y (entry_at S s xs ends tells n h (gone y) at is) in record { at = g.at; end_is = g.end_is; last = g.last; last_is = g.last_is; old = g.old; old_is = g.old_is })

  pub taken_over : (y : Handed) → seen S h ≡ gone y → ∥ ((w : World) × ShowsIn s (map (seen S) xs) ends tells w) ∥₁ → ∥ ((k : ℕ) × (m : Slot) × (slot s.config k ≡ Some m) × (m.from ≡ Some n)) ∥₁
  taken_over y is some_ = ∥∥₁_map some_
      (λ (p : (w : World) × ShowsIn s (map (seen S) xs) ends tells w).
      let g = p.1.holds.nodes_gone n y (entry_at S s xs ends tells n h (gone y) at is) in (g.heir, g.taker, ap (λ (u : State). slot u.config g.heir) p.1.holds.state ∙ g.there, g.from))

  pub not_taken_over : (x : NodeSeen) → seen S h ≡ here x → ∥ ((w : World) × ShowsIn s (map (seen S) xs) ends tells w) ∥₁ → ∥ ((k : ℕ) × (m : Slot) × (slot s.config k ≡ Some m) × (m.from ≡ Some n)) ∥₁ → ⊥
  not_taken_over x is some_ taken = ∥∥₁_elim some_ (Prim.hlevel props)
      (λ (p : (w : World) × ShowsIn s (map (seen S) xs) ends tells w). ∥∥₁_elim taken (Prim.hlevel props)
      (λ (t : (k : ℕ) × (m : Slot) × (slot s.config k ≡ Some m) × (m.from ≡ Some n)).
      not_taken s (map (seen S) xs) ends p.0.events p.1.holds n x (entry_at S s xs ends tells n h (here x) at is) t.0 t.1 t.2 t.3))

module _ (S : AnyNode → NodeState) (xs : List Held) (ends : List ℕ) (y : Handed) (there : ∥ HasLog (map (seen S) xs) ends y ∥₁) where
  pub line_below : y.line < length ends
  line_below = ∥∥₁_elim there (Prim.hlevel props) (λ (g : HasLog (map (seen S) xs) ends y). slice_get_within ends y.line g.at g.end_is)

  module _ (e : ℕ) (end_is : e ≡ get_or ends y.line e) where
    end_at : slice_get ends y.line ≡ Some e
    end_at = at_slot ends y.line e e line_below end_is refl

    same_end : (g : HasLog (map (seen S) xs) ends y) → g.at ≡ e
    same_end g = same_Some g.at e (sym g.end_is ∙ end_at)

    last_at : (g : HasLog (map (seen S) xs) ends y) → slice_get (map (seen S) xs) e ≡ Some (here g.last)
    last_at g = subst (λ i. slice_get (map (seen S) xs) i ≡ Some (here g.last)) (same_end g) g.last_is

    pub end_below : e < length xs
    end_below = ∥∥₁_elim there (Prim.hlevel props)
        (λ (g : HasLog (map (seen S) xs) ends y). subst (λ k. e < k) (length-map xs (seen S)) (slice_get_within (map (seen S) xs) e (here g.last) (last_at g)))

    module _ (h : Held) (at : slice_get xs e ≡ Some h) where
      pub end_not_gone : (z : Handed) → seen S h ≡ gone z → ⊥
      end_not_gone z is = ∥∥₁_elim there (Prim.hlevel props)
          (λ (g : HasLog (map (seen S) xs) ends y). not_both (map (seen S) xs) e g.last z (last_at g) (slice_get-map_at (seen S) xs e h at ∙ ap Some is))

      pub place_below : (x : NodeSeen) → seen S h ≡ here x → y.place < length x.past
      place_below x is = ∥∥₁_elim there (Prim.hlevel props)
          (λ (g : HasLog (map (seen S) xs) ends y).
          let same = here_same (map (seen S) xs) e g.last x (last_at g) (slice_get-map_at (seen S) xs e h at ∙ ap Some is) in
          slice_get_within x.past y.place g.old (ap (λ (z : NodeSeen). slice_get z.past y.place) (sym same) ∙ g.old_is))

      pub past_found : (x : NodeSeen) → seen S h ≡ here x → (m : Predecessor) → slice_get x.past y.place ≡ Some m → m.log ≡ past_log y.place (slice_get (map (seen S) xs) (get_or ends y.line 0))
      past_found x is m at_place =
          sym
          (ap (λ i. past_log y.place (slice_get (map (seen S) xs) i)) (get_or_from_slice_get ends y.line e 0 end_at)
          ∙ ap (past_log y.place) (slice_get-map_at (seen S) xs e h at ∙ ap Some is)
          ∙ ap (λ o. option_map_or (λ (z : Predecessor). z.log) o []) at_place)
