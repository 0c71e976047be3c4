-- The logs of all nodes, slot by slot.
use Rattle.std.proofs.Common.{◌≡◌, ◌∙◌, ◌+◌, ◌<◌, ℕ, List, [], ◌∷◌, ◌++◌, Option, Some, length, map, take, refl, sym, ap, subst, arith}
use Rattle.std.specs.Prelude.{All, slice_get, slice_index_or}
use Rattle.std.specs.List.{range_with_len}
use Rattle.std.proofs.Math.Logic.{∥∥₁_elim}
use Rattle.std.proofs.Props.{props}
use Rattle.std.proofs.lemmas.List.{map-append, take_all, take_more}
use Rattle.std.proofs.lemmas.List.Elements.{All-append, All-cons, All-nil}
use Rattle.std.proofs.lemmas.List.FromFn.{length-map-range_with_len}
use Rattle.base.proofs.PlaceLaws.{slice_get-there}
use Rattle.base.proofs.RisingLaws.{places_more}
use Rattle.change_board.specs.Collecting.{heir_of}
use Rattle.change_spec.specs.Lawful.{EndsAs}
use Rattle.report_types.specs.declared.report.Last.TheVariants as last
use Rattle.report_types.specs.declared.report.NodeLog.{NodeLog}
use Rattle.component_trait.specs.States.{NodeState}
use Rattle.quiesce_core.specs.Runs.{done_by}
use Rattle.quiesce_core.specs.State.{State}
use Rattle.quiesce_core.specs.declared.event.Event.{Event}
use Rattle.node_turn_laws.proofs.ReachedLaws.{holds_where_reached}
use Rattle.node_turn_laws.specs.Reached.{IsReached}
use Rattle.node_turn_laws.specs.World.{World, state_of}
use Rattle.step_board.specs.Going.{ShowsSome}
use Rattle.step_board.specs.Standing.{AreLogs}

-- ---- how a log ends

-- a node that was made has come to something
state_made : (w : World) → IsReached w → (n : ℕ) → n < length w.machine.config.slots → (t : NodeState) × (state_of w n ≡ Some t)
state_made w r n below =
    let h = holds_where_reached w r in
    let m = slice_get-there w.machine.config.slots n below in
    let node = h.1.nodes n m.0 (ap (λ (s : State). slice_get s.config.slots n) (sym h.0) ∙ m.1) in
    (node.state, node.is)

pub ends_moved : (w : World) → IsReached w → (n j : ℕ) → n < length w.machine.config.slots → EndsAs (state_of w n) (Some j) (last.Moved j)
ends_moved w r n j below = let t = state_made w r n below in subst (λ o. EndsAs o (Some j) (last.Moved j)) (sym t.1) refl

-- ---- all logs

module _ {B : Type 0} (S : B → World → Type 0) (b : B) (s : State) (logs : List (List Event)) where
  abbrev pub EndsSo : World → NodeLog → Type 0
  EndsSo w l = EndsAs (state_of w l.slot) (heir_of s.config l.slot) l.last

  -- the logs of the nodes in the slots below this one
  pub record AreBelow (i : ℕ) (given : List NodeLog) : Type 0 where
    pub slots : map (λ (l : NodeLog). l.slot) given ≡ range_with_len 0 i
    pub events_are : map (λ (l : NodeLog). l.events) given ≡ take i logs
    pub ends : (w : World) → S b w → All (EndsSo w) given

  pub none_below : AreBelow 0 []
  none_below = record { slots = refl; events_are = refl; ends = λ w h. All-nil (EndsSo w) }

  module _ (machine_is : (w : World) → S b w → w.machine ≡ s) (logs_are : (w : World) → S b w → logs ≡ map (λ n. done_by n w.events) (range_with_len 0 (length w.machine.config.slots))) where
    pub one_a_node : ShowsSome S b → length logs ≡ length s.config.slots
    one_a_node some = ∥∥₁_elim some (Prim.hlevel props)
        (λ h. ap length (logs_are h.0 h.1) ∙ length-map-range_with_len (λ n. done_by n (h.0).events) 0 (length (h.0).machine.config.slots)
        ∙ ap (λ (m : State). length m.config.slots) (machine_is h.0 h.1))

    pub one_more : (i : ℕ) (given : List NodeLog) (l : NodeLog) (heir : Option ℕ) → ShowsSome S b → i < length s.config.slots → AreBelow i given
        → l.slot ≡ i → l.events ≡ slice_index_or logs i [] → heir ≡ heir_of s.config i → ((w : World) → S b w → EndsAs (state_of w i) heir l.last)
        → AreBelow (i + 1) (given ++ l ∷ [])
    one_more i given l heir some below h slot events_are heir_is ends = record {
      slots = map-append (λ (x : NodeLog). x.slot) given (l ∷ []) ∙ ap (λ xs. xs ++ l.slot ∷ []) h.slots ∙ ap (λ n. range_with_len 0 i ++ n ∷ []) slot ∙ sym (places_more i);
      events_are = map-append (λ (x : NodeLog). x.events) given (l ∷ []) ∙ ap (λ xs. xs ++ l.events ∷ []) h.events_are ∙ ap (λ es. take i logs ++ es ∷ []) events_are
          ∙ sym (take_more logs i [] (omega (arith, below, one_a_node some)));
      ends = λ w k. All-append (EndsSo w) given (l ∷ []) (h.ends w k)
          (All-cons (EndsSo w) l []
          (subst (λ n. EndsAs (state_of w n) (heir_of s.config n) l.last) (sym slot) (subst (λ o. EndsAs (state_of w i) o l.last) heir_is (ends w k)))
          (All-nil (EndsSo w)));
    }

    pub all_logs : (i : ℕ) (given : List NodeLog) → ShowsSome S b → i ≡ length s.config.slots → AreBelow i given → AreLogs S b s logs given
    all_logs i given some is h = record {
      slots = h.slots ∙ ap (range_with_len 0) is;
      events_are = h.events_are ∙ take_all i logs (omega (arith, is, one_a_node some));
      ends = h.ends;
    }
