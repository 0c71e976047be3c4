-- A board's room for a plan's commit.
use Rattle.std.proofs.Common.{◌≡◌, ℕ, ◌+◌, ◌<◌, ◌≤◌, true, false, List, [], ◌∷◌, ◌++◌, append_assoc, length, map, Option, Some, None, refl, sym, ap, ◌∙◌, subst, arith}
use Rattle.std.specs.Prelude.{◌==◌, find, nat_lt, option_and_then}
use Rattle.std.specs.List.{range_with_len}
use Rattle.std.specs.Option.{option_map_or}
use Rattle.std.proofs.lemmas.Bool.{lt-ltb}
use Rattle.std.proofs.lemmas.List.Quantifiers.{position-Some}
use Rattle.change_plan.specs.Differences.{IsGone}
use Rattle.change_plan.specs.declared.plan_data.Move.{Move}
use Rattle.change_plan.specs.declared.plan_data.Plan.{Plan}
use Rattle.change_plan.specs.declared.plan_data.Shift.{Shift}
use Rattle.change_plan.proofs.SelectsLaws.{Selects-one}
use Rattle.quiesce_laws.specs.Steps.{change_all}
use Rattle.quiesce_laws.specs.Work.{link_new, make_new, work_of}
use Rattle.config_graph.specs.Graph.{Graph}
use Rattle.config_graph.specs.declared.TheConstants.{MAX_NODES}
use Rattle.change_plan_laws.specs.Commit.{commit_events, is_at, makes_from, new_links, node_at, node_path, reopened_ports, slot_at, source_of, work}
use Rattle.quiesce_core.specs.State.{Configuration}
use Rattle.quiesce_core.specs.declared.event.Event.{Event}
use Rattle.quiesce_core.specs.declared.event.Event.TheVariants.{Remove, Reopen, Unlink}
use Rattle.quiesce_core.specs.declared.state.Slot.{Slot}
use Rattle.change_board.specs.Steps.{HasRoomForAll, Room, less_one}
use Rattle.change_engine.specs.Engines.{IsPlanned}

-- a plan makes no more nodes than a run may have
pub nodes_fit : (old new : Graph) (moves : List Move) (plan : Plan) (c : Configuration) → IsPlanned old new moves plan c → length c.slots + length plan.create ≤ MAX_NODES
nodes_fit old new moves plan c h =
    let can = h.can_plan in
    let same : can.wanted.created ≡ plan.create =
    Selects-one (IsGone new old) (range_with_len 0 (length new.nodes)) can.wanted.created plan.create can.wanted.gone h.is_plan.steps.create in
    let many : can.nodes ≡ length plan.create = can.wanted.nodes_are ∙ ap (λ (js : List ℕ). length js) same in
    omega (arith, many, can.room.nodes_fit)

-- events that make nothing need no room
module _ {A : Type 0} (f : A → Event) (free : (room : Room) (rest : List Event) (x : A) → HasRoomForAll room rest → HasRoomForAll room (f x ∷ rest)) where
  free_fit : (room : Room) (xs : List A) (rest : List Event) → HasRoomForAll room rest → HasRoomForAll room (map f xs ++ rest)
  free_fit room [] rest h = h
  free_fit room (x ∷ xs) rest h = free room (map f xs ++ rest) x (free_fit room xs rest h)

opens_fit : (ps : List ℕ) (room : Room) → HasRoomForAll room (map Reopen ps)
opens_fit [] room = tt
opens_fit (p ∷ ps) room = (tt, opens_fit ps room)

module _ (old new : Graph) (plan : Plan) (c : Configuration) where
  any_slot : Slot
  any_slot = record { node = node_at new 0; first_port = 0; from = None; live = false }

  source_low : (j sources : ℕ) → length c.slots ≤ sources → option_map_or (λ k. nat_lt k sources) (source_of old plan c j) true ≡ true
  source_low j sources few = by (find (λ (s : Shift). s.new == j) plan.moves)
    where
      at : (path : List ℕ) (o : Option ℕ) → slot_at c path ≡ o → option_map_or (λ k. nat_lt k sources) o true ≡ true
      at path None e = refl
      at path (Some k) e = lt-ltb k sources (omega (arith, few, low path k e))
        where
          low : (path : List ℕ) (k : ℕ) → slot_at c path ≡ Some k → k < length c.slots
          low path k e = (position-Some (is_at path) c.slots k any_slot e).0

      by : (o : Option Shift) → option_map_or (λ k. nat_lt k sources) (option_and_then (λ (s : Shift). slot_at c (node_path old s.old)) o) true ≡ true
      by None = refl
      by (Some s) = at (node_path old s.old) (slot_at c (node_path old s.old)) refl

  makes_fit : (rest : List Event) → ((room : Room) → HasRoomForAll room rest) → (k : ℕ) (js : List ℕ) (room : Room) → length js ≤ room.nodes → length c.slots ≤ room.sources
      → HasRoomForAll room (map make_new (makes_from old new plan c k js) ++ rest)
  makes_fit rest fits k [] room few low = fits room
  makes_fit rest fits k (j ∷ js) room few low =
      (record { node = omega (arith, few); source = source_low j room.sources low }, makes_fit rest fits (k + 1) js (less_one room) (omega (arith, few)) low)

  pub commit_fits : (room : Room) → length plan.create ≤ room.nodes → length c.slots ≤ room.sources → HasRoomForAll room (commit_events old new plan c)
  commit_fits room nodes sources =
      let w = work old new plan c in
      let unlinks = map Unlink w.unlinks in
      let removes = map Remove w.removes in
      let makes = map make_new w.makes in
      let links = map link_new (new_links new plan (change_all c (work_of w))) in
      let opens = map Reopen (reopened_ports old new plan c) in
      let fits : (r : Room) → HasRoomForAll r (links ++ opens) =
      λ r. free_fit link_new (λ room rest x h. (tt, h)) r (new_links new plan (change_all c (work_of w))) opens (opens_fit (reopened_ports old new plan c) r) in
      subst (HasRoomForAll room)
      (sym (append_assoc (unlinks ++ (removes ++ makes)) links opens ∙ append_assoc unlinks (removes ++ makes) (links ++ opens)
      ∙ ap (λ es. unlinks ++ es) (append_assoc removes makes (links ++ opens))))
      (free_fit Unlink (λ room rest x h. (tt, h)) room w.unlinks (removes ++ (makes ++ (links ++ opens)))
      (free_fit Remove (λ room rest x h. (tt, h)) room w.removes (makes ++ (links ++ opens))
      (makes_fit (links ++ opens) fits (length c.slots) plan.create room nodes sources)))
