-- Room that is made in the pasts of nodes, one after the other, leaves what is seen of them.
use Rattle.std.proofs.Common.{◌≡◌, ◌∙◌, ◌≢◌, ℕ, ◌+◌, ◌<◌, true, List, length, map, set, Some, ap, sym, subst, ⊎_elim, arith, get_or}
use Rattle.std.specs.Prelude.{slice_get}
use Rattle.std.proofs.lemmas.Bool.{cases_eq}
use Rattle.std.proofs.lemmas.List.{set-get_or}
use Rattle.std.proofs.lemmas.Option.{get_or_from_slice_get, same_Some, slice_get-get_or}
use Rattle.base.proofs.PlaceLaws.{slice_get-map_at, slice_get-set_other, slice_get-set_same}
use Rattle.base.proofs.MapLaws.{map_set}
use Rattle.component_trait.specs.States.{NodeState}
use Rattle.state_handover.specs.declared.any_node.AnyNode.{AnyNode}
use Rattle.step_board.specs.Rooms.{has_past_room}
use Rattle.step_board.specs.Seen.{seen}
use Rattle.step_board.specs.declared.held.Held.{Held}

-- an element is put in the place of one that looks the same
pub one_seen : (S : AnyNode → NodeState) (xs : List Held) (i : ℕ) (d new : Held) → i < length xs → seen S new ≡ seen S (get_or xs i d) → map (seen S) (set xs i new) ≡ map (seen S) xs
one_seen S xs i d new low same =
    map_set (seen S) xs i new
    ∙ ap (set (map (seen S) xs) i) (same ∙ sym (get_or_from_slice_get (map (seen S) xs) i (seen S (get_or xs i d)) (seen S (get_or xs i d)) (slice_get-map_at (seen S) xs i (get_or xs i d) (slice_get-get_or xs i d low))))
    ∙ set-get_or (map (seen S) xs) i (seen S (get_or xs i d))

put_is : (xs : List Held) (i : ℕ) (new : Held) → i < length xs → (k : ℕ) (h : Held) → k ≡ i → slice_get (set xs i new) k ≡ Some h → new ≡ h
put_is xs i new low k h same is = same_Some new h (sym (slice_get-set_same xs i new low) ∙ subst (λ j. slice_get (set xs i new) j ≡ Some h) same is)

pub one_kept : (first xs : List Held) (i : ℕ) (d new : Held) → i < length xs → (has_past_room (get_or xs i d) ≡ true → has_past_room new ≡ true)
    → ((k : ℕ) (h h' : Held) → slice_get first k ≡ Some h → has_past_room h ≡ true → slice_get xs k ≡ Some h' → has_past_room h' ≡ true)
    → (k : ℕ) (h h' : Held) → slice_get first k ≡ Some h → has_past_room h ≡ true → slice_get (set xs i new) k ≡ Some h' → has_past_room h' ≡ true
one_kept first xs i d new low keeps so_far k h h' at room is = ⊎_elim
    (λ (same : k ≡ i).
    ap has_past_room (sym (put_is xs i new low k h' same is))
    ∙ keeps (so_far k h (get_or xs i d) at room (subst (λ j. slice_get xs j ≡ Some (get_or xs i d)) (sym same) (slice_get-get_or xs i d low))))
    (λ (other : k ≢ i). so_far k h h' at room (sym (slice_get-set_other xs i new k other) ∙ is))
    (cases_eq k i)

pub one_room : (xs : List Held) (i : ℕ) (new : Held) → i < length xs → has_past_room new ≡ true → ((k : ℕ) (h : Held) → k < i → slice_get xs k ≡ Some h → has_past_room h ≡ true)
    → (k : ℕ) (h : Held) → k < i + 1 → slice_get (set xs i new) k ≡ Some h → has_past_room h ≡ true
one_room xs i new low room so_far k h below is = ⊎_elim
    (λ (same : k ≡ i). ap has_past_room (sym (put_is xs i new low k h same is)) ∙ room)
    (λ (other : k ≢ i). so_far k h (omega (arith, below, other)) (sym (slice_get-set_other xs i new k other) ∙ is))
    (cases_eq k i)
