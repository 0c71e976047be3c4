-- What is known of a node by its own facts, and of the room in its past.
use Rattle.std.proofs.Common.{◌≡◌, ◌∙◌, ℕ, ◌<◌, ◌≢◌, true, List, length, set, ◌≤◌, Option, Some, None, refl, ap, sym, subst, ⊎_elim, arith}
use Rattle.std.specs.Prelude.{slice_get}
use Rattle.std.proofs.lemmas.Bool.{cases_eq, false≢true}
use Rattle.std.proofs.lemmas.Option.{same_Some, slice_get_within}
use Rattle.base.proofs.PlaceLaws.{slice_get-set_other, slice_get-set_same, slice_get-there}
use Rattle.step_board.specs.Rooms.{has_past_room}
use Rattle.step_board.specs.Seen.{is_node}
use Rattle.step_board.specs.declared.held.Held.{Held}

-- the room in the pasts stays where a node in a slot keeps its own
pub past_rooms_kept : (xs : List Held) (sources n : ℕ) (old new : Held) → ((k : ℕ) (h : Held) → k < sources → slice_get xs k ≡ Some h → has_past_room h ≡ true) → slice_get xs n ≡ Some old → has_past_room new ≡ has_past_room old
    → (k : ℕ) (h : Held) → k < sources → slice_get (set xs n new) k ≡ Some h → has_past_room h ≡ true
past_rooms_kept xs sources n old new rooms at same k h low is = ⊎_elim
    (λ (here : k ≡ n).
    let new_is : new ≡ h = same_Some new h (sym (slice_get-set_same xs n new (slice_get_within xs n old at)) ∙ subst (λ i. slice_get (set xs n new) i ≡ Some h) here is) in
    ap has_past_room (sym new_is) ∙ same ∙ rooms n old (subst (λ i. i < sources) here low) at)
    (λ (other : k ≢ n). rooms k h low (sym (slice_get-set_other xs n new k other) ∙ is))
    (cases_eq k n)

pub node_below : (xs : List Held) (n : ℕ) → is_node (slice_get xs n) ≡ true → n < length xs
node_below xs n h = by (slice_get xs n) refl h
  where
    by : (o : Option Held) → slice_get xs n ≡ o → is_node o ≡ true → n < length xs
    by None at h = absurd (false≢true h)
    by (Some x) at h = slice_get_within xs n x at

-- the room in the pasts where it was made for each
pub past_rooms_made : (first xs : List Held) (sources : ℕ) → sources ≤ length first → ((k : ℕ) (h : Held) → k < sources → slice_get first k ≡ Some h → has_past_room h ≡ true)
    → ((k : ℕ) (h h' : Held) → slice_get first k ≡ Some h → has_past_room h ≡ true → slice_get xs k ≡ Some h' → has_past_room h' ≡ true)
    → (k : ℕ) (h : Held) → k < sources → slice_get xs k ≡ Some h → has_past_room h ≡ true
past_rooms_made first xs sources few rooms keeps k h low at =
    let was = slice_get-there first k (omega (arith, few, low)) in keeps k was.0 h was.1 (rooms k was.0 low was.1) at
