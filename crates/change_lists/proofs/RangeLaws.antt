-- The places that a layout tells are in range.
use Rattle.std.proofs.Common.{◌≡◌, ◌<◌, ℕ, Bool, true, false, cond, List, length, map, Option, Some, None, All, refl, sym, subst}
use Rattle.std.specs.Prelude.{IsTrue, nat_lt, position}
use Rattle.std.specs.List.{position_or_len}
use Rattle.std.specs.Option.{option_map_or}
use Rattle.std.proofs.lemmas.Bool.{lt-ltb}
use Rattle.std.proofs.lemmas.List.Elements.{All-append, All-map}
use Rattle.config_graph.specs.Graph.{Graph, index_of}
use Rattle.change_plan.specs.declared.plan_data.Plan.{Plan}
use Rattle.quiesce_core.specs.State.{Configuration}
use Rattle.quiesce_core.specs.declared.state.Slot.{Slot}
use Rattle.change_plan_laws.specs.Commit.{node_path}
use Rattle.change_lists.specs.Layouts.{IsLayoutOf, is_among, place_in}
use Rattle.change_lists.specs.Lists.{place_after, places_after}
use Rattle.change_lists.specs.declared.layout.Layout.{Layout}

-- a place that is below n, if it is one
abbrev pub IsPlaceBelow : ℕ → Option ℕ → Type 0
IsPlaceBelow n place = IsTrue (option_map_or (λ i. nat_lt i n) place true)

found_below : {A : Type 0} (p : A → Bool) (xs : List A) → IsPlaceBelow (length xs) (position p xs)
found_below p xs = by (nat_lt (position_or_len p xs) (length xs)) refl
  where
    by : (b : Bool) → nat_lt (position_or_len p xs) (length xs) ≡ b → IsPlaceBelow (length xs) (cond b (Some (position_or_len p xs)) None)
    by true within = within
    by false past = refl

every : {A : Type 0} (P : A → Type 0) → ((x : A) → P x) → (xs : List A) → All P xs
every P h xs = λ k d low. h _

stood_below : (g : Graph) (m : Slot) → IsPlaceBelow (length g.nodes) (place_in g m)
stood_below g m = by m.live
  where
    by : (b : Bool) → IsPlaceBelow (length g.nodes) (cond b (index_of g.nodes m.node.path) None)
    by true = found_below _ g.nodes
    by false = refl

pub places_below : (l : Layout) (c : Configuration) (g : Graph) → IsLayoutOf l c g → All (IsPlaceBelow (length g.nodes)) l.places.items
places_below l c g laid =
    subst (All (IsPlaceBelow (length g.nodes))) (sym laid.places_are) (All-map (IsPlaceBelow (length g.nodes)) (place_in g) c.slots (every (λ m. IsPlaceBelow (length g.nodes) (place_in g m)) (stood_below g) c.slots))

stands_below : (old new : Graph) (remove : List ℕ) (place : Option ℕ) → IsPlaceBelow (length new.nodes) (place_after old new remove place)
stands_below old new remove None = refl
stands_below old new remove (Some i) = by (is_among remove (Some i))
  where
    by : (b : Bool) → IsPlaceBelow (length new.nodes) (cond b None (index_of new.nodes (node_path old i)))
    by true = refl
    by false = found_below _ new.nodes

pub places_after_below : (old new : Graph) (plan : Plan) (places : List (Option ℕ)) → All (λ j. j < length new.nodes) plan.create → All (IsPlaceBelow (length new.nodes)) (places_after old new plan places)
places_after_below old new plan places created =
    let low : Option ℕ → Type 0 = IsPlaceBelow (length new.nodes) in
    All-append low (map (place_after old new plan.remove) places) (map Some plan.create)
    (All-map low (place_after old new plan.remove) places (every (λ place. low (place_after old new plan.remove place)) (stands_below old new plan.remove) places))
    (All-map low Some plan.create (λ k d under. lt-ltb _ _ (created k d under)))
