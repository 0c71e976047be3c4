-- Which node of a graph stands in a slot, by a layout.
use Rattle.std.proofs.Common.{◌≡◌, ℕ, ◌<◌, Bool, true, false, cond, List, [], ◌∷◌, length, map, get_or, Option, Some, None, refl, sym, ap, ◌∙◌, All, arith}
use Rattle.std.specs.Prelude.{◌&&◌, ◌||◌, ◌==◌, bytes_eq, option_and_then, option_map, slice_get}
use Rattle.std.specs.Option.{option_map_or}
use Rattle.std.proofs.lemmas.Bool.{both_ways, eq-eqb, eqb-true}
use Rattle.std.proofs.lemmas.List.Elements.{All-tail}
use Rattle.std.proofs.lemmas.Option.{slice_get-get_or, slice_get-map}
use Rattle.std.proofs.lemmas.Slice.Eq.{bytes_eq-Decides}
use Rattle.base.proofs.PlaceLaws.{slice_get-there}
use Rattle.config_graph.specs.Graph.{Graph, PathsRise, index_of}
use Rattle.config_graph.specs.declared.node.Node.{Node}
use Rattle.change_plan.proofs.NodeLaws.{index_found}
use Rattle.change_plan_laws.specs.Commit.{is_at, is_one_of, node_path, stands_in}
use Rattle.change_plan_laws.proofs.StandingLaws.{path_of}
use Rattle.quiesce_core.specs.State.{Configuration}
use Rattle.quiesce_core.specs.declared.state.Slot.{Slot}
use Rattle.change_lists.specs.Layouts.{is_among, is_place, place_at, place_in}
use Rattle.change_lists.proofs.LayoutLaws.{place_there}

-- a path is that of the node at the place where it is found
path_is : (g : Graph) → PathsRise g.nodes → (p : List ℕ) (i : ℕ) → i < length g.nodes → bytes_eq p (node_path g i) ≡ is_place i (index_of g.nodes p)
path_is g rise p i within = by (bytes_eq p (node_path g i)) refl
  where
    node : (x : Node) × (slice_get g.nodes i ≡ Some x)
    node = slice_get-there g.nodes i within

    other : (o : Option ℕ) → index_of g.nodes p ≡ o → bytes_eq p (node_path g i) ≡ false → false ≡ is_place i o
    other None e h = refl
    other (Some j) e h = at (j == i) refl
      where
        at : (b : Bool) → (j == i) ≡ b → false ≡ b
        at false t = refl
        at true t =
            let found = index_found g.nodes p j node.0 e in
            let same : p ≡ node_path g i =
            found.1 ∙ sym (path_of g j (get_or g.nodes j node.0) (slice_get-get_or g.nodes j node.0 found.0)) ∙ ap (node_path g) (eqb-true j i t) in
            absurd (both_ways (bytes_eq p (node_path g i)) h ((bytes_eq-Decides p (node_path g i)).1 same))

    by : (b : Bool) → bytes_eq p (node_path g i) ≡ b → b ≡ is_place i (index_of g.nodes p)
    by true h =
        let same : p ≡ node.0.path = (bytes_eq-Decides p (node_path g i)).0 h ∙ path_of g i node.0 node.1 in
        sym (ap (is_place i) (ap (index_of g.nodes) same ∙ place_there g.nodes rise i node.0 node.1) ∙ eq-eqb i i refl)
    by false h = other (index_of g.nodes p) refl h

module _ (c : Configuration) (g : Graph) (rise : PathsRise g.nodes) where
  pub slot_is : (i : ℕ) (m : Slot) → i < length g.nodes → is_at (node_path g i) m ≡ is_place i (place_in g m)
  slot_is i m within = by m.live
    where
      by : (b : Bool) → (b && bytes_eq m.node.path (node_path g i)) ≡ is_place i (cond b (index_of g.nodes m.node.path) None)
      by true = path_is g rise m.node.path i within
      by false = refl

  pub stands_by_place : (i n : ℕ) → i < length g.nodes → stands_in g i c n ≡ is_place i (place_at (map (place_in g) c.slots) n)
  stands_by_place i n within =
      by (slice_get c.slots n) ∙ sym (ap (λ (o : Option (Option ℕ)). is_place i (option_and_then (λ x. x) o)) (slice_get-map (place_in g) c.slots n))
    where
      by : (o : Option Slot) → option_map_or (is_at (node_path g i)) o false ≡ is_place i (option_and_then (λ x. x) (option_map (place_in g) o))
      by None = refl
      by (Some m) = slot_is i m within

  pub one_by_place : (list : List ℕ) (n : ℕ) → All (λ i. i < length g.nodes) list → is_one_of g list c n ≡ is_among list (place_at (map (place_in g) c.slots) n)
  one_by_place [] n within = by (place_at (map (place_in g) c.slots) n)
    where
      by : (o : Option ℕ) → false ≡ is_among [] o
      by None = refl
      by (Some j) = refl
  one_by_place (i ∷ list) n within =
      ap (λ b. b || is_one_of g list c n) (stands_by_place i n (within 0 i (omega arith)))
      ∙ ap (λ b. is_place i (place_at (map (place_in g) c.slots) n) || b) (one_by_place list n (All-tail (λ i. i < length g.nodes) i list within))
      ∙ by (place_at (map (place_in g) c.slots) n)
    where
      by : (o : Option ℕ) → (is_place i o || is_among list o) ≡ is_among (i ∷ list) o
      by None = refl
      by (Some j) = refl
