-- A stage by the numbers of its nodes: those whose groups are applied are marked.
use Rattle.std.specs.Prelude.{◌≡◌, ◌<◌, ◌↔◌, ◌++◌, ◌≤◌, ℕ, Bool, true, false, not, map, List, Option, Some, None, length, filter_map, option_and_then, slice_get, slice_index_or, if◌then◌else◌}
use Rattle.config_graph.specs.Graph.{Graph}
use Rattle.config_graph.specs.Marks.{IsMarked}
use Rattle.config_graph.specs.declared.node.Link.{Link}
use Rattle.config_graph.specs.declared.node.Node.{Node}
use Rattle.change_plan.specs.declared.plan_data.Move.{Move}
use Rattle.change_parts.specs.Groups.{IsIn}
use Rattle.change_parts.specs.Ties.{IsChanged}
use Rattle.change_parts.specs.declared.members.Members.{Members}

-- of the changed nodes those are marked that are in these groups
pub record IsApplied (old new : Graph) (moves : List Move) (firsts : List (List ℕ)) (nodes : List Node) (marks : List Bool) : Type 0 where
  pub long : length marks ≡ length nodes
  pub are : (k : ℕ) (n : Node) → slice_get nodes k ≡ Some n → IsChanged old new n
      → IsMarked marks k ↔ IsIn old new moves firsts n

-- whether a node stands in the stage: where it is marked, whether it stands in the new graph, and else in the old one
abbrev pub stands : Members → List Bool → ℕ → Bool
stands m applied k =
    if slice_index_or applied k false then slice_index_or m.in_new.items k false else slice_index_or m.in_old.items k false

-- Of the first so many members those that stand there are in a list, in order, each at its place.
pub record AreLaid (standing : ℕ → Bool) (all nodes : List Node) (places : List ℕ) : Type 0 where
  pub there : (k : ℕ) (n : Node) → k < length places → slice_get all k ≡ Some n → standing k ≡ true
      → (p : ℕ) × (slice_get places k ≡ Some p) × (slice_get nodes p ≡ Some n)
  pub from : (p : ℕ) (n : Node) → slice_get nodes p ≡ Some n
      → (k : ℕ) × (k < length places) × (slice_get all k ≡ Some n) × (standing k ≡ true)
  pub ordered : (p q : ℕ) (m n : Node) → p < q → slice_get nodes p ≡ Some m → slice_get nodes q ≡ Some n
      → (k : ℕ) × (l : ℕ) × (k < l) × (slice_get all k ≡ Some m) × (standing k ≡ true) × (slice_get all l ≡ Some n) × (standing l ≡ true)
  pub few : length nodes ≤ length places

-- a link between the places of its ends, where its first node is marked
abbrev pub link_in : List ℕ → List Bool → List ℕ → Link → Option Link
link_in numbers marks places l =
    option_and_then
    (λ a. option_and_then
    (λ b. option_and_then
    (λ marked. option_and_then
    (λ i. option_and_then
    (λ j. if not marked then None else Some (record { from = i; require = l.require; to = j; provide = l.provide }))
    (slice_get places b))
    (slice_get places a))
    (slice_get marks a))
    (slice_get numbers l.to))
    (slice_get numbers l.from)

abbrev pub links_in : Graph → Graph → Members → List Bool → List ℕ → List Link
links_in old new m applied places =
    filter_map (link_in m.of_old.items (map not applied) places) old.links
    ++ filter_map (link_in m.of_new.items applied places) new.links
