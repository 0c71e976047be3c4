-- The numbers of the nodes that are tied, in pairs, and of those that are changed, told by a plan and by links.
use Rattle.std.specs.Prelude.{ℕ, Bool, List, Option, Some, None, ◌++◌, filter_map, option_and_then, slice_get, if◌then◌else◌}
use Rattle.config_graph.specs.Graph.{Graph, index_of}
use Rattle.config_graph.specs.declared.node.Link.{Link}
use Rattle.config_graph.specs.declared.node.Node.{Node}
use Rattle.config_graph.specs.declared.node.Port.{Port}
use Rattle.change_plan.specs.declared.plan_data.Plan.{Plan}
use Rattle.change_plan.specs.declared.plan_data.Shift.{Shift}
use Rattle.change_parts.specs.declared.members.Members.{Members}

-- the numbers at two places
abbrev pub pair_at : List ℕ → List ℕ → ℕ → ℕ → Option (ℕ × ℕ)
pair_at firsts seconds i j =
    option_and_then (λ a. option_and_then (λ b. Some (a, b)) (slice_get seconds j)) (slice_get firsts i)

-- the old node at this place with the new node that has its path
abbrev pub path_tie : Graph → Graph → Members → ℕ → Option (ℕ × ℕ)
path_tie old new m place =
    option_and_then (λ (n : Node). option_and_then (λ j. pair_at m.of_old.items m.of_new.items place j)
    (index_of new.nodes n.path)) (slice_get old.nodes place)

-- the ends of a move
abbrev pub move_tie : Members → Shift → Option (ℕ × ℕ)
move_tie m s = pair_at m.of_old.items m.of_new.items s.old s.new

-- the ends of a link that ends at a node that isn't marked
abbrev pub link_tie : List ℕ → List Bool → Link → Option (ℕ × ℕ)
link_tie numbers marks l =
    option_and_then
    (λ a. option_and_then
    (λ b. option_and_then (λ marked. if marked then None else Some (a, b)) (slice_get marks b))
    (slice_get numbers l.to))
    (slice_get numbers l.from)

abbrev pub ties_of : Graph → Graph → Plan → Members → List (ℕ × ℕ)
ties_of old new p m =
    filter_map (path_tie old new m) p.remove
    ++ filter_map (move_tie m) p.moves
    ++ filter_map (link_tie m.of_old.items m.in_new.items) old.links
    ++ filter_map (link_tie m.of_new.items m.in_old.items) new.links

-- the number of the node at which a port or a link begins
abbrev pub owner_number : List ℕ → Port → Option ℕ
owner_number numbers q = slice_get numbers q.node

abbrev pub begin_number : List ℕ → Link → Option ℕ
begin_number numbers l = slice_get numbers l.from

abbrev pub changed_numbers : Plan → Members → List ℕ
changed_numbers p m =
    filter_map (slice_get m.of_old.items) p.remove
    ++ filter_map (owner_number m.of_old.items) p.unlink
    ++ filter_map (slice_get m.of_new.items) p.create
    ++ filter_map (begin_number m.of_new.items) p.link
