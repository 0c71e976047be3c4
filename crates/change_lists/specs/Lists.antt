-- What a plan's lists are on a board, by the layout of what was made there: which ports are closed, what the commit
-- does, and the layout after it.
use Rattle.std.specs.Prelude.{ℕ, ◌+◌, Bool, false, not, ◌&&◌, ◌||◌, ◌==◌, nat_lt, List, [], ◌∷◌, ◌++◌, filter, filter_map, find, length, map, position, slice_get, Option, Some, None, option_map, option_and_then, if◌then◌else◌}
use Rattle.std.specs.List.{list_any, range_with_len}
use Rattle.std.specs.Option.{option_map_or}
use Rattle.change_plan.specs.declared.plan_data.Plan.{Plan}
use Rattle.change_plan.specs.declared.plan_data.Shift.{Shift}
use Rattle.config_graph.specs.Graph.{Graph, index_of}
use Rattle.config_graph.specs.Kinds.{row}
use Rattle.config_graph.specs.declared.node.Link.{Link}
use Rattle.config_graph.specs.declared.node.Port.{Port}
use Rattle.quiesce_core.specs.declared.event.Event.{Event}
use Rattle.quiesce_core.specs.declared.event.Event.TheVariants as event
use Rattle.change_plan_laws.specs.Commit.{node_at, node_path}
use Rattle.change_lists.specs.Layouts.{is_among, is_place, place_at}

-- the place of the owner of a port, where that is live
abbrev pub owner_place : List (Option ℕ) → List Port → ℕ → Option ℕ
owner_place places ports p = option_and_then (λ (x : Port). place_at places x.node) (slice_get ports p)

-- the ports of the nodes at these places
abbrev pub closed_by : List (Option ℕ) → List Port → List ℕ → List ℕ
closed_by places ports freeze = filter (λ p. is_among freeze (owner_place places ports p)) (range_with_len 0 (length ports))

-- whether a port is one of these requirements of the nodes at these places
abbrev pub is_port_at : Option ℕ → Port → Port → Bool
is_port_at place x q = is_place q.node place && (x.require == q.require)

abbrev pub is_unlinked_at : List (Option ℕ) → List Port → List Port → ℕ → Bool
is_unlinked_at places ports unlink p =
    option_map_or (λ (x : Port). list_any (is_port_at (place_at places x.node) x) unlink) (slice_get ports p) false

abbrev pub unlinks_by : List (Option ℕ) → List Port → List Port → List ℕ
unlinks_by places ports unlink = filter (is_unlinked_at places ports unlink) (range_with_len 0 (length ports))

-- the slots of the nodes at these places
abbrev pub removes_by : List (Option ℕ) → List ℕ → List ℕ
removes_by places remove = filter (λ n. is_among remove (place_at places n)) (range_with_len 0 (length places))

-- the slot of the node at a place
abbrev pub slot_of : List (Option ℕ) → ℕ → Option ℕ
slot_of places i = position (is_place i) places

-- the slot of the node whose state the one at place j of the new graph takes over
abbrev pub source_by : List (Option ℕ) → List Shift → ℕ → Option ℕ
source_by places moves j =
    option_and_then (λ (s : Shift). slot_of places s.old) (find (λ (s : Shift). s.new == j) moves)

-- the nodes at these places of the new graph are made in the slots from k on
abbrev pub makes_by : List (Option ℕ) → List Shift → Graph → ℕ → List ℕ → List Event
makes_by places moves new k [] = []
makes_by places moves new k (j ∷ js) =
    event.Make k (node_at new j) (source_by places moves j) ∷ makes_by places moves new (k + 1) js

-- where the node at a place of the old graph stands in the new one, while it isn't removed
abbrev pub place_after : Graph → Graph → List ℕ → Option ℕ → Option ℕ
place_after old new remove None = None
place_after old new remove (Some i) =
    if is_among remove (Some i) then None else index_of new.nodes (node_path old i)

abbrev pub places_after : Graph → Graph → Plan → List (Option ℕ) → List (Option ℕ)
places_after old new plan places = map (place_after old new plan.remove) places ++ map Some plan.create

-- the ports of a node that is made in slot k, and of the nodes at these places made from there on
abbrev pub ports_in : Graph → ℕ → ℕ → List Port
ports_in new k j =
    map (λ r. record { node = k; require = r }) (range_with_len 0 (length (row (node_at new j).kind).requires_))

abbrev pub ports_from : Graph → ℕ → List ℕ → List Port
ports_from new k [] = []
ports_from new k (j ∷ js) = ports_in new k j ++ ports_from new (k + 1) js

abbrev pub ports_after : Graph → Plan → List (Option ℕ) → List Port → List Port
ports_after new plan places ports = ports ++ ports_from new (length places) plan.create

-- the link that begins at a port, by the layout once all is made
abbrev pub is_link_at : Option ℕ → Port → Link → Bool
is_link_at place x l = is_place l.from place && (x.require == l.require)

abbrev pub link_to : List (Option ℕ) → ℕ → Link → Option Event
link_to places p l = option_map (λ n. event.Link p n l.provide) (slot_of places l.to)

abbrev pub link_at : List (Option ℕ) → List Port → List Link → ℕ → Option Event
link_at places ports link p =
    option_and_then
    (λ (x : Port). option_and_then (link_to places p) (find (is_link_at (place_at places x.node) x) link))
    (slice_get ports p)

abbrev pub links_by : List (Option ℕ) → List Port → List Link → List Event
links_by places ports link = filter_map (link_at places ports link) (range_with_len 0 (length ports))

-- whether a port of so many is reopened: those that were closed and whose node isn't removed, and those that are made
abbrev pub is_reopened_at : List (Option ℕ) → List Port → Plan → ℕ → Bool
is_reopened_at places ports plan p =
    not (nat_lt p (length ports))
    || (is_among plan.freeze (owner_place places ports p) && not (is_among plan.remove (owner_place places ports p)))

abbrev pub reopens_by : List (Option ℕ) → List Port → Plan → ℕ → List ℕ
reopens_by places ports plan count = filter (is_reopened_at places ports plan) (range_with_len 0 count)

-- all that a commit does
abbrev pub commit_by : Graph → Graph → Plan → List (Option ℕ) → List Port → List Event
commit_by old new plan places ports =
    let after = places_after old new plan places in
    let made = ports_after new plan places ports in
    ((map event.Unlink (unlinks_by places ports plan.unlink)
    ++ (map event.Remove (removes_by places plan.remove) ++ makes_by places plan.moves new (length places) plan.create))
    ++ links_by after made plan.link)
    ++ map event.Reopen (reopens_by places ports plan (length made))
