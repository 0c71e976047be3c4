-- To be believed (definitions.md).
-- The events that carry out a plan, from the configuration in which its commit begins. A plan names nodes by their
-- places in the old and the new graph, the machine by slots: they meet in the paths of live nodes. Ports are
-- unlinked, nodes removed, made in the slots that come next, and linked, and then ports are reopened, each in the
-- order of their numbers.
use Rattle.std.specs.Prelude.{ℕ, ◌+◌, Bool, false, not, ◌&&◌, ◌||◌, ◌==◌, nat_lt, List, [], ◌∷◌, ◌++◌, map, length, filter, filter_map, find, position, slice_get, unwrap_or, bytes_eq, Option, None, option_map, option_and_then}
use Rattle.std.specs.List.{list_any, range_with_len}
use Rattle.std.specs.Option.{option_map_or}
use Rattle.config_graph.specs.declared.node.Port.{Port}
use Rattle.change_plan.specs.declared.plan_data.Plan.{Plan}
use Rattle.change_plan.specs.declared.plan_data.Shift.{Shift}
use Rattle.config_graph.specs.Graph.{Graph}
use Rattle.config_graph.specs.declared.kind.Kind.TheVariants.{Fork}
use Rattle.config_graph.specs.declared.node.Link.{Link}
use Rattle.config_graph.specs.declared.node.Node.{Node}
use Rattle.quiesce_core.specs.declared.event.Event.{Event}
use Rattle.quiesce_core.specs.declared.event.Event.TheVariants.{Reopen}
use Rattle.quiesce_core.specs.declared.state.Slot.{Slot}
use Rattle.quiesce_core.specs.State.{Configuration, gate, is_live, owner, slot}
use Rattle.quiesce_laws.specs.Steps.{change_all}
use Rattle.quiesce_laws.specs.Work.{NewLink, NewNode, Work, link_new, work_of}

-- the path of a node of a graph
abbrev pub node_path : Graph → ℕ → List ℕ
node_path g i = option_map_or (λ (m : Node). m.path) (slice_get g.nodes i) []

-- whether the node of a slot is live and has this path
abbrev pub is_at : List ℕ → Slot → Bool
is_at path m = m.live && bytes_eq m.node.path path

-- whether node i of a graph is the live one in slot n
abbrev pub stands_in : Graph → ℕ → Configuration → ℕ → Bool
stands_in g i c n = option_map_or (is_at (node_path g i)) (slot c n) false

-- the slot of the live node with this path
abbrev pub slot_at : Configuration → List ℕ → Option ℕ
slot_at c path = position (is_at path) c.slots

-- the ports, and the slots, that pass a test, by their numbers
abbrev pub ports_where : (ℕ → Bool) → Configuration → List ℕ
ports_where test c = filter test (range_with_len 0 (length c.gates))

abbrev pub slots_where : (ℕ → Bool) → Configuration → List ℕ
slots_where test c = filter test (range_with_len 0 (length c.slots))

-- whether port p is one that the plan unlinks
abbrev pub is_unlinked_by : Graph → Plan → Configuration → ℕ → Bool
is_unlinked_by old plan c p =
    list_any (λ (q : Port). stands_in old q.node c (owner c p) && (gate c p).require == q.require) plan.unlink

-- whether the live node in slot n is at one of these places of a graph
abbrev pub is_one_of : Graph → List ℕ → Configuration → ℕ → Bool
is_one_of g places c n = list_any (λ i. stands_in g i c n) places

-- the node at a place of a graph
abbrev pub node_at : Graph → ℕ → Node
node_at g i = unwrap_or (slice_get g.nodes i) (record { path = []; kind = Fork; arg = None })

-- the slot of the node from which node j of the new graph takes its state
abbrev pub source_of : Graph → Plan → Configuration → ℕ → Option ℕ
source_of old plan c j =
    option_and_then (λ (s : Shift). slot_at c (node_path old s.old)) (find (λ (s : Shift). s.new == j) plan.moves)

-- these nodes of the new graph in the slots from k on
abbrev pub makes_from : Graph → Graph → Plan → Configuration → ℕ → List ℕ → List NewNode
makes_from old new plan c k [] = []
makes_from old new plan c k (j ∷ js) =
    record { slot = k; node = node_at new j; from = source_of old plan c j } ∷ makes_from old new plan c (k + 1) js

-- what is unlinked, removed and made
abbrev pub work : Graph → Graph → Plan → Configuration → Work
work old new plan c =
    record {
      unlinks = ports_where (is_unlinked_by old plan c) c;
      removes = slots_where (is_one_of old plan.remove c) c;
      makes = makes_from old new plan c (length c.slots) plan.create;
    }

-- whether a link of the new graph begins at port p
abbrev pub is_link_of : Graph → Configuration → ℕ → Link → Bool
is_link_of new d p l = stands_in new l.from d (owner d p) && (gate d p).require == l.require

-- the link of port p in the machine: to the slot of the node at which it ends
abbrev pub new_link : Graph → Configuration → ℕ → Link → Option NewLink
new_link new d p l =
    option_map (λ n. record { port = p; node = n; provide = l.provide }) (slot_at d (node_path new l.to))

-- the link that the plan makes at a port, if it makes one; and all of them
abbrev pub new_link_of : Graph → Plan → Configuration → ℕ → Option NewLink
new_link_of new plan d p = option_and_then (new_link new d p) (find (is_link_of new d p) plan.link)

abbrev pub new_links : Graph → Plan → Configuration → List NewLink
new_links new plan d = filter_map (new_link_of new plan d) (range_with_len 0 (length d.gates))

-- whether a port is one of a frozen node, or wasn't made when the commit began
abbrev pub is_frozen_or_new : Graph → Plan → Configuration → ℕ → Bool
is_frozen_or_new old plan c p = not (nat_lt p (length c.gates)) || is_one_of old plan.freeze c (owner c p)

-- the ports that are closed for the change: those of frozen nodes
abbrev pub ports_to_close : Graph → Plan → Configuration → List ℕ
ports_to_close old plan c = ports_where (λ p. is_one_of old plan.freeze c (owner c p)) c

-- all up to the last link
abbrev pub commit_steps : Graph → Graph → Plan → Configuration → List Event
commit_steps old new plan c =
    work_of (work old new plan c) ++ map link_new (new_links new plan (change_all c (work_of (work old new plan c))))

-- the ports that were closed for the change and those made in it, where they are live
abbrev pub ports_to_reopen : Graph → Plan → Configuration → Configuration → List ℕ
ports_to_reopen old plan c d = ports_where (λ p. is_live d (owner d p) && is_frozen_or_new old plan c p) d

abbrev pub reopened_ports : Graph → Graph → Plan → Configuration → List ℕ
reopened_ports old new plan c = ports_to_reopen old plan c (change_all c (commit_steps old new plan c))

-- and the whole commit
abbrev pub commit_events : Graph → Graph → Plan → Configuration → List Event
commit_events old new plan c =
    commit_steps old new plan c ++ map Reopen (reopened_ports old new plan c)
