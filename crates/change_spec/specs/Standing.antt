-- Whether a graph is that of a configuration (`IsGraphOf` of quiesce_core), found by tests alone.
use Rattle.std.specs.Prelude.{ℕ, Bool, true, false, not, ◌&&◌, ◌||◌, ◌==◌, List, [], ◌∷◌, length, slice_get, Option, Some, None}
use Rattle.std.specs.Cmp.Lexicographic.{slice_cmp}
use Rattle.std.specs.List.{list_all, list_any, range_with_len}
use Rattle.std.specs.Option.{option_map_or}
use Rattle.std.specs.Ordering.{nat_cmp}
use Rattle.std.specs.declared.cmp.Ordering.{Ordering}
use Rattle.std.specs.declared.cmp.Ordering.TheVariants.{Less}
use Rattle.config_graph.specs.Graph.{Graph, in_port_order, target_of}
use Rattle.config_graph.specs.contracts.node.LinkPartialEq as link_eq
use Rattle.config_graph.specs.declared.node.Link.{Link}
use Rattle.config_graph.specs.declared.node.Node.{Node}
use Rattle.config_graph.specs.declared.node.Target.{Target}
use Rattle.quiesce_core.specs.State.{Configuration, gate, owner, slot, target}
use Rattle.quiesce_core.specs.declared.state.Slot.{Slot}
use Rattle.change_spec.specs.Planning.{are_one, is_node}

-- paths rise, and links stand in the order of their ports
abbrev pub is_less : Ordering → Bool
is_less Less = true
is_less _ = false

abbrev pub comes_before : Node → Node → Bool
comes_before m n = is_less (slice_cmp nat_cmp m.path n.path)

abbrev pub paths_rise : List Node → Bool
paths_rise [] = true
paths_rise (n ∷ nodes) = list_all (comes_before n) nodes && paths_rise nodes

abbrev pub are_links : List Link → List Link → Bool
are_links [] [] = true
are_links (k ∷ ks) (l ∷ ls) = (link_eq.TheImpl.eq-value).it k l && are_links ks ls
are_links _ _ = false

-- whether the node of a slot is live and is this one
abbrev pub is_live_as : Option Node → Slot → Bool
is_live_as n m = m.live && are_one (Some m.node) n

-- whether the node at a place of the graph stands live in slot n
abbrev pub stands : Configuration → Graph → ℕ → ℕ → Bool
stands c g n i = option_map_or (is_live_as (slice_get g.nodes i)) (slot c n) false

-- whether each node of the graph is live, and each that is live is one of the graph
abbrev pub is_somewhere : Configuration → Node → Bool
is_somewhere c n = list_any (is_live_as (Some n)) c.slots

abbrev pub is_listed : Graph → Slot → Bool
is_listed g m = not m.live || list_any (is_node m.node) g.nodes

-- whether port p has the link of the graph from requirement r of node i to provision x of node j
abbrev pub leads_so : Configuration → Graph → ℕ → ℕ → Target → Bool
leads_so c g j x t = t.provide == x && stands c g t.node j

abbrev pub has_link : Configuration → Graph → Link → ℕ → Bool
has_link c g l p =
    (gate c p).require == l.require && (stands c g (owner c p) l.from
    && option_map_or (leads_so c g l.to l.provide) (target c p) false)

abbrev pub is_linked_somewhere : Configuration → Graph → Link → Bool
is_linked_somewhere c g l = list_any (has_link c g l) (range_with_len 0 (length c.gates))

-- whether the link of port p, from node i to node j, is one of the graph
abbrev pub is_target : ℕ → ℕ → Option Target → Bool
is_target j x (Some t) = t.node == j && t.provide == x
is_target j x None = false

abbrev pub is_in_graph : Configuration → Graph → ℕ → ℕ → ℕ → Target → Bool
is_in_graph c g p i j t = not (stands c g t.node j) || is_target j t.provide (target_of g.links i (gate c p).require)

abbrev pub is_link_listed : Configuration → Graph → ℕ → ℕ → ℕ → Bool
is_link_listed c g p i j = not (stands c g (owner c p) i) || option_map_or (is_in_graph c g p i j) (target c p) true

abbrev pub are_links_listed : Configuration → Graph → ℕ → Bool
are_links_listed c g p =
    list_all (λ i. list_all (is_link_listed c g p i) (range_with_len 0 (length g.nodes)))
    (range_with_len 0 (length g.nodes))

-- whether this is the graph of the configuration
abbrev pub is_graph_of : Configuration → Graph → Bool
is_graph_of c g =
    paths_rise g.nodes
    && (are_links (in_port_order g.nodes g.links) g.links
    && (list_all (is_somewhere c) g.nodes
    && (list_all (is_listed g) c.slots
    && (list_all (is_linked_somewhere c g) g.links
    && list_all (are_links_listed c g) (range_with_len 0 (length c.gates))))))
