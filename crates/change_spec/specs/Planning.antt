-- The plan from one graph to another, computed. What a plan must be (`IsPlanOf` of change_plan) is found here by
-- tests alone, so that it can be evaluated on a pair of graphs.
use Rattle.std.specs.Prelude.{ℕ, zero, suc, Bool, true, false, not, ◌&&◌, ◌||◌, ◌==◌, nat_lt, List, [], ◌∷◌, map, length, take, filter, flat_map, slice_get, bytes_eq, Option, Some, None}
use Rattle.std.specs.List.{list_all, list_any, range_with_len}
use Rattle.std.specs.Option.{option_map_or}
use Rattle.config_graph.specs.Cycles.{depends_at}
use Rattle.config_graph.specs.Graph.{Graph, requires_at, target_of}
use Rattle.config_graph.specs.contracts.kind.KindPartialEq as kind_eq
use Rattle.config_graph.specs.contracts.node.NodePartialEq as node_eq
use Rattle.config_graph.specs.declared.node.Link.{Link}
use Rattle.config_graph.specs.declared.node.Node.{Node}
use Rattle.config_graph.specs.declared.node.Target.{Target}
use Rattle.change_plan.specs.Differences.{link_port}
use Rattle.change_plan.specs.declared.plan_data.Move.{Move}
use Rattle.change_plan.specs.declared.plan_data.Plan.{Plan}
use Rattle.change_plan.specs.declared.plan_data.Shift.{Shift}

-- whether two nodes are the same: path, kind and argument
abbrev pub is_node : Node → Node → Bool
is_node m n = (node_eq.TheImpl.eq-value).it m n

-- whether both are there and the same
abbrev pub are_one : Option Node → Option Node → Bool
are_one (Some m) (Some n) = is_node m n
are_one _ _ = false

-- whether node i of g and node j of h are the same
abbrev pub is_twin : Graph → Graph → ℕ → ℕ → Bool
is_twin g h i j = are_one (slice_get g.nodes i) (slice_get h.nodes j)

-- whether g has a node i and h hasn't that node
abbrev pub is_lacking : Graph → Option Node → Bool
is_lacking h (Some m) = not (list_any (is_node m) h.nodes)
is_lacking h None = false

abbrev pub is_gone : Graph → Graph → ℕ → Bool
is_gone g h i = is_lacking h (slice_get g.nodes i)

abbrev pub gone_nodes : Graph → Graph → List ℕ
gone_nodes g h = filter (is_gone g h) (range_with_len 0 (length g.nodes))

-- whether link k of g and link l of h are the same; and the links of g that aren't in h
abbrev pub is_same_link : Graph → Graph → Link → Link → Bool
is_same_link g h k l =
    is_twin g h k.from l.from && (k.require == l.require && (is_twin g h k.to l.to && k.provide == l.provide))

abbrev pub is_kept_link : Graph → Graph → Link → Bool
is_kept_link g h k = list_any (is_same_link g h k) h.links

abbrev pub gone_links : Graph → Graph → List Link
gone_links g h = filter (λ k. not (is_kept_link g h k)) g.links

-- whether node i stays and has a port whose target differs; and whether it is touched
abbrev pub is_same_target : Graph → Graph → Option Target → Option Target → Bool
is_same_target g h None None = true
is_same_target g h None (Some u) = false
is_same_target g h (Some t) None = false
is_same_target g h (Some t) (Some u) = is_twin g h t.node u.node && t.provide == u.provide

abbrev pub leads_elsewhere : Graph → Graph → ℕ → ℕ → ℕ → Bool
leads_elsewhere g h i j r = not (is_same_target g h (target_of g.links i r) (target_of h.links j r))

abbrev pub is_relinked_as : Graph → Graph → ℕ → ℕ → Bool
is_relinked_as g h i j =
    is_twin g h i j && list_any (leads_elsewhere g h i j) (range_with_len 0 (requires_at g.nodes i))

abbrev pub is_relinked : Graph → Graph → ℕ → Bool
is_relinked g h i = list_any (is_relinked_as g h i) (range_with_len 0 (length h.nodes))

abbrev pub is_touched : Graph → Graph → ℕ → Bool
is_touched old new i = is_gone old new i || is_relinked old new i

-- whether a port leads to a node of a set within so many links
abbrev pub leads_within : Graph → (ℕ → Bool) → ℕ → ℕ → ℕ → Bool
leads_within g set zero i r = false
leads_within g set (suc k) i r =
    option_map_or
    (λ (t : Target). set t.node || list_any (λ (l : Link). l.from == t.node
    && (depends_at g.nodes t.node t.provide l.require && leads_within g set k t.node l.require)) g.links)
    (target_of g.links i r) false

-- a way without a cycle has no more links than there are nodes
abbrev pub leads_to : Graph → (ℕ → Bool) → ℕ → ℕ → Bool
leads_to g set i r = leads_within g set (length g.nodes) i r

-- whether a port of node i leads to a touched node; and whether the node is frozen
abbrev pub leads_to_touched : Graph → Graph → ℕ → Link → Bool
leads_to_touched old new i l = l.from == i && leads_to old (is_touched old new) i l.require

abbrev pub is_frozen : Graph → Graph → ℕ → Bool
is_frozen old new i = is_touched old new i || list_any (leads_to_touched old new i) old.links

-- the moves by the places of the nodes, in the order of those that are created
abbrev pub is_gone_at : Graph → Graph → List ℕ → ℕ → Bool
is_gone_at g h path i = is_gone g h i && option_map_or (λ (m : Node). bytes_eq m.path path) (slice_get g.nodes i) false

abbrev pub is_led : Graph → Graph → Shift → Move → Bool
is_led old new s m = is_gone_at old new m.from s.old && is_gone_at new old m.to s.new

abbrev pub is_shift : Graph → Graph → List Move → Shift → Bool
is_shift old new moves s = list_any (is_led old new s) moves

abbrev pub shifts_to : Graph → ℕ → List Shift
shifts_to old j = map (λ i. record { old = i; new = j }) (range_with_len 0 (length old.nodes))

abbrev pub all_shifts : Graph → Graph → List Shift
all_shifts old new = flat_map (shifts_to old) (range_with_len 0 (length new.nodes))

abbrev pub shifts : Graph → Graph → List Move → List Shift
shifts old new moves = filter (is_shift old new moves) (all_shifts old new)

-- whether a move leads from a removed node to a created one of its kind, and whether it may be made beside those
-- before it, which have other sources and targets
abbrev pub have_one_kind : Option Node → Option Node → Bool
have_one_kind (Some m) (Some n) = (kind_eq.TheImpl.eq-value).it m.kind n.kind
have_one_kind _ _ = false

abbrev pub is_fit_as : Graph → Graph → Move → Shift → Bool
is_fit_as old new m s = is_led old new s m && have_one_kind (slice_get old.nodes s.old) (slice_get new.nodes s.new)

abbrev pub is_fit : Graph → Graph → Move → Bool
is_fit old new m = list_any (is_fit_as old new m) (all_shifts old new)

abbrev pub may_move : Graph → Graph → List Move → Move → Bool
may_move old new before m =
    is_fit old new m
    && (not (list_any (λ (b : Move). bytes_eq b.from m.from) before)
    && not (list_any (λ (b : Move). bytes_eq b.to m.to) before))

abbrev pub may_move_at : Graph → Graph → List Move → ℕ → Bool
may_move_at old new moves k = option_map_or (may_move old new (take k moves)) (slice_get moves k) true

abbrev pub may_move_all : Graph → Graph → List Move → Bool
may_move_all old new moves = list_all (may_move_at old new moves) (range_with_len 0 (length moves))

-- the plan
abbrev pub planned : Graph → Graph → List Move → Plan
planned old new moves =
    record {
      unlink = map link_port (gone_links old new);
      remove = gone_nodes old new;
      create = gone_nodes new old;
      link = gone_links new old;
      moves = shifts old new moves;
      freeze = filter (is_frozen old new) (range_with_len 0 (length old.nodes));
    }

-- Whether that is right, which it is where the old graph has no cycle and each move may be made: links begin at
-- nodes, one link more leads to no new node, and no two moves lead to one node.
abbrev pub leads_no_further : Graph → (ℕ → Bool) → Link → Bool
leads_no_further g set l =
    not (leads_within g set (suc (length g.nodes)) l.from l.require) || leads_to g set l.from l.require

abbrev pub rises : List ℕ → Bool
rises [] = true
rises (a ∷ []) = true
rises (a ∷ (b ∷ more_)) = nat_lt a b && rises (b ∷ more_)

abbrev pub can_be_planned : Graph → Graph → List Move → Bool
can_be_planned old new moves =
    may_move_all old new moves
    && (list_all (λ (l : Link). nat_lt l.from (length old.nodes)) old.links
    && (list_all (leads_no_further old (is_touched old new)) old.links
    && rises (map (λ (s : Shift). s.new) (shifts old new moves))))
