-- To be believed (definitions.md).
-- Primitive components as node kinds.
use Rattle.std.specs.Prelude.{ℕ, Bool, true, false, List, map, length, ◌==◌, ◌&&◌, bytes_eq, is_none, is_some, cond}
use Rattle.std.specs.List.{list_any, list_all}
use Rattle.config_graph.specs.declared.kind.Kind.{Kind}
use Rattle.config_graph.specs.Kinds.{row}
use Rattle.darwin_parser.specs.declared.tree.Side.{Side}
use Rattle.darwin_parser.specs.declared.tree.Side.TheVariants.{Provide, Require}
use Rattle.darwin_parser.specs.Tree.{Name, Component, PortDecl, Stmts}
use Rattle.darwin_parser.specs.Tree.Stmts.{end, then}
use Rattle.darwin_types.specs.Scope.{has}

abbrev pub same_side : Side → Side → Bool
same_side Provide Provide = true
same_side Provide Require = false
same_side Require Provide = false
same_side Require Require = true

-- the names of the ports that a kind has on a side
abbrev pub ports_of_kind : Kind → Side → List Name
ports_of_kind k Provide = map (λ p. p.name) (row k).provides
ports_of_kind k Require = (row k).requires_

-- whether a port is on this side and has this name
abbrev pub is_port : Side → Name → PortDecl → Bool
is_port side name p = same_side p.side side && bytes_eq p.name name

-- whether one of the ports is on this side and has this name
abbrev pub has_port : List PortDecl → Side → Name → Bool
has_port ports side name = list_any (is_port side name) ports

-- whether a port is one of the kind's, and no port array
abbrev pub is_port_of : Kind → PortDecl → Bool
is_port_of k p = is_none p.size && has (ports_of_kind k p.side) p.name

-- whether each port of a component is one of its kind's, and no port array
abbrev pub has_only_ports_of : Kind → Component → Bool
has_only_ports_of k c = list_all (is_port_of k) c.ports

-- whether a component has each port that a kind has on a side
abbrev pub has_ports_on : Side → Kind → Component → Bool
has_ports_on side k c = list_all (has_port c.ports side) (ports_of_kind k side)

-- how many parameters a component of a kind has
abbrev pub params_of_kind : Kind → ℕ
params_of_kind k = cond (is_some (row k).arg) 1 0

abbrev pub is_end : Stmts → Bool
is_end end = true
is_end (then s rest) = false

-- whether a component has a kind's ports, whatever their order and their notes
abbrev pub has_ports_of : Kind → Component → Bool
has_ports_of k c = has_only_ports_of k c && has_ports_on Provide k c && has_ports_on Require k c

-- whether a component has a kind's number of parameters, and neither an array nor a statement
abbrev pub is_bare : Kind → Component → Bool
is_bare k c = length c.params == params_of_kind k && length c.arrays == 0 && is_end c.body

-- whether a component is declared as the kind
abbrev pub is_like_kind : Kind → Component → Bool
is_like_kind k c = is_bare k c && has_ports_of k c
