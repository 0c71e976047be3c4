-- Descriptions each of which has a fault by one case of the definition of an elaboration's faults, and none by another.
use Rattle.std.specs.Prelude.{◌≡◌, pos, List, [], ◌∷◌, Some, None, codes}
use Rattle.darwin_parser.specs.declared.tree.Op.TheVariants.{Add, Div}
use Rattle.darwin_parser.specs.declared.tree.Side.TheVariants.{Provide, Require}
use Rattle.darwin_parser.specs.Tree.{Tree, num, op, Component, PortDecl, Stmt, forall, when, end}
use Rattle.darwin_types.specs.Faults.{NoFault}
use Rattle.elaborator.specs.FaultCases.{Case, FaultOf, Query, case_of}
use Rattle.elaborator.specs.FaultCases as fault_case
use Rattle.elaborator.specs.declared.error.ElabError.{ElabError}
use Rattle.darwin_parser.specs.Trees.{here, port, array, component, instance, instance_at, inner, outer, binding, row, unreached, idle}

-- nothing is wrong with the names of the description, a fault of its elaboration holds by this case, and none by
-- another
pub record StandsAlone (q : Query) (case : Case) : Type 0 where
  pub checked : NoFault q.tree
  pub error : ElabError
  pub stands : FaultOf q error
  pub by_case : case_of stands ≡ case
  pub alone : (e : ElabError) (other : FaultOf q e) → case_of other ≡ case

-- an elaboration of component A without arguments
abbrev of_tree : Tree → Query
of_tree tree = record { tree = tree; name = codes "A"; arguments = [] }

-- component A with these statements, which is composite by an entry that isn't reached
abbrev composite : List PortDecl → List Stmt → Component
composite ports statements = component (codes "A") [] ports [] (row statements)

-- component B with these ports, in which nothing is reached
abbrev with_ports : List PortDecl → Component
with_ports ports = idle (codes "B") ports

-- the description of a case
abbrev pub query : Case → Query
-- component B { when 0 inst e:B; }
query fault_case.no_top = of_tree (with_ports [] ∷ [])
-- component sink { provide in; }, the top
query fault_case.top_is_kind =
    record { tree = component (codes "sink") [] (port Provide (codes "in") None ∷ []) [] end ∷ []; name = codes "sink"; arguments = [] }
-- component A { when 0 inst e:A; }, with the argument 1
query fault_case.top_args = record { tree = idle (codes "A") [] ∷ []; name = codes "A"; arguments = pos 1 ∷ [] }
-- component A { when 2147483647 + 1 inst x:A; }
query fault_case.out_of_range =
    of_tree (composite [] (when (op Add (num 2147483647) (num 1)) (row (instance (codes "x") (codes "A") [] ∷ [])) here ∷ []) ∷ [])
-- component A { when 1 / 0 inst x:A; }
query fault_case.zero_divisor =
    of_tree (composite [] (when (op Div (num 1) (num 0)) (row (instance (codes "x") (codes "A") [] ∷ [])) here ∷ []) ∷ [])
-- component A { array a[1]:B; inst a[1]; } component B { when 0 inst e:B; }
query fault_case.bad_index =
    of_tree (component (codes "A") [] [] (array (codes "a") (codes "B") ∷ []) (row (instance_at (codes "a") 1 ∷ [])) ∷ with_ports [] ∷ [])
-- component A { inst x:B; inst x:B; } component B { when 0 inst e:B; }
query fault_case.two_instances =
    of_tree (composite [] (instance (codes "x") (codes "B") [] ∷ instance (codes "x") (codes "B") [] ∷ []) ∷ with_ports [] ∷ [])
-- Instances of two instances have one path by themselves only where a name has a full stop in it, as none of a text
-- has: component A { inst x.y:B; inst x:C; } component B { when 0 inst e:B; } component C { inst y:B; }
query fault_case.two_apart =
    of_tree (composite [] (instance (codes "x.y") (codes "B") [] ∷ instance (codes "x") (codes "C") [] ∷ []) ∷ with_ports [] ∷ component (codes "C") [] [] [] (row (instance (codes "y") (codes "B") [] ∷ [])) ∷ [])
-- component A { provide r; inst x:B; bind r -- x.p; bind r -- x.q; } component B { provide p; provide q; when 0 inst
-- e:B; }
query fault_case.bound_twice =
    of_tree (composite (port Provide (codes "r") None ∷ []) (instance (codes "x") (codes "B") [] ∷ binding (outer (codes "r")) (inner (codes "x") (codes "p")) ∷ binding (outer (codes "r")) (inner (codes "x") (codes "q")) ∷ []) ∷ with_ports (port Provide (codes "p") None ∷ port Provide (codes "q") None ∷ []) ∷ [])
-- component A { provide r; bind r -- r; when 0 inst e:A; }
query fault_case.bad_binding =
    of_tree (composite (port Provide (codes "r") None ∷ []) (binding (outer (codes "r")) (outer (codes "r")) ∷ unreached (codes "A") [] ∷ []) ∷ [])
-- component A { provide r <m>; inst x:B; bind r -- x.p; } component B { provide p <n>; when 0 inst e:B; }
query fault_case.annotation =
    of_tree (composite (port Provide (codes "r") (Some (codes "m" ∷ [])) ∷ []) (instance (codes "x") (codes "B") [] ∷ binding (outer (codes "r")) (inner (codes "x") (codes "p")) ∷ []) ∷ with_ports (port Provide (codes "p") (Some (codes "n" ∷ [])) ∷ []) ∷ [])
-- component A { inst x:A; }
query fault_case.too_deep = of_tree (composite [] (instance (codes "x") (codes "A") [] ∷ []) ∷ [])
-- component A { forall i:1..65537 { } when 0 inst e:A; }
query fault_case.too_many =
    of_tree (composite [] (forall (codes "i") (num 1) (num 65537) end here ∷ unreached (codes "A") [] ∷ []) ∷ [])
-- component A { inst m:map(1); bind m.next -- m.in; } component map(int k) { provide in; require next; }
query fault_case.depends_cycle =
    of_tree (composite [] (instance (codes "m") (codes "map") (num 1 ∷ []) ∷ binding (inner (codes "m") (codes "next")) (inner (codes "m") (codes "in")) ∷ []) ∷ component (codes "map") (codes "k" ∷ []) (port Provide (codes "in") None ∷ port Require (codes "next") None ∷ []) [] end ∷ [])
