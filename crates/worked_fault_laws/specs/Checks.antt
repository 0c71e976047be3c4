-- Descriptions each of which has a fault by one case of the definition of `check`'s faults, and none by another.
use Rattle.std.specs.Prelude.{◌≡◌, [], ◌∷◌, None, codes}
use Rattle.darwin_parser.specs.declared.tree.Side.TheVariants.{Provide}
use Rattle.darwin_parser.specs.Tree.{Tree, num, var, forall, when}
use Rattle.darwin_types.specs.declared.error.TypeError.{TypeError}
use Rattle.darwin_types.specs.FaultCases.{Case, case_of}
use Rattle.darwin_types.specs.FaultCases as fault_case
use Rattle.darwin_types.specs.Faults.{HasFault}
use Rattle.darwin_parser.specs.Trees.{here, port, array, component, instance, instance_at, inner, outer, binding, row, unreached, idle}

-- a fault stands in the description by this case, and none by another
pub record StandsAlone (t : Tree) (case : Case) : Type 0 where
  pub error : TypeError
  pub stands : HasFault t error
  pub by_case : case_of stands ≡ case
  pub alone : (e : TypeError) (other : HasFault t e) → case_of other ≡ case

-- the description of a case
abbrev pub description : Case → Tree
-- component A { when 0 inst e:A; } component A { when 0 inst e:A; }
description fault_case.two_components = idle (codes "A") [] ∷ idle (codes "A") [] ∷ []
-- component A(int x, int x) { when 0 inst e:A(0, 0); }
description fault_case.two_params =
    component (codes "A") (codes "x" ∷ codes "x" ∷ []) [] [] (row (unreached (codes "A") (num 0 ∷ num 0 ∷ []) ∷ [])) ∷ []
-- component A { provide p; provide p; when 0 inst e:A; }
description fault_case.two_ports =
    idle (codes "A") (port Provide (codes "p") None ∷ port Provide (codes "p") None ∷ []) ∷ []
-- component A { array a[1]:A; array a[1]:A; when 0 inst e:A; }
description fault_case.two_arrays =
    component (codes "A") [] [] (array (codes "a") (codes "A") ∷ array (codes "a") (codes "A") ∷ []) (row (unreached (codes "A") [] ∷ [])) ∷ []
-- component A { array e[1]:A; when 0 inst e:A; }
description fault_case.array_and_single =
    component (codes "A") [] [] (array (codes "e") (codes "A") ∷ []) (row (unreached (codes "A") [] ∷ [])) ∷ []
-- component A { inst x:A; inst x:B; } component B { when 0 inst e:B; }
description fault_case.two_singles =
    component (codes "A") [] [] [] (row (instance (codes "x") (codes "A") [] ∷ instance (codes "x") (codes "B") [] ∷ [])) ∷ idle (codes "B") [] ∷ []
-- component A(int n) { forall n:0..1 inst x:A(0); }
description fault_case.two_values =
    component (codes "A") (codes "n" ∷ []) [] [] (row (forall (codes "n") (num 0) (num 1) (row (instance (codes "x") (codes "A") (num 0 ∷ []) ∷ [])) here ∷ [])) ∷ []
-- component A { when n inst x:A; }
description fault_case.unknown_value =
    component (codes "A") [] [] [] (row (when (var (codes "n")) (row (instance (codes "x") (codes "A") [] ∷ [])) here ∷ [])) ∷ []
-- component A { inst a[0]; }
description fault_case.unknown_array = component (codes "A") [] [] [] (row (instance_at (codes "a") 0 ∷ [])) ∷ []
-- component A { provide p; inst x:A; bind y.p -- p; }
description fault_case.unknown_instance =
    component (codes "A") [] (port Provide (codes "p") None ∷ []) [] (row (instance (codes "x") (codes "A") [] ∷ binding (inner (codes "y") (codes "p")) (outer (codes "p")) ∷ [])) ∷ []
-- component A { provide p; inst x:A; bind x.q -- p; }
description fault_case.unknown_inner_port =
    component (codes "A") [] (port Provide (codes "p") None ∷ []) [] (row (instance (codes "x") (codes "A") [] ∷ binding (inner (codes "x") (codes "q")) (outer (codes "p")) ∷ [])) ∷ []
-- component A { provide p; inst x:A; bind x.p -- q; }
description fault_case.unknown_outer_port =
    component (codes "A") [] (port Provide (codes "p") None ∷ []) [] (row (instance (codes "x") (codes "A") [] ∷ binding (inner (codes "x") (codes "p")) (outer (codes "q")) ∷ [])) ∷ []
-- component A { inst x:B; }
description fault_case.unknown_component =
    component (codes "A") [] [] [] (row (instance (codes "x") (codes "B") [] ∷ [])) ∷ []
-- component A { inst x:A(0); }
description fault_case.arg_count =
    component (codes "A") [] [] [] (row (instance (codes "x") (codes "A") (num 0 ∷ []) ∷ [])) ∷ []
-- component A { }
description fault_case.unknown_kind = component (codes "A") [] [] [] (row []) ∷ []
-- component sink { }
description fault_case.kind_ports = component (codes "sink") [] [] [] (row []) ∷ []
