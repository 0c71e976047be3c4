-- The cases of the definition of an elaboration's faults, by their names.
use Rattle.std.specs.Prelude.{ℤ, List}
use Rattle.darwin_parser.specs.Tree.{Name, Tree}
use Rattle.elaborator.specs.Faults.{Faults}
use Rattle.elaborator.specs.Faults as fault
use Rattle.elaborator.specs.declared.error.ElabError.{ElabError}

-- the cases of the definition
pub data Case : Type 0 where
  no_top : Case
  top_is_kind : Case
  top_args : Case
  out_of_range : Case
  zero_divisor : Case
  bad_index : Case
  two_instances : Case
  two_apart : Case
  bound_twice : Case
  bad_binding : Case
  annotation : Case
  too_deep : Case
  too_many : Case
  depends_cycle : Case

-- a description, with the name of the component at the top, and its arguments
pub record Query : Type 0 where
  pub tree : Tree
  pub name : Name
  pub arguments : List ℤ

abbrev pub FaultOf : Query → ElabError → Type 0
FaultOf q = Faults q.tree q.name q.arguments

-- the case by which a fault holds
abbrev pub case_of : {tree : Tree} {name : Name} {arguments : List ℤ} {e : ElabError} → Faults tree name arguments e → Case
case_of (fault.no_top _) = no_top
case_of (fault.top_is_kind _ _ _) = top_is_kind
case_of (fault.top_args _ _ _) = top_args
case_of (fault.out_of_range _ _ _ _) = out_of_range
case_of (fault.zero_divisor _ _ _ _) = zero_divisor
case_of (fault.bad_index _ _ _ _) = bad_index
case_of (fault.two_instances _ _ _ _) = two_instances
case_of (fault.two_apart _ _ _ _ _ _ _ _) = two_apart
case_of (fault.bound_twice _ _ _ _ _ _ _ _) = bound_twice
case_of (fault.bad_binding _ _ _ _ _) = bad_binding
case_of (fault.annotation _ _ _ _ _) = annotation
case_of (fault.too_deep _ _ _) = too_deep
case_of (fault.too_many _ _ _) = too_many
case_of (fault.depends_cycle _ _ _ _ _ _ _ _) = depends_cycle
