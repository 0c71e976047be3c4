-- The cases of the definition of a description's faults, by their names.
use Rattle.darwin_parser.specs.Tree.{Tree, Component}
use Rattle.darwin_types.specs.declared.error.TypeError.{TypeError}
use Rattle.darwin_types.specs.Faults.{FaultIn, HasFault}
use Rattle.darwin_types.specs.Faults as fault

-- the cases of the definition
pub data Case : Type 0 where
  two_components : Case
  two_params : Case
  two_ports : Case
  two_arrays : Case
  array_and_single : Case
  two_singles : Case
  two_values : Case
  unknown_value : Case
  unknown_array : Case
  unknown_instance : Case
  unknown_inner_port : Case
  unknown_outer_port : Case
  unknown_component : Case
  arg_count : Case
  unknown_kind : Case
  kind_ports : Case

-- the case by which a fault stands in a component
abbrev pub case_in : {t : Tree} {c : Component} {e : TypeError} → FaultIn t c e → Case
case_in (fault.two_params _ _) = two_params
case_in (fault.two_ports _ _) = two_ports
case_in (fault.two_arrays _ _) = two_arrays
case_in (fault.array_and_single _ _ _ _) = array_and_single
case_in (fault.two_singles _ _ _ _ _ _) = two_singles
case_in (fault.two_values _ _ _ _) = two_values
case_in (fault.unknown_value _ _ _ _ _ _) = unknown_value
case_in (fault.unknown_array _ _ _ _ _ _) = unknown_array
case_in (fault.unknown_instance _ _ _ _ _) = unknown_instance
case_in (fault.unknown_inner_port _ _ _ _ _ _ _ _ _) = unknown_inner_port
case_in (fault.unknown_outer_port _ _ _ _) = unknown_outer_port
case_in (fault.unknown_component _ _ _ _) = unknown_component
case_in (fault.arg_count _ _ _ _ _ _ _) = arg_count
case_in (fault.unknown_kind _ _) = unknown_kind
case_in (fault.kind_ports _ _ _ _) = kind_ports

-- the case by which a fault stands in a description
abbrev pub case_of : {t : Tree} {e : TypeError} → HasFault t e → Case
case_of (fault.two_components _ _) = two_components
case_of (fault.within _ _ _ stands) = case_in stands
