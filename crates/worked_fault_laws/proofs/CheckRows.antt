-- The rows of `check`: each description, its fault, and that no other case has one.
use Rattle.std.proofs.Common.{◌≡◌, ◌≢◌, ℕ, [], ◌∷◌, None, codes, true, get_or, refl, ap, arith}
use Rattle.base.proofs.ContainsLaws.{Contains-here, Contains-at}
use Rattle.darwin_parser.specs.Tree.{Name, Tree, Component, num, var, single}
use Rattle.darwin_types.specs.NameUses.{name_uses}
use Rattle.darwin_types.specs.Scope.{singles_of, instances_of, entries_of}
use Rattle.darwin_types.specs.declared.error.TypeError.{TypeError}
use Rattle.darwin_types.specs.Faults.{FaultIn}
use Rattle.darwin_types.specs.Faults as fault
use Rattle.config_graph.specs.declared.kind.Kind.TheVariants.{Sink}
use Rattle.darwin_parser.specs.Trees.{here, idle, inner, outer}
use Rattle.darwin_types.specs.FaultCases.{Case, case_in}
use Rattle.darwin_types.specs.FaultCases as case
use Rattle.darwin_types.proofs.CheckTestLaws.{alone, leaves_alone}
use Rattle.worked_fault_laws.specs.Checks.{StandsAlone, description}

abbrev first : Tree → Component
first [] = idle [] []
first (c ∷ others) = c

-- a fault of the first component, alone by its case
standing :
    (c : Case) (component : Component) (others : Tree) (e : TypeError) (f : FaultIn (component ∷ others) component e)
    → case_in f ≡ c → leaves_alone (component ∷ others) c ≡ true → StandsAlone (component ∷ others) c
standing c component others e f by_case left =
    record {
      error = e;
      stands = fault.within component e (Contains-here component others) f;
      by_case = by_case;
      alone = alone (component ∷ others) c left;
    }

other_letter : codes "A" ≢ codes "B"
other_letter same =
    let letters : 65 ≡ 66 = ap (λ (x : Name). get_or x 0 0) same in
    omega (arith, letters)

one_and_none : ◌≢◌ {A = ℕ} 1 0
one_and_none same = omega (arith, same)

pub rows : (c : Case) → StandsAlone (description c) c
rows case.two_components =
    record { error = _; stands = fault.two_components (codes "A") refl; by_case = refl; alone = alone (description case.two_components) case.two_components refl }
rows case.two_params = standing case.two_params _ _ _ (fault.two_params (codes "x") refl) refl refl
rows case.two_ports = standing case.two_ports _ _ _ (fault.two_ports (codes "p") refl) refl refl
rows case.two_arrays = standing case.two_arrays _ _ _ (fault.two_arrays (codes "a") refl) refl refl
rows case.array_and_single = standing case.array_and_single _ _ _ (fault.array_and_single (codes "e") (codes "A") (Contains-at (singles_of (first (description case.array_and_single))) 0 _ refl) refl) refl refl
rows case.two_singles = standing case.two_singles _ _ _ (fault.two_singles (codes "x") (codes "A") (codes "B") (Contains-at (singles_of (first (description case.two_singles))) 0 _ refl) (Contains-at (singles_of (first (description case.two_singles))) 1 _ refl) other_letter) refl refl
rows case.two_values = standing case.two_values _ _ _ (fault.two_values (codes "n" ∷ []) (codes "n") (Contains-at (name_uses (first (description case.two_values))) 2 _ refl) refl) refl refl
rows case.unknown_value = standing case.unknown_value _ _ _ (fault.unknown_value [] (var (codes "n")) (codes "n") (Contains-at (name_uses (first (description case.unknown_value))) 0 _ refl) (Contains-here (codes "n") []) refl) refl refl
rows case.unknown_array = standing case.unknown_array _ _ _ (fault.unknown_array (codes "a") (num 0) None here (Contains-at (entries_of (first (description case.unknown_array)).body) 0 _ refl) refl) refl refl
rows case.unknown_instance = standing case.unknown_instance _ _ _ (fault.unknown_instance (inner (codes "y") (codes "p")) (codes "y") (Contains-at (name_uses (first (description case.unknown_instance))) 1 _ refl) refl refl) refl refl
rows case.unknown_inner_port = standing case.unknown_inner_port _ _ _ (fault.unknown_inner_port (inner (codes "x") (codes "q")) (codes "x") (codes "A") _ (Contains-at (name_uses (first (description case.unknown_inner_port))) 1 _ refl) refl refl refl refl) refl refl
rows case.unknown_outer_port = standing case.unknown_outer_port _ _ _ (fault.unknown_outer_port (outer (codes "q")) (Contains-at (name_uses (first (description case.unknown_outer_port))) 2 _ refl) refl refl) refl refl
rows case.unknown_component = standing case.unknown_component _ _ _ (fault.unknown_component (codes "x") (codes "B") (Contains-at (instances_of (first (description case.unknown_component))) 0 _ refl) refl) refl refl
rows case.arg_count = standing case.arg_count _ _ _ (fault.arg_count (single (codes "x") (codes "A") (num 0 ∷ []) here) _ _ (Contains-at (entries_of (first (description case.arg_count)).body) 0 _ refl) refl refl one_and_none) refl refl
rows case.unknown_kind = standing case.unknown_kind _ _ _ (fault.unknown_kind refl refl) refl refl
rows case.kind_ports = standing case.kind_ports _ _ _ (fault.kind_ports Sink refl refl refl) refl refl
