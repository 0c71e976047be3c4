-- Tests of a description, one for each case of the faults of `check`: what passes them all has no fault, and where they refute
-- all cases but one, it is by this one.
use Rattle.std.proofs.Common.{◌≡◌, ◌∙◌, ℕ, Bool, true, false, not, ◌&&◌, ◌||◌, bytes_eq, List, [], ◌∷◌, length, map, slice_get, Option, Some, None, is_some, is_none, refl, sym, ap, subst, arith}
use Rattle.std.specs.Prelude.{◌==◌}
use Rattle.std.specs.List.{count_by, list_all}
use Rattle.std.specs.Option.{option_map_or, IsSome}
use Rattle.std.proofs.lemmas.Bool.{and_parts, both_ways, eqb-true, leb-true}
use Rattle.base.proofs.BytesLaws.{bytes_eq_self, same_bytes}
use Rattle.base.proofs.ContainsLaws.{Contains-at}
use Rattle.config_graph.specs.Kinds.{kind_named}
use Rattle.darwin_parser.specs.Tree.{Name, Tree, Component, InstEntry, PortRef}
use Rattle.darwin_parser.specs.Tree.InstEntry.{element}
use Rattle.darwin_types.specs.Scope.{has, component_named, entries_of, is_primitive, port_named, array_named, singles_of, instances_of, instance_component, Instantiation, made_by}
use Rattle.darwin_types.specs.Primitive.{is_like_kind}
use Rattle.darwin_types.specs.NameUses.{NameUse, value, variable, binding_end, names_of, name_uses}
use Rattle.darwin_types.specs.declared.error.TypeError.{TypeError}
use Rattle.darwin_types.specs.Faults.{is_repeated, FaultIn, HasFault, NoFault}
use Rattle.darwin_types.specs.Faults as fault
use Rattle.base.proofs.ListLaws.{all_have, counted_there, one_left}
use Rattle.darwin_types.specs.FaultCases.{Case, case_in, case_of}
use Rattle.darwin_types.specs.FaultCases as case

-- ---- truths

some_none : {A : Type 0} (o : Option A) → IsSome o → is_none o ≡ true → ⊥
some_none None some none = both_ways false refl some
some_none (Some x) some none = both_ways false refl none

second_holds : (a b : Bool) → a ≡ true → not a || b ≡ true → b ≡ true
second_holds true b is either = either
second_holds false b is either = absurd (both_ways false refl is)

either_way : (a b : Bool) → a ≡ true → b ≡ false → not a || b ≡ true → ⊥
either_way true b is none either = both_ways b none either
either_way false b is none either = both_ways false refl is

-- ---- tests of a description, one for each case; what passes has no fault by the case

abbrev are_new : List Name → Bool
are_new names = list_all (λ x. not (is_repeated names x)) names

-- no entry declares the instance with another component
abbrev is_alike : Name × Name → Name × Name → Bool
is_alike s r = not (bytes_eq s.0 r.0) || bytes_eq s.1 r.1

abbrev is_new : NameUse → Bool
is_new (variable scope x) = not (has scope x)
is_new _ = true

abbrev is_known_value : NameUse → Bool
is_known_value (value scope e) = list_all (has scope) (names_of e)
is_known_value _ = true

abbrev is_known_array : Component → InstEntry → Bool
is_known_array c (element x index args at) = is_some (array_named c x)
is_known_array c _ = true

abbrev is_known_port : Tree → Name → Name → Bool
is_known_port t port k = option_map_or (λ d. is_some (port_named d port)) (component_named t k) true

abbrev is_known_inner : Tree → Component → PortRef → Name → Bool
is_known_inner t c e x = option_map_or (is_known_port t e.port) (instance_component c x) true

-- the instance of an end, its port where that is one of an instance, and its port where it isn't
abbrev has_instance : Component → NameUse → Bool
has_instance c (binding_end e) = option_map_or (λ x. is_some (instance_component c x)) e.inst true
has_instance c _ = true

abbrev has_inner_port : Tree → Component → NameUse → Bool
has_inner_port t c (binding_end e) = option_map_or (is_known_inner t c e) e.inst true
has_inner_port t c _ = true

abbrev has_outer_port : Component → NameUse → Bool
has_outer_port c (binding_end e) = option_map_or (λ x. true) e.inst (is_some (port_named c e.port))
has_outer_port c _ = true

abbrev has_args : Tree → Instantiation → Bool
has_args t m = option_map_or (λ d. length m.args == length d.params) (component_named t m.component) true

abbrev fits : Tree → Component → InstEntry → Bool
fits t c e = option_map_or (has_args t) (made_by c e) true

abbrev is_kind : Component → Bool
is_kind c = not (is_primitive c) || is_some (kind_named c.name)

abbrev is_as_its_kind : Component → Bool
is_as_its_kind c = not (is_primitive c) || option_map_or (λ k. is_like_kind k c) (kind_named c.name) true

abbrev clear_in : Tree → Case → Component → Bool
clear_in t case.two_components c = true
clear_in t case.two_params c = are_new c.params
clear_in t case.two_ports c = are_new (map (λ p. p.name) c.ports)
clear_in t case.two_arrays c = are_new (map (λ a. a.name) c.arrays)
clear_in t case.array_and_single c = list_all (λ s. is_none (array_named c s.0)) (singles_of c)
clear_in t case.two_singles c = list_all (λ s. list_all (is_alike s) (singles_of c)) (singles_of c)
clear_in t case.two_values c = list_all is_new (name_uses c)
clear_in t case.unknown_value c = list_all is_known_value (name_uses c)
clear_in t case.unknown_array c = list_all (is_known_array c) (entries_of c.body)
clear_in t case.unknown_instance c = list_all (has_instance c) (name_uses c)
clear_in t case.unknown_inner_port c = list_all (has_inner_port t c) (name_uses c)
clear_in t case.unknown_outer_port c = list_all (has_outer_port c) (name_uses c)
clear_in t case.unknown_component c = list_all (λ s. is_some (component_named t s.1)) (instances_of c)
clear_in t case.arg_count c = list_all (fits t c) (entries_of c.body)
clear_in t case.unknown_kind c = is_kind c
clear_in t case.kind_ports c = is_as_its_kind c

abbrev names : Tree → List Name
names t = map (λ c. c.name) t

abbrev clear_names : Tree → Case → Bool
clear_names t case.two_components = are_new (names t)
clear_names t _ = true

abbrev pub is_clear : Tree → Case → Bool
is_clear t case = clear_names t case && list_all (clear_in t case) t

-- ---- what a test refutes

repeated : (names : List Name) (x : Name) → are_new names ≡ true → is_repeated names x ≡ true → ⊥
repeated names x clear two =
    let found = counted_there (bytes_eq x) names (omega (arith, leb-true 2 (count_by (bytes_eq x) names) two)) in
    both_ways (not (is_repeated names found.0)) (ap not (subst (λ y. is_repeated names y ≡ true) (same_bytes x found.0 found.2) two))
    (all_have (λ y. not (is_repeated names y)) names clear found.0 found.1)

none_in : (t : Tree) (c : Component) (e : TypeError) (f : FaultIn t c e) → clear_in t (case_in f) c ≡ true → ⊥
none_in t c _ (fault.two_params x two) clear = repeated c.params x clear two
none_in t c _ (fault.two_ports x two) clear = repeated (map (λ p. p.name) c.ports) x clear two
none_in t c _ (fault.two_arrays x two) clear = repeated (map (λ a. a.name) c.arrays) x clear two
none_in t c _ (fault.array_and_single x k there some) clear =
    some_none (array_named c x) some (all_have (λ (s : Name × Name). is_none (array_named c s.0)) (singles_of c) clear (x, k) there)
none_in t c _ (fault.two_singles x k l there other differ) clear =
    let alike : is_alike (x, k) (x, l) ≡ true =
    all_have (is_alike (x, k)) (singles_of c) (all_have (λ s. list_all (is_alike s) (singles_of c)) (singles_of c) clear (x, k) there) (x, l) other in
    differ (same_bytes k l (second_holds (bytes_eq x x) (bytes_eq k l) (bytes_eq_self x) alike))
none_in t c _ (fault.two_values scope x there old) clear =
    both_ways (not (has scope x)) (ap not old) (all_have is_new (name_uses c) clear (variable scope x) there)
none_in t c _ (fault.unknown_value scope e x there used unknown) clear =
    both_ways (has scope x) unknown (all_have (has scope) (names_of e) (all_have is_known_value (name_uses c) clear (value scope e) there) x used)
none_in t c _ (fault.unknown_array x index args at there none) clear =
    both_ways (is_some (array_named c x)) (ap is_some none) (all_have (is_known_array c) (entries_of c.body) clear (element x index args at) there)
none_in t c _ (fault.unknown_instance e x there inst none) clear =
    both_ways (has_instance c (binding_end e)) (
    ap (λ o. option_map_or (λ x. is_some (instance_component c x)) o true) inst ∙ ap is_some none
    ) (all_have (has_instance c) (name_uses c) clear (binding_end e) there)
none_in t c _ (fault.unknown_inner_port e x k d there inst found named none) clear =
    both_ways (has_inner_port t c (binding_end e)) (
    ap (λ o. option_map_or (is_known_inner t c e) o true) inst
    ∙ ap (λ o. option_map_or (is_known_port t e.port) o true) found
    ∙ ap (λ o. option_map_or (λ (d : Component). is_some (port_named d e.port)) o true) named
    ∙ ap is_some none
    ) (all_have (has_inner_port t c) (name_uses c) clear (binding_end e) there)
none_in t c _ (fault.unknown_outer_port e there inst none) clear =
    both_ways (has_outer_port c (binding_end e)) (
    ap (λ o. option_map_or (λ x. true) o (is_some (port_named c e.port))) inst ∙ ap is_some none
    ) (all_have (has_outer_port c) (name_uses c) clear (binding_end e) there)
none_in t c _ (fault.unknown_component x k there none) clear =
    both_ways (is_some (component_named t k)) (ap is_some none)
    (all_have (λ (s : Name × Name). is_some (component_named t s.1)) (instances_of c) clear (x, k) there)
none_in t c _ (fault.arg_count e m d there made found differ) clear =
    let same : has_args t m ≡ true =
    sym (ap (λ o. option_map_or (has_args t) o true) made) ∙ all_have (fits t c) (entries_of c.body) clear e there in
    differ (eqb-true (length m.args) (length d.params) (sym (ap (λ o. option_map_or (λ (d : Component). length m.args == length d.params) o true) found) ∙ same))
none_in t c _ (fault.unknown_kind primitive none) clear =
    either_way (is_primitive c) (is_some (kind_named c.name)) primitive (ap is_some none) clear
none_in t c _ (fault.kind_ports k primitive named unlike) clear =
    either_way (is_primitive c) (option_map_or (λ k. is_like_kind k c) (kind_named c.name) true) primitive
    (ap (λ o. option_map_or (λ k. is_like_kind k c) o true) named ∙ unlike) clear

pub none_of : (t : Tree) (e : TypeError) (f : HasFault t e) → is_clear t (case_of f) ≡ true → ⊥
none_of t _ (fault.two_components x two) clear =
    repeated (names t) x (and_parts (clear_names t case.two_components) (list_all (clear_in t case.two_components) t) clear).0 two
none_of t e (fault.within c _ there f) clear =
    none_in t c e f (all_have (clear_in t (case_in f)) t (and_parts (clear_names t (case_in f)) (list_all (clear_in t (case_in f)) t) clear).1 c there)

-- ---- cases as a list

abbrev pub cases : List Case
cases =
    case.two_components ∷ case.two_params ∷ case.two_ports ∷ case.two_arrays ∷ case.array_and_single ∷ case.two_singles
    ∷ case.two_values ∷ case.unknown_value ∷ case.unknown_array ∷ case.unknown_instance ∷ case.unknown_inner_port
    ∷ case.unknown_outer_port ∷ case.unknown_component ∷ case.arg_count ∷ case.unknown_kind ∷ case.kind_ports ∷ []

abbrev place : Case → ℕ
place case.two_components = 0
place case.two_params = 1
place case.two_ports = 2
place case.two_arrays = 3
place case.array_and_single = 4
place case.two_singles = 5
place case.two_values = 6
place case.unknown_value = 7
place case.unknown_array = 8
place case.unknown_instance = 9
place case.unknown_inner_port = 10
place case.unknown_outer_port = 11
place case.unknown_component = 12
place case.arg_count = 13
place case.unknown_kind = 14
place case.kind_ports = 15

at_place : (c : Case) → slice_get cases (place c) ≡ Some c
at_place case.two_components = refl
at_place case.two_params = refl
at_place case.two_ports = refl
at_place case.two_arrays = refl
at_place case.array_and_single = refl
at_place case.two_singles = refl
at_place case.two_values = refl
at_place case.unknown_value = refl
at_place case.unknown_array = refl
at_place case.unknown_instance = refl
at_place case.unknown_inner_port = refl
at_place case.unknown_outer_port = refl
at_place case.unknown_component = refl
at_place case.arg_count = refl
at_place case.unknown_kind = refl
at_place case.kind_ports = refl

-- the tests refute every case but this one
abbrev pub leaves_alone : Tree → Case → Bool
leaves_alone t c = list_all (λ d. place d == place c || is_clear t d) cases

pub alone : (t : Tree) (c : Case) → leaves_alone t c ≡ true → (e : TypeError) (f : HasFault t e) → case_of f ≡ c
alone t c left e f = one_left cases place at_place (is_clear t) c left (case_of f) (none_of t e f)

-- where the tests refute all, there is no fault
pub none_at_all : (t : Tree) → list_all (is_clear t) cases ≡ true → NoFault t
none_at_all t all e f =
    none_of t e f (all_have (is_clear t) cases all (case_of f) (Contains-at cases (place (case_of f)) (case_of f) (at_place (case_of f))))
