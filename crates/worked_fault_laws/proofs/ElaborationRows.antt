-- The rows of elaborations: each description, its fault, and that no other case has one.
use Rattle.std.proofs.Common.{◌≡◌, ℕ, true, List, [], ◌∷◌, length, Some, None, codes, sum_by, get_or, slice_get, refl, ap, sym, subst, arith}
use Rattle.std.specs.List.{list_all}
use Rattle.base.proofs.ContainsLaws.{Contains-at, Contains-one}
use Rattle.darwin_parser.specs.Tree.{Name, Tree, Component}
use Rattle.darwin_walk.specs.Instance.{Binding, End}
use Rattle.elaborator.specs.Bindings.{Port, bindings_in, pairs_in}
use Rattle.elaborator.specs.Instances.{Inst, Instance, count_in, instances, levels, paths_in}
use Rattle.elaborator.specs.Instances.Inst.{at_top}
use Rattle.elaborator.specs.Faults.{CountsMore, Twice, faults_in}
use Rattle.elaborator.specs.Faults as fault
use Rattle.elaborator.specs.Faults.NotesDiffer.{differ}
use Rattle.elaborator.specs.Faults.Twice.{twice}
use Rattle.elaborator.specs.declared.error.ElabError.{ElabError}
use Rattle.elaborator.proofs.InstanceLaws.{instances-listed}
use Rattle.elaborator.proofs.TwiceLaws.{twice_places}
use Rattle.std.proofs.lemmas.Option.{slice_get_within}
use Rattle.worked_fault_laws.proofs.CycleLemmas.{the_graph, is_graph, is_first, map_node}
use Rattle.darwin_parser.specs.Trees.{here, idle, component, instance, row}
use Rattle.darwin_types.proofs.CheckTestLaws as checks
use Rattle.elaborator.specs.FaultCases.{Case, FaultOf, case_of}
use Rattle.elaborator.specs.FaultCases as case
use Rattle.elaborator.proofs.ElaborationTestLaws.{alone, leaves_alone}
use Rattle.worked_fault_laws.specs.Elaborations.{StandsAlone, query}

-- a fault of a checked description, alone by its case
standing :
    (c : Case) (e : ElabError) (f : FaultOf (query c) e) → list_all (checks.is_clear (query c).tree) checks.cases ≡ true → case_of f ≡ c
    → leaves_alone length (query c) c ≡ true → StandsAlone (query c) c
standing c e f clear by_case left =
    record {
      checked = checks.none_at_all (query c).tree clear;
      error = e;
      stands = f;
      by_case = by_case;
      alone = alone length (query c) c left;
    }

no_top : StandsAlone (query case.no_top) case.no_top
unfolding levels
no_top = standing case.no_top _ (fault.no_top refl) refl refl refl

top_is_kind : StandsAlone (query case.top_is_kind) case.top_is_kind
unfolding levels
top_is_kind = standing case.top_is_kind _ (fault.top_is_kind _ refl refl) refl refl refl

top_args : StandsAlone (query case.top_args) case.top_args
unfolding levels
top_args = standing case.top_args _ (fault.top_args _ refl (λ same. omega (arith, same))) refl refl refl

-- the top of an elaboration without arguments of the first component
abbrev first : Tree → Component
first [] = idle [] []
first (c ∷ others) = c

abbrev top : Case → Instance
top c = record { path = []; depth = 0; component = first (query c).tree; env = [] }

out_of_range : StandsAlone (query case.out_of_range) case.out_of_range
unfolding levels
out_of_range = standing case.out_of_range _ (fault.out_of_range (top case.out_of_range) here (record { top = top case.out_of_range; is_top = refl; inst = at_top }) (Contains-at (faults_in (query case.out_of_range).tree (top case.out_of_range)) 0 _ refl)) refl refl refl

zero_divisor : StandsAlone (query case.zero_divisor) case.zero_divisor
unfolding levels
zero_divisor = standing case.zero_divisor _ (fault.zero_divisor (top case.zero_divisor) here (record { top = top case.zero_divisor; is_top = refl; inst = at_top }) (Contains-at (faults_in (query case.zero_divisor).tree (top case.zero_divisor)) 0 _ refl)) refl refl refl

bad_index : StandsAlone (query case.bad_index) case.bad_index
unfolding levels
bad_index = standing case.bad_index _ (fault.bad_index (top case.bad_index) here (record { top = top case.bad_index; is_top = refl; inst = at_top }) (Contains-at (faults_in (query case.bad_index).tree (top case.bad_index)) 0 _ refl)) refl refl refl

two_instances : StandsAlone (query case.two_instances) case.two_instances
unfolding levels
two_instances = standing case.two_instances _ (fault.two_instances (top case.two_instances) (codes "x") (record { top = top case.two_instances; is_top = refl; inst = at_top }) (twice [] [] [] refl)) refl refl refl

-- the instance at a place of the list
listed : (c : Case) (n : ℕ) (i : Instance) → slice_get (instances (query c).tree (top c)) n ≡ Some i → Inst (query c).tree (top c) i
listed c n i at = (instances-listed (query c).tree (top c) i refl).1 (Contains-at (instances (query c).tree (top c)) n i at)

second_maker : Instance
second_maker = record { path = codes "x"; depth = 1; component = component (codes "C") [] [] [] (row (instance (codes "y") (codes "B") [] ∷ [])); env = [] }

two_apart : StandsAlone (query case.two_apart) case.two_apart
unfolding levels second_maker
two_apart =
    standing case.two_apart _ (fault.two_apart (top case.two_apart) second_maker (codes "x.y") (record { top = top case.two_apart; is_top = refl; inst = at_top }) (record { top = top case.two_apart; is_top = refl; inst = listed case.two_apart 2 second_maker refl }) (λ same.
    let depths : ◌≡◌ {A = ℕ} 0 1 = ap (λ (i : Instance). i.depth) same in
    omega (arith, depths)) (Contains-at (paths_in (query case.two_apart).tree (top case.two_apart)) 0 _ refl) (Contains-at (paths_in (query case.two_apart).tree second_maker) 0 _ refl)) refl refl refl

bound_twice : StandsAlone (query case.bound_twice) case.bound_twice
unfolding levels
bound_twice =
    standing case.bound_twice _ (fault.bound_twice (top case.bound_twice) _ _ (record { top = top case.bound_twice; is_top = refl; inst = at_top }) (Contains-at (pairs_in (query case.bound_twice).tree (top case.bound_twice)) 0 _ refl) (Contains-at (pairs_in (query case.bound_twice).tree (top case.bound_twice)) 1 _ refl) refl (λ same.
    let letters : ◌≡◌ {A = ℕ} 112 113 = ap (λ (x : Port). get_or x.name 0 0) same in
    omega (arith, letters))) refl refl refl

abbrev outer_end : Name → End
outer_end name = record { inner = None; port = name; index = None }

abbrev x_p : End
x_p = record { inner = Some (record { name = codes "x"; index = None }); port = codes "p"; index = None }

abbrev bound : End → End → Binding
bound left right = record { left = left; right = right; at = here }

bad_binding : StandsAlone (query case.bad_binding) case.bad_binding
unfolding levels
bad_binding = standing case.bad_binding _ (fault.bad_binding (top case.bad_binding) (bound (outer_end (codes "r")) (outer_end (codes "r"))) (record { top = top case.bad_binding; is_top = refl; inst = at_top }) (Contains-at (bindings_in (top case.bad_binding)) 0 _ refl) refl) refl refl refl

annotation : StandsAlone (query case.annotation) case.annotation
unfolding levels
annotation =
    standing case.annotation _ (fault.annotation (top case.annotation) (bound (outer_end (codes "r")) x_p) (record { top = top case.annotation; is_top = refl; inst = at_top }) (Contains-at (bindings_in (top case.annotation)) 0 _ refl) (differ _ _ (codes "m" ∷ []) (codes "n" ∷ []) refl refl refl refl (λ same.
    let letters : ◌≡◌ {A = ℕ} 109 110 = ap (λ (names : List Name). get_or (get_or names 0 []) 0 0) same in
    omega (arith, letters)))) refl refl refl

too_deep : StandsAlone (query case.too_deep) case.too_deep
unfolding levels
too_deep = standing case.too_deep _ (fault.too_deep _ (record { top = top case.too_deep; is_top = refl; inst = listed case.too_deep 33 _ refl }) refl) refl refl refl

one_top : (i : Instance) → ¬ Twice (top case.too_many ∷ []) i
one_top i two =
    let places = twice_places (top case.too_many ∷ []) i two in
    let below = slice_get_within (top case.too_many ∷ []) places.1 i places.4 in
    omega (arith, places.2, below)

counts : CountsMore (query case.too_many).tree (top case.too_many) 65536
unfolding levels
counts =
    let sum : sum_by count_in (top case.too_many ∷ []) ≡ 65537 = refl in
    record {
      counted = top case.too_many ∷ [];
      once = one_top;
      each = λ i there. subst (Inst (query case.too_many).tree (top case.too_many)) (sym (Contains-one (top case.too_many) i there)) at_top;
      above = omega (arith, sum);
    }

too_many : StandsAlone (query case.too_many) case.too_many
unfolding levels
too_many = standing case.too_many _ (fault.too_many (top case.too_many) refl counts) refl refl refl

cycle : StandsAlone (query case.depends_cycle) case.depends_cycle
unfolding levels
cycle = standing case.depends_cycle _ (fault.depends_cycle (top case.depends_cycle) the_graph 0 map_node refl is_graph is_first refl) refl refl refl

-- each case has its row
pub rows : (c : Case) → StandsAlone (query c) c
rows case.no_top = no_top
rows case.top_is_kind = top_is_kind
rows case.top_args = top_args
rows case.out_of_range = out_of_range
rows case.zero_divisor = zero_divisor
rows case.bad_index = bad_index
rows case.two_instances = two_instances
rows case.two_apart = two_apart
rows case.bound_twice = bound_twice
rows case.bad_binding = bad_binding
rows case.annotation = annotation
rows case.too_deep = too_deep
rows case.too_many = too_many
rows case.depends_cycle = cycle
