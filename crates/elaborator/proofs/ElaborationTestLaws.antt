-- Tests of a description, one for each case of the faults of an elaboration: what passes them all has no fault, and where they
-- refute all cases but one, it is by this one.
use Rattle.std.proofs.Common.{◌≡◌, ◌≢◌, ◌∙◌, ◌⊎◌, inl, inr, ℕ, Bool, true, false, not, ◌&&◌, ◌||◌, nat_lt, bytes_eq, List, [], ◌∷◌, length, Option, Some, is_some, slice_get, refl, sym, ap, subst, ⊎_elim, ◌<◌, drop, map, arith, Contains}
use Rattle.std.specs.Prelude.{◌==◌}
use Rattle.std.specs.List.{list_all}
use Rattle.std.specs.Option.{option_map_or}
use Rattle.std.proofs.lemmas.Bool.{and_from, and_parts, both_ways, eqb-true, ltb-true, or_cases, or_left, or_right}
use Rattle.std.proofs.lemmas.Option.{none-some, same_Some}
use Rattle.base.proofs.BytesLaws.{bytes_eq_self}
use Rattle.base.proofs.ContainsLaws.{Contains-at, Contains-cons_cases, Contains-nil, Contains-map}
use Rattle.config_graph.specs.Cycles.{graph_wiring}
use Rattle.config_graph.specs.Graph.{Graph}
use Rattle.config_graph.specs.declared.node.Node.{Node}
use Rattle.config_graph.specs.Walks.{Walk}
use Rattle.config_graph.specs.Walks.Walk.{step, onward}
use Rattle.config_graph.specs.Wiring.{MayCall}
use Rattle.darwin_parser.specs.Tree.{Name, Tree, Component}
use Rattle.darwin_types.specs.Scope.{component_named, has, is_primitive}
use Rattle.darwin_walk.specs.Instance.{Binding}
use Rattle.darwin_walk.specs.declared.fault.Fault.{Fault}
use Rattle.darwin_walk.specs.declared.fault.Fault.TheVariants as shown
use Rattle.elaborator.specs.Bindings.{Bound, BoundThrough, NamedPort, Pair, Port, bindings_in, pair_of, pairs_in, resolve}
use Rattle.elaborator.specs.Bindings.Bound.{bound}
use Rattle.elaborator.specs.Bindings.BoundThrough.{at_once, through}
use Rattle.elaborator.specs.Graph.{IsElab}
use Rattle.elaborator.specs.Instances.{Inst, Instance, levels, instances, paths_in, top_instance, total}
use Rattle.elaborator.specs.Paths.{Path}
use Rattle.elaborator.specs.Faults.{NotesDiffer, Twice, faults_in}
use Rattle.elaborator.specs.Faults as fault
use Rattle.elaborator.specs.Faults.NotesDiffer.{differ}
use Rattle.elaborator.specs.declared.error.ElabError.{ElabError}
use Rattle.elaborator.proofs.CountLaws.{counted-within}
use Rattle.elaborator.proofs.NodeLemmas.{node_path}
use Rattle.elaborator.proofs.InstanceLaws.{instances-listed, top_depth, twice_cases}
use Rattle.elaborator.proofs.TwiceLaws.{twice_places}
use Rattle.elaborator.specs.FaultCases.{Case, FaultOf, Query, case_of}
use Rattle.elaborator.specs.FaultCases as case
use Rattle.base.proofs.ListLaws.{all_have, one_left}

-- ---- tests of a description, one for each case; what passes has no fault by the case

abbrev is_range : Fault → Bool
is_range (shown.OutOfRange at) = true
is_range _ = false

abbrev is_divisor : Fault → Bool
is_divisor (shown.ZeroDivisor at) = true
is_divisor _ = false

abbrev is_index : Fault → Bool
is_index (shown.BadIndex at) = true
is_index _ = false

abbrev shows_none : (Fault → Bool) → Tree → Instance → Bool
shows_none test tree i = list_all (λ f. not (test f)) (faults_in tree i)

-- no path stands twice
abbrev are_once : List Path → Bool
are_once [] = true
are_once (p ∷ paths) = not (has paths p) && are_once paths

abbrev is_empty : {A : Type 0} → List A → Bool
is_empty [] = true
is_empty (x ∷ xs) = false

abbrev has_note : Option NamedPort → Bool
has_note o = option_map_or (λ m. is_some m.decl.note) o false

abbrev has_notes : Tree → Instance → Binding → Bool
has_notes tree i b = has_note (resolve tree i b.left) && has_note (resolve tree i b.right)

-- what tells the source of a pair, where no instance has two requirements
abbrev source_path : Pair → Path
source_path p = p.source.path

-- Where each pair of ends leads to a path of a higher rank, none lies on a cycle. Any rank of paths serves.
abbrev rises : (Path → ℕ) → Pair → Bool
rises rank p = nat_lt (rank p.source.path) (rank p.target.path)

-- no path is made by two of the instances
abbrev are_apart : Tree → List Instance → Bool
are_apart tree [] = true
are_apart tree (i ∷ is) = list_all (λ j. list_all (λ p. not (has (paths_in tree j) p)) (paths_in tree i)) is && are_apart tree is

abbrev clear_below : (Path → ℕ) → Tree → Case → Instance → Bool
clear_below rank tree case.out_of_range top = list_all (shows_none is_range tree) (instances tree top)
clear_below rank tree case.zero_divisor top = list_all (shows_none is_divisor tree) (instances tree top)
clear_below rank tree case.bad_index top = list_all (shows_none is_index tree) (instances tree top)
clear_below rank tree case.two_instances top = list_all (λ i. are_once (paths_in tree i)) (instances tree top)
clear_below rank tree case.two_apart top =
    list_all (λ i. is_empty (paths_in tree i)) (drop 1 (instances tree top)) || are_apart tree (instances tree top)
clear_below rank tree case.bound_twice top = list_all (λ i. are_once (map source_path (pairs_in tree i))) (instances tree top)
clear_below rank tree case.bad_binding top = list_all (λ i. list_all (λ b. not (is_empty (pair_of tree i b))) (bindings_in i)) (instances tree top)
clear_below rank tree case.annotation top = list_all (λ i. list_all (λ b. not (has_notes tree i b)) (bindings_in i)) (instances tree top)
clear_below rank tree case.too_deep top = list_all (λ i. not (i.depth == 33)) (instances tree top)
clear_below rank tree case.too_many top = nat_lt (total tree top) 65537
clear_below rank tree case.depends_cycle top = list_all (λ i. list_all (rises rank) (pairs_in tree i)) (instances tree top)
clear_below rank tree _ top = true

abbrev clear_top : Query → Case → Bool
clear_top q case.no_top = is_some (component_named q.tree q.name)
clear_top q case.top_is_kind = option_map_or (λ c. not (is_primitive c)) (component_named q.tree q.name) true
clear_top q case.top_args = option_map_or (λ c. length c.params == length q.arguments) (component_named q.tree q.name) true
clear_top q _ = true

abbrev pub is_clear : (Path → ℕ) → Query → Case → Bool
is_clear rank q c = clear_top q c && option_map_or (clear_below rank q.tree c) (top_instance q.tree q.name q.arguments) true

-- ---- what a test refutes

has_there : (names : List Name) (x : Name) → Contains names x → has names x ≡ true
has_there [] x there = absurd (Contains-nil x there)
has_there (y ∷ names) x there =
    ⊎_elim (λ (same : x ≡ y). or_left (bytes_eq x y) (has names x) (subst (λ z. bytes_eq x z ≡ true) same (bytes_eq_self x)))
    (λ (later : Contains names x). or_right (bytes_eq x y) (has names x) (has_there names x later)) (Contains-cons_cases y names x there)

empty_and_one : {A : Type 0} (xs : List A) (x : A) → Contains xs x → is_empty xs ≡ true → ⊥
empty_and_one [] x there empty = Contains-nil x there
empty_and_one (y ∷ xs) x there empty = both_ways false refl empty

once_only : (paths : List Path) → are_once paths ≡ true → (path : Path) → Twice paths path → ⊥
once_only [] once path two = let w = twice_places [] path two in none-some path w.3
once_only (p ∷ paths) once path two =
    let parts = and_parts (not (has paths p)) (are_once paths) once in
    ⊎_elim
    (λ (first : (p ≡ path) × Contains paths path). both_ways (not (has paths p)) (ap not (has_there paths p (subst (Contains paths) (sym first.0) first.1))) parts.0)
    (λ (later : Twice paths path). once_only paths parts.1 path later) (twice_cases p paths path two)

-- where the top alone makes a path, no other instance does
top_only :
    (tree : Tree) (top : Instance) → list_all (λ i. is_empty (paths_in tree i)) (drop 1 (instances tree top)) ≡ true → (i : Instance)
    → Contains (instances tree top) i → (path : Path) → Contains (paths_in tree i) path → i ≡ top
unfolding levels
top_only tree top none i at path makes =
    let rest = drop 1 (instances tree top) in
    ⊎_elim (λ (same : i ≡ top). same)
    (λ (later : Contains rest i). absurd (empty_and_one (paths_in tree i) path makes (all_have (λ i. is_empty (paths_in tree i)) rest none i later)))
    (Contains-cons_cases top rest i at)

apart_only :
    (tree : Tree) (is : List Instance) → are_apart tree is ≡ true → (i j : Instance) → Contains is i → Contains is j → i ≢ j
    → (path : Path) → Contains (paths_in tree i) path → Contains (paths_in tree j) path → ⊥
apart_only tree [] apart i j at at' unlike path makes makes' = Contains-nil i at
apart_only tree (k ∷ is) apart i j at at' unlike path makes makes' =
    by (apart_only tree is parts.1) (Contains-cons_cases k is i at) (Contains-cons_cases k is j at')
  where
    parts : (list_all (λ j. list_all (λ p. not (has (paths_in tree j) p)) (paths_in tree k)) is ≡ true) × (are_apart tree is ≡ true)
    parts = and_parts (list_all (λ j. list_all (λ p. not (has (paths_in tree j) p)) (paths_in tree k)) is) (are_apart tree is) apart

    meet : (m : Instance) → Contains is m → Contains (paths_in tree k) path → Contains (paths_in tree m) path → ⊥
    meet m there one other =
        both_ways (not (has (paths_in tree m) path)) (ap not (has_there (paths_in tree m) path other))
        (all_have (λ p. not (has (paths_in tree m) p)) (paths_in tree k) (all_have (λ j. list_all (λ p. not (has (paths_in tree j) p)) (paths_in tree k)) is parts.0 m there) path one)

    by :
        ((a b : Instance) → Contains is a → Contains is b → a ≢ b → (path : Path) → Contains (paths_in tree a) path → Contains (paths_in tree b) path → ⊥)
        → (i ≡ k) ⊎ Contains is i → (j ≡ k) ⊎ Contains is j → ⊥
    by rest (inl one) (inl other) = unlike (one ∙ sym other)
    by rest (inl one) (inr later) = meet j later (subst (λ m. Contains (paths_in tree m) path) one makes) makes'
    by rest (inr later) (inl other) = meet i later (subst (λ m. Contains (paths_in tree m) path) other makes') makes
    by rest (inr later) (inr later') = rest i j later later' unlike path makes makes'

-- of a list in which no two have one key, one is told by its key
one_by_key : {A : Type 0} (key : A → Path) (xs : List A) → are_once (map key xs) ≡ true → (x y : A) → Contains xs x → Contains xs y → key x ≡ key y → x ≡ y
one_by_key key [] once x y there other same = absurd (Contains-nil x there)
one_by_key {A = A} key (z ∷ xs) once x y there other same =
    by (λ later after. one_by_key key xs parts.1 x y later after same) (Contains-cons_cases z xs x there) (Contains-cons_cases z xs y other)
  where
    parts : (not (has (map key xs) (key z)) ≡ true) × (are_once (map key xs) ≡ true)
    parts = and_parts (not (has (map key xs) (key z))) (are_once (map key xs)) once

    fresh : (v : A) → Contains xs v → key v ≡ key z → ⊥
    fresh v has_v same_key =
        both_ways (not (has (map key xs) (key z))) (ap not (has_there (map key xs) (key z) (subst (Contains (map key xs)) same_key (Contains-map key xs v has_v)))) parts.0

    by : (Contains xs x → Contains xs y → x ≡ y) → (x ≡ z) ⊎ Contains xs x → (y ≡ z) ⊎ Contains xs y → x ≡ y
    by rest (inl one) (inl two) = one ∙ sym two
    by rest (inl one) (inr later) = absurd (fresh y later (sym same ∙ ap key one))
    by rest (inr later) (inl two) = absurd (fresh x later (same ∙ ap key two))
    by rest (inr later) (inr after) = rest later after

module _ (rank : Path → ℕ) (tree : Tree) (top : Instance) (shallow : top.depth ≡ 0) (clear : clear_below rank tree case.depends_cycle top ≡ true) where
  bound_rises : (x y : Port) → Bound tree top x y → rank x.path < rank y.path
  bound_rises _ _ (bound i p inst there) =
      ltb-true (rank p.source.path) (rank p.target.path)
      (all_have (rises rank) (pairs_in tree i) (all_have (λ i. list_all (rises rank) (pairs_in tree i)) (instances tree top) clear i ((instances-listed tree top i shallow).0 inst)) p there)

  leads_on : (x y : Port) → BoundThrough tree top x y → rank x.path < rank y.path
  leads_on _ _ (at_once x y b) = bound_rises x y b
  leads_on _ _ (through x y z b rest) = let first = bound_rises x y b in let more = leads_on y z rest in omega (arith, first, more)

  abbrev rank_at : Graph → ℕ → ℕ
  rank_at g i = option_map_or (λ (n : Node). rank n.path) (slice_get g.nodes i) 0

  call_rises : (g : Graph) → IsElab tree top g → (i j : ℕ) → MayCall (graph_wiring g) i j → rank_at g i < rank_at g j
  call_rises g elab i j call =
      let link = (elab.links_are call.port.node call.port.require j call.provide).0 call.linked in
      let led = leads_on _ _ link.linked.leads in
      let at_i : rank_at g i ≡ rank link.linked.from.instance.path =
      ap (rank_at g) (sym call.depends.0) ∙ ap (λ o. option_map_or (λ (n : Node). rank n.path) o 0) link.from_there ∙ ap rank (node_path link.linked.from.instance link.from link.linked.from.is_node) in
      let at_j : rank_at g j ≡ rank link.linked.to.instance.path =
      ap (λ o. option_map_or (λ (n : Node). rank n.path) o 0) link.to_there ∙ ap rank (node_path link.linked.to.instance link.to link.linked.to.is_node) in
      omega (arith, led, at_i, at_j)

  walk_rises : (g : Graph) → IsElab tree top g → (i j : ℕ) → Walk (MayCall (graph_wiring g)) i j → rank_at g i < rank_at g j
  walk_rises g elab _ _ (step {i = i} {j = j} s) = call_rises g elab i j s
  walk_rises g elab _ _ (onward {i = i} {j = j} {k = k} s rest) =
      let first = call_rises g elab i j s in
      let more = walk_rises g elab j k rest in
      omega (arith, first, more)

-- the test of the top, and that of what is below it
at_top : (rank : Path → ℕ) (q : Query) (c : Case) → is_clear rank q c ≡ true → clear_top q c ≡ true
at_top rank q c clear = (and_parts (clear_top q c) (option_map_or (clear_below rank q.tree c) (top_instance q.tree q.name q.arguments) true) clear).0

below_top : (rank : Path → ℕ) (q : Query) (c : Case) (top : Instance) → top_instance q.tree q.name q.arguments ≡ Some top → is_clear rank q c ≡ true → clear_below rank q.tree c top ≡ true
below_top rank q c top is clear =
    sym (ap (λ o. option_map_or (clear_below rank q.tree c) o true) is)
    ∙ (and_parts (clear_top q c) (option_map_or (clear_below rank q.tree c) (top_instance q.tree q.name q.arguments) true) clear).1

depth : (q : Query) (top : Instance) → top_instance q.tree q.name q.arguments ≡ Some top → top.depth ≡ 0
depth q top is = top_depth q.tree q.name q.arguments top is

listed : (q : Query) (top : Instance) → top_instance q.tree q.name q.arguments ≡ Some top → (i : Instance) → Inst q.tree top i → Contains (instances q.tree top) i
listed q top is i inst = (instances-listed q.tree top i (depth q top is)).0 inst

each :
    (test : Instance → Bool) (q : Query) (top : Instance) → top_instance q.tree q.name q.arguments ≡ Some top → list_all test (instances q.tree top) ≡ true
    → (i : Instance) → Inst q.tree top i → test i ≡ true
each test q top is all i inst = all_have test (instances q.tree top) all i (listed q top is i inst)

none_shown :
    (test : Fault → Bool) (tree : Tree) (top i : Instance) → top.depth ≡ 0 → Inst tree top i → (f : Fault) → Contains (faults_in tree i) f → test f ≡ true
    → list_all (shows_none test tree) (instances tree top) ≡ true → ⊥
none_shown test tree top i shallow inst f shows is all =
    both_ways (not (test f)) (ap not is)
    (all_have (λ f. not (test f)) (faults_in tree i) (all_have (shows_none test tree) (instances tree top) all i ((instances-listed tree top i shallow).0 inst)) f shows)

both_noted : (tree : Tree) (i : Instance) (b : Binding) → NotesDiffer (resolve tree i b.left) (resolve tree i b.right) → has_notes tree i b ≡ true
both_noted tree i b (differ m n note note' left right noted noted' _) =
    and_from (has_note (resolve tree i b.left)) (has_note (resolve tree i b.right)) (ap has_note left ∙ ap is_some noted) (ap has_note right ∙ ap is_some noted')

pub none_of : (rank : Path → ℕ) (q : Query) (e : ElabError) (f : FaultOf q e) → is_clear rank q (case_of f) ≡ true → ⊥
none_of rank q _ (fault.no_top none) clear =
    both_ways (is_some (component_named q.tree q.name)) (ap is_some none) (at_top rank q case.no_top clear)
none_of rank q _ (fault.top_is_kind c named primitive) clear =
    both_ways (not (is_primitive c)) (ap not primitive) (sym (ap (λ o. option_map_or (λ (c : Component). not (is_primitive c)) o true) named) ∙ at_top rank q case.top_is_kind clear)
none_of rank q _ (fault.top_args c named unlike) clear =
    unlike (eqb-true (length c.params) (length q.arguments) (sym (ap (λ o. option_map_or (λ (c : Component). length c.params == length q.arguments) o true) named) ∙ at_top rank q case.top_args clear))
none_of rank q _ (fault.out_of_range i at m shows) clear =
    none_shown is_range q.tree m.top i (depth q m.top m.is_top) m.inst (shown.OutOfRange at) shows refl (below_top rank q case.out_of_range m.top m.is_top clear)
none_of rank q _ (fault.zero_divisor i at m shows) clear =
    none_shown is_divisor q.tree m.top i (depth q m.top m.is_top) m.inst (shown.ZeroDivisor at) shows refl (below_top rank q case.zero_divisor m.top m.is_top clear)
none_of rank q _ (fault.bad_index i at m shows) clear =
    none_shown is_index q.tree m.top i (depth q m.top m.is_top) m.inst (shown.BadIndex at) shows refl (below_top rank q case.bad_index m.top m.is_top clear)
none_of rank q _ (fault.two_instances i path m two) clear =
    once_only (paths_in q.tree i) (each (λ i. are_once (paths_in q.tree i)) q m.top m.is_top (below_top rank q case.two_instances m.top m.is_top clear) i m.inst) path two
none_of rank q _ (fault.two_apart i j path m m' unlike makes makes') clear =
    let here = listed q m.top m.is_top i m.inst in
    let there = listed q m.top m.is_top j (subst (λ t. Inst q.tree t j) (same_Some m'.top m.top (sym m'.is_top ∙ m.is_top)) m'.inst) in
    ⊎_elim
    (λ (of_top : list_all (λ i. is_empty (paths_in q.tree i)) (drop 1 (instances q.tree m.top)) ≡ true).
    unlike (top_only q.tree m.top of_top i here path makes ∙ sym (top_only q.tree m.top of_top j there path makes')))
    (λ (apart : are_apart q.tree (instances q.tree m.top) ≡ true).
    apart_only q.tree (instances q.tree m.top) apart i j here there unlike path makes makes')
    (or_cases (list_all (λ i. is_empty (paths_in q.tree i)) (drop 1 (instances q.tree m.top))) (are_apart q.tree (instances q.tree m.top)) (below_top rank q case.two_apart m.top m.is_top clear))
none_of rank q _ (fault.bound_twice i p r m first second same unlike) clear =
    unlike (ap (λ (p : Pair). p.target) (one_by_key source_path (pairs_in q.tree i) (each (λ i. are_once (map source_path (pairs_in q.tree i))) q m.top m.is_top (below_top rank q case.bound_twice m.top m.is_top clear) i m.inst) p r first second (ap (λ (x : Port). x.path) same)))
none_of rank q _ (fault.bad_binding i b m there none) clear =
    both_ways (not (is_empty (pair_of q.tree i b))) (ap (λ ps. not (is_empty ps)) none)
    (all_have (λ b. not (is_empty (pair_of q.tree i b))) (bindings_in i) (each (λ i. list_all (λ b. not (is_empty (pair_of q.tree i b))) (bindings_in i)) q m.top m.is_top (below_top rank q case.bad_binding m.top m.is_top clear) i m.inst) b there)
none_of rank q _ (fault.annotation i b m there notes) clear =
    both_ways (not (has_notes q.tree i b)) (ap not (both_noted q.tree i b notes))
    (all_have (λ b. not (has_notes q.tree i b)) (bindings_in i) (each (λ i. list_all (λ b. not (has_notes q.tree i b)) (bindings_in i)) q m.top m.is_top (below_top rank q case.annotation m.top m.is_top clear) i m.inst) b there)
none_of rank q _ (fault.too_deep i m deep) clear =
    both_ways (not (i.depth == 33)) (ap (λ n. not (n == 33)) deep) (each (λ i. not (i.depth == 33)) q m.top m.is_top (below_top rank q case.too_deep m.top m.is_top clear) i m.inst)
none_of rank q _ (fault.too_many top is more) clear =
    omega (arith, counted-within q.tree top 65536 (depth q top is) more, ltb-true (total q.tree top) 65537 (below_top rank q case.too_many top is clear))
none_of rank q _ (fault.depends_cycle top g i n is elab first at) clear =
    let rises_back = walk_rises rank q.tree top (depth q top is) (below_top rank q case.depends_cycle top is clear) g elab i i first.on_cycle in
    omega (arith, rises_back)

-- ---- cases as a list

abbrev pub cases : List Case
cases =
    case.no_top ∷ case.top_is_kind ∷ case.top_args ∷ case.out_of_range ∷ case.zero_divisor ∷ case.bad_index ∷ case.two_instances ∷ case.two_apart ∷ case.bound_twice ∷ case.bad_binding ∷ case.annotation ∷ case.too_deep ∷ case.too_many ∷ case.depends_cycle ∷ []

abbrev place : Case → ℕ
place case.no_top = 0
place case.top_is_kind = 1
place case.top_args = 2
place case.out_of_range = 3
place case.zero_divisor = 4
place case.bad_index = 5
place case.two_instances = 6
place case.two_apart = 7
place case.bound_twice = 8
place case.bad_binding = 9
place case.annotation = 10
place case.too_deep = 11
place case.too_many = 12
place case.depends_cycle = 13

at_place : (c : Case) → slice_get cases (place c) ≡ Some c
at_place case.no_top = refl
at_place case.top_is_kind = refl
at_place case.top_args = refl
at_place case.out_of_range = refl
at_place case.zero_divisor = refl
at_place case.bad_index = refl
at_place case.two_instances = refl
at_place case.two_apart = refl
at_place case.bound_twice = refl
at_place case.bad_binding = refl
at_place case.annotation = refl
at_place case.too_deep = refl
at_place case.too_many = refl
at_place case.depends_cycle = refl

-- where the tests refute all, there is no fault
pub none_at_all : (rank : Path → ℕ) (q : Query) → list_all (is_clear rank q) cases ≡ true → (e : ElabError) → FaultOf q e → ⊥
none_at_all rank q all e f =
    none_of rank q e f (all_have (is_clear rank q) cases all (case_of f) (Contains-at cases (place (case_of f)) (case_of f) (at_place (case_of f))))

-- the tests refute every case but this one
abbrev pub leaves_alone : (Path → ℕ) → Query → Case → Bool
leaves_alone rank q c = list_all (λ d. place d == place c || is_clear rank q d) cases

pub alone : (rank : Path → ℕ) (q : Query) (c : Case) → leaves_alone rank q c ≡ true → (e : ElabError) (f : FaultOf q e) → case_of f ≡ c
alone rank q c left e f = one_left cases place at_place (is_clear rank q) c left (case_of f) (none_of rank q e f)
