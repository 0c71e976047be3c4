-- From what the parts of an elaboration tell to the faults of the whole.
use Rattle.std.proofs.Common.{◌≡◌, ◌≢◌, ◌∙◌, Result, Ok, Err, IfOk, IfErr, Bool, true, false, ◌&&◌, not, eqb, cond, ℤ, List, [], ◌∷◌, ◌++◌, Option, Some, None, length, refl, ap, sym, subst, inl, inr, ◌⊎◌, arith}
use Rattle.std.specs.List.{Contains, flat_map}
use Rattle.std.specs.Option.{option_and_then, option_map_or}
use Rattle.std.proofs.lemmas.Bool.{false≢true, eqb-true}
use Rattle.std.proofs.lemmas.Option.{none-some, same_Some}
use Rattle.std.proofs.lemmas.List.Elements.{Contains-append_left, Contains-append_right, Contains-append_cases}
use Rattle.config_graph.specs.Graph.{Graph}
use Rattle.config_graph.specs.Cycles.{FirstOnCycle}
use Rattle.darwin_lexer.specs.declared.token.At.{At}
use Rattle.darwin_parser.specs.Tree.{Name, Tree, Component, Expr}
use Rattle.darwin_types.specs.Scope.{component_named, is_primitive}
use Rattle.darwin_walk.specs.Value.{Env, Value, integer, out_of_range, zero_divisor, parameters, value}
use Rattle.darwin_walk.specs.Instance.{End, Binding, index_fault}
use Rattle.darwin_walk.specs.declared.fault.Fault.{Fault}
use Rattle.darwin_walk.specs.declared.fault.Fault.TheVariants as shown
use Rattle.elaborator.specs.Paths.{Path, end_bytes}
use Rattle.elaborator.specs.Instances.{Instance, top_instance, Inst}
use Rattle.elaborator.specs.Bindings.{NamedPort, resolve, bindings_in}
use Rattle.elaborator.specs.Graph.{IsElab}
use Rattle.elaborator.specs.Faults.{named_index_faults, own_faults, port_index_faults, sized_index_faults, faults_in, CountsMore, Faults, Faults as fault}
use Rattle.elaborator.specs.Numbering.{Expanded, IsOf}
use Rattle.base.specs.Answers.{Answers, Refuses}
use Rattle.elaborator.specs.PortIndex.{FaultOf, FaultOf as of, BindingFault, BindingFault as binding}
use Rattle.elaborator.specs.ExpansionFaults.{GrowthFault, GrowthFault as growth, IsClear}
use Rattle.elaborator.specs.Built.{BuildFault, IsBuilt}
use Rattle.elaborator.specs.Built.CycleFault.{first_on_cycle}
use Rattle.elaborator.specs.Built.BuildFault.{in_bindings, in_graph}
use Rattle.elaborator.specs.Elaboration.{HasNoFault, ElaboratesTo, IsAnswerOf}
use Rattle.elaborator.specs.declared.error.ElabError.{ElabError}
use Rattle.elaborator.specs.declared.error.ElabError.TheVariants as error
use Rattle.elaborator.proofs.CountLaws.{counted-within}
use Rattle.elaborator.proofs.InstanceLaws.{single-if_none}
use Rattle.elaborator.proofs.SingleLemmas.{IsBoundOnce}
use Rattle.elaborator.proofs.UniqueLaws.{one_graph}
use Rattle.base.proofs.ContainsLaws.{Contains-flat_map, Contains-from_flat_map, Contains-nil, Contains-one}

-- ---- the top

-- what the top is
pub record IsTopOf (tree : Tree) (name : Name) (arguments : List ℤ) (top : Instance) : Type 0 where
  pub component : Component
  pub named : component_named tree name ≡ Some component
  pub composite : is_primitive component ≡ false
  pub params : length component.params ≡ length arguments
  pub is_top : top ≡ record { path = []; depth = 0; component = component; env = parameters component arguments }

pub top_parts : (tree : Tree) (name : Name) (arguments : List ℤ) (top : Instance) → top_instance tree name arguments ≡ Some top → IsTopOf tree name arguments top
top_parts tree name arguments top is = by (component_named tree name) refl is
  where
    at_top : Component → Instance
    at_top c = record { path = []; depth = 0; component = c; env = parameters c arguments }

    instance : Component → Option Instance
    instance c = cond (not (is_primitive c) && eqb (length c.params) (length arguments)) (Some (at_top c)) None

    by_tests : (c : Component) → component_named tree name ≡ Some c → (p q : Bool) → is_primitive c ≡ p → eqb (length c.params) (length arguments) ≡ q → cond (not p && q) (Some (at_top c)) None ≡ Some top → IsTopOf tree name arguments top
    by_tests c named false true composite same is = record { component = c; named = named; composite = composite; params = eqb-true (length c.params) (length arguments) same; is_top = sym (same_Some (at_top c) top is) }
    by_tests c named false false composite same is = absurd (none-some top is)
    by_tests c named true q composite same is = absurd (none-some top is)

    by : (o : Option Component) → component_named tree name ≡ o → option_and_then instance o ≡ Some top → IsTopOf tree name arguments top
    by None named is = absurd (none-some top is)
    by (Some c) named is = by_tests c named (is_primitive c) (eqb (length c.params) (length arguments)) refl refl is

-- ---- the faults of port indexes

only_bad_index : (at : At) (size i : Value) (f : Fault) → Contains (index_fault at size i) f → f ≡ shown.BadIndex at
only_bad_index at size i f there = by size i there
  where
    by_test : (b : Bool) → Contains (cond b [] (shown.BadIndex at ∷ [])) f → f ≡ shown.BadIndex at
    by_test true there = absurd (Contains-nil f there)
    by_test false there = Contains-one (shown.BadIndex at) f there

    by : (size i : Value) → Contains (index_fault at size i) f → f ≡ shown.BadIndex at
    by (integer n) (integer z) there = by_test _ there
    by (integer n) out_of_range there = absurd (Contains-nil f there)
    by (integer n) zero_divisor there = absurd (Contains-nil f there)
    by out_of_range i there = absurd (Contains-nil f there)
    by zero_divisor i there = absurd (Contains-nil f there)

port_fault : (tree : Tree) (i : Instance) (at : At) (e : End) (f : Fault) → Contains (port_index_faults tree i at e) f → f ≡ shown.BadIndex at
port_fault tree i at e f there = by (resolve tree i e) there
  where
    by_size : (env : Env) (size : Option Expr) (index : Option ℤ) → Contains (sized_index_faults at env size index) f → f ≡ shown.BadIndex at
    by_size env (Some size) (Some index) there = only_bad_index at (value size env) (integer index) f there
    by_size env (Some size) None there = absurd (Contains-nil f there)
    by_size env None index there = absurd (Contains-nil f there)

    by : (o : Option NamedPort) → Contains (option_map_or (named_index_faults at) o []) f → f ≡ shown.BadIndex at
    by None there = absurd (Contains-nil f there)
    by (Some x) there = by_size x.instance.env x.decl.size x.index there

abbrev binding_port_faults : Tree → Instance → Binding → List Fault
binding_port_faults tree i b = port_index_faults tree i b.at b.left ++ port_index_faults tree i b.at b.right

binding_port_fault : (tree : Tree) (i : Instance) (b : Binding) (f : Fault) → Contains (binding_port_faults tree i b) f → f ≡ shown.BadIndex b.at
binding_port_fault tree i b f there =
    elim (Contains-append_cases (port_index_faults tree i b.at b.left) (port_index_faults tree i b.at b.right) f there) [
      | inl left ↦ port_fault tree i b.at b.left f left
      | inr right ↦ port_fault tree i b.at b.right f right
    ]

-- a fault in an instance is one of its own, or of the index of a port in a binding
fault_cases : (tree : Tree) (i : Instance) (f : Fault) → Contains (faults_in tree i) f → Contains (own_faults tree i) f ⊎ ((b : Binding) × Contains (bindings_in i) b × Contains (binding_port_faults tree i b) f)
fault_cases tree i f there =
    elim (Contains-append_cases (own_faults tree i) (flat_map (binding_port_faults tree i) (bindings_in i)) f there) [
      | inl own ↦ inl own
      | inr port ↦ inr (Contains-from_flat_map (binding_port_faults tree i) (bindings_in i) f port)
    ]

pub is_own : (tree : Tree) (i : Instance) (f : Fault) → Contains (own_faults tree i) f → Contains (faults_in tree i) f
is_own tree i f there = Contains-append_left (own_faults tree i) (flat_map (binding_port_faults tree i) (bindings_in i)) f there

is_of_binding : (tree : Tree) (i : Instance) (b : Binding) (f : Fault) → Contains (bindings_in i) b → Contains (binding_port_faults tree i b) f → Contains (faults_in tree i) f
is_of_binding tree i b f there port = Contains-append_right (own_faults tree i) (flat_map (binding_port_faults tree i) (bindings_in i)) f (Contains-flat_map (binding_port_faults tree i) (bindings_in i) b f there port)

-- ---- a fault that a part names is one of the whole

pub growth_fault : (tree : Tree) (name : Name) (arguments : List ℤ) (top : Instance) → top_instance tree name arguments ≡ Some top → (f : ElabError) → GrowthFault tree top f → Faults tree name arguments f
growth_fault tree name arguments top is_top _ (growth.out_of_range i at inst there) = fault.out_of_range i at (record { top = top; is_top = is_top; inst = inst }) (is_own tree i (shown.OutOfRange at) there)
growth_fault tree name arguments top is_top _ (growth.zero_divisor i at inst there) = fault.zero_divisor i at (record { top = top; is_top = is_top; inst = inst }) (is_own tree i (shown.ZeroDivisor at) there)
growth_fault tree name arguments top is_top _ (growth.bad_index i at inst there) = fault.bad_index i at (record { top = top; is_top = is_top; inst = inst }) (is_own tree i (shown.BadIndex at) there)
growth_fault tree name arguments top is_top _ (growth.two_instances i path inst again) = fault.two_instances i path (record { top = top; is_top = is_top; inst = inst }) again
growth_fault tree name arguments top is_top _ (growth.two_apart i j path inst inst' apart there there') = fault.two_apart i j path (record { top = top; is_top = is_top; inst = inst }) (record { top = top; is_top = is_top; inst = inst' }) apart there there'
growth_fault tree name arguments top is_top _ (growth.too_deep i inst deep) = fault.too_deep i (record { top = top; is_top = is_top; inst = inst }) deep
growth_fault tree name arguments top is_top _ (growth.too_many many) = fault.too_many top is_top many

binding_fault : (e : Expanded) (name : Name) (arguments : List ℤ) (top : Instance) → IsOf e top → top_instance e.tree name arguments ≡ Some top → (f : ElabError) → BindingFault e f → Faults e.tree name arguments f
binding_fault e name arguments top is_of is_top _ (binding.of_binding n i b f at there is) = by f is
  where
    inst : Inst e.tree top i
    inst = is_of.sound n i at

    by : (f : ElabError) → FaultOf e.tree i b f → Faults e.tree name arguments f
    by _ (of.bad_binding none) = fault.bad_binding i b (record { top = top; is_top = is_top; inst = inst }) there none
    by _ (of.bad_index place port) = fault.bad_index i place (record { top = top; is_top = is_top; inst = inst }) (is_of_binding e.tree i b (shown.BadIndex place) there port)
    by _ (of.annotation notes) = fault.annotation i b (record { top = top; is_top = is_top; inst = inst }) there notes
binding_fault e name arguments top is_of is_top _ (binding.bound_twice n i p at there clash) =
    fault.bound_twice i p clash.other (record { top = top; is_top = is_top; inst = is_of.sound n i at }) there clash.is_there clash.same_source clash.other_target

pub build_fault : (e : Expanded) (name : Name) (arguments : List ℤ) (top : Instance) → IsOf e top → top_instance e.tree name arguments ≡ Some top → (f : ElabError) → BuildFault e top f → Faults e.tree name arguments f
build_fault e name arguments top is_of is_top _ (in_bindings f is) = binding_fault e name arguments top is_of is_top f is
build_fault e name arguments top is_of is_top _ (in_graph g _ is_elab (first_on_cycle i n first at)) = fault.depends_cycle top g i n is_top is_elab first at

-- ---- where no part has a fault, the whole has none

pub no_fault :
    (e : Expanded) (name : Name) (arguments : List ℤ) (top : Instance) (g : Graph) → IsOf e top → top_instance e.tree name arguments ≡ Some top → IsClear e.tree top → IsBuilt e top g
    → (f : ElabError) → ¬ Faults e.tree name arguments f
no_fault e name arguments top g is_of is_top clear built = refuted
  where
    parts : IsTopOf e.tree name arguments top
    parts = top_parts e.tree name arguments top is_top

    -- there is one top
    one : (t : Instance) → top_instance e.tree name arguments ≡ Some t → t ≡ top
    one t is = same_Some t top (sym is ∙ is_top)

    one_component : (c : Component) → component_named e.tree name ≡ Some c → c ≡ parts.component
    one_component c named = same_Some c parts.component (sym named ∙ parts.named)

    inst : (t i : Instance) → top_instance e.tree name arguments ≡ Some t → Inst e.tree t i → Inst e.tree top i
    inst t i is there = subst (λ s. Inst e.tree s i) (one t is) there

    not_own : (i : Instance) (f : Fault) → Inst e.tree top i → Contains (own_faults e.tree i) f → ⊥
    not_own i f made there = Contains-nil f (subst (λ fs. Contains fs f) (clear.no_fault i made) there)

    of_binding : (i : Instance) (b : Binding) (f : ElabError) → Inst e.tree top i → Contains (bindings_in i) b → FaultOf e.tree i b f → ⊥
    of_binding i b f made there is = let at = is_of.complete i made in built.no_fault f (binding.of_binding at.0 i b f at.1 there is)

    -- only a bad index is a fault of a port
    not_of_value : (i : Instance) (f : Fault) → Inst e.tree top i → ((at : At) → f ≡ shown.BadIndex at → ⊥) → Contains (faults_in e.tree i) f → ⊥
    not_of_value i f made other there =
        elim (fault_cases e.tree i f there) [
          | inl own ↦ not_own i f made own
          | inr port ↦ other port.0.at (binding_port_fault e.tree i port.0 f port.2)
        ]

    refuted : (f : ElabError) → Faults e.tree name arguments f → ⊥
    refuted _ (fault.no_top none) = none-some parts.component (sym none ∙ parts.named)
    refuted _ (fault.top_is_kind c named primitive) = false≢true (sym parts.composite ∙ ap is_primitive (sym (one_component c named)) ∙ primitive)
    refuted _ (fault.top_args c named differ) = differ (ap (λ (d : Component). length d.params) (one_component c named) ∙ parts.params)
    refuted _ (fault.out_of_range i at made there) = not_of_value i (shown.OutOfRange at) (inst made.top i made.is_top made.inst) (λ place same. cc) there
    refuted _ (fault.zero_divisor i at made there) = not_of_value i (shown.ZeroDivisor at) (inst made.top i made.is_top made.inst) (λ place same. cc) there
    refuted _ (fault.bad_index i at made there) =
        elim (fault_cases e.tree i (shown.BadIndex at) there) [
          | inl own ↦ not_own i (shown.BadIndex at) (inst made.top i made.is_top made.inst) own
          | inr port ↦ of_binding i port.0 (error.BadIndex i.path at) (inst made.top i made.is_top made.inst) port.1 (of.bad_index at port.2)
        ]
    refuted _ (fault.two_instances i path made again) = clear.once i path (inst made.top i made.is_top made.inst) again
    refuted _ (fault.two_apart i j path made made' apart there there') = apart (clear.apart i j path (inst made.top i made.is_top made.inst) (inst made'.top j made'.is_top made'.inst) there there')
    refuted _ (fault.bound_twice i p q made there there' same other) =
        let at = is_of.complete i (inst made.top i made.is_top made.inst) in
        built.no_fault (error.BoundTwice i.path _) (binding.bound_twice at.0 i p at.1 there (record { other = q; is_there = there'; same_source = same; other_target = other }))
    refuted _ (fault.bad_binding i b made there none) = of_binding i b (error.BadBinding i.path b.at) (inst made.top i made.is_top made.inst) there (of.bad_binding none)
    refuted _ (fault.annotation i b made there notes) = of_binding i b (error.Annotation i.path b.at) (inst made.top i made.is_top made.inst) there (of.annotation notes)
    refuted _ (fault.too_deep i made deep) = omega (arith, clear.shallow i (inst made.top i made.is_top made.inst), deep)
    refuted _ (fault.too_many t is many) = omega (arith, clear.few, counted-within e.tree top 65536 (ap (λ (i : Instance). i.depth) parts.is_top) (subst (λ s. CountsMore e.tree s 65536) (one t is) many))
    refuted _ (fault.depends_cycle t h i n is is_elab first at) =
        let same = one_graph e.tree top h g (subst (λ s. IsElab e.tree s h) (one t is) is_elab) built.is_elab in
        built.no_cycle i (subst (λ k. FirstOnCycle k i) same first).on_cycle

-- ---- the answer

pub answer-no_fault :
    (e : Expanded) (tree : Tree) (name : Name) (arguments : List ℤ) (top : Instance) (r : Result Graph ElabError) → e.tree ≡ tree → IsOf e top
    → top_instance tree name arguments ≡ Some top → IsClear tree top → Answers error.NoMemory (IsBuilt e top) (BuildFault e top) r → IfOk r (λ _. HasNoFault tree name arguments)
answer-no_fault e tree name arguments top (Ok g) same is_of is_top clear built =
    subst (λ t. HasNoFault t name arguments) same (no_fault e name arguments top g is_of (subst (λ t. top_instance t name arguments ≡ Some top) (sym same) is_top) (subst (λ t. IsClear t top) (sym same) clear) built)
answer-no_fault e tree name arguments top (Err f) same is_of is_top clear fault = tt

pub answer-fault :
    (e : Expanded) (tree : Tree) (name : Name) (arguments : List ℤ) (top : Instance) (r : Result Graph ElabError) → e.tree ≡ tree → IsOf e top
    → top_instance tree name arguments ≡ Some top → Answers error.NoMemory (IsBuilt e top) (BuildFault e top) r → IfErr r (λ f. f ≢ error.NoMemory → Faults tree name arguments f)
answer-fault e tree name arguments top (Ok g) same is_of is_top built = tt
answer-fault e tree name arguments top (Err f) same is_of is_top fault_ = λ other.
    subst (λ t. Faults t name arguments f) same (build_fault e name arguments top is_of (subst (λ t. top_instance t name arguments ≡ Some top) (sym same) is_top) f (fault_ other))

-- ---- laws

pub one_graph_of : (tree : Tree) (name : Name) (arguments : List ℤ) (g h : Graph) → ElaboratesTo tree name arguments g → ElaboratesTo tree name arguments h → g ≡ h
one_graph_of tree name arguments g h a b =
    one_graph tree b.top g h (subst (λ t. IsElab tree t g) (same_Some a.top b.top (sym a.is_top ∙ b.is_top)) a.is_elab) b.is_elab

pub bound_once :
    (tree : Tree) (name : Name) (arguments : List ℤ) (top : Instance) → top_instance tree name arguments ≡ Some top → ((path : Path) → ¬ Faults tree name arguments (error.TwoInstances path))
    → ((path name_of_end : Path) → ¬ Faults tree name arguments (error.BoundTwice path name_of_end)) → IsBoundOnce tree top
bound_once tree name arguments top is_top made_once none = record {
  depth = ap (λ (i : Instance). i.depth) parts.is_top;
  composite = ap (λ (i : Instance). is_primitive i.component) parts.is_top ∙ parts.composite;
  single = single-if_none tree name arguments top is_top made_once;
  once = λ i p q inst there there' same differ. none i.path (end_bytes p.end) (fault.bound_twice i p q (record { top = top; is_top = is_top; inst = inst }) there there' same differ);
}
  where
    parts : IsTopOf tree name arguments top
    parts = top_parts tree name arguments top is_top

-- where no fault holds, what is given is the graph
pub answer-every_graph :
    (tree : Tree) (name : Name) (arguments : List ℤ) (r : Result Graph ElabError) (g : Graph) → IfOk r (ElaboratesTo tree name arguments)
    → IfErr r (Refuses error.NoMemory (Faults tree name arguments)) → HasNoFault tree name arguments → ElaboratesTo tree name arguments g → IsAnswerOf r g
answer-every_graph tree name arguments (Ok h) g graph fault none is = one_graph_of tree name arguments h g graph is
answer-every_graph tree name arguments (Err f) g graph fault none is = λ other. none f (fault other)
