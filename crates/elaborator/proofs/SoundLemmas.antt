-- The graph of an elaboration is sound: nodes have their kinds' arguments, and links are within.
use Rattle.std.proofs.Common.{◌≡◌, ◌∙◌, Result, Ok, Err, IfOk, suc, ◌<◌, ◌^◌, Bool, true, false, ◌&&◌, not, eqb, cond, ℤ, pos, negsuc, List, [], ◌∷◌, ◌++◌, Some, length, get_or, map, refl, ap, sym, subst, inl, inr, arith, IfSome}
use Rattle.std.specs.List.{Contains, flat_map, list_all, slice_get, zip}
use Rattle.std.specs.Prelude.{int_le}
use Rattle.std.specs.Option.{is_some, option_map, option_map_or}
use Rattle.std.proofs.lemmas.Bool.{false≢true, eqb-true, ltb-true}
use Rattle.std.proofs.lemmas.Bool.Decides.{eqb_tells}
use Rattle.std.proofs.lemmas.List.Elements.{Contains-append_right, Contains-get_or}
use Rattle.config_graph.specs.declared.kind.Kind.{Kind}
use Rattle.config_graph.specs.declared.node.Node.{Node}
use Rattle.config_graph.specs.Kinds.{kind_named, row}
use Rattle.config_graph.specs.Graph.{Graph}
use Rattle.config_graph.specs.Cycles.{graph_wiring}
use Rattle.config_graph.specs.Wiring.{HasNoCycle}
use Rattle.config_graph.specs.Sound.{HasItsArgument, Sound}
use Rattle.darwin_parser.specs.Tree.{Name, Tree, Component}
use Rattle.darwin_types.specs.Scope.{component_named, is_primitive}
use Rattle.darwin_types.specs.Primitive.{params_of_kind, is_end, has_ports_of, is_bare, is_like_kind}
use Rattle.darwin_types.specs.Faults.{NoFault, HasFault as types}
use Rattle.darwin_types.specs.Faults.FaultIn.{arg_count, kind_ports}
use Rattle.darwin_walk.specs.Value.{Env, parameters}
use Rattle.darwin_walk.specs.Instance.{Child, children, instance_faults}
use Rattle.darwin_walk.specs.declared.fault.Fault as walk
use Rattle.darwin_walk.specs.declared.fault.Fault.TheVariants as shown
use Rattle.base.specs.Answers.{Answers}
use Rattle.elaborator.specs.Instances.{Instance, top_instance, is_expanded, child_path, children_in, instance_of, made_in, Inst, at_top, below}
use Rattle.elaborator.specs.Graph.{natural, node_of, IsElab}
use Rattle.elaborator.specs.Faults.{is_kind_argument, kind_argument_faults, own_faults}
use Rattle.elaborator.specs.Numbering.{Expanded}
use Rattle.elaborator.specs.ExpansionFaults.{IsClear}
use Rattle.elaborator.specs.Built.{BuildFault, IsBuilt}
use Rattle.elaborator.specs.declared.error.ElabError.{ElabError}
use Rattle.elaborator.specs.declared.error.ElabError.TheVariants as error
use Rattle.elaborator.proofs.UniqueLaws.{links_listed}
use Rattle.elaborator.proofs.NodeLemmas.{node_parts}
use Rattle.elaborator.proofs.AllLinksLemmas.{begins_within, ends_within}
use Rattle.elaborator.proofs.ArgumentLemmas.{made_by_entry, length-parameters}
use Rattle.elaborator.proofs.ElaborationLemmas.{top_parts}
use Rattle.base.proofs.ContainsLaws.{Contains-flat_map, Contains-from_filter_map, Contains-here, Contains-nil}
use Rattle.base.proofs.FindLaws.{find-some}
use Rattle.base.proofs.OptionLaws.{made_of_found}

-- ---- the components of instances are declared

declared : (tree : Tree) (name : Name) (c : Component) → component_named tree name ≡ Some c → Contains tree c
declared tree name c named = (find-some _ tree c named).0

component_declared : (tree : Tree) (name : Name) (arguments : List ℤ) (top i : Instance) → top_instance tree name arguments ≡ Some top → Inst tree top i → Contains tree i.component
component_declared tree name arguments top _ is_top at_top =
    let t = top_parts tree name arguments top is_top in
    subst (Contains tree) (sym (ap (λ (i : Instance). i.component) t.is_top)) (declared tree name t.component t.named)
component_declared tree name arguments top _ is_top (below i j inst there) =
    let w = Contains-from_filter_map (instance_of tree i) (children_in i) j there in
    let parts = made_of_found (λ c zs. record { path = child_path i w.0; depth = suc i.depth; component = c; env = parameters c zs }) (λ c. w.0.arguments) (component_named tree w.0.component) j w.2 in
    subst (Contains tree) (ap (λ (k : Instance). k.component) parts.4) (declared tree w.0.component parts.0 parts.2)

-- ---- the arguments of a node

-- the child that an instance was, and the values of its arguments
record IsMadeOf (tree : Tree) (i : Instance) (child : Child) (j : Instance) : Type 0 where
  pub component : Component
  pub arguments : List ℤ
  pub there : Contains (children i.component i.env) child
  pub expanded : is_expanded i ≡ true
  pub named : component_named tree child.component ≡ Some component
  pub valued : child.arguments ≡ Some arguments
  pub component_is : j.component ≡ component
  pub env_is : j.env ≡ parameters component arguments

reached_there : {A : Type 0} (b : Bool) (xs : List A) (x : A) → Contains (cond b xs []) x → Contains xs x × (b ≡ true)
reached_there true xs x there = (there, refl)
reached_there false xs x there = absurd (Contains-nil x there)

made_of : (tree : Tree) (i j : Instance) → Contains (made_in tree i) j → (child : Child) × IsMadeOf tree i child j
made_of tree i j there =
    let w = Contains-from_filter_map (instance_of tree i) (children_in i) j there in
    let parts = made_of_found (λ c zs. record { path = child_path i w.0; depth = suc i.depth; component = c; env = parameters c zs }) (λ c. w.0.arguments) (component_named tree w.0.component) j w.2 in
    let child = reached_there (is_expanded i) (children i.component i.env) w.0 w.1 in (
      w.0,
      record {
        component = parts.0;
        arguments = parts.1;
        there = child.0;
        expanded = child.1;
        named = parts.2;
        valued = parts.3;
        component_is = ap (λ (k : Instance). k.component) (sym parts.4);
        env_is = ap (λ (k : Instance). k.env) (sym parts.4);
      },
    )

-- the instance has a value for each parameter
env_length :
    (tree : Tree) → NoFault tree → (i j : Instance) (child : Child) → Contains tree i.component → (m : IsMadeOf tree i child j) → length j.env ≡ length m.component.params
env_length tree no_fault i j child declared_ m =
    let by = made_by_entry i.component i.env child m.arguments m.there m.valued in
    let given : length by.made_.args ≡ length m.component.params =
    elim (eqb_tells (length by.made_.args) (length m.component.params)) [
      | inl same ↦ same.1
      | inr differ ↦ absurd (no_fault _ (types.within i.component _ declared_ (arg_count by.entry by.made_ m.component by.stands by.makes (ap (component_named tree) (sym by.component) ∙ m.named) differ.1)))
    ] in
    ap length m.env_is ∙ length-parameters m.component m.arguments (by.arguments ∙ given)

-- a component that is primitive has the parameters of its kind
kind_params : (tree : Tree) → NoFault tree → (c : Component) (k : Kind) → Contains tree c → is_primitive c ≡ true → kind_named c.name ≡ Some k → length c.params ≡ params_of_kind k
kind_params tree no_fault c k declared_ primitive named = by (is_like_kind k c) refl
  where
    first_true : (a b : Bool) → (a && b) ≡ true → a ≡ true
    first_true true b is = refl
    first_true false b is = absurd (false≢true is)

    by : (b : Bool) → is_like_kind k c ≡ b → length c.params ≡ params_of_kind k
    by false unlike = absurd (no_fault _ (types.within c _ declared_ (kind_ports k primitive named unlike)))
    by true like = eqb-true (length c.params) (params_of_kind k) (first_true (eqb (length c.params) (params_of_kind k)) (eqb (length c.arrays) 0) (first_true (eqb (length c.params) (params_of_kind k) && eqb (length c.arrays) 0) (is_end c.body) (first_true (is_bare k c) (has_ports_of k c) like)))

-- it lies in the range of kinds' arguments
few_kind : (z : ℤ) → is_kind_argument z ≡ true → natural z < 2 ^ 24
few_kind (pos n) is = ltb-true n 16777216 (second_true (int_le (pos 0) (pos n)) _ is)
  where
    second_true : (a b : Bool) → (a && b) ≡ true → b ≡ true
    second_true true b is = is
    second_true false b is = absurd (false≢true is)
few_kind (negsuc n) is = omega arith

in_range : (c : Component) (zs : List ℤ) → list_all is_kind_argument zs ≡ true → IfSome (option_map (λ v. natural v.value) (slice_get (parameters c zs) 0)) (λ a. a < 2 ^ 24)
in_range c zs all = by c.params zs all
  where
    env_of : List Name → List ℤ → Env
    env_of names zs = map (λ p. record { name = p.0; value = p.1 }) (zip names zs)

    by : (names : List Name) (zs : List ℤ) → list_all is_kind_argument zs ≡ true → IfSome (option_map (λ v. natural v.value) (slice_get (env_of names zs) 0)) (λ a. a < 2 ^ 24)
    by [] zs all = tt
    by (x ∷ names) [] all = tt
    by (x ∷ names) (z ∷ zs) all = few_kind z (first_true (is_kind_argument z) (list_all is_kind_argument zs) all)
      where
        first_true : (a b : Bool) → (a && b) ≡ true → a ≡ true
        first_true true b is = refl
        first_true false b is = absurd (false≢true is)

-- a child of a primitive component that has no fault has arguments in that range
kind_arguments : (tree : Tree) (i j : Instance) (child : Child) (m : IsMadeOf tree i child j) → own_faults tree i ≡ [] → is_primitive m.component ≡ true → list_all is_kind_argument m.arguments ≡ true
kind_arguments tree i j child m none primitive = by (list_all is_kind_argument m.arguments) refl
  where
    out : walk.Fault
    out = shown.OutOfRange child.at

    at_component : Component → List walk.Fault
    at_component c = option_map_or (λ zs. cond (is_primitive c && not (list_all is_kind_argument zs)) (out ∷ []) []) child.arguments []

    shows : list_all is_kind_argument m.arguments ≡ false → kind_argument_faults tree child ≡ out ∷ []
    shows unlike =
        ap (λ o. option_map_or at_component o []) m.named
        ∙ ap (λ o. option_map_or (λ zs. cond (is_primitive m.component && not (list_all is_kind_argument zs)) (out ∷ []) []) o []) m.valued
        ∙ ap (λ b. cond (b && not (list_all is_kind_argument m.arguments)) (out ∷ []) []) primitive
        ∙ ap (λ b. cond (not b) (out ∷ []) []) unlike

    own : own_faults tree i ≡ instance_faults i.component i.env ++ flat_map (kind_argument_faults tree) (children i.component i.env)
    own = ap (λ b. cond b (instance_faults i.component i.env ++ flat_map (kind_argument_faults tree) (children i.component i.env)) []) m.expanded

    by : (b : Bool) → list_all is_kind_argument m.arguments ≡ b → list_all is_kind_argument m.arguments ≡ true
    by true is = is
    by false is =
        let there = Contains-flat_map (kind_argument_faults tree) (children i.component i.env) child out m.there (subst (λ fs. Contains fs out) (sym (shows is)) (Contains-here out [])) in
        absurd (Contains-nil out (subst (λ fs. Contains fs out) (sym own ∙ none) (Contains-append_right (instance_faults i.component i.env) _ out there)))

-- the argument of an instance, by how many parameters there are
argument_present : (env : Env) (wanted : Bool) → length env ≡ cond wanted 1 0 → is_some (option_map (λ v. natural v.value) (slice_get env 0)) ≡ wanted
argument_present [] true same = absurd (omega (arith, same))
argument_present [] false same = refl
argument_present (v ∷ env) true same = refl
argument_present (v ∷ env) false same = absurd (omega (arith, same))

has_its_argument :
    (tree : Tree) (name : Name) (arguments : List ℤ) (top : Instance) → NoFault tree → top_instance tree name arguments ≡ Some top → IsClear tree top
    → (j : Instance) (n : Node) → Inst tree top j → node_of j ≡ Some n → HasItsArgument n
has_its_argument tree name arguments top no_fault is_top clear _ n at_top is_node =
    let t = top_parts tree name arguments top is_top in
    absurd (false≢true (sym t.composite ∙ ap (λ (i : Instance). is_primitive i.component) (sym t.is_top) ∙ (node_parts top n is_node).primitive))
has_its_argument tree name arguments top no_fault is_top clear _ n (below i j inst there) is_node =
    let w = made_of tree i j there in
    let m = w.1 in
    let node = node_parts j n is_node in
    let primitive = ap is_primitive (sym m.component_is) ∙ node.primitive in
    let declared_ = declared tree w.0.component m.component m.named in
    let params = kind_params tree no_fault m.component node.kind declared_ primitive (ap (λ (c : Component). kind_named c.name) (sym m.component_is) ∙ node.named) in
    let env = env_length tree no_fault i j w.0 (component_declared tree name arguments top i is_top inst) m ∙ params in
    let arg = ap (λ (x : Node). x.arg) node.is_node in
    record {
      present = ap is_some arg ∙ argument_present j.env (is_some (row node.kind).arg) env ∙ ap (λ (x : Node). is_some (row x.kind).arg) (sym node.is_node);
      below = subst (λ a. IfSome a (λ v. v < 2 ^ 24)) (ap (λ e. option_map (λ v. natural v.value) (slice_get e 0)) (sym m.env_is) ∙ sym arg) (in_range m.component m.arguments (kind_arguments tree i j w.0 m (clear.no_fault i inst) primitive));
    }

-- ---- the graph

pub sound_graph :
    (tree : Tree) (name : Name) (arguments : List ℤ) (top : Instance) (g : Graph) → NoFault tree → top_instance tree name arguments ≡ Some top
    → IsClear tree top → IsElab tree top g → HasNoCycle (graph_wiring g) → Sound g
sound_graph tree name arguments top g no_fault is_top clear is_elab no_cycle = record {
  paths_rise = is_elab.paths_rise;
  arguments = λ i d within.
      let n = (is_elab.nodes_are (get_or g.nodes i d)).0 (Contains-get_or g.nodes i d within) in
      has_its_argument tree name arguments top no_fault is_top clear n.instance (get_or g.nodes i d) n.is_instance n.is_node;
  within = λ i d within.
      let l = (links_listed tree top g is_elab (get_or g.links i d)).0 (Contains-get_or g.links i d within) in
      record { begins = begins_within tree top g.nodes (get_or g.links i d) l; ends = ends_within tree top g.nodes (get_or g.links i d) l };
  in_order = is_elab.in_order;
  no_cycle = no_cycle;
}

pub answer-sound :
    (e : Expanded) (tree : Tree) (name : Name) (arguments : List ℤ) (top : Instance) (r : Result Graph ElabError) → e.tree ≡ tree → NoFault tree
    → top_instance tree name arguments ≡ Some top → IsClear tree top → Answers error.NoMemory (IsBuilt e top) (BuildFault e top) r → IfOk r Sound
answer-sound e tree name arguments top (Ok g) same no_fault is_top clear built =
    sound_graph tree name arguments top g no_fault is_top clear (subst (λ t. IsElab t top g) same built.is_elab) built.no_cycle
answer-sound e tree name arguments top (Err f) same no_fault is_top clear fault = tt
