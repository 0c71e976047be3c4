-- To be believed (definitions.md).
-- The faults of an elaboration: the set of those that hold. Where it is empty the elaboration is the graph.
use Rattle.std.specs.Prelude.{Bool, ◌≡◌, ◌≢◌, ◌<◌, ℕ, true, ◌&&◌, not, ℤ, pos, int_le, int_lt, List, [], ◌∷◌, ◌++◌, length, sum_by, Option, Some, None, if◌then◌else◌, Contains, slice_get}
use Rattle.std.specs.List.{flat_map, list_all}
use Rattle.std.specs.Option.{option_map_or}
use Rattle.darwin_lexer.specs.declared.token.At.{At}
use Rattle.darwin_parser.specs.Tree.{Name, Tree, Component, Expr}
use Rattle.darwin_types.specs.Scope.{component_named, is_primitive}
use Rattle.config_graph.specs.declared.node.Node.{Node}
use Rattle.darwin_walk.specs.Value.{Env, integer, value}
use Rattle.darwin_walk.specs.Instance.{Child, End, Binding, index_fault, children, instance_faults}
use Rattle.darwin_walk.specs.declared.fault.Fault.{Fault}
use Rattle.darwin_walk.specs.declared.fault.Fault.TheVariants as shown
use Rattle.elaborator.specs.Paths.{Path, end_bytes}
use Rattle.elaborator.specs.Instances.{Instance, top_instance, Inst, is_expanded, count_in, paths_in}
use Rattle.elaborator.specs.Bindings.{NamedPort, resolve, Pair, pair_of, pairs_in, bindings_in}
use Rattle.config_graph.specs.Graph.{Graph}
use Rattle.config_graph.specs.Cycles.{FirstOnCycle}
use Rattle.elaborator.specs.Graph.{IsElab}
use Rattle.elaborator.specs.declared.error.ElabError.{ElabError}
use Rattle.elaborator.specs.declared.error.ElabError.TheVariants as error
use Rattle.darwin_types.specs.Faults.{carried}

-- the arguments of an instance of a primitive component are from 0 to 16,777,215
abbrev pub is_kind_argument : ℤ → Bool
is_kind_argument z = int_le (pos 0) z && int_lt z (pos 16777216)

abbrev pub kind_argument_faults : Tree → Child → List Fault
kind_argument_faults tree child =
    option_map_or
    (λ c. option_map_or
    (λ zs. if is_primitive c && not (list_all is_kind_argument zs) then shown.OutOfRange child.at ∷ [] else [])
    child.arguments [])
    (component_named tree child.component) []

-- an index of a port of this size isn't from 0 to the size less 1
abbrev pub sized_index_faults : At → Env → Option Expr → Option ℤ → List Fault
sized_index_faults at env (Some size) (Some index) = index_fault at (value size env) (integer index)
sized_index_faults at env _ _ = []

-- so of a port that is named, and of the port that an end names, where it names one
abbrev pub named_index_faults : At → NamedPort → List Fault
named_index_faults at x = sized_index_faults at x.instance.env x.decl.size x.index

abbrev pub port_index_faults : Tree → Instance → At → End → List Fault
port_index_faults tree i at e = option_map_or (named_index_faults at) (resolve tree i e) []

-- the faults of values and of indexes of instances, in an instance
abbrev pub own_faults : Tree → Instance → List Fault
own_faults tree i = if is_expanded i then instance_faults i.component i.env
    ++ flat_map (kind_argument_faults tree) (children i.component i.env) else []

-- those, and the faults of indexes of ports
abbrev pub faults_in : Tree → Instance → List Fault
faults_in tree i =
    own_faults tree i ++ flat_map (λ b. port_index_faults tree i b.at b.left ++ port_index_faults tree i b.at b.right) (bindings_in i)

-- the notes of two ports differ, where both have one
pub data NotesDiffer (x y : Option NamedPort) : Type 0 where
  differ :
      (m n : NamedPort) (note note' : List Name) → x ≡ Some m → y ≡ Some n → m.decl.note ≡ Some note
      → n.decl.note ≡ Some note' → note ≢ note'
      → NotesDiffer x y

-- an element stands at two places of a list
pub data Twice {X : Type 0} (xs : List X) (x : X) : Type 0 where
  twice : (before between after : List X) → xs ≡ before ++ (x ∷ between) ++ (x ∷ after) → Twice xs x

-- different instances of the elaboration take more turns and reach more entries than so many
pub record CountsMore (tree : Tree) (top : Instance) (limit : ℕ) : Type 0 where
  pub counted : List Instance
  pub once : (i : Instance) → ¬ Twice counted i
  pub each : (i : Instance) → Contains counted i → Inst tree top i
  pub above : limit < sum_by count_in counted

-- an instance of the elaboration: the one at the top, or one that is made in an instance of it
pub record IsInstance (tree : Tree) (name : Name) (arguments : List ℤ) (i : Instance) : Type 0 where
  pub top : Instance
  pub is_top : top_instance tree name arguments ≡ Some top
  pub inst : Inst tree top i

-- the faults of the elaboration of a description, with a component of a name at the top that has arguments
pub data Faults (tree : Tree) (name : Name) (arguments : List ℤ) : ElabError → Type 0 where
  -- no component has the name
  no_top : component_named tree name ≡ None → Faults tree name arguments (error.NoTop name)
  -- the component is primitive
  top_is_kind :
      (c : Component) → component_named tree name ≡ Some c → is_primitive c ≡ true → Faults tree name arguments (error.TopIsKind name)
  -- the numbers of parameters and arguments differ
  top_args :
      (c : Component) → component_named tree name ≡ Some c → length c.params ≢ length arguments
      → Faults tree name arguments (error.TopArgs (carried (length c.params)) (carried (length arguments)))
  -- a result isn't from -2,147,483,648 to 2,147,483,647, or a kind's argument isn't from 0 to 16,777,215
  out_of_range :
      (i : Instance) (at : At) → IsInstance tree name arguments i → Contains (faults_in tree i) (shown.OutOfRange at)
      → Faults tree name arguments (error.OutOfRange i.path at)
  -- a right side of `/` or `%` is 0
  zero_divisor :
      (i : Instance) (at : At) → IsInstance tree name arguments i → Contains (faults_in tree i) (shown.ZeroDivisor at)
      → Faults tree name arguments (error.ZeroDivisor i.path at)
  -- an index isn't from 0 to the size less 1
  bad_index :
      (i : Instance) (at : At) → IsInstance tree name arguments i → Contains (faults_in tree i) (shown.BadIndex at)
      → Faults tree name arguments (error.BadIndex i.path at)
  -- two reached entries make the instance of a path: two of one instance, or one each of two
  two_instances :
      (i : Instance) (path : Path) → IsInstance tree name arguments i → Twice (paths_in tree i) path
      → Faults tree name arguments (error.TwoInstances path)
  two_apart :
      (i j : Instance) (path : Path) → IsInstance tree name arguments i → IsInstance tree name arguments j → i ≢ j
      → Contains (paths_in tree i) path → Contains (paths_in tree j) path → Faults tree name arguments (error.TwoInstances path)
  -- in an instance one source is bound to two different ends
  bound_twice :
      (i : Instance) (p q : Pair) → IsInstance tree name arguments i → Contains (pairs_in tree i) p → Contains (pairs_in tree i) q
      → p.source ≡ q.source → p.target ≢ q.target → Faults tree name arguments (error.BoundTwice i.path (end_bytes p.end))
  -- a reached binding gives no pair: it is of another form, or names an instance that isn't made, or an index is
  -- missing or stands where none belongs
  bad_binding :
      (i : Instance) (b : Binding) → IsInstance tree name arguments i → Contains (bindings_in i) b → pair_of tree i b ≡ []
      → Faults tree name arguments (error.BadBinding i.path b.at)
  -- both ports of a reached binding have a note, and the notes differ
  annotation :
      (i : Instance) (b : Binding) → IsInstance tree name arguments i → Contains (bindings_in i) b
      → NotesDiffer (resolve tree i b.left) (resolve tree i b.right) → Faults tree name arguments (error.Annotation i.path b.at)
  -- a reached entry makes an instance of depth 33
  too_deep :
      (i : Instance) → IsInstance tree name arguments i → i.depth ≡ 33 → Faults tree name arguments (error.TooDeep i.path)
  -- more than 65,536 turns are taken and entries reached, each instance counted once
  too_many : (top : Instance) → top_instance tree name arguments ≡ Some top → CountsMore tree top 65536
      → Faults tree name arguments error.TooMany
  -- nodes lie on cycles of depended-on links; the first by its path is named
  depends_cycle :
      (top : Instance) (g : Graph) (i : ℕ) (n : Node) → top_instance tree name arguments ≡ Some top → IsElab tree top g
      → FirstOnCycle g i → slice_get g.nodes i ≡ Some n → Faults tree name arguments (error.DependsCycle n.path)
