-- Where chains of bindings lead, by the numbers that ports have.
use Rattle.std.specs.Prelude.{◌≡◌, ℕ, zero, suc, Bool, ◌&&◌, ◌==◌, List, Option, Some, if◌then◌else◌, ◌≢◌, ◌<◌, [], ◌∷◌, ◌++◌, Contains, map}
use Rattle.std.specs.Map.{lookup}
use Rattle.std.specs.Option.{option_eq, option_map_or}
use Rattle.std.specs.Ordering.{int_eq}
use Rattle.elaborator.specs.declared.chains.PortId.{PortId}
use Rattle.std.specs.List.{flat_map}
use Rattle.darwin_lexer.specs.declared.token.At.{At}
use Rattle.darwin_parser.specs.Tree.{Tree}
use Rattle.darwin_walk.specs.Instance.{Binding}
use Rattle.darwin_walk.specs.Walked.{walked_end}
use Rattle.darwin_walk.specs.declared.fault.Fault.TheVariants as shown
use Rattle.elaborator.specs.Paths.{end_bytes}
use Rattle.elaborator.specs.Instances.{Instance}
use Rattle.elaborator.specs.Bindings.{Pair, resolve, pair_of, bindings_in, pairs_in}
use Rattle.elaborator.specs.Faults.{port_index_faults, NotesDiffer}
use Rattle.elaborator.specs.Numbering.{Expanded, Numbered}
use Rattle.elaborator.specs.Ports.{IsPort}
use Rattle.elaborator.specs.declared.pairs.Pair as code
use Rattle.elaborator.specs.declared.error.ElabError.{ElabError}
use Rattle.elaborator.specs.declared.error.ElabError.TheVariants as error

-- whether two ports are one
abbrev pub port_eq : PortId → PortId → Bool
port_eq x y = (x.instance == y.instance) && ((x.port == y.port) && option_eq int_eq x.index y.index)

-- the target of a source
abbrev pub chain_target : List (PortId × PortId) → PortId → Option PortId
chain_target pairs x = lookup (port_eq x) pairs

-- the source has this target now, and all others theirs as before
abbrev pub Updated : List (PortId × PortId) → List (PortId × PortId) → PortId → PortId → Type 0
Updated old new source target = (x : PortId) → chain_target new x ≡ (if port_eq source x then Some target else chain_target old x)

-- the end to which so many bindings lead at most
unfoldable pub chain_end : ℕ → List (PortId × PortId) → PortId → PortId
chain_end zero pairs x = x
chain_end (suc n) pairs x = option_map_or (chain_end n pairs) (chain_target pairs x) x

-- a pair as the code keeps it
pub record IsPair (e : Expanded) (x : code.Pair) (p : Pair) : Type 0 where
  pub end : walked_end x.end ≡ p.end
  pub source : IsPort e x.source p.source
  pub target : IsPort e x.target p.target

-- the faults of a binding that is reached in an instance
pub data FaultOf (tree : Tree) (i : Instance) (b : Binding) : ElabError → Type 0 where
  bad_binding : pair_of tree i b ≡ [] → FaultOf tree i b (error.BadBinding i.path b.at)
  bad_index :
      (at : At) → Contains (port_index_faults tree i b.at b.left ++ port_index_faults tree i b.at b.right) (shown.BadIndex at)
      → FaultOf tree i b (error.BadIndex i.path at)
  annotation : NotesDiffer (resolve tree i b.left) (resolve tree i b.right) → FaultOf tree i b (error.Annotation i.path b.at)

-- the pair of a binding that has none of them
pub record IsLawful (tree : Tree) (i : Instance) (b : Binding) (p : Pair) : Type 0 where
  pub is_pair : pair_of tree i b ≡ p ∷ []
  pub indexes : port_index_faults tree i b.at b.left ++ port_index_faults tree i b.at b.right ≡ []
  pub notes : ¬ NotesDiffer (resolve tree i b.left) (resolve tree i b.right)

-- the bindings of a list have none of them
abbrev pub AreLawful : Tree → Instance → List Binding → Type 0
AreLawful tree i bs = (b : Binding) → Contains bs b → (p : Pair) × IsLawful tree i b p

-- the index has these pairs and no others
pub record IsIndex (e : Expanded) (pairs : List Pair) (targets : List (PortId × PortId)) : Type 0 where
  pub sound : (k t : PortId) → chain_target targets k ≡ Some t → (p : Pair) × Contains pairs p × IsPort e k p.source × IsPort e t p.target
  pub complete : (p : Pair) → Contains pairs p → (k t : PortId) × IsPort e k p.source × IsPort e t p.target
      × (chain_target targets k ≡ Some t)

-- another pair of the same source has another target
pub record Clashes (pairs : List Pair) (p : Pair) : Type 0 where
  pub other : Pair
  pub is_there : Contains pairs other
  pub same_source : p.source ≡ other.source
  pub other_target : p.target ≢ other.target

-- the faults of the bindings of an expansion
pub data BindingFault (e : Expanded) : ElabError → Type 0 where
  of_binding :
      (n : ℕ) (i : Instance) (b : Binding) (f : ElabError) → Numbered e n i → Contains (bindings_in i) b → FaultOf e.tree i b f
      → BindingFault e f
  bound_twice :
      (n : ℕ) (i : Instance) (p : Pair) → Numbered e n i → Contains (pairs_in e.tree i) p → Clashes (pairs_in e.tree i) p
      → BindingFault e (error.BoundTwice i.path (end_bytes p.end))

-- the pairs of all instances
abbrev pub all_pairs : Expanded → List Pair
all_pairs e = flat_map (pairs_in e.tree) (map (λ m. m.instance) e.made)

-- each pair of a list is of an instance before this one
abbrev pub AreBefore : Expanded → ℕ → List Pair → Type 0
AreBefore e n pairs = (p : Pair) → Contains pairs p → (m : ℕ) × (i : Instance) × (m < n) × Numbered e m i × Contains (pairs_in e.tree i) p

-- the bindings have no fault, and the index has their pairs
pub record IsIndexed (e : Expanded) (targets : List (PortId × PortId)) : Type 0 where
  pub is_index : IsIndex e (all_pairs e) targets
  pub no_fault : (f : ElabError) → ¬ BindingFault e f
