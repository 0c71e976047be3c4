-- What holds of an expansion as the code keeps it.
use Rattle.std.specs.Prelude.{◌≡◌, ℕ, ℤ, ◌≤◌, List, Option, Some, None, length, map, slice_get}
use Rattle.std.specs.Option.{option_flatten}
use Rattle.elaborator.specs.Paths.{Path}
use Rattle.elaborator.specs.Bindings.{bindings_in}
use Rattle.darwin_types.specs.Scope.{is_primitive}
use Rattle.darwin_parser.specs.declared.tree.Component as code_component
use Rattle.darwin_parser.specs.Tree.{Tree, PortDecl, component_of, tree_of}
use Rattle.darwin_walk.specs.Instance.{index_value}
use Rattle.darwin_walk.specs.Spine.{env_of}
use Rattle.darwin_walk.specs.Walked.{binding_of}
use Rattle.elaborator.specs.Instances as pure
use Rattle.elaborator.specs.PathNumbers.{IsHashed, AreDistinct}
use Rattle.elaborator.specs.Numbering.{NumberedInstance, Expanded, IsExpanded}
use Rattle.elaborator.specs.declared.instance.Instance.{Instance}
use Rattle.elaborator.specs.declared.instance.Expansion.{Expansion}

-- a description, from its components
abbrev pub tree_at : List code_component.Component → Tree
tree_at = map component_of

abbrev pub instance_in : Instance → pure.Instance
instance_in i = record { path = i.path; depth = i.depth; component = component_of i.component.now; env = env_of i.env.items }

abbrev pub made_of : Instance → NumberedInstance
made_of i = record { instance = instance_in i; maker = i.maker }

-- the instances of an expansion
abbrev pub expanded_of : Expansion → Expanded
expanded_of e = record { tree = tree_of e.directory.unit.now; made = map made_of e.instances.items }

-- the paths of the instances, that of the top first
abbrev pub paths_of : Expansion → List Path
paths_of e = map (λ (i : Instance). i.path) e.instances.items

-- each instance but the top is found by its path, which no other of them has
pub record IsMapped (e : Expansion) : Type 0 where
  pub hashed : IsHashed (paths_of e) e.numbers
  pub distinct : AreDistinct (paths_of e)

-- the sizes are those of the ports at their places: none of one that has none
abbrev pub AreSizes : pure.Instance → List (Option ℤ) → Type 0
AreSizes i sizes = (k : ℕ) (d : PortDecl) → slice_get i.component.ports k ≡ Some d
    → index_value d.size i.env ≡ Some (option_flatten (slice_get sizes k))

-- an instance that is opened has its bindings, and sizes of its ports
pub record IsShown (i : Instance) : Type 0 where
  pub bindings : map binding_of i.bindings.items ≡ bindings_in (instance_in i)
  pub sizes : AreSizes (instance_in i) i.port_sizes.items

-- the instances have their bindings, and each but the top is found by its path
pub record IsNumbering (e : Expansion) : Type 0 where
  pub is_expanded : IsExpanded (expanded_of e)
  pub few : length e.instances.items ≤ 65537
  pub primitive : (n : ℕ) (i : Instance) → slice_get e.instances.items n ≡ Some i
      → i.is_primitive ≡ is_primitive (component_of i.component.now)
  pub bindings : (n : ℕ) (i : Instance) → slice_get e.instances.items n ≡ Some i
      → map binding_of i.bindings.items ≡ bindings_in (instance_in i)
  pub sizes : (n : ℕ) (i : Instance) → slice_get e.instances.items n ≡ Some i → AreSizes (instance_in i) i.port_sizes.items
  pub mapped : IsMapped e
  pub top : (i : Instance) → slice_get e.instances.items 0 ≡ Some i → i.maker ≡ None
