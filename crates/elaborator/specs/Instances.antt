-- To be believed (definitions.md).
-- The instances of an elaboration: the top, and below each instance those that the entries reached in it make. Nothing
-- is reached in an instance of a primitive component, which is a node, nor in one of depth 33, which is too deep.
use Rattle.std.specs.Prelude.{ℕ, zero, suc, Bool, ◌&&◌, not, nat_lt, ℤ, List, [], ◌∷◌, ◌++◌, length, sum_by, Option, Some, None, option_map, option_and_then, if◌then◌else◌, ◌==◌, Contains}
use Rattle.std.specs.List.{flat_map, filter_map}
use Rattle.darwin_parser.specs.Tree.{Name, Tree, Component}
use Rattle.darwin_types.specs.Scope.{component_named, is_primitive}
use Rattle.darwin_walk.specs.Value.{Env, parameters}
use Rattle.darwin_walk.specs.Reached.{count}
use Rattle.darwin_walk.specs.Instance.{Child, children}
use Rattle.elaborator.specs.Paths.{Path, within}

pub record Instance : Type 0 where
  pub path : Path
  -- how many instances it lies within
  pub depth : ℕ
  pub component : Component
  -- the values of its parameters
  pub env : Env

-- the instance at the top, where the component is there and composite, and has as many parameters as there are
-- arguments
abbrev pub top_instance : Tree → Name → List ℤ → Option Instance
top_instance tree name arguments = option_and_then instance (component_named tree name)
  where
    instance : Component → Option Instance
    instance c =
        if not (is_primitive c) && (length c.params == length arguments)
        then Some (record { path = []; depth = 0; component = c; env = parameters c arguments })
        else None

-- whether statements of the instance are reached at all
abbrev pub is_expanded : Instance → Bool
is_expanded i = not (is_primitive i.component) && nat_lt i.depth 33

-- what the entries reached in an instance make
abbrev pub children_in : Instance → List Child
children_in i = if is_expanded i then children i.component i.env else []

abbrev pub child_path : Instance → Child → Path
child_path i child = within i.path child.segment

-- the instance that an entry makes within another; it makes none where an argument has no value
abbrev pub instance_of : Tree → Instance → Child → Option Instance
instance_of tree i child =
    option_and_then
    (λ c. option_map
    (λ arguments. record { path = child_path i child; depth = suc i.depth; component = c; env = parameters c arguments })
    child.arguments)
    (component_named tree child.component)

-- the instances right below an instance
abbrev pub made_in : Tree → Instance → List Instance
made_in tree i = filter_map (instance_of tree i) (children_in i)

-- an instance of the elaboration with this top: the least relation that holds of the top, and of each instance that an
-- entry reached in an instance of the elaboration makes
pub data Inst (tree : Tree) (top : Instance) : Instance → Type 0 where
  at_top : Inst tree top top
  below : (i j : Instance) → Inst tree top i → Contains (made_in tree i) j → Inst tree top j

-- these instances, and as many levels of those that they make as are said
unfoldable pub levels : Tree → ℕ → List Instance → List Instance
levels tree zero is = is
levels tree (suc n) is = is ++ levels tree n (flat_map (made_in tree) is)

-- all instances as a list, level by level: none lies deeper than 33
abbrev pub instances : Tree → Instance → List Instance
instances tree top = levels tree 33 (top ∷ [])

-- how many turns are taken and entries reached in an instance
abbrev pub count_in : Instance → ℕ
count_in i = if is_expanded i then count i.component i.env else 0

-- the same over all instances
abbrev pub total : Tree → Instance → ℕ
total tree top = sum_by count_in (instances tree top)

-- the path of the instance that an entry makes within another, also where an argument has no value
abbrev pub path_of : Tree → Instance → Child → Option Path
path_of tree i child = option_map (λ c. child_path i child) (component_named tree child.component)

-- the paths that entries reached in an instance make
abbrev pub paths_in : Tree → Instance → List Path
paths_in tree i = filter_map (path_of tree i) (children_in i)
