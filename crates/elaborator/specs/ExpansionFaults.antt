-- What an expansion tells: the faults that are found while instances are made, and that none of them holds.
use Rattle.std.specs.Prelude.{◌≡◌, ◌≢◌, ◌<◌, ◌≤◌, false, [], Some, None, Contains}
use Rattle.darwin_lexer.specs.declared.token.At.{At}
use Rattle.darwin_parser.specs.Tree.{Tree, component_of, tree_of}
use Rattle.darwin_parser.specs.declared.tree.Unit.{Unit as Description}
use Rattle.darwin_types.specs.Scope.{component_named, is_primitive}
use Rattle.darwin_walk.specs.declared.fault.Fault.TheVariants as shown
use Rattle.elaborator.specs.Paths.{Path}
use Rattle.elaborator.specs.Instances.{Instance, Inst, total, paths_in}
use Rattle.elaborator.specs.Faults.{own_faults, Twice, CountsMore}
use Rattle.elaborator.specs.Numbering.{IsOf}
use Rattle.elaborator.specs.Expansion.{instance_in, expanded_of, IsNumbering}
use Rattle.elaborator.specs.declared.instance.Instance as code
use Rattle.elaborator.specs.declared.instance.Expansion.{Expansion}
use Rattle.elaborator.specs.declared.error.ElabError.{ElabError}
use Rattle.elaborator.specs.declared.error.ElabError.TheVariants as error

-- the instance may stand at the top
pub record IsTop (tree : Tree) (i : code.Instance) : Type 0 where
  pub named : component_named tree i.component.now.name ≡ Some (component_of i.component.now)
  pub unmade : i.maker ≡ None
  pub depth : i.depth ≡ 0
  pub composite : is_primitive (component_of i.component.now) ≡ false
  pub noted : i.is_primitive ≡ false

-- the faults that are found while instances are made
pub data GrowthFault (tree : Tree) (top : Instance) : ElabError → Type 0 where
  out_of_range : (i : Instance) (at : At) → Inst tree top i → Contains (own_faults tree i) (shown.OutOfRange at)
      → GrowthFault tree top (error.OutOfRange i.path at)
  zero_divisor : (i : Instance) (at : At) → Inst tree top i → Contains (own_faults tree i) (shown.ZeroDivisor at)
      → GrowthFault tree top (error.ZeroDivisor i.path at)
  bad_index : (i : Instance) (at : At) → Inst tree top i → Contains (own_faults tree i) (shown.BadIndex at)
      → GrowthFault tree top (error.BadIndex i.path at)
  two_instances : (i : Instance) (path : Path) → Inst tree top i → Twice (paths_in tree i) path
      → GrowthFault tree top (error.TwoInstances path)
  two_apart :
      (i j : Instance) (path : Path) → Inst tree top i → Inst tree top j → i ≢ j → Contains (paths_in tree i) path
      → Contains (paths_in tree j) path
      → GrowthFault tree top (error.TwoInstances path)
  too_deep : (i : Instance) → Inst tree top i → i.depth ≡ 33 → GrowthFault tree top (error.TooDeep i.path)
  too_many : CountsMore tree top 65536 → GrowthFault tree top error.TooMany

-- none of them holds
pub record IsClear (tree : Tree) (top : Instance) : Type 0 where
  pub no_fault : (i : Instance) → Inst tree top i → own_faults tree i ≡ []
  pub once : (i : Instance) (path : Path) → Inst tree top i → ¬ Twice (paths_in tree i) path
  pub apart :
      (i j : Instance) (path : Path) → Inst tree top i → Inst tree top j → Contains (paths_in tree i) path
      → Contains (paths_in tree j) path → i ≡ j
  pub shallow : (i : Instance) → Inst tree top i → i.depth < 33
  pub few : total tree top ≤ 65536

-- all instances of a description with this top, where none of the faults holds
pub record IsWhole (unit : Description) (top : code.Instance) (e : Expansion) : Type 0 where
  pub kept : IsNumbering e
  pub same_tree : tree_of e.directory.unit.now ≡ tree_of unit
  pub is_of : IsOf (expanded_of e) (instance_in top)
  pub clear : IsClear (tree_of unit) (instance_in top)
