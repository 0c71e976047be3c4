-- The instances of an expansion as they are made and opened one after another: what holds of those that are there.
use Rattle.std.specs.Prelude.{◌≡◌, ℕ, suc, false, ◌+◌, ◌<◌, ◌≤◌, List, [], ◌++◌, map, length, sum_by, Some, None, slice_get, Contains}
use Rattle.std.specs.List.{flat_map}
use Rattle.darwin_parser.specs.Tree.{Tree, component_of, tree_of}
use Rattle.darwin_types.specs.Scope.{is_primitive}
use Rattle.elaborator.specs.Paths.{Path}
use Rattle.elaborator.specs.Instances.{Instance, made_in, paths_in, levels, instances, count_in}
use Rattle.elaborator.specs.Faults.{own_faults, Twice}
use Rattle.elaborator.specs.Numbering.{NumberedInstance}
use Rattle.elaborator.specs.Expansion.{instance_in, made_of, IsMapped, IsShown}
use Rattle.elaborator.specs.declared.instance.Instance as code
use Rattle.elaborator.specs.declared.instance.Expansion.{Expansion}
use Rattle.elaborator.specs.declared.growing.Growth.{Growth}

-- an instance that is made in the one of the number
abbrev pub made_by : ℕ → Instance → NumberedInstance
made_by m j = record { instance = j; maker = Some m }

-- the instance was opened, and showed no fault
pub record IsWalkedClean (tree : Tree) (i : Instance) : Type 0 where
  pub no_fault : own_faults tree i ≡ []
  pub once : (path : Path) → ¬ Twice (paths_in tree i) path
  pub paths : paths_in tree i ≡ map (λ (j : Instance). j.path) (made_in tree i)
  pub shallow : i.depth < 33

-- the first is the top, and the others are those that the first so many make, which are opened
pub record IsGrown (tree : Tree) (top : Instance) (made : List NumberedInstance) (opened : ℕ) : Type 0 where
  pub first : slice_get made 0 ≡ Some (record { instance = top; maker = None })
  pub maker :
      (n : ℕ) (x : NumberedInstance) → slice_get made (suc n) ≡ Some x
      → (m : ℕ) × (y : NumberedInstance) × (x.maker ≡ Some m) × (m < suc n) × (m < opened)
      × (slice_get made m ≡ Some y) × Contains (made_in tree y.instance) x.instance
  pub below :
      (m : ℕ) (y : NumberedInstance) (j : Instance) → m < opened → slice_get made m ≡ Some y → Contains (made_in tree y.instance) j
      → (n : ℕ) × (slice_get made n ≡ Some (made_by m j))
  pub clear : (m : ℕ) (y : NumberedInstance) → m < opened → slice_get made m ≡ Some y → IsWalkedClean tree y.instance

-- the instances level by level, where one level is half opened: those of the levels before, those of this level that
-- are opened, those of it that are not, and those that the opened ones of it make
pub record IsSpread (tree : Tree) (top : Instance) (made : List Instance) (opened room : ℕ) : Type 0 where
  pub before : List Instance
  pub done : List Instance
  pub left : List Instance
  -- so many levels lie below this one
  pub deeper : ℕ
  pub made_is : made ≡ before ++ done ++ left ++ flat_map (made_in tree) done
  pub opened_is : opened ≡ length before + length done
  pub all : instances tree top ≡ before ++ levels tree deeper (done ++ left)
  pub depth : (i : Instance) → Contains (done ++ left) i → i.depth + deeper ≡ 33
  pub counted : sum_by count_in (before ++ done) + room ≡ 65536

-- the code's instance tells whether its component is primitive
abbrev pub IsTold : code.Instance → Type 0
IsTold i = i.is_primitive ≡ is_primitive (component_of i.component.now)

-- what holds while instances are opened
pub record IsGrowth (top : Instance) (g : Growth) : Type 0 where
  pub at_top : top.depth ≡ 0
  pub composite_top : is_primitive top.component ≡ false
  pub grown : IsGrown (tree_of g.expansion.directory.unit.now) top (map made_of g.expansion.instances.items) g.opened
  pub spread : IsSpread (tree_of g.expansion.directory.unit.now) top (map instance_in g.expansion.instances.items) g.opened g.room
  pub mapped : IsMapped g.expansion
  pub told : (n : ℕ) (i : code.Instance) → slice_get g.expansion.instances.items n ≡ Some i → IsTold i
  pub shown : (n : ℕ) (i : code.Instance) → n < g.opened → slice_get g.expansion.instances.items n ≡ Some i → IsShown i
  pub few : length g.expansion.instances.items + g.room ≤ 65537
  pub within : g.opened ≤ length g.expansion.instances.items

-- instances are added to an expansion
pub record IsExtended (old : Expansion) (made : List code.Instance) (new : Expansion) : Type 0 where
  pub instances : new.instances.items ≡ old.instances.items ++ made
  pub same_unit : new.directory.unit ≡ old.directory.unit
  pub mapped : IsMapped new

-- two instances, neither of which is the top, have one path; the second is not among the first so many
pub record IsClash (all : List code.Instance) (old : ℕ) (path : Path) : Type 0 where
  pub first : ℕ
  pub second : ℕ
  pub one : code.Instance
  pub other : code.Instance
  pub made : 0 < first
  pub in_order : first < second
  pub later : old ≤ second
  pub one_at : slice_get all first ≡ Some one
  pub other_at : slice_get all second ≡ Some other
  pub one_path : one.path ≡ path
  pub other_path : other.path ≡ path
