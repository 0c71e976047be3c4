-- The instances of an elaboration by number, from 0, each with the number of the one in which it was made.
use Rattle.std.specs.Prelude.{◌≡◌, ℕ, ◌<◌, false, List, Option, Some, None, slice_get, Contains, MatchOption, find, Bool, bytes_eq}
use Rattle.darwin_parser.specs.Tree.{Tree}
use Rattle.darwin_types.specs.Scope.{component_named, is_primitive}
use Rattle.elaborator.specs.Paths.{Path}
use Rattle.elaborator.specs.Instances.{Instance, made_in, Inst}

pub record NumberedInstance : Type 0 where
  pub instance : Instance
  -- the top has none
  pub maker : Option ℕ

pub record Expanded : Type 0 where
  pub tree : Tree
  pub made : List NumberedInstance

-- an instance with its number
pub record Numbered (e : Expanded) (n : ℕ) (i : Instance) : Type 0 where
  pub maker : Option ℕ
  pub is_at : slice_get e.made n ≡ Some (record { instance = i; maker = maker })

-- an instance with its number, and that of the one in which it was made
abbrev pub NumberedIn : Expanded → ℕ → ℕ → Instance → Type 0
NumberedIn e m n i = slice_get e.made n ≡ Some (record { instance = i; maker = Some m })

-- what holds where no two entries make the instance of one path, and none is too deep
pub record IsExpanded (e : Expanded) : Type 0 where
  -- an instance stands below its maker
  pub made_below : (m n : ℕ) (i j : Instance) → Numbered e m i → NumberedIn e m n j → Contains (made_in e.tree i) j
  -- and all that stand below it have it as their maker
  pub below_made : (m : ℕ) (i j : Instance) → Numbered e m i → Contains (made_in e.tree i) j → (n : ℕ) × NumberedIn e m n j
  -- a number is told by the path and the depth, and by the path alone where the instance is made
  pub distinct : (m n : ℕ) (i j : Instance) → Numbered e m i → Numbered e n j → i.path ≡ j.path → i.depth ≡ j.depth → m ≡ n
  pub one_path : (a b m n : ℕ) (i j : Instance) → NumberedIn e a m i → NumberedIn e b n j → i.path ≡ j.path → m ≡ n
  pub shallow : (n : ℕ) (i : Instance) → Numbered e n i → i.depth < 33
  -- an instance is of the component that has the name
  pub named : (n : ℕ) (i : Instance) → Numbered e n i → component_named e.tree i.component.name ≡ Some i.component
  -- the top is no node
  pub composite_top : (n : ℕ) (i : Instance) → slice_get e.made n ≡ Some (record { instance = i; maker = None })
      → is_primitive i.component ≡ false

-- the instances are those of the elaboration with this top
pub record IsOf (e : Expanded) (top : Instance) : Type 0 where
  pub sound : (n : ℕ) (i : Instance) → Numbered e n i → Inst e.tree top i
  pub complete : (i : Instance) → Inst e.tree top i → (n : ℕ) × Numbered e n i

-- the answer to a search for an instance of a path among those made in an instance
abbrev pub IsChild : Expanded → ℕ → Path → Option ℕ → Type 0
IsChild e m path r = (i : Instance) → Numbered e m i → MatchOption r (find (is_at path) (made_in e.tree i) ≡ None)
    (λ n. (j : Instance) × NumberedIn e m n j × (find (is_at path) (made_in e.tree i) ≡ Some j))
  where
    is_at : Path → Instance → Bool
    is_at path j = bytes_eq path j.path
