-- How an instance is found by its path: from the last whose path has its hash, back from each to the one before it.
use Rattle.std.specs.Prelude.{◌≡◌, ℕ, ◌<◌, ◌≤◌, ◌==◌, List, ◌∷◌, [], ◌++◌, Option, Some, length, slice_get, IfSome, if◌then◌else◌, nat_eq}
use Rattle.std.specs.Hash.FoldHasher.{initial, write, finish}
use Rattle.indexmap.specs.IndexMap.{get}
use Rattle.elaborator.specs.Paths.{Path}
use Rattle.elaborator.specs.declared.path_index.PathIndex.{PathIndex}

abbrev pub path_hash : Path → ℕ
path_hash path = finish (write initial path)

-- the last number of those that have this hash
abbrev pub last_of : PathIndex → ℕ → Option ℕ
last_of index h = get nat_eq index.last h

-- from here one comes to the number, going back from one to the one before it
pub data LeadsTo (before : List (Option ℕ)) (n : ℕ) : Option ℕ → Type 0 where
  here : LeadsTo before n (Some n)
  back : (m : ℕ) (next : Option ℕ) → slice_get before m ≡ Some next → LeadsTo before n next → LeadsTo before n (Some m)

-- each leads back to a smaller number that isn't 0
abbrev pub Falls : List (Option ℕ) → Type 0
Falls before = (m k : ℕ) → slice_get before m ≡ Some (Some k) → (0 < k) × (k < m)

-- the paths from the second on are found by their hashes
pub record IsHashed (paths : List Path) (index : PathIndex) : Type 0 where
  pub counted : length index.before.items ≡ length paths
  pub has_top : 0 < length paths
  pub falls : Falls index.before.items
  pub starts : (h n : ℕ) → last_of index h ≡ Some n → (0 < n) × (n < length paths)
  pub leads : (n : ℕ) (path : Path) → 0 < n → slice_get paths n ≡ Some path → LeadsTo index.before.items n (last_of index (path_hash path))

-- one more path was entered
pub record IsEntered (old : PathIndex) (path : Path) (new : PathIndex) : Type 0 where
  pub before : new.before.items ≡ old.before.items ++ last_of old (path_hash path) ∷ []
  pub last : (h : ℕ) → last_of new h ≡ (if path_hash path == h then Some (length old.before.items) else last_of old h)

-- a search may begin here
pub record IsStart (paths : List Path) (before : List (Option ℕ)) (start : Option ℕ) : Type 0 where
  pub falls : Falls before
  pub long : length paths ≤ length before
  pub within : IfSome start (λ m. (0 < m) × (m < length paths))

-- no two paths but the first are the same
abbrev pub AreDistinct : List Path → Type 0
AreDistinct paths = (m n : ℕ) (path : Path) → 0 < m → 0 < n → slice_get paths m ≡ Some path → slice_get paths n ≡ Some path → m ≡ n
