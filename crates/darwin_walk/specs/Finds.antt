-- What finds a thing by its name.
use Rattle.std.specs.Prelude.{◌≡◌, List, find, bytes_eq}
use Rattle.std.specs.Borrow.{Bor}
use Rattle.std.specs.Map.{lookup}
use Rattle.darwin_parser.specs.Tree.{Name}

-- what an index has at a name is the first of the things with the name
abbrev pub Finds : {A : Type 0} → (A → Name) → List (Bor Name × A) → List A → Type 0
Finds name_of index things = (name : Name) → lookup (λ k. bytes_eq name k.now) index ≡ find (λ x. bytes_eq name (name_of x)) things
