-- What is found in an instance when it is opened, and what an answer tells of it.
use Rattle.std.specs.Prelude.{◌≡◌, ◌≤◌, ℕ, List, [], map, length, Some, Option, option_map, IfSome, All, Result, Vec}
use Rattle.std.specs.List.{filter_map}
use Rattle.std.specs.Global.{Global}
use Rattle.base.specs.Answers.{Answers}
use Rattle.darwin_parser.specs.Tree.{Tree, component_of}
use Rattle.darwin_types.specs.Scope.{is_primitive}
use Rattle.darwin_walk.specs.Instance.{Child}
use Rattle.darwin_walk.specs.Walked.{binding_of, cause_of}
use Rattle.darwin_walk.specs.declared.fault.Fault.{Fault}
use Rattle.darwin_walk.specs.declared.fault.Fault.TheVariants as shown
use Rattle.darwin_walk.specs.declared.fault.WalkError.{WalkError}
use Rattle.darwin_walk.specs.declared.fault.WalkError.TheVariants as walk
use Rattle.elaborator.specs.Paths.{Path}
use Rattle.elaborator.specs.Instances.{Instance, instance_of, made_in, paths_in, count_in}
use Rattle.elaborator.specs.Bindings.{bindings_in}
use Rattle.elaborator.specs.Expansion.{instance_in, AreSizes}
use Rattle.elaborator.specs.declared.instance.Instance as code
use Rattle.elaborator.specs.declared.opening.Found.{Found}
use Rattle.elaborator.specs.declared.error.ElabError.{ElabError}
use Rattle.elaborator.specs.declared.error.ElabError.TheVariants as error

-- an error of a walk, in the instance of the path
abbrev pub error_at : Path → WalkError → ElabError
error_at path (walk.Fault (shown.OutOfRange at)) = error.OutOfRange path at
error_at path (walk.Fault (shown.ZeroDivisor at)) = error.ZeroDivisor path at
error_at path (walk.Fault (shown.BadIndex at)) = error.BadIndex path at
error_at path walk.TooMany = error.TooMany
error_at path walk.NoMemory = error.NoMemory

-- the cause of an error in the instance of the path, whose faults are these: that of the walk's error which it tells
abbrev pub cause_at : Path → List Fault → Type 0 → ElabError → Type 0
cause_at path faults too_many refusal = (e : WalkError) × (refusal ≡ error_at path e) × cause_of faults too_many e

-- what an answer tells of such an instance: that it has no fault, and this of its value, or an error that has its cause
abbrev pub JudgesAt : {T : Type 0} → Path → List Fault → Type 0 → (T → Type 0) → Result T ElabError → Type 0
JudgesAt path faults too_many P = Answers error.NoMemory (λ x. (faults ≡ []) × P x) (cause_at path faults too_many)

-- the instance is noted as made in the one of the number, and as primitive where its component is
pub record IsNoted (maker : Option ℕ) (i : code.Instance) : Type 0 where
  pub maker_is : i.maker ≡ maker
  pub primitive : i.is_primitive ≡ is_primitive (component_of i.component.now)

-- the instance that a child is, if it is one, within the instance of the number
pub record IsMade (tree : Tree) (i : Instance) (number : ℕ) (child : Child) (made : Option code.Instance) : Type 0 where
  pub instance : option_map instance_in made ≡ instance_of tree i child
  pub noted : IfSome made (IsNoted (Some number))

-- the instances that children are, in order
pub record AreMade (tree : Tree) (i : Instance) (number : ℕ) (children : List Child) (made : Vec code.Instance Global) : Type 0 where
  pub instances : map instance_in made.items ≡ filter_map (instance_of tree i) children
  pub noted : All (IsNoted (Some number)) made.items

-- what an instance shows when it is opened
pub record IsFound (tree : Tree) (i : Instance) (number room : ℕ) (f : Found) : Type 0 where
  pub bindings : map binding_of f.bindings.items ≡ bindings_in i
  pub sizes : AreSizes i f.port_sizes.items
  pub made : map instance_in f.made.items ≡ made_in tree i
  pub paths : paths_in tree i ≡ map (λ (j : Instance). j.path) (made_in tree i)
  pub noted : All (IsNoted (Some number)) f.made.items
  -- each is of an entry that is counted
  pub few : length f.made.items ≤ f.count
  pub count : f.count ≡ count_in i
  pub within : f.count ≤ room
