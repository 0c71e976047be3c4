-- What a walk of an instance gives, as the definitions speak of it.
use Rattle.std.specs.Prelude.{◌≡◌, ◌++◌, ℕ, ◌+◌, ◌≤◌, List, [], map, length, sum_by, Some, option_map, Result, Contains}
use Rattle.std.specs.List.{flat_map}
use Rattle.base.specs.Answers.{Answers}
use Rattle.darwin_parser.specs.Tree.{Component}
use Rattle.darwin_walk.specs.Value.{Env}
use Rattle.darwin_walk.specs.Reached.{Reached, weight, count}
use Rattle.darwin_walk.specs.Instance as pure
use Rattle.darwin_walk.specs.Instance.{children_of, bindings_of, port_sizes}
use Rattle.darwin_walk.specs.declared.fault.Fault.{Fault}
use Rattle.darwin_walk.specs.declared.fault.WalkError.{WalkError}
use Rattle.darwin_walk.specs.declared.fault.WalkError.TheVariants as error
use Rattle.darwin_walk.specs.declared.walked.Segment as code_segment
use Rattle.darwin_walk.specs.declared.walked.Child as code_child
use Rattle.darwin_walk.specs.declared.walked.End as code_end
use Rattle.darwin_walk.specs.declared.walked.Binding as code_binding
use Rattle.darwin_walk.specs.declared.walked.Walked.{Walked}

abbrev pub segment_of : code_segment.Segment → pure.Segment
segment_of s = record { name = s.name.now; index = s.index }

abbrev pub child_of : code_child.Child → pure.Child
child_of c =
    record { segment = segment_of c.segment; component = c.component.now; arguments = Some c.arguments.items; at = c.at }

abbrev pub walked_end : code_end.End → pure.End
walked_end e = record { inner = option_map segment_of e.inner; port = e.port.now; index = e.index }

abbrev pub binding_of : code_binding.Binding → pure.Binding
binding_of b = record { left = walked_end b.left; right = walked_end b.right; at = b.at }

-- the cause of an error in a part of an instance whose faults are these: it is one of them, or the part counts for more
-- than there is room for
abbrev pub cause_of : List Fault → Type 0 → WalkError → Type 0
cause_of faults too_many (error.Fault f) = Contains faults f
cause_of faults too_many error.TooMany = too_many
cause_of faults too_many error.NoMemory = ⊥

-- what an answer tells of such a part: that it has no fault, and this of its value, or an error that has its cause
abbrev pub JudgesPart : {T : Type 0} → List Fault → Type 0 → (T → Type 0) → Result T WalkError → Type 0
JudgesPart faults too_many P = Answers error.NoMemory (λ x. (faults ≡ []) × P x) (cause_of faults too_many)

-- what was walked so far, and this more
pub record Adds (c : Component) (parameters : Env) (room : ℕ) (more : List Reached) (old new : Walked) : Type 0 where
  pub sizes : new.port_sizes.items ≡ old.port_sizes.items
  pub children : map child_of new.children.items ≡ map child_of old.children.items ++ flat_map (children_of c parameters) more
  pub bindings : map binding_of new.bindings.items ≡ map binding_of old.bindings.items ++ flat_map bindings_of more
  pub count : new.count ≡ old.count + sum_by weight more
  pub within : old.count ≤ room → new.count ≤ room

-- what a walk of an instance gives
pub record IsWalked (c : Component) (parameters : Env) (room : ℕ) (w : Walked) : Type 0 where
  pub sizes : map (λ s. Some s) w.port_sizes.items ≡ port_sizes c parameters
  pub children : map child_of w.children.items ≡ pure.children c parameters
  pub bindings : map binding_of w.bindings.items ≡ pure.bindings c parameters
  pub count : w.count ≡ count c parameters
  pub within : w.count ≤ room
  -- each instance is of an entry that is counted
  pub few : length w.children.items ≤ w.count
