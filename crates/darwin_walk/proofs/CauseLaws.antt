-- The cause of an error in a part of an instance is one in the whole.
use Rattle.std.proofs.Common.{List, Contains}
use Rattle.darwin_walk.specs.Walked.{cause_of}
use Rattle.darwin_walk.specs.declared.fault.Fault.{Fault}
use Rattle.darwin_walk.specs.declared.fault.WalkError.{WalkError}
use Rattle.darwin_walk.specs.declared.fault.WalkError.TheVariants as error

pub cause-grow :
    (part whole : List Fault) (few many : Type 0) → ((f : Fault) → Contains part f → Contains whole f) → (few → many)
    → (e : WalkError) → cause_of part few e → cause_of whole many e
cause-grow part whole few many grow more (error.Fault f) cause = grow f cause
cause-grow part whole few many grow more error.TooMany cause = more cause
cause-grow part whole few many grow more error.NoMemory cause = cause

-- the same of a part in which nothing is counted
pub fault-grow :
    (part whole : List Fault) (many : Type 0) → ((f : Fault) → Contains part f → Contains whole f)
    → (e : WalkError) → cause_of part ⊥ e → cause_of whole many e
fault-grow part whole many grow = cause-grow part whole ⊥ many grow (λ none. absurd none)
