-- The cause of an error in a part of an instance is one in the whole.
use Rattle.std.proofs.Common.{◌≡◌, ◌⊎◌, inl, inr, List, Result, Err, Contains}
use Rattle.base.specs.Answers.{Refuses}
use Rattle.darwin_walk.specs.declared.fault.Fault.{Fault}
use Rattle.darwin_walk.specs.declared.fault.WalkError.{WalkError}
use Rattle.darwin_walk.specs.declared.fault.WalkError.TheVariants as walk
use Rattle.darwin_walk.proofs.CauseLaws as walk_causes
use Rattle.elaborator.specs.Paths.{Path}
use Rattle.elaborator.specs.Opening.{cause_at, error_at}
use Rattle.elaborator.specs.declared.error.ElabError.{ElabError}
use Rattle.elaborator.specs.declared.error.ElabError.TheVariants as error

pub cause-grow :
    (path : Path) (part whole : List Fault) (few many : Type 0) → ((f : Fault) → Contains part f → Contains whole f) → (few → many)
    → (e : ElabError) → cause_at path part few e → cause_at path whole many e
cause-grow path part whole few many grow more e cause = (cause.0, cause.1, walk_causes.cause-grow part whole few many grow more cause.0 cause.2)

-- the same of a part in which nothing is counted
pub fault-grow :
    (path : Path) (part whole : List Fault) (many : Type 0) → ((f : Fault) → Contains part f → Contains whole f)
    → (e : ElabError) → cause_at path part ⊥ e → cause_at path whole many e
fault-grow path part whole many grow = cause-grow path part whole ⊥ many grow (λ none. absurd none)

-- what stops a walk is named as an error in the instance
pub refused :
    (path : Path) (fs : List Fault) (many : Type 0) {T : Type 0} (r : Result T WalkError) (e : WalkError) (refusal : ElabError)
    → ((f : Fault) → r ≡ Err (walk.Fault f) → Contains fs f) → (r ≡ Err walk.TooMany → many) → r ≡ Err e
    → (refusal ≡ error_at path e) ⊎ (refusal ≡ error.NoMemory) → Refuses error.NoMemory (cause_at path fs many) refusal
refused path fs many r (walk.Fault f) refusal fault too_many is (inl told) = λ other. (walk.Fault f, told, fault f is)
refused path fs many r walk.TooMany refusal fault too_many is (inl told) = λ other. (walk.TooMany, told, too_many is)
refused path fs many r walk.NoMemory refusal fault too_many is (inl told) = λ other. absurd (other told)
refused path fs many r e refusal fault too_many is (inr memory) = λ other. absurd (other memory)
