-- Where memory ran out, nothing is noted.
use Rattle.std.proofs.Common.{ℕ, List, refl, sym, subst}
use Rattle.cfg_io.specs.declared.sink.Sink.{Ghosts as SinkWords}
use Rattle.command_answers.specs.declared.status.Status.TheVariants as status
use Rattle.command_spec.specs.Runs.{Run, Written, whole, stopped}
use Rattle.command_live.specs.Notes.{IsNoted}

pub unnoted :
    {N : Type 0} (sinks : SinkWords N) (text : List ℕ) (seen : Run) (notes : N) → Written status.NoMemory text seen
    → IsNoted sinks seen.words seen.status notes notes
unnoted sinks text seen notes (whole took same ends) = subst (λ s. IsNoted sinks seen.words s notes notes) (sym ends) refl
unnoted sinks text seen notes (stopped n short took rose ends) = subst (λ s. IsNoted sinks seen.words s notes notes) (sym ends) refl
