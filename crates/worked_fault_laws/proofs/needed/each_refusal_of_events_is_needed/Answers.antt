use Rattle.std.proofs.Common.{inl, inr, refl}
use Rattle.worked_fault_laws.proofs.needed.each_refusal_of_events_is_needed.Goals as goal

pub returns : goal.returns
returns c = record { bad_line = inr refl; too_big = inr refl; order = inr refl; no_start = inl (refl, refl) }
