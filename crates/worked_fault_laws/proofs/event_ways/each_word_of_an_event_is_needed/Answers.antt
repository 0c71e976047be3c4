use Rattle.std.proofs.Common.{inr, refl}
use Rattle.worked_fault_laws.proofs.event_ways.each_word_of_an_event_is_needed.Goals as goal

pub returns : goal.returns
returns c = record {
  verb = inr refl;
  start_name = inr refl;
  start_argument = inr refl;
  single = inr refl;
  first = inr refl;
  second = inr refl;
  third = inr refl;
  slot = inr refl;
  path = inr refl;
  kind = inr refl;
  argument = inr refl;
  source = inr refl;
}
