use Rattle.std.proofs.Common.{inr, refl}
use Rattle.worked_fault_laws.proofs.event_ways.each_place_of_an_event_is_needed.Goals as goal

pub returns : goal.returns
returns c = record {
  before_start = inr refl;
  second_start = inr refl;
  bad_behind = inr refl;
  big_behind = inr refl;
}
