use Rattle.std.proofs.Common.{inr, refl}
use Rattle.worked_fault_laws.proofs.event_ways.each_form_of_an_event_is_needed.Goals as goal

pub returns : goal.returns
returns c = record {
  start_without_parentheses = inr refl;
  start_and_more = inr refl;
  single_without_number = inr refl;
  single_and_more = inr refl;
  triple_without_third = inr refl;
  triple_and_more = inr refl;
  make_without_kind = inr refl;
  make_without_parentheses = inr refl;
  make_without_from = inr refl;
  make_and_more = inr refl;
}
