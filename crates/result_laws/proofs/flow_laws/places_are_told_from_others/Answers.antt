use Rattle.std.proofs.Common.{refl}
use Rattle.result_laws.proofs.WorkedPlaces.{bank_run, carried_between, carried_paid, fork_held, fork_run, item_held, item_run, none_carried_before, none_carried_behind, none_sent, none_under_way, not_before, not_the_other, one_sent, one_under_way}
use Rattle.result_laws.proofs.flow_laws.places_are_told_from_others.Goals as goal

pub returns : goal.returns
returns c = record {
  fork = (fork_run, fork_held);
  others = (not_before, not_the_other);
  item = (item_run, item_held, none_sent, one_under_way);
  counted = (refl, one_sent, none_under_way);
  paid = (bank_run, none_carried_before.0, none_carried_before.1, carried_paid.0, carried_paid.1);
  put = (carried_between.0, carried_between.1, none_carried_behind.0, none_carried_behind.1);
}
