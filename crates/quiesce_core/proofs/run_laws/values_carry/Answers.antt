use Rattle.quiesce_core.proofs.CarryLaws.{answers_stand, ends_carry_gives, hears_carry_asks, intermediate_replies_stand, takes_carry_begins, takes_carry_calls}
use Rattle.quiesce_core.proofs.run_laws.values_carry.Goals as goal

pub returns : goal.returns
returns c = record {
  begun = takes_carry_begins;
  called = takes_carry_calls;
  heard = hears_carry_asks;
  ended = ends_carry_gives;
  replied = intermediate_replies_stand;
  answered = answers_stand;
}
