use Rattle.std.proofs.Common.{subst, sym}
use Rattle.change_spec.specs.Serial.{world_after}
use Rattle.change_round_laws.specs.SoundStatements.{AreSound}
use Rattle.change_round_laws.proofs.RootLemmas.{parts_name, stop_names_none}
use Rattle.change_round_laws.proofs.waiting.open_lines_name_what_the_last_look_saw.Goals as goal

pub returns : goal.returns
returns c = record {
  each = λ statements report sound serial.
      parts_name c.each_plan_may_commit.ensures c.commits_can_not_fail.ensures.by_the_configuration c.commits_leave_the_new_graph.ensures.reopening c.commits_can_not_fail.ensures.runs
      serial.parts (subst AreSound (sym serial.statements_are) sound) serial.played;
  stop = λ statements report serial. stop_names_none (world_after serial.parts) serial.stop serial.world serial.stops;
}
