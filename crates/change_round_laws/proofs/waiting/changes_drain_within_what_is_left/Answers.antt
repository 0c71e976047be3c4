use Rattle.std.proofs.Common.{subst, sym}
use Rattle.change_round_laws.specs.SoundStatements.{AreSound}
use Rattle.change_round_laws.proofs.PartLemmas.{parts_drain}
use Rattle.change_round_laws.proofs.waiting.changes_drain_within_what_is_left.Goals as goal

pub returns : goal.returns
returns c = record {
  each = λ statements report sound serial.
      parts_drain c.rounds_drain_what_is_left.ensures.drained c.each_plan_may_commit.ensures c.commits_can_not_fail.ensures.by_the_configuration
      c.commits_leave_the_new_graph.ensures.reopening c.commits_can_not_fail.ensures.runs serial.parts (subst AreSound (sym serial.statements_are) sound) serial.played;
}
