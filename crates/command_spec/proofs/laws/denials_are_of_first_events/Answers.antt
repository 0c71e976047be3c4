use Rattle.std.proofs.Common.{[], refl}
use Rattle.command_answers.specs.RefusalLines.{denied_line}
use Rattle.command_answers.specs.declared.status.Status.TheVariants as status
use Rattle.command_words.specs.declared.words.Command.TheVariants as commands
use Rattle.command_spec.specs.Commands.{shown}
use Rattle.command_spec.specs.Courses.{came, here, leads_on, gives}
use Rattle.command_spec.specs.Replays.{one_denied}
use Rattle.command_spec.proofs.Reported.{asked_to_replay}
use Rattle.command_spec.proofs.laws.denials_are_of_first_events.Goals as goal

pub returns : goal.returns
returns c = record {
  only = asked_to_replay;
  always = λ file events r files a goes bytes events_file text graph number rule told_events is told starts denied.
      let s = shown status.Denied (denied_line number rule) in
      c.what_is_not_refused_is_answered.ensures.every_answer (commands.Replay file events) r files a goes refl s
      (leads_on bytes [] (came s) told_events (gives events_file [] (came s) is
      (leads_on text [] (came s) told (gives s [] (came s) (record { graph = graph; starts = starts; replays = one_denied number rule denied }) here))));
}
