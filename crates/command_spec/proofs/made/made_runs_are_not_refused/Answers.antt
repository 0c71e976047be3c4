use Rattle.std.proofs.Common.{refl}
use Rattle.command_words.specs.BigFiles.{made_files, script_name}
use Rattle.command_words.specs.declared.words.Command.TheVariants as commands
use Rattle.command_words.proofs.WordsLaws.{lanes_asked}
use Rattle.command_spec.proofs.Reported.{as_run}
use Rattle.command_spec.proofs.Prepared.{run_refuses_nothing}
use Rattle.command_spec.proofs.made.made_runs_are_not_refused.Goals as goal

pub returns : goal.returns
returns c = λ knows r run lanes asks.
    let within = lanes_asked r.words lanes asks.1 in
    as_run lanes r.status
    (c.what_is_not_refused_is_answered.ensures.complete (commands.Big lanes) r (made_files lanes)
    (c.runs_answer_their_commands.ensures knows r run (commands.Big lanes) asks) refl
    (run_refuses_nothing (made_files lanes) script_name _ _ (c.made_lines_are_not_refused.ensures lanes within.0 within.1)))
