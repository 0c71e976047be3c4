-- Each command has the answer of its course.
use Rattle.std.proofs.Common.{refl}
use Rattle.command_answers.specs.declared.status.Status.TheVariants as status
use Rattle.command_words.specs.HelpTexts.{help_text, version_text}
use Rattle.command_words.specs.declared.words.Command.TheVariants as commands
use Rattle.command_spec.specs.Commands.{course_of}
use Rattle.command_program.specs.Coming.{Shows}
use Rattle.command_program.proofs.ComingLaws.{comes_here, line_says}
use Rattle.command_program.proofs.answering.answer_command.Goals as goal

pub returns-in-Help-clause-answers : goal.returns-in-Help-clause-answers
returns-in-Help-clause-answers g c =
    let files = g.H.Shelf.files c.args.shelf.now in
    rw c.in-Help.is
    (comes_here Shows files (course_of (commands.Help c.in-Help.of)) _ _ c.or_stop.result refl
    (line_says files status.Ok (help_text c.in-Help.of) c.answer_help.result c.or_stop.result c.or_stop.ensures c.answer_help.ensures))

pub returns-in-Version-clause-answers : goal.returns-in-Version-clause-answers
returns-in-Version-clause-answers g c =
    let files = g.H.Shelf.files c.args.shelf.now in
    rw c.in-Version.is
    (comes_here Shows files (course_of commands.Version) _ _ c.or_stop-in-Version.result refl
    (line_says files status.Ok version_text c.answer_version.result c.or_stop-in-Version.result c.or_stop-in-Version.ensures c.answer_version.ensures))

pub returns-in-Replay-clause-answers : goal.returns-in-Replay-clause-answers
returns-in-Replay-clause-answers g c = rw c.in-Replay.is (rw (c.as_str-in-Replay.ensures, c.as_str-in-Replay-2.ensures) at c.answer_replay.ensures.answers)

pub returns-in-Upgrade-clause-answers : goal.returns-in-Upgrade-clause-answers
returns-in-Upgrade-clause-answers g c = rw c.in-Upgrade.is (rw c.as_str-in-Upgrade.ensures at c.answer_report.ensures.answers)

pub returns-in-Step-clause-answers : goal.returns-in-Step-clause-answers
returns-in-Step-clause-answers g c = rw c.in-Step.is (rw c.as_str-in-Step.ensures at c.answer_script.ensures.answers)

pub returns-in-Check-clause-answers : goal.returns-in-Check-clause-answers
returns-in-Check-clause-answers g c = rw c.in-Check.is (rw (c.as_str-in-Check.ensures, c.as_str-in-Check-2.ensures) at c.answer_check.ensures.answers)
