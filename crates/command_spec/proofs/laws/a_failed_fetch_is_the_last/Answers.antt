use Rattle.command_spec.specs.Commands.{course_of, own_files}
use Rattle.command_spec.proofs.AnswerLaws.{does_last}
use Rattle.command_spec.proofs.LineLaws.{lines_last}
use Rattle.command_spec.proofs.laws.a_failed_fetch_is_the_last.Goals as goal

pub returns : goal.returns
returns c = record {
  of_commands = λ files command failing end does. does_last (own_files command) files (course_of command) failing end does;
  of_lines = lines_last;
}
