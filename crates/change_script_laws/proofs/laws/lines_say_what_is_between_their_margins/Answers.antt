use Rattle.std.proofs.Common.{refl}
use Rattle.change_script_laws.proofs.MarginLemmas.{blank_said, comment_said, itself_said, last_said, line_said, margins_said}
use Rattle.change_script_laws.proofs.laws.lines_say_what_is_between_their_margins.Goals as goal

pub returns : goal.returns
returns c = record {
  from_one = λ text. refl;
  line = line_said;
  last = last_said;
  margins = margins_said;
  empty = blank_said;
  comment = comment_said;
  itself = itself_said;
}
