-- Words that say no component of the file may say one of another.
use Rattle.std.proofs.Common.{map, string_bytes}
use Rattle.command_words.proofs.Refusals.{finds_other}
use Rattle.command_words.proofs.calls.read_target.Goals as goal

pub returns-in-None : goal.returns-in-None
returns-in-None c = finds_other (map string_bytes c.args.words.now) c.read_other.result (rw c.in-None.is at c.in_ok-target.ensures.none) c.read_other.ensures
