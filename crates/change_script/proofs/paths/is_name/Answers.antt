use Rattle.std.proofs.Common.{length}
use Rattle.darwin_lexer.specs.Fronts.{front_of}
use Rattle.change_script.proofs.NameLemmas.{same_answer}
use Rattle.change_script.proofs.paths.is_name.Goals as goal

pub returns : goal.returns
returns c = same_answer c.is_name.result (length c.args.word.now) (front_of c.args.word.now) c.is_name.ensures.0 c.is_name.ensures.1
