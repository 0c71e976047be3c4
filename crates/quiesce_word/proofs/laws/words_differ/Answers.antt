use Rattle.quiesce_word.proofs.WordLaws.{words_differ}
use Rattle.quiesce_word.proofs.laws.words_differ.Goals as goal

pub returns : goal.returns
returns c v w f g same = words_differ v w f g same
