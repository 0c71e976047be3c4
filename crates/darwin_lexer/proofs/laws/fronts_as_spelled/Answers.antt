use Rattle.darwin_lexer.proofs.SpellingLemmas.{front_means}
use Rattle.darwin_lexer.proofs.MeaningLemmas.{meaning_decides}
use Rattle.darwin_lexer.proofs.laws.fronts_as_spelled.Goals as goal

pub returns : goal.returns
returns c = record { meaning = front_means; one_meaning = meaning_decides }
