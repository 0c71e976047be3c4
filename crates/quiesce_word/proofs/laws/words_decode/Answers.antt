use Rattle.quiesce_word.proofs.WordLaws.{words_decode}
use Rattle.quiesce_word.proofs.laws.words_decode.Goals as goal

pub returns : goal.returns
returns c w fits = words_decode w fits
