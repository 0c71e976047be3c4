use Rattle.quiesce_word.proofs.SlotWordLaws.{slot_words_decode}
use Rattle.quiesce_word.proofs.laws.slot_words_decode.Goals as goal

pub returns : goal.returns
returns c w fits = slot_words_decode w fits
