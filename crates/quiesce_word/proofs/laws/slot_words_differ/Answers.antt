use Rattle.quiesce_word.proofs.SlotWordLaws.{slot_words_differ}
use Rattle.quiesce_word.proofs.laws.slot_words_differ.Goals as goal

pub returns : goal.returns
returns c v w f g same = slot_words_differ v w f g same
