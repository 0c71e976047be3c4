use Rattle.quiesce_core.proofs.WordLaws.{port_words_fit, slot_words_fit}
use Rattle.quiesce_core.proofs.words.words_fit.Goals as goal

pub returns : goal.returns
returns c = record { port = port_words_fit; slot = slot_words_fit }
