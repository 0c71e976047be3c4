use Rattle.quiesce_core.proofs.WordLaws.{port_words_decode, slot_words_of}
use Rattle.quiesce_core.proofs.words.words_of_states_decode.Goals as goal

pub returns : goal.returns
returns c = record { port = port_words_decode; slot = slot_words_of }
