use Rattle.quiesce_core.proofs.WordLaws.{port_words_of_runs, slot_words_of_runs}
use Rattle.quiesce_core.proofs.words.words_of_runs_decode.Goals as goal

pub returns : goal.returns
returns c = record { port = port_words_of_runs; slot = slot_words_of_runs }
