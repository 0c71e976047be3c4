use Rattle.quiesce_core.proofs.WordLaws.{words_tell_drained, words_tell_root}
use Rattle.quiesce_core.proofs.words.words_tell_of_transactions.Goals as goal

pub returns : goal.returns
returns c = record { drained = words_tell_drained; root = words_tell_root }
