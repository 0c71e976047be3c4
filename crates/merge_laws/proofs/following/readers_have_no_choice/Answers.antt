use Rattle.merge_laws.proofs.ReadingLemmas.{reads_on, next_front, last_front, all_read}
use Rattle.merge_laws.proofs.following.readers_have_no_choice.Goals as goal

pub returns : goal.returns
returns c = record { on = reads_on; next = next_front; last = last_front; all = all_read }
