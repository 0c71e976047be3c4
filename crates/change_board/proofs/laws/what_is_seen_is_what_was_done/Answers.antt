use Rattle.change_board.proofs.SightLaws.{seen_fold}
use Rattle.change_board.proofs.laws.what_is_seen_is_what_was_done.Goals as goal

pub returns : goal.returns
returns c = seen_fold
