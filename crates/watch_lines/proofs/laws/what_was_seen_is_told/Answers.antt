use Rattle.watch_lines.proofs.Telling.{are_told}
use Rattle.watch_lines.proofs.laws.what_was_seen_is_told.Goals as goal

pub returns : goal.returns
returns c = are_told
