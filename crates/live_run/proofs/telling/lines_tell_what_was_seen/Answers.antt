use Rattle.live_run.proofs.SeenLines.{told_as_seen}
use Rattle.live_run.proofs.telling.lines_tell_what_was_seen.Goals as goal

pub returns : goal.returns
returns c = record { seen = told_as_seen }
