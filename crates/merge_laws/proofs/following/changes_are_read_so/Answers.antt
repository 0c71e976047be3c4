use Rattle.merge_laws.proofs.ReadingLemmas.{change_so, so_change}
use Rattle.merge_laws.proofs.following.changes_are_read_so.Goals as goal

pub returns : goal.returns
returns c = record { so = change_so; change = so_change }
