use Rattle.std.proofs.Common.{◌≡◌, false}
use Rattle.rows_watch.proofs.view_rows.commit_all.Given as goal

abbrev pub invariant-loop : goal.invariant-loop
invariant-loop g l = l.writer.failed ≡ false
