use Rattle.std.proofs.Common.{List}
use Rattle.config_graph.specs.Graph.{Graph}
use Rattle.watch_view.specs.Hearing.{HasHeard}
use Rattle.rows_watch.proofs.watch_rows.commit_each.Given as goal

abbrev pub invariant-loop-commit : goal.invariant-loop-commit
invariant-loop-commit g l = (graphs : List Graph) × HasHeard l.watch graphs
