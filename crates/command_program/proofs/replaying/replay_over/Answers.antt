-- The graph with which a run can start, and what the events come to from there.
use Rattle.command_program.proofs.replaying.replay_over.Goals as goal

pub returns-clause-replay : goal.returns-clause-replay
returns-clause-replay c text checked = record {
  graph = c.in_ok-graph.graph;
  starts = rw (c.as_bytes.ensures, c.items.ensures) at (c.in_ok-graph.ensures.starts text checked);
  replays = rw c.items-2.ensures at c.in_ok-replay_events.ensures;
}
