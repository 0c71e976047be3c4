-- What is wanted decides which part answers.
use Rattle.command_program.proofs.describing.use_checked.Goals as goal

pub returns-in-Replay-clause-gives : goal.returns-in-Replay-clause-gives
returns-in-Replay-clause-gives c text checked = rw c.in-Replay.is (c.replay_over.ensures.replay text checked)

pub returns-in-Replay-clause-refused : goal.returns-in-Replay-clause-refused
returns-in-Replay-clause-refused c text checked = rw c.in-Replay.is (c.replay_over.ensures.refused text checked)

pub returns-in_ok-graph_text_of-in-Graph-clause-gives : goal.returns-in_ok-graph_text_of-in-Graph-clause-gives
returns-in_ok-graph_text_of-in-Graph-clause-gives c text checked = rw c.in-Graph.is (c.in_ok-graph_text_of-in-Graph.ensures.gives text checked)
