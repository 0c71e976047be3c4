-- What a run does for a command follows from what it does.
use Rattle.command_program.proofs.commands.still.Goals as goal

pub returns-clause-answered : goal.returns-clause-answered
returns-clause-answered g c = c.runs_answer_their_commands.ensures _ _ c.run_words.ensures.runs
