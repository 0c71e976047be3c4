use Rattle.command_words.proofs.SessionLaws.{no_command}
use Rattle.command_words.proofs.laws.words_ask_for_a_command_or_a_session.Goals as goal

pub returns : goal.returns
returns c = no_command
