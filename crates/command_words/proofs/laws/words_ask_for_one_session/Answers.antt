use Rattle.command_words.proofs.SessionLaws.{one_session}
use Rattle.command_words.proofs.laws.words_ask_for_one_session.Goals as goal

pub returns : goal.returns
returns c = one_session
