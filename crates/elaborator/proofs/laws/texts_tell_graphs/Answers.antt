use Rattle.elaborator.proofs.PathLemmas.{texts_tell}
use Rattle.elaborator.proofs.laws.texts_tell_graphs.Goals as goal

pub returns : goal.returns
returns c = texts_tell
