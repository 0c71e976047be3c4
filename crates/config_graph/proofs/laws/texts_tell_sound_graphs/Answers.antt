use Rattle.config_graph.proofs.TextLaws.{same_from_text}
use Rattle.config_graph.proofs.laws.texts_tell_sound_graphs.Goals as goal

pub returns : goal.returns
returns c = same_from_text
