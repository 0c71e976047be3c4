use Rattle.config_graph.proofs.KindLaws.{kind_named-name}
use Rattle.config_graph.proofs.laws.kinds_have_their_names.Goals as goal

pub returns : goal.returns
returns c = kind_named-name
