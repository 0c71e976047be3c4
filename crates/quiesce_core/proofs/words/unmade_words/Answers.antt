use Rattle.quiesce_core.proofs.LoadLaws.{unmade_port, unmade_slot}
use Rattle.quiesce_core.proofs.words.unmade_words.Goals as goal

pub returns : goal.returns
returns c = record { port = unmade_port; slot = unmade_slot }
