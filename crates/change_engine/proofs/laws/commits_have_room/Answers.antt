use Rattle.change_engine.proofs.CommitRoom.{commit_fits, nodes_fit}
use Rattle.change_engine.proofs.laws.commits_have_room.Goals as goal

pub returns : goal.returns
returns c = record { room = commit_fits; few = nodes_fit }
