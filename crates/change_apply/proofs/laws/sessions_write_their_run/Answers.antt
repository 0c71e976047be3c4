use Rattle.change_apply.proofs.WrittenLemmas.{done_behind, scene_is, written_at}
use Rattle.change_apply.proofs.laws.sessions_write_their_run.Goals as goal

pub returns-clause-scene : goal.returns-clause-scene
returns-clause-scene c = λ r said. scene_is r said

pub returns-clause-written : goal.returns-clause-written
returns-clause-written c = λ r said. written_at r said

pub returns-clause-places : goal.returns-clause-places
returns-clause-places c = λ text events w front back l e is says_. done_behind text events w front back l e is says_
