use Rattle.change_plan_laws.proofs.RoomLemmas.{room}
use Rattle.change_plan_laws.proofs.room.room_is_that_of_the_machine.Goals as goal

pub returns : goal.returns
returns c = λ d n node. room d n node
