use Rattle.elaborator.proofs.InstanceLaws.{instances-listed}
use Rattle.elaborator.proofs.laws.instances_are_those_of_the_list.Goals as goal

pub returns : goal.returns
returns c = λ tree top i shallow. instances-listed tree top i shallow
