use Rattle.elaborator.proofs.InstanceLaws.{single-if_none, top_depth}
use Rattle.elaborator.proofs.CountLaws.{instances-once, counted-within, counted-all}
use Rattle.elaborator.proofs.laws.each_instance_is_counted_once.Goals as goal

pub returns-clause-once : goal.returns-clause-once
returns-clause-once c = λ tree name arguments top is none. instances-once tree top (single-if_none tree name arguments top is none) (top_depth tree name arguments top is)

pub returns-clause-sum : goal.returns-clause-sum
returns-clause-sum c = λ tree name arguments top is none limit. (
  counted-within tree top limit (top_depth tree name arguments top is),
  counted-all tree top limit (single-if_none tree name arguments top is none) (top_depth tree name arguments top is),
)
