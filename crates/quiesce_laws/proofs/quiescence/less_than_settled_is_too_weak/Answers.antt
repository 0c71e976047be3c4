use Rattle.quiesce_laws.proofs.Strength.{own_must_be_idle, own_must_be_closed, reaching_must_be_idle, indirect_must_be_closed, none_of_these, goes_on}
use Rattle.quiesce_laws.proofs.quiescence.less_than_settled_is_too_weak.Goals as goal

pub returns : goal.returns
returns c = record {
  none_quiescent = none_of_these;
  own_ports_idle = own_must_be_idle;
  own_ports_closed = own_must_be_closed;
  reaching_ports_idle = reaching_must_be_idle;
  indirect_ports_closed = indirect_must_be_closed;
  goes_on = goes_on;
}
