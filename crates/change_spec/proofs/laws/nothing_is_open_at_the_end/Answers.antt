use Rattle.change_spec.proofs.RunningLaws.{ended_once}
use Rattle.change_spec.proofs.StopLemmas.{none_open_at_end}
use Rattle.change_spec.specs.Members.{events}
use Rattle.change_spec.proofs.laws.nothing_is_open_at_the_end.Goals as goal

pub returns : goal.returns
returns c = record {
  nothing_open = none_open_at_end;
  ended_once = λ statements report m follows merge run drained p k. ended_once (events m) run p k (none_open_at_end statements report m follows merge run drained p k);
}
