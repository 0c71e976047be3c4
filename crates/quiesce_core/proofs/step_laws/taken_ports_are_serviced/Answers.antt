use Rattle.quiesce_core.proofs.StateLaws.{answered_unserved, idle_unserved, is_taken_if, taken_is}
use Rattle.quiesce_core.proofs.step_laws.taken_ports_are_serviced.Goals as goal

pub returns : goal.returns
returns c = record {
  taken = λ s p. (
    λ h. let at = taken_is s p h in (at.to, at.serving, at.leads, at.serviced, at.of_port),
    λ w. is_taken_if s p w.0 w.1 w.2 w.3 w.4,
  );
  idle = idle_unserved;
  answered = answered_unserved;
}
