use Rattle.std.proofs.Common.{ap}
use Rattle.quiesce_core.specs.Knowledge.{OwnPort}
use Rattle.quiesce_core.proofs.KnownLaws.{known_after_more, port_of_log, ports_of_log, service_of_log}
use Rattle.quiesce_core.proofs.knowledge_laws.logs_tell.Goals as goal

pub returns : goal.returns
returns c = record {
  more_ = known_after_more;
  service = service_of_log;
  two_ports = ports_of_log;
  idle = λ first es r k at. ap (λ (o : OwnPort). o.idle) (port_of_log first es r k at).port;
  serial = λ first es r k at. ap (λ (o : OwnPort). o.serial) (port_of_log first es r k at).port;
  consequent = λ first es r k at. ap (λ (o : OwnPort). o.consequent) (port_of_log first es r k at).port;
  unseen = λ first es r k at. (port_of_log first es r k at).unseen;
}
