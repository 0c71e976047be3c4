use Rattle.txn_spec.specs.Views.{node_of}
use Rattle.txn_gate.proofs.Telling.{call_loads_told}
use Rattle.txn_gate.proofs.table_gate.TableGatePortGate.call.Goals as goal

pub returns-clause-loads : goal.returns-clause-loads
returns-clause-loads g c = call_loads_told c.args.port (node_of c.args.seat.now.seat.me.0) (node_of c.call.new.seat.seat.me.0) c.args.value c.call.result c.call.ensures.words
