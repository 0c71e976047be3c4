use Rattle.txn_spec.specs.Views.{node_of}
use Rattle.txn_gate.proofs.Telling.{see_loads_told}
use Rattle.txn_gate.proofs.table_gate.TableGatePortGate.see.Goals as goal

pub returns-clause-loads : goal.returns-clause-loads
returns-clause-loads g c = see_loads_told c.args.port (node_of c.args.seat.now.seat.me.0) (node_of c.see.new.seat.seat.me.0) c.see.result c.see.ensures.words
