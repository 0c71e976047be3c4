use Rattle.node_gate.proofs.AllowedLaws.{more_doer}
use Rattle.node_gate.proofs.core_gate.CoreGatePortGate.more.Goals as goal

pub act-requires-clause-doer : goal.act-requires-clause-doer
act-requires-clause-doer c = more_doer c.args.self.now.core.state c.holds.ensures.well_formed c.holds.ensures.consistent c.args.seat.now.slot c.args.seat.now.known c.requires.fits c.args.port c.serial_served-serial.result c.args.value c.requires.may.give.serving
