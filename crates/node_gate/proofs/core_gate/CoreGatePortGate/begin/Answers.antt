use Rattle.std.proofs.Common.{arith}
use Rattle.node_gate.proofs.AllowedLaws.{begin_by_word, begin_doer}
use Rattle.node_gate.proofs.core_gate.CoreGatePortGate.begin.Goals as goal

pub act-requires-clause-allowed : goal.act-requires-clause-allowed
act-requires-clause-allowed c =
    begin_by_word c.args.self.now.core.state c.holds.ensures.well_formed c.holds.ensures.consistent c.args.seat.now.slot c.args.seat.now.known c.requires.fits c.args.port c.args.value c.fields-word.result c.in-Some.target c.fields-word.ensures.fields c.requires.may c.if-word.false c.in-Some.is
    (omega (arith, c.if-word-ge-LAST_SERIAL.false))

pub act-requires-clause-doer : goal.act-requires-clause-doer
act-requires-clause-doer c = begin_doer c.args.self.now.core.state c.holds.ensures.well_formed c.holds.ensures.consistent c.args.seat.now.slot c.args.seat.now.known c.requires.fits c.args.port 0 c.args.value c.requires.may.own
