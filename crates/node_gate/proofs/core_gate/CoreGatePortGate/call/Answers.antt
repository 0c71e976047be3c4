use Rattle.std.proofs.Common.{◌+◌, arith}
use Rattle.quiesce_core.specs.declared.event.Event.TheVariants.{Call}
use Rattle.node_gate.proofs.AllowedLaws.{call_by_word, call_doer, few_calls_known, target_at}
use Rattle.node_gate.proofs.core_gate.CoreGatePortGate.call.Goals as goal

pub act-requires-clause-allowed : goal.act-requires-clause-allowed
act-requires-clause-allowed c =
    call_by_word c.args.self.now.core.state c.holds.ensures.well_formed c.holds.ensures.consistent c.args.seat.now.slot c.args.seat.now.known c.requires.fits c.args.port c.args.value c.fields-word.result c.in-Some.target c.fields-word.ensures.fields c.requires.may c.in-Some.is
    (omega (arith, c.if-word-ge-LAST_SERIAL.false))

pub act-requires-clause-doer : goal.act-requires-clause-doer
act-requires-clause-doer c = call_doer c.args.self.now.core.state c.holds.ensures.well_formed c.holds.ensures.consistent c.args.seat.now.slot c.args.seat.now.known c.requires.fits c.args.port 0 c.args.value c.requires.may.own

pub act-requires-clause-count : goal.act-requires-clause-count
act-requires-clause-count c = few_calls_known c.args.self.now.core.state c.holds.ensures.well_formed c.holds.ensures.consistent c.args.seat.now.slot c.args.seat.now.known c.requires.fits (Call c.args.port (c.fields-word.result.serial + 1) c.args.value) c.requires.may.calls

pub miss-requires-clause-may : goal.miss-requires-clause-may
miss-requires-clause-may c = (c.args.value, c.requires.may)

pub miss-requires-then-word-ge-LAST_SERIAL-clause-may : goal.miss-requires-then-word-ge-LAST_SERIAL-clause-may
miss-requires-then-word-ge-LAST_SERIAL-clause-may c = (c.args.value, c.requires.may)

pub returns-clause-says : goal.returns-clause-says
returns-clause-says c = (
  omega (arith, c.if-word-ge-LAST_SERIAL.false),
  (c.fields-word.ensures.fits.target c.in-Some.target c.in-Some.is).node,
  target_at c.args.self.now.core.state c.holds.ensures.well_formed c.holds.ensures.consistent c.args.seat.now.slot c.args.seat.now.known c.requires.fits c.args.port c.fields-word.result c.in-Some.target c.fields-word.ensures.fields c.in-Some.is,
)
