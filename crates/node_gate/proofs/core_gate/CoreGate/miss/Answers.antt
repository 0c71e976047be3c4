use Rattle.quiesce_word.specs.Words.{is_missing}
use Rattle.quiesce_core.specs.declared.event.Event.TheVariants.{Miss}
use Rattle.node_gate.proofs.AllowedLaws.{few_calls_known, has_word, miss_by_word, miss_doer}
use Rattle.node_gate.proofs.core_gate.CoreGate.miss.Goals as goal

pub act-requires-clause-allowed : goal.act-requires-clause-allowed
act-requires-clause-allowed c = miss_by_word c.args.self.now.core.state c.holds.ensures.well_formed c.holds.ensures.consistent c.args.seat.now.slot c.args.seat.now.known c.requires.fits c.args.port c.requires.may.0 c.args.word c.requires.word c.requires.may.1 c.requires.missing

pub act-requires-clause-doer : goal.act-requires-clause-doer
act-requires-clause-doer c = miss_doer c.args.self.now.core.state c.holds.ensures.well_formed c.holds.ensures.consistent c.args.seat.now.slot c.args.seat.now.known c.requires.fits c.args.port c.requires.may.1.own

pub act-requires-clause-count : goal.act-requires-clause-count
act-requires-clause-count c = few_calls_known c.args.self.now.core.state c.holds.ensures.well_formed c.holds.ensures.consistent c.args.seat.now.slot c.args.seat.now.known c.requires.fits (Miss c.args.port) c.requires.may.1.calls

pub returns-clause-says : goal.returns-clause-says
returns-clause-says c = has_word c.args.self.now.core.state c.holds.ensures.well_formed c.holds.ensures.consistent c.args.seat.now.slot c.args.seat.now.known c.requires.fits c.args.port c.pack.result c.args.word is_missing c.requires.word c.pack.ensures c.requires.missing
