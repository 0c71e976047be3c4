use Rattle.std.proofs.Common.{sym}
use Rattle.quiesce_word.specs.Phases.{is_in_more}
use Rattle.quiesce_word.specs.declared.word.Word.{Word}
use Rattle.node_gate.proofs.AllowedLaws.{has_word, hear_doer, not_yet_by_word}
use Rattle.node_gate.proofs.core_gate.CoreGatePortGate.hear.Goals as goal

pub act-requires-clause-doer : goal.act-requires-clause-doer
act-requires-clause-doer c = hear_doer c.args.self.now.core.state c.holds.ensures.well_formed c.holds.ensures.consistent c.args.seat.now.slot c.args.seat.now.known c.requires.fits c.args.port c.serial_served-serial.result c.fields-word.result.value c.requires.may.serving

pub returns-then-not-is_asked-clause-says : goal.returns-then-not-is_asked-clause-says
returns-then-not-is_asked-clause-says c =
    has_word c.args.self.now.core.state c.holds.ensures.well_formed c.holds.ensures.consistent c.args.seat.now.slot c.args.seat.now.known c.requires.fits c.args.port c.pack.result c.fields-word.result (λ (x : Word). is_in_more x.phase) c.fields-word.ensures.fields c.pack.ensures
    (not_yet_by_word c.args.self.now.core.state c.holds.ensures.well_formed c.holds.ensures.consistent c.args.seat.now.slot c.args.seat.now.known c.requires.fits c.args.port c.fields-word.result c.fields-word.ensures.fields c.requires.may (sym c.if-not-is_asked.ensures))
