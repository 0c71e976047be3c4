use Rattle.std.proofs.Common.{sym, ap, ◌∙◌}
use Rattle.quiesce_core.specs.declared.event.Event.TheVariants.{Call, Miss}
use Rattle.quiesce_core.specs.Rules.{denial}
use Rattle.quiesce_core.specs.Tables.{state_of}
use Rattle.quiesce_core.proofs.LegalLaws.{legal}
use Rattle.quiesce_core.proofs.tables.Tables.perform.Goals as goal

pub call-requires-clause-legal : goal.call-requires-clause-legal
call-requires-clause-legal c =
    legal (state_of c.args.self.now) (Call c.in-Call.port c.in-Call.serial c.in-Call.value) (sym (ap (λ e. denial (state_of c.args.self.now) e) c.in-Call.is) ∙ c.requires.allowed)

pub miss-requires-clause-legal : goal.miss-requires-clause-legal
miss-requires-clause-legal c =
    legal (state_of c.args.self.now) (Miss c.in-Miss.port) (sym (ap (λ e. denial (state_of c.args.self.now) e) c.in-Miss.is) ∙ c.requires.allowed)
