use Rattle.std.proofs.Common.{sym, ap, ◌∙◌}
use Rattle.quiesce_core.specs.declared.event.Event.TheVariants.{Give, More}
use Rattle.quiesce_core.specs.Rules.{denial}
use Rattle.quiesce_core.specs.Tables.{state_of}
use Rattle.quiesce_core.proofs.LegalLaws.{legal}
use Rattle.quiesce_core.proofs.tables.Tables.perform_of_others.Goals as goal

pub give-requires-clause-legal : goal.give-requires-clause-legal
give-requires-clause-legal c =
    legal (state_of c.args.self.now) (Give c.in-Give.port c.in-Give.serial c.in-Give.value) (sym (ap (λ e. denial (state_of c.args.self.now) e) c.in-Give.is) ∙ c.requires.allowed)

pub more-requires-clause-legal : goal.more-requires-clause-legal
more-requires-clause-legal c =
    legal (state_of c.args.self.now) (More c.in-More.port c.in-More.serial c.in-More.value) (sym (ap (λ e. denial (state_of c.args.self.now) e) c.in-More.is) ∙ c.requires.allowed)
