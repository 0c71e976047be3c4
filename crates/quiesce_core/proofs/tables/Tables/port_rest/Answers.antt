use Rattle.std.proofs.Common.{sym, ap, ◌∙◌}
use Rattle.quiesce_core.proofs.tables.Tables.port_rest.Goals as goal

pub asked_rest-requires-clause-there : goal.asked_rest-requires-clause-there
asked_rest-requires-clause-there c =
    c.requires.sound.targets c.args.port c.in-Some.target (sym (ap (λ g. g.target) c.gate.ensures) ∙ c.in-Some.is)
