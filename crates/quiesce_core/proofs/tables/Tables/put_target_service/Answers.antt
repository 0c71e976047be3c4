use Rattle.std.proofs.Common.{sym, ap, ◌∙◌}
use Rattle.quiesce_core.specs.Tables.{state_of}
use Rattle.quiesce_core.proofs.TableLaws.{target_place}
use Rattle.quiesce_core.proofs.tables.Tables.put_target_service.Goals as goal

pub put_service-requires : goal.put_service-requires
put_service-requires c =
    target_place (state_of c.args.self.now) c.args.port c.in-Some.target c.requires (sym (ap (λ g. g.target) c.gate.ensures) ∙ c.in-Some.is)
