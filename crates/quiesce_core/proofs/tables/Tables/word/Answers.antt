use Rattle.std.proofs.Common.{sym, ap, ◌∙◌, subst, arith}
use Rattle.quiesce_core.specs.Tables.{state_of}
use Rattle.quiesce_core.specs.WellFormed.{IsWithinBounds}
use Rattle.quiesce_core.proofs.TableLaws.{fits_target}
use Rattle.quiesce_core.proofs.tables.Tables.word.Goals as goal

pub returns-clause-fits : goal.returns-clause-fits
returns-clause-fits c =
    let bounds : IsWithinBounds c.exchange-exchange.result = subst (λ x. IsWithinBounds x) (sym c.exchange-exchange.ensures) (c.requires.bounds c.args.port) in
    record {
      value = bounds.value;
      serial = omega (arith, bounds.serial);
      target = λ t e. fits_target (state_of c.args.self.now) c.requires c.args.port t (sym (ap (λ g. g.target) c.gate-gate.ensures) ∙ e);
    }
