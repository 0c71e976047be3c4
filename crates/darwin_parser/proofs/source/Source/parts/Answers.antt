use Rattle.std.proofs.Common.{arith, sym, ◌∙◌}
use Rattle.std.proofs.lemmas.Grind.{common_steps}
use Rattle.darwin_parser.proofs.Loops.{passes_on, next_up_to, stops_up_to, fails_up_to}
use Rattle.darwin_parser.proofs.source.Source.parts.Goals as goal

pub returns-in_err-item-clause-reads : goal.returns-in_err-item-clause-reads
returns-in_err-item-clause-reads c = passes_on _ _ _ c.from_residual.result c.from_residual.ensures.1
    (λ ne. fails_up_to c.more.invariant.turning c.eat.ensures.rest (sym c.eat.ensures.found ∙ c.more-test.true) (c.in_err-item.ensures.reads ne))

pub more-preserved : goal.more-preserved
more-preserved c = record {
  turning = next_up_to c.more.invariant.turning c.eat.ensures.rest (sym c.eat.ensures.found ∙ c.more-test.true) c.in_ok-item.ensures.reads c.in_ok-item.ensures.shorter (grind (arith, common_steps));
  shorter = omega (arith, c.in_ok-item.ensures.shorter);
}

pub returns-clause-reads : goal.returns-clause-reads
returns-clause-reads c = stops_up_to c.more.invariant.turning c.eat.ensures.rest (sym c.eat.ensures.found ∙ c.more-test.false)
