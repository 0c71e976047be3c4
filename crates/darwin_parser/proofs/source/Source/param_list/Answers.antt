use Rattle.std.proofs.Common.{arith, sym, ◌∙◌}
use Rattle.std.proofs.lemmas.Grind.{common_steps}
use Rattle.darwin_parser.specs.Reading as reading
use Rattle.darwin_parser.specs.Reading.{sees, expect, ◌>>◌, ◌>>=◌}
use Rattle.darwin_parser.proofs.Loops.{comma, owes_first, read_one, stops_after, owes_after, passes_on, fails_at_one}
use Rattle.darwin_parser.proofs.source.Source.param_list.Goals as goal

pub more-init : goal.more-init
unfolding reading.param_list
more-init c = record {
  owing = owes_first (sees comma) (expect comma >> reading.param c.args.self.now.text.now) (reading.param c.args.self.now.text.now) _ _ c.new-params.ensures.items;
  shorter = omega arith;
}

pub returns-then-not-eat-clause-reads : goal.returns-then-not-eat-clause-reads
returns-then-not-eat-clause-reads c = stops_after comma (reading.param c.args.self.now.text.now)
    (read_one c.more.invariant.owing c.in_ok-param.ensures.reads c.in_ok-param.ensures.shorter (grind (arith, common_steps)))
    c.eat.ensures.rest (sym c.eat.ensures.found ∙ c.if-not-eat.true)

pub more-preserved : goal.more-preserved
more-preserved c = record {
  owing = owes_after comma (reading.param c.args.self.now.text.now)
      (read_one c.more.invariant.owing c.in_ok-param.ensures.reads c.in_ok-param.ensures.shorter (grind (arith, common_steps)))
      c.eat.ensures.rest (sym c.eat.ensures.found ∙ c.if-not-eat.false);
  shorter = omega (arith, c.in_ok-param.ensures.shorter);
}

pub returns-in_err-param-clause-reads : goal.returns-in_err-param-clause-reads
returns-in_err-param-clause-reads c = passes_on _ _ _ c.from_residual.result c.from_residual.ensures.1 (λ ne. fails_at_one c.more.invariant.owing (c.in_err-param.ensures.reads ne))
