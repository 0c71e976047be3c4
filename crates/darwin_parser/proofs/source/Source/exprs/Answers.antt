use Rattle.std.proofs.Common.{map, ap, arith, sym, ◌∙◌}
use Rattle.std.proofs.lemmas.Grind.{common_steps}
use Rattle.darwin_parser.specs.Tree.{expr_of}
use Rattle.darwin_parser.specs.Reading as reading
use Rattle.darwin_parser.specs.Reading.{sees, expect, ◌>>◌, ◌>>=◌}
use Rattle.darwin_parser.proofs.Loops.{comma, owes_first, read_one, stops_after, owes_after, passes_on, fails_at_one}
use Rattle.darwin_parser.proofs.source.Source.exprs.Goals as goal

pub more-init : goal.more-init
unfolding reading.exprs
more-init c = record {
  owing = owes_first (sees comma) (expect comma >> reading.expr c.args.self.now.text.now 32) (reading.expr c.args.self.now.text.now 32) _ _ (ap (map expr_of) c.new-exprs.ensures.items);
  shorter = omega arith;
}

pub returns-then-not-eat-clause-reads : goal.returns-then-not-eat-clause-reads
returns-then-not-eat-clause-reads c = stops_after comma (reading.expr c.args.self.now.text.now 32)
    (read_one c.more.invariant.owing c.in_ok-expr.ensures.reads c.in_ok-expr.ensures.shorter (grind (arith, common_steps)))
    c.eat.ensures.rest (sym c.eat.ensures.found ∙ c.if-not-eat.true)

pub more-preserved : goal.more-preserved
more-preserved c = record {
  owing = owes_after comma (reading.expr c.args.self.now.text.now 32)
      (read_one c.more.invariant.owing c.in_ok-expr.ensures.reads c.in_ok-expr.ensures.shorter (grind (arith, common_steps)))
      c.eat.ensures.rest (sym c.eat.ensures.found ∙ c.if-not-eat.false);
  shorter = omega (arith, c.in_ok-expr.ensures.shorter);
}

pub returns-in_err-expr-clause-reads : goal.returns-in_err-expr-clause-reads
returns-in_err-expr-clause-reads c = passes_on _ _ _ c.from_residual.result c.from_residual.ensures.1 (λ ne. fails_at_one c.more.invariant.owing (c.in_err-expr.ensures.reads ne))
