use Rattle.std.proofs.Common.{arith, sym, subst, ◌∙◌, refl}
use Rattle.darwin_parser.specs.Reading as reading
use Rattle.darwin_parser.specs.Tree.{expr_of}
use Rattle.darwin_parser.specs.Reading.{Reads}
use Rattle.darwin_parser.proofs.Loops.{passes_on, next, stops, fails, operator_some}
use Rattle.darwin_parser.proofs.Deeper.{factor_nested, factor_simple, nested_limit, nested_deeper}
use Rattle.darwin_parser.proofs.source.Source.+expression.Goals as goal

pub chain-returns-in_err-op-clause-reads : goal.chain-returns-in_err-op-clause-reads
chain-returns-in_err-op-clause-reads t c =
    let e = sym c.sees_operator.ensures ∙ c.more-test.true in
    passes_on _ _ _ c.from_residual-in_err-op.result c.from_residual-in_err-op.ensures.1 (λ ne. fails c.more.invariant.turning e (operator_some c.args.level _ e) (c.in_err-op.ensures.reads ne))

pub chain-more-preserved : goal.chain-more-preserved
chain-more-preserved t c = record {
  turning = next c.more.invariant.turning (sym c.sees_operator.ensures ∙ c.more-test.true) c.in_ok-op.ensures.reads c.in_ok-op.ensures.shorter c.in_ok-left-2.ensures;
  shorter = omega (arith, c.in_ok-op.ensures.shorter);
}

pub chain-returns-clause-reads : goal.chain-returns-clause-reads
chain-returns-clause-reads t c = stops c.more.invariant.turning (sym c.sees_operator.ensures ∙ c.more-test.false)

pub factor-returns-then-sees_nested-clause-reads : goal.factor-returns-then-sees_nested-clause-reads
factor-returns-then-sees_nested-clause-reads t c = subst (λ o. Reads expr_of o c.nested.result c.nested.new.tokens.rest.now)
    (factor_nested c.args.self.now.text.now c.args.nesting c.args.tokens.now.rest.now (sym c.sees_nested.ensures ∙ c.if-sees_nested.true)) c.nested.ensures.reads

pub factor-returns-else-sees_nested-clause-reads : goal.factor-returns-else-sees_nested-clause-reads
factor-returns-else-sees_nested-clause-reads t c = subst (λ o. Reads expr_of o c.simple.result c.simple.new.tokens.rest.now)
    (factor_simple c.args.self.now.text.now c.args.nesting c.args.tokens.now.rest.now (sym c.sees_nested.ensures ∙ c.if-sees_nested.false)) c.simple.ensures.reads

pub nested-returns-then-nesting-eq0-clause-reads : goal.nested-returns-then-nesting-eq0-clause-reads
nested-returns-then-nesting-eq0-clause-reads t c = λ _. rw c.too_nested.ensures (nested_limit c.args.self.now.text.now c.args.nesting c.args.tokens.now.rest.now (omega arith))

pub nested-returns-clause-reads : goal.nested-returns-clause-reads
nested-returns-clause-reads t c = subst (λ o. Reads expr_of o c.nested_over.result c.nested_over.new.tokens.rest.now)
    (nested_deeper c.args.self.now.text.now c.args.nesting c.args.tokens.now.rest.now (omega arith)) c.nested_over.ensures.reads

pub comparison-returns-in_err-left-clause-reads : goal.comparison-returns-in_err-left-clause-reads
unfolding reading.comparison
comparison-returns-in_err-left-clause-reads t c = passes_on _ _ _ c.from_residual.result c.from_residual.ensures.1 (λ ne. rw (c.in_err-left.ensures.reads ne) refl)
