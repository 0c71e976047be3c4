use Rattle.std.proofs.Common.{map, Ok, arith, ap, sym, subst, ◌∙◌, refl}
use Rattle.std.proofs.lemmas.Grind.{common_steps}
use Rattle.darwin_parser.specs.Tree.{stmt_of}
use Rattle.darwin_parser.specs.Reading as reading
use Rattle.darwin_parser.specs.Reading.{Reads}
use Rattle.darwin_parser.proofs.Bodies.{when_body, forall_body}
use Rattle.darwin_parser.proofs.Loops.{passes_on, next_up_to, stops_up_to, fails_up_to}
use Rattle.darwin_parser.proofs.Deeper.{statement_block, statement_listing, block_limit, block_deeper}
use Rattle.darwin_parser.proofs.source.Source.+statement.Goals as goal

pub statement-returns-then-sees_block-clause-reads : goal.statement-returns-then-sees_block-clause-reads
statement-returns-then-sees_block-clause-reads t c = subst (λ o. Reads (λ v. map stmt_of v.items) o c.block.result c.block.new.tokens.rest.now)
    (statement_block c.args.self.now.text.now 32 c.args.nesting c.args.tokens.now.rest.now (sym c.sees_block.ensures ∙ c.if-sees_block.true)) c.block.ensures.reads

pub statement-returns-else-sees_block-clause-reads : goal.statement-returns-else-sees_block-clause-reads
statement-returns-else-sees_block-clause-reads t c = subst (λ o. Reads (λ v. map stmt_of v.items) o c.listing.result c.listing.new.tokens.rest.now)
    (statement_listing c.args.self.now.text.now 32 c.args.nesting c.args.tokens.now.rest.now (sym c.sees_block.ensures ∙ c.if-sees_block.false)) c.listing.ensures.reads

pub block-returns-then-nesting-eq0-clause-reads : goal.block-returns-then-nesting-eq0-clause-reads
block-returns-then-nesting-eq0-clause-reads t c = λ _. rw c.too_nested.ensures (block_limit c.args.self.now.text.now 32 c.args.nesting c.args.tokens.now.rest.now (omega arith))

pub block-returns-clause-reads : goal.block-returns-clause-reads
block-returns-clause-reads t c = subst (λ o. Reads (λ v. map stmt_of v.items) o c.block_over.result c.block_over.new.tokens.rest.now)
    (block_deeper c.args.self.now.text.now 32 c.args.nesting c.args.tokens.now.rest.now (omega arith)) c.block_over.ensures.reads

pub block_body-returns-in_err-stmts-clause-reads : goal.block_body-returns-in_err-stmts-clause-reads
block_body-returns-in_err-stmts-clause-reads t c = passes_on _ _ _ c.from_residual.result c.from_residual.ensures.1
    (λ ne. fails_up_to c.more.invariant.turning c.eat.ensures.rest (sym c.eat.ensures.found ∙ c.more-test.true) (c.in_err-stmts.ensures.reads ne))

pub block_body-more-preserved : goal.block_body-more-preserved
block_body-more-preserved t c = record {
  turning = next_up_to c.more.invariant.turning c.eat.ensures.rest (sym c.eat.ensures.found ∙ c.more-test.true) c.in_ok-stmts.ensures.reads c.in_ok-stmts.ensures.shorter (grind (arith, common_steps));
  shorter = omega (arith, c.in_ok-stmts.ensures.shorter);
}

pub block_body-returns-clause-reads : goal.block_body-returns-clause-reads
block_body-returns-clause-reads t c = stops_up_to c.more.invariant.turning c.eat.ensures.rest (sym c.eat.ensures.found ∙ c.more-test.false)

pub forall-returns-clause-reads : goal.forall-returns-clause-reads
unfolding reading.forall_over
forall-returns-clause-reads t c = rw (
  c.in_ok-at.ensures.reads,
  c.in_ok-var.ensures.reads,
  c.in_ok-sign.ensures.reads,
  c.in_ok-low.ensures.reads,
  c.in_ok-sign-2.ensures.reads,
  c.in_ok-high.ensures.reads,
  c.in_ok-body.ensures.reads,
) (ap (λ s. Ok (s, c.body.new.tokens.rest.now)) (sym (forall_body c.in_ok-var.var c.in_ok-low.low c.in_ok-high.high c.in_ok-body.body c.in_ok-at.field-0.at)))

pub when-returns-clause-reads : goal.when-returns-clause-reads
unfolding reading.when_over
when-returns-clause-reads t c = rw (c.in_ok-at.ensures.reads, c.in_ok-test.ensures.reads, c.in_ok-body.ensures.reads)
    (ap (λ s. Ok (s, c.body.new.tokens.rest.now)) (sym (when_body c.in_ok-test.test c.in_ok-body.body c.in_ok-at.field-0.at)))

pub forall-returns-in_err-at-clause-reads : goal.forall-returns-in_err-at-clause-reads
unfolding reading.forall_over
forall-returns-in_err-at-clause-reads t c = passes_on _ _ _ c.from_residual.result c.from_residual.ensures.1 (λ ne. rw (c.in_err-at.ensures.reads ne) refl)

pub forall-returns-in_err-var-clause-reads : goal.forall-returns-in_err-var-clause-reads
unfolding reading.forall_over
forall-returns-in_err-var-clause-reads t c = passes_on _ _ _ c.from_residual-in_err-var.result c.from_residual-in_err-var.ensures.1 (λ ne. rw (c.in_ok-at.ensures.reads, c.in_err-var.ensures.reads ne) refl)

pub forall-returns-in_err-sign-clause-reads : goal.forall-returns-in_err-sign-clause-reads
unfolding reading.forall_over
forall-returns-in_err-sign-clause-reads t c = passes_on _ _ _ c.from_residual-in_err-sign.result c.from_residual-in_err-sign.ensures.1 (λ ne. rw (c.in_ok-at.ensures.reads, c.in_ok-var.ensures.reads, c.in_err-sign.ensures.reads ne) refl)

pub forall-returns-in_err-low-clause-reads : goal.forall-returns-in_err-low-clause-reads
unfolding reading.forall_over
forall-returns-in_err-low-clause-reads t c = passes_on _ _ _ c.from_residual-in_err-low.result c.from_residual-in_err-low.ensures.1 (λ ne. rw (c.in_ok-at.ensures.reads, c.in_ok-var.ensures.reads, c.in_ok-sign.ensures.reads, c.in_err-low.ensures.reads ne) refl)

pub forall-returns-in_err-sign-2-clause-reads : goal.forall-returns-in_err-sign-2-clause-reads
unfolding reading.forall_over
forall-returns-in_err-sign-2-clause-reads t c = passes_on _ _ _ c.from_residual-in_err-sign-2.result c.from_residual-in_err-sign-2.ensures.1 (λ ne. rw (c.in_ok-at.ensures.reads, c.in_ok-var.ensures.reads, c.in_ok-sign.ensures.reads, c.in_ok-low.ensures.reads, c.in_err-sign-2.ensures.reads ne) refl)

pub forall-returns-in_err-high-clause-reads : goal.forall-returns-in_err-high-clause-reads
unfolding reading.forall_over
forall-returns-in_err-high-clause-reads t c = passes_on _ _ _ c.from_residual-in_err-high.result c.from_residual-in_err-high.ensures.1 (λ ne. rw (c.in_ok-at.ensures.reads, c.in_ok-var.ensures.reads, c.in_ok-sign.ensures.reads, c.in_ok-low.ensures.reads, c.in_ok-sign-2.ensures.reads, c.in_err-high.ensures.reads ne) refl)

pub forall-returns-in_err-body-clause-reads : goal.forall-returns-in_err-body-clause-reads
unfolding reading.forall_over
forall-returns-in_err-body-clause-reads t c = passes_on _ _ _ c.from_residual-in_err-body.result c.from_residual-in_err-body.ensures.1 (λ ne. rw (c.in_ok-at.ensures.reads, c.in_ok-var.ensures.reads, c.in_ok-sign.ensures.reads, c.in_ok-low.ensures.reads, c.in_ok-sign-2.ensures.reads, c.in_ok-high.ensures.reads, c.in_err-body.ensures.reads ne) refl)

pub when-returns-in_err-at-clause-reads : goal.when-returns-in_err-at-clause-reads
unfolding reading.when_over
when-returns-in_err-at-clause-reads t c = passes_on _ _ _ c.from_residual.result c.from_residual.ensures.1 (λ ne. rw (c.in_err-at.ensures.reads ne) refl)

pub when-returns-in_err-test-clause-reads : goal.when-returns-in_err-test-clause-reads
unfolding reading.when_over
when-returns-in_err-test-clause-reads t c = passes_on _ _ _ c.from_residual-in_err-test.result c.from_residual-in_err-test.ensures.1 (λ ne. rw (c.in_ok-at.ensures.reads, c.in_err-test.ensures.reads ne) refl)

pub when-returns-in_err-body-clause-reads : goal.when-returns-in_err-body-clause-reads
unfolding reading.when_over
when-returns-in_err-body-clause-reads t c = passes_on _ _ _ c.from_residual-in_err-body.result c.from_residual-in_err-body.ensures.1 (λ ne. rw (c.in_ok-at.ensures.reads, c.in_ok-test.ensures.reads, c.in_err-body.ensures.reads ne) refl)
