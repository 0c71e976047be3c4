use Rattle.std.proofs.Common.{refl, sym, ◌∙◌}
use Rattle.darwin_parser.specs.Reading as reading
use Rattle.darwin_parser.proofs.Loops.{passes_on}
use Rattle.darwin_parser.proofs.source.Source.item.Goals as goal

pub returns-in_err-ports-clause-reads : goal.returns-in_err-ports-clause-reads
unfolding reading.item
returns-in_err-ports-clause-reads c = passes_on _ _ _ c.from_residual.result c.from_residual.ensures.1
    (λ ne. rw (sym c.sees_word.ensures ∙ c.if-sees_word.true, c.in_err-ports.ensures.reads ne) refl)

pub returns-in_ok-ports-clause-reads : goal.returns-in_ok-ports-clause-reads
unfolding reading.item
returns-in_ok-ports-clause-reads c = rw (sym c.sees_word.ensures ∙ c.if-sees_word.true, c.in_ok-ports.ensures.reads) refl

pub returns-in_err-ports-2-clause-reads : goal.returns-in_err-ports-2-clause-reads
unfolding reading.item
returns-in_err-ports-2-clause-reads c = passes_on _ _ _ c.from_residual-in_err-ports-2.result c.from_residual-in_err-ports-2.ensures.1
    (λ ne. rw (sym c.sees_word.ensures ∙ c.if-sees_word.false, sym c.sees_word-else-sees_word.ensures ∙ c.if-sees_word-2.true, c.in_err-ports-2.ensures.reads ne) refl)

pub returns-in_ok-ports-2-clause-reads : goal.returns-in_ok-ports-2-clause-reads
unfolding reading.item
returns-in_ok-ports-2-clause-reads c = rw (sym c.sees_word.ensures ∙ c.if-sees_word.false, sym c.sees_word-else-sees_word.ensures ∙ c.if-sees_word-2.true, c.in_ok-ports-2.ensures.reads) refl

pub returns-in_err-arrays-clause-reads : goal.returns-in_err-arrays-clause-reads
unfolding reading.item
returns-in_err-arrays-clause-reads c = passes_on _ _ _ c.from_residual-in_err-arrays.result c.from_residual-in_err-arrays.ensures.1
    (λ ne. rw (sym c.sees_word.ensures ∙ c.if-sees_word.false, sym c.sees_word-else-sees_word.ensures ∙ c.if-sees_word-2.false, sym c.sees_word-else-sees_word-2.ensures ∙ c.if-sees_word-3.true, c.in_err-arrays.ensures.reads ne) refl)

pub returns-in_ok-arrays-clause-reads : goal.returns-in_ok-arrays-clause-reads
unfolding reading.item
returns-in_ok-arrays-clause-reads c = rw (sym c.sees_word.ensures ∙ c.if-sees_word.false, sym c.sees_word-else-sees_word.ensures ∙ c.if-sees_word-2.false, sym c.sees_word-else-sees_word-2.ensures ∙ c.if-sees_word-3.true, c.in_ok-arrays.ensures.reads) refl

pub returns-in_err-statement-clause-reads : goal.returns-in_err-statement-clause-reads
unfolding reading.item
returns-in_err-statement-clause-reads c = passes_on _ _ _ c.from_residual-in_err-statement.result c.from_residual-in_err-statement.ensures.1
    (λ ne. rw (sym c.sees_word.ensures ∙ c.if-sees_word.false, sym c.sees_word-else-sees_word.ensures ∙ c.if-sees_word-2.false, sym c.sees_word-else-sees_word-2.ensures ∙ c.if-sees_word-3.false, c.in_err-statement.ensures.reads ne) refl)

pub returns-in_ok-statement-clause-reads : goal.returns-in_ok-statement-clause-reads
unfolding reading.item
returns-in_ok-statement-clause-reads c = rw (sym c.sees_word.ensures ∙ c.if-sees_word.false, sym c.sees_word-else-sees_word.ensures ∙ c.if-sees_word-2.false, sym c.sees_word-else-sees_word-2.ensures ∙ c.if-sees_word-3.false, c.in_ok-statement.ensures.reads) refl
