use Rattle.std.proofs.Common.{refl}
use Rattle.darwin_parser.specs.Reading as reading
use Rattle.darwin_parser.proofs.Loops.{passes_on}
use Rattle.darwin_parser.proofs.source.Source.bracketed.Goals as goal

pub returns-in_err-sign-clause-reads : goal.returns-in_err-sign-clause-reads
unfolding reading.bracketed
returns-in_err-sign-clause-reads c = passes_on _ _ _ c.from_residual.result c.from_residual.ensures.1 (λ ne. rw (c.in_err-sign.ensures.reads ne) refl)

pub returns-in_err-index-clause-reads : goal.returns-in_err-index-clause-reads
unfolding reading.bracketed
returns-in_err-index-clause-reads c = passes_on _ _ _ c.from_residual-in_err-index.result c.from_residual-in_err-index.ensures.1 (λ ne. rw (c.in_ok-sign.ensures.reads, c.in_err-index.ensures.reads ne) refl)

pub returns-in_err-sign-2-clause-reads : goal.returns-in_err-sign-2-clause-reads
unfolding reading.bracketed
returns-in_err-sign-2-clause-reads c = passes_on _ _ _ c.from_residual-in_err-sign-2.result c.from_residual-in_err-sign-2.ensures.1 (λ ne. rw (c.in_ok-sign.ensures.reads, c.in_ok-index.ensures.reads, c.in_err-sign-2.ensures.reads ne) refl)

pub returns-clause-reads : goal.returns-clause-reads
unfolding reading.bracketed
returns-clause-reads c = rw (c.in_ok-sign.ensures.reads, c.in_ok-index.ensures.reads, c.in_ok-sign-2.ensures.reads) refl
