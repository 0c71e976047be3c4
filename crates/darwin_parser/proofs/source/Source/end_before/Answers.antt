use Rattle.std.proofs.Common.{refl}
use Rattle.darwin_parser.specs.Reading as reading
use Rattle.darwin_parser.proofs.Loops.{passes_on}
use Rattle.darwin_parser.proofs.source.Source.end_before.Goals as goal

pub returns-in_err-end-clause-reads : goal.returns-in_err-end-clause-reads
unfolding reading.end_before
returns-in_err-end-clause-reads c = passes_on _ _ _ c.from_residual.result c.from_residual.ensures.1 (λ ne. rw (c.in_err-end.ensures.reads ne) refl)

pub returns-in_err-sign-clause-reads : goal.returns-in_err-sign-clause-reads
unfolding reading.end_before
returns-in_err-sign-clause-reads c = passes_on _ _ _ c.from_residual-in_err-sign.result c.from_residual-in_err-sign.ensures.1 (λ ne. rw (c.in_ok-end.ensures.reads, c.in_err-sign.ensures.reads ne) refl)
