use Rattle.std.proofs.Common.{refl}
use Rattle.darwin_parser.specs.Reading as reading
use Rattle.darwin_parser.proofs.Loops.{passes_on}
use Rattle.darwin_parser.proofs.source.Source.element.Goals as goal

pub returns-in_err-index-clause-reads : goal.returns-in_err-index-clause-reads
unfolding reading.element_after
returns-in_err-index-clause-reads c = passes_on _ _ _ c.from_residual.result c.from_residual.ensures.1 (λ ne. rw (c.in_err-index.ensures.reads ne) refl)

pub returns-in_err-args-clause-reads : goal.returns-in_err-args-clause-reads
unfolding reading.element_after
returns-in_err-args-clause-reads c = passes_on _ _ _ c.from_residual-in_err-args.result c.from_residual-in_err-args.ensures.1 (λ ne. rw (c.in_ok-index.ensures.reads, c.in_err-args.ensures.reads ne) refl)
