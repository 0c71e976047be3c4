use Rattle.std.proofs.Common.{refl}
use Rattle.darwin_parser.specs.Reading as reading
use Rattle.darwin_parser.proofs.Loops.{passes_on}
use Rattle.darwin_parser.proofs.source.Source.last_args.Goals as goal

pub returns-in_err-args-clause-reads : goal.returns-in_err-args-clause-reads
unfolding reading.last_args
returns-in_err-args-clause-reads c = passes_on _ _ _ c.from_residual.result c.from_residual.ensures.1 (λ ne. rw (c.in_err-args.ensures.reads ne) refl)

pub returns-in_err-sign-clause-reads : goal.returns-in_err-sign-clause-reads
unfolding reading.last_args
returns-in_err-sign-clause-reads c = passes_on _ _ _ c.from_residual-in_err-sign.result c.from_residual-in_err-sign.ensures.1 (λ ne. rw (c.in_ok-args.ensures.reads, c.in_err-sign.ensures.reads ne) refl)

pub returns-clause-reads : goal.returns-clause-reads
unfolding reading.last_args
returns-clause-reads c = rw (c.in_ok-args.ensures.reads, c.in_ok-sign.ensures.reads) refl
