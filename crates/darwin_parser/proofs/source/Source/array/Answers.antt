use Rattle.std.proofs.Common.{refl}
use Rattle.darwin_parser.specs.Reading as reading
use Rattle.darwin_parser.proofs.Loops.{passes_on}
use Rattle.darwin_parser.proofs.source.Source.array.Goals as goal

pub returns-in_err-name-clause-reads : goal.returns-in_err-name-clause-reads
unfolding reading.arrayentry
returns-in_err-name-clause-reads c = passes_on _ _ _ c.from_residual.result c.from_residual.ensures.1 (λ ne. rw (c.in_err-name.ensures.reads ne) refl)

pub returns-in_err-size-clause-reads : goal.returns-in_err-size-clause-reads
unfolding reading.arrayentry
returns-in_err-size-clause-reads c = passes_on _ _ _ c.from_residual-in_err-size.result c.from_residual-in_err-size.ensures.1 (λ ne. rw (c.in_ok-name.ensures.reads, c.in_err-size.ensures.reads ne) refl)

pub returns-in_err-sign-clause-reads : goal.returns-in_err-sign-clause-reads
unfolding reading.arrayentry
returns-in_err-sign-clause-reads c = passes_on _ _ _ c.from_residual-in_err-sign.result c.from_residual-in_err-sign.ensures.1 (λ ne. rw (c.in_ok-name.ensures.reads, c.in_ok-size.ensures.reads, c.in_err-sign.ensures.reads ne) refl)

pub returns-in_err-component-clause-reads : goal.returns-in_err-component-clause-reads
unfolding reading.arrayentry
returns-in_err-component-clause-reads c = passes_on _ _ _ c.from_residual-in_err-component.result c.from_residual-in_err-component.ensures.1 (λ ne. rw (c.in_ok-name.ensures.reads, c.in_ok-size.ensures.reads, c.in_ok-sign.ensures.reads, c.in_err-component.ensures.reads ne) refl)

pub returns-in_err-args-clause-reads : goal.returns-in_err-args-clause-reads
unfolding reading.arrayentry
returns-in_err-args-clause-reads c = passes_on _ _ _ c.from_residual-in_err-args.result c.from_residual-in_err-args.ensures.1 (λ ne. rw (c.in_ok-name.ensures.reads, c.in_ok-size.ensures.reads, c.in_ok-sign.ensures.reads, c.in_ok-component.ensures.reads, c.in_err-args.ensures.reads ne) refl)
