use Rattle.std.proofs.Common.{refl}
use Rattle.darwin_parser.specs.Reading as reading
use Rattle.darwin_parser.proofs.Loops.{passes_on}
use Rattle.darwin_parser.proofs.source.Source.port.Goals as goal

pub returns-in_err-name-clause-reads : goal.returns-in_err-name-clause-reads
unfolding reading.port
returns-in_err-name-clause-reads c = passes_on _ _ _ c.from_residual.result c.from_residual.ensures.1 (λ ne. rw (c.in_err-name.ensures.reads ne) refl)

pub returns-in_err-size-clause-reads : goal.returns-in_err-size-clause-reads
unfolding reading.port
returns-in_err-size-clause-reads c = passes_on _ _ _ c.from_residual-in_err-size.result c.from_residual-in_err-size.ensures.1 (λ ne. rw (c.in_ok-name.ensures.reads, c.in_err-size.ensures.reads ne) refl)

pub returns-in_err-note-clause-reads : goal.returns-in_err-note-clause-reads
unfolding reading.port
returns-in_err-note-clause-reads c = passes_on _ _ _ c.from_residual-in_err-note.result c.from_residual-in_err-note.ensures.1 (λ ne. rw (c.in_ok-name.ensures.reads, c.in_ok-size.ensures.reads, c.in_err-note.ensures.reads ne) refl)

pub returns-clause-reads : goal.returns-clause-reads
unfolding reading.port
returns-clause-reads c = rw (c.in_ok-name.ensures.reads, c.in_ok-size.ensures.reads, c.in_ok-note.ensures.reads) refl
