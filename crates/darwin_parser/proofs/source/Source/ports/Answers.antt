use Rattle.std.proofs.Common.{refl}
use Rattle.darwin_parser.specs.Reading as reading
use Rattle.darwin_parser.proofs.Loops.{passes_on}
use Rattle.darwin_parser.proofs.source.Source.ports.Goals as goal

pub returns-in_err-at-clause-reads : goal.returns-in_err-at-clause-reads
unfolding reading.port_list
returns-in_err-at-clause-reads c = passes_on _ _ _ c.from_residual.result c.from_residual.ensures.1 (λ ne. rw (← c.side_word.ensures, c.in_err-at.ensures.reads ne) refl)

pub returns-in_err-ports-clause-reads : goal.returns-in_err-ports-clause-reads
unfolding reading.port_list
returns-in_err-ports-clause-reads c = passes_on _ _ _ c.from_residual-in_err-ports.result c.from_residual-in_err-ports.ensures.1 (λ ne. rw (← c.side_word.ensures, c.in_ok-at.ensures.reads, c.in_err-ports.ensures.reads ne) refl)

pub returns-in_err-sign-clause-reads : goal.returns-in_err-sign-clause-reads
unfolding reading.port_list
returns-in_err-sign-clause-reads c = passes_on _ _ _ c.from_residual-in_err-sign.result c.from_residual-in_err-sign.ensures.1 (λ ne. rw (← c.side_word.ensures, c.in_ok-at.ensures.reads, c.in_ok-ports.ensures.reads, c.in_err-sign.ensures.reads ne) refl)

pub returns-clause-reads : goal.returns-clause-reads
unfolding reading.port_list
returns-clause-reads c = rw (← c.side_word.ensures, c.in_ok-at.ensures.reads, c.in_ok-ports.ensures.reads, c.in_ok-sign.ensures.reads) refl
