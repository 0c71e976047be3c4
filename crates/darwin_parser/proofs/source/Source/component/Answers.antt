use Rattle.std.proofs.Common.{map, Ok, ap, refl}
use Rattle.darwin_parser.specs.Tree.{Stmts, Component, port_of, array_of}
use Rattle.darwin_parser.specs.Reading as reading
use Rattle.darwin_parser.specs.Reading.{Outcome}
use Rattle.darwin_parser.proofs.Bodies.{stmts_is}
use Rattle.darwin_parser.proofs.Loops.{passes_on}
use Rattle.darwin_parser.proofs.source.Source.component.Goals as goal

pub returns-clause-reads : goal.returns-clause-reads
unfolding reading.component
returns-clause-reads c =
    let with_body : Stmts → Outcome Component = λ body. Ok (
      record {
        name = c.in_ok-name.name;
        at = c.in_ok-at.field-0.at;
        params = c.in_ok-params.params.items;
        ports = map port_of c.in_ok-ports.field-0.ports.items;
        arrays = map array_of c.in_ok-ports.field-0.arrays.items;
        body = body;
      },
      c.parts.new.tokens.rest.now,
    ) in
    rw (c.in_ok-at.ensures.reads, c.in_ok-name.ensures.reads, c.in_ok-params.ensures.reads, c.in_ok-sign.ensures.reads, c.in_ok-ports.ensures.reads) (ap with_body (stmts_is c.in_ok-ports.field-0.body.items))

pub returns-in_err-at-clause-reads : goal.returns-in_err-at-clause-reads
unfolding reading.component
returns-in_err-at-clause-reads c = passes_on _ _ _ c.from_residual.result c.from_residual.ensures.1 (λ ne. rw (c.in_err-at.ensures.reads ne) refl)

pub returns-in_err-name-clause-reads : goal.returns-in_err-name-clause-reads
unfolding reading.component
returns-in_err-name-clause-reads c = passes_on _ _ _ c.from_residual-in_err-name.result c.from_residual-in_err-name.ensures.1 (λ ne. rw (c.in_ok-at.ensures.reads, c.in_err-name.ensures.reads ne) refl)

pub returns-in_err-params-clause-reads : goal.returns-in_err-params-clause-reads
unfolding reading.component
returns-in_err-params-clause-reads c = passes_on _ _ _ c.from_residual-in_err-params.result c.from_residual-in_err-params.ensures.1 (λ ne. rw (c.in_ok-at.ensures.reads, c.in_ok-name.ensures.reads, c.in_err-params.ensures.reads ne) refl)

pub returns-in_err-sign-clause-reads : goal.returns-in_err-sign-clause-reads
unfolding reading.component
returns-in_err-sign-clause-reads c = passes_on _ _ _ c.from_residual-in_err-sign.result c.from_residual-in_err-sign.ensures.1 (λ ne. rw (c.in_ok-at.ensures.reads, c.in_ok-name.ensures.reads, c.in_ok-params.ensures.reads, c.in_err-sign.ensures.reads ne) refl)

pub returns-in_err-ports-clause-reads : goal.returns-in_err-ports-clause-reads
unfolding reading.component
returns-in_err-ports-clause-reads c = passes_on _ _ _ c.from_residual-in_err-ports.result c.from_residual-in_err-ports.ensures.1 (λ ne. rw (c.in_ok-at.ensures.reads, c.in_ok-name.ensures.reads, c.in_ok-params.ensures.reads, c.in_ok-sign.ensures.reads, c.in_err-ports.ensures.reads ne) refl)
