use Rattle.std.proofs.Common.{arith, sym, ◌∙◌}
use Rattle.std.proofs.lemmas.Grind.{common_steps}
use Rattle.darwin_lexer.specs.declared.token.TokenKind.TheVariants as kinds
use Rattle.darwin_lexer.specs.declared.token.Sign.TheVariants as signs
use Rattle.darwin_parser.specs.Reading as reading
use Rattle.darwin_parser.proofs.Loops.{owes_first_up_to, read_one_up_to, stops_up_to, owes_up_to, passes_on, fails_at_one_up_to}
use Rattle.darwin_parser.proofs.source.Source.note_list.Goals as goal

pub more-init : goal.more-init
unfolding reading.note_list
more-init c = record {
  owing = rw c.in_ok-sign.ensures.reads (owes_first_up_to (kinds.Sign signs.Greater) (reading.note c.args.self.now.text.now) _ _ c.new-notes.ensures.items);
  shorter = omega (arith, c.in_ok-sign.ensures.shorter);
}

pub returns-then-eat-clause-reads : goal.returns-then-eat-clause-reads
returns-then-eat-clause-reads c = stops_up_to
    (read_one_up_to c.more.invariant.owing c.in_ok-note.ensures.reads c.in_ok-note.ensures.shorter (grind (arith, common_steps)))
    c.eat.ensures.rest (sym c.eat.ensures.found ∙ c.if-eat.true)

pub more-preserved : goal.more-preserved
more-preserved c = record {
  owing = owes_up_to
      (read_one_up_to c.more.invariant.owing c.in_ok-note.ensures.reads c.in_ok-note.ensures.shorter (grind (arith, common_steps)))
      c.eat.ensures.rest (sym c.eat.ensures.found ∙ c.if-eat.false);
  shorter = omega (arith, c.in_ok-note.ensures.shorter);
}

pub returns-in_err-note-clause-reads : goal.returns-in_err-note-clause-reads
returns-in_err-note-clause-reads c = passes_on _ _ _ c.from_residual-in_err-note.result c.from_residual-in_err-note.ensures.1
    (λ ne. fails_at_one_up_to c.more.invariant.owing (c.in_err-note.ensures.reads ne))
