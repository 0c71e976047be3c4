use Rattle.std.proofs.Common.{map, arith, ap, sym, ◌∙◌}
use Rattle.std.proofs.lemmas.Grind.{common_steps}
use Rattle.darwin_lexer.specs.declared.token.TokenKind.TheVariants as kinds
use Rattle.darwin_parser.specs.Tree.{bind, stmt_of}
use Rattle.darwin_parser.specs.Reading as reading
use Rattle.darwin_parser.specs.Reading.{sees, ◌>>=◌, and_then, pure}
use Rattle.darwin_parser.proofs.Loops.{passes_on, owes_first, read_one, fails_at_one, stops, owes, sees_some}
use Rattle.darwin_parser.proofs.source.Source.bindings.Goals as goal

pub more-init : goal.more-init
unfolding reading.bindings
more-init c = record {
  owing = rw c.in_ok-word.ensures.reads (owes_first (sees kinds.Name) (reading.bindentry c.args.self.now.text.now 32 >>= (λ b. pure (bind b))) (reading.bindentry c.args.self.now.text.now 32 >>= (λ b. pure (bind b))) _ _ (ap (map stmt_of) c.new-stmts.ensures.items));
  shorter = omega (arith, c.in_ok-word.ensures.shorter);
}

pub returns-in_err-binding-clause-reads : goal.returns-in_err-binding-clause-reads
returns-in_err-binding-clause-reads c = passes_on _ _ _ c.from_residual-in_err-binding.result c.from_residual-in_err-binding.ensures.1
    (λ ne. fails_at_one c.more.invariant.owing (ap (λ o. and_then o (λ x. pure (bind x))) (c.in_err-binding.ensures.reads ne)))

pub returns-then-not-sees-clause-reads : goal.returns-then-not-sees-clause-reads
returns-then-not-sees-clause-reads c = stops
    (read_one c.more.invariant.owing (ap (λ o. and_then o (λ x. pure (bind x))) c.in_ok-binding.ensures.reads) c.in_ok-binding.ensures.shorter (grind (arith, common_steps)))
    (sym c.sees.ensures ∙ c.if-not-sees.true)

pub more-preserved : goal.more-preserved
more-preserved c =
    let more = sym c.sees.ensures ∙ c.if-not-sees.false in
    record {
      owing = owes
          (read_one c.more.invariant.owing (ap (λ o. and_then o (λ x. pure (bind x))) c.in_ok-binding.ensures.reads) c.in_ok-binding.ensures.shorter (grind (arith, common_steps)))
          more (sees_some _ _ more);
      shorter = omega (arith, c.in_ok-binding.ensures.shorter);
    }
