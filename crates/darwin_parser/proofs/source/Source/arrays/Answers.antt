use Rattle.std.proofs.Common.{map, arith, ap, sym, ◌∙◌}
use Rattle.std.proofs.lemmas.Grind.{common_steps}
use Rattle.darwin_lexer.specs.declared.token.TokenKind.TheVariants as kinds
use Rattle.darwin_parser.specs.Tree.{array_of}
use Rattle.darwin_parser.specs.Reading as reading
use Rattle.darwin_parser.specs.Reading.{sees, ◌>>=◌}
use Rattle.darwin_parser.proofs.Loops.{passes_on, owes_first, read_one, fails_at_one, stops, owes, sees_some}
use Rattle.darwin_parser.proofs.source.Source.arrays.Goals as goal

pub more-init : goal.more-init
unfolding reading.array_list
more-init c = record {
  owing = rw c.in_ok-word.ensures.reads (owes_first (sees kinds.Name) (reading.arrayentry c.args.self.now.text.now 32) (reading.arrayentry c.args.self.now.text.now 32) _ _ (ap (map array_of) c.new-arrays.ensures.items));
  shorter = omega (arith, c.in_ok-word.ensures.shorter);
}

pub returns-in_err-array-clause-reads : goal.returns-in_err-array-clause-reads
returns-in_err-array-clause-reads c = passes_on _ _ _ c.from_residual-in_err-array.result c.from_residual-in_err-array.ensures.1
    (λ ne. fails_at_one c.more.invariant.owing (c.in_err-array.ensures.reads ne))

pub returns-then-not-sees-clause-reads : goal.returns-then-not-sees-clause-reads
returns-then-not-sees-clause-reads c = stops
    (read_one c.more.invariant.owing c.in_ok-array.ensures.reads c.in_ok-array.ensures.shorter (grind (arith, common_steps)))
    (sym c.sees.ensures ∙ c.if-not-sees.true)

pub more-preserved : goal.more-preserved
more-preserved c =
    let more = sym c.sees.ensures ∙ c.if-not-sees.false in
    record {
      owing = owes
          (read_one c.more.invariant.owing c.in_ok-array.ensures.reads c.in_ok-array.ensures.shorter (grind (arith, common_steps)))
          more (sees_some _ _ more);
      shorter = omega (arith, c.in_ok-array.ensures.shorter);
    }
