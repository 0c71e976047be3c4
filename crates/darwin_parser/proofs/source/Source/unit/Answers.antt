use Rattle.std.proofs.Common.{Err, arith, ap, sym, ◌∙◌}
use Rattle.std.proofs.lemmas.Grind.{common_steps}
use Rattle.darwin_parser.specs.Reading.{unit, and_then, at_end}
use Rattle.darwin_parser.proofs.Loops.{passes_on, next, stops, fails, sees_some, at_end_empty, at_end_more}
use Rattle.darwin_parser.proofs.source.Source.unit.Goals as goal

pub returns-in_err-component : goal.returns-in_err-component
unfolding unit
returns-in_err-component c =
    let e = sym c.sees_word.ensures ∙ c.more-test.true in
    passes_on _ _ _ c.from_residual.result c.from_residual.ensures.1
    (λ ne. ap (λ o. and_then o at_end) (fails c.more.invariant.turning e (sees_some _ _ e) (c.in_err-component.ensures.reads ne)))

pub more-preserved : goal.more-preserved
more-preserved c = record {
  turning = next c.more.invariant.turning (sym c.sees_word.ensures ∙ c.more-test.true) c.in_ok-component.ensures.reads c.in_ok-component.ensures.shorter (grind (arith, common_steps));
  shorter = omega (arith, c.in_ok-component.ensures.shorter);
}

pub returns-then-not-is_empty : goal.returns-then-not-is_empty
unfolding unit
returns-then-not-is_empty c = λ _.
    ap (λ o. and_then o at_end) (stops c.more.invariant.turning (sym c.sees_word.ensures ∙ c.more-test.false))
    ∙ (at_end_more _ _ (λ e. let k = c.is_empty.ensures.1 e in cc) ∙ ap Err (sym c.expected.ensures))

pub returns : goal.returns
unfolding unit
returns c = ap (λ o. and_then o at_end) (stops c.more.invariant.turning (sym c.sees_word.ensures ∙ c.more-test.false)) ∙ at_end_empty _ _ (c.is_empty.ensures.0 (cc))
