use Rattle.std.proofs.Common.{◌∙◌, arith, sym, ap, nat_eq, codes}
use Rattle.std.specs.List.{starts_with}
use Rattle.darwin_lexer.proofs.FrontLemmas.{through_close-next}
use Rattle.darwin_lexer.proofs.front.through_close.Goals as goal
use Rattle.base.proofs.PlaceLaws.{rest_is}

pub loop-i-preserved : goal.loop-i-preserved
loop-i-preserved c = c.loop-i.invariant ∙ through_close-next c.args.text.now c.loop-i.i (omega arith) (sym (ap (λ l. starts_with nat_eq l (codes "*/")) (rest_is c.args.text.now c.loop-i.i (omega arith))) ∙ sym c.starts_with.ensures.value ∙ c.if-starts_with.false)
