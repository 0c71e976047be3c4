use Rattle.std.proofs.Common.{◌∙◌, ◌∷◌, ◌++◌, [], ap, sym, subst, arith}
use Rattle.std.specs.List.{range_with_len}
use Rattle.base.proofs.RisingLaws.{places_more}
use Rattle.change_parts.specs.Classes.{AreClasses}
use Rattle.change_parts.proofs.ClassLemmas.{alone_classes}
use Rattle.change_parts.proofs.classes.list_alone.Goals as goal

pub returns-clause-classes : goal.returns-clause-classes
returns-clause-classes c = subst (AreClasses []) (sym (c.loop-k.invariant ∙ ap (range_with_len 0) (omega (arith, c)))) (alone_classes c.args.count)

pub loop-k-preserved : goal.loop-k-preserved
loop-k-preserved c =
    let k = c.loop-k.k in
    c.in_ok-push.ensures.items ∙ ap (λ ks. ks ++ k ∷ []) c.loop-k.invariant ∙ sym (places_more k)
