use Rattle.std.proofs.Common.{◌∙◌, [], length, ap, sym, subst, All}
use Rattle.std.proofs.lemmas.List.FromFn.{length-range_with_len}
use Rattle.change_parts.specs.Classes.{AreClasses, IsTieBelow}
use Rattle.base.proofs.PlaceLaws.{written_back}
use Rattle.change_parts.proofs.classes.list_least.Goals as goal

pub tie_all-requires : goal.tie_all-requires
tie_all-requires c =
    subst (λ n. All (IsTieBelow n) c.args.ties.now) (sym (ap length c.deref_mut.ensures.value ∙ ap length c.in_ok-least.ensures.numbers ∙ length-range_with_len 0 c.args.count)) c.requires

pub returns-clause-classes : goal.returns-clause-classes
returns-clause-classes c =
    subst (AreClasses c.args.ties.now) (sym (written_back c.tie_all.new.least c.in_ok-least.least.items c.in_ok-least.least.len (c.tie_all.auto.least ∙ ap length c.deref_mut.ensures.value) (sym c.deref_mut.ensures.len ∙ ap length c.deref_mut.ensures.value)))
    (c.tie_all.ensures.classes (subst (AreClasses []) (sym c.deref_mut.ensures.value) c.in_ok-least.ensures.classes))

pub returns-clause-long : goal.returns-clause-long
returns-clause-long c =
    ap length (written_back c.tie_all.new.least c.in_ok-least.least.items c.in_ok-least.least.len (c.tie_all.auto.least ∙ ap length c.deref_mut.ensures.value) (sym c.deref_mut.ensures.len ∙ ap length c.deref_mut.ensures.value))
    ∙ c.tie_all.auto.least ∙ ap length c.deref_mut.ensures.value ∙ ap length c.in_ok-least.ensures.numbers ∙ length-range_with_len 0 c.args.count
