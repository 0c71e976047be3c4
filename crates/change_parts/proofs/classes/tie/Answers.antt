use Rattle.std.proofs.Common.{inl, inr, refl, sym, arith, get_or}
use Rattle.change_parts.proofs.ClassLemmas.{renamed_itself, tied_classes}
use Rattle.change_parts.proofs.classes.tie.Goals as goal

pub returns-then-first-second : goal.returns-then-first-second
returns-then-first-second c = record {
  classes = λ ties are.
      tied_classes ties c.args.least.now are c.args.a c.args.b _ _ c.requires.a c.requires.b (omega (arith, c.if-first-second.true)) (inr (refl, refl)) c.rename.new.list c.rename.auto.list c.rename.ensures;
}

pub returns-then-second-first : goal.returns-then-second-first
returns-then-second-first c = record {
  classes = λ ties are.
      tied_classes ties c.args.least.now are c.args.a c.args.b _ _ c.requires.a c.requires.b (omega (arith, c.if-first-second.false)) (inl (refl, refl)) c.rename-then-second-first.new.list c.rename-then-second-first.auto.list c.rename-then-second-first.ensures;
}

pub returns-else-second-first : goal.returns-else-second-first
returns-else-second-first c = record {
  classes = λ ties are.
      tied_classes ties c.args.least.now are c.args.a c.args.b _ _ c.requires.a c.requires.b (omega (arith, c.if-first-second.false)) (inl (refl, refl)) c.args.least.now refl
      (λ k low. sym (renamed_itself (get_or c.args.least.now c.args.a 0) (get_or c.args.least.now c.args.b 0) (get_or c.args.least.now k 0) (omega (arith, c.if-first-second.false, c.if-second-first.false))));
}
