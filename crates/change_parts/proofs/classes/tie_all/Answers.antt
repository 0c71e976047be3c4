use Rattle.std.proofs.Common.{◌≡◌, ◌∙◌, ℕ, List, sym, subst, arith, take, length}
use Rattle.std.proofs.lemmas.List.{take_all, take_more}
use Rattle.change_parts.specs.Classes.{AreClasses}
use Rattle.change_parts.proofs.classes.tie_all.Goals as goal

pub tie-requires-clause-a : goal.tie-requires-clause-a
tie-requires-clause-a c = omega (arith, (c.requires c.loop-pair.pair-index (0, 0) c.loop-pair-test.true).0, c.loop-pair.invariant.long)

pub tie-requires-clause-b : goal.tie-requires-clause-b
tie-requires-clause-b c = omega (arith, (c.requires c.loop-pair.pair-index (0, 0) c.loop-pair-test.true).1, c.loop-pair.invariant.long)

pub loop-pair-preserved : goal.loop-pair-preserved
loop-pair-preserved c =
    let i = c.loop-pair.pair-index in
    let ties = c.args.ties.now in
    record {
      long = c.tie.auto.least ∙ c.loop-pair.invariant.long;
      are = λ alone. subst (λ (done : List (ℕ × ℕ)). AreClasses done c.tie.new.least) (sym (take_more ties i (0, 0) c.loop-pair-test.true)) (c.tie.ensures.classes (take i ties) (c.loop-pair.invariant.are alone));
    }

pub returns : goal.returns
returns c =
    let all : length c.args.ties.now ≡ c.loop-pair.pair-index = omega (arith, c.loop-pair-test.false, c.loop-pair.auto.pair-index-end) in
    record { classes = λ alone. subst (λ (done : List (ℕ × ℕ)). AreClasses done c.loop-pair.least) (take_all c.loop-pair.pair-index c.args.ties.now (omega (arith, all))) (c.loop-pair.invariant.are alone) }
