use Rattle.std.proofs.Common.{◌≡◌, ◌∙◌, ◌++◌, ◌∷◌, [], length, sym, ap, subst, append_assoc}
use Rattle.std.specs.Vec.Iter.{into_iter_items}
use Rattle.elaborator.specs.Growth.{IsClash}
use Rattle.elaborator.specs.declared.error.ElabError.TheVariants.{TwoInstances}
use Rattle.base.proofs.AnswerLaws.{Answers-exit}
use Rattle.elaborator.proofs.MappedLemmas.{extended-more, clash-more}
use Rattle.elaborator.proofs.instance.Expansion.add_all.Goals as goal

pub loop-instance-preserved : goal.loop-instance-preserved
loop-instance-preserved c =
    let so_far = c.loop-instance.invariant in
    let rest = into_iter_items c.next.new.self in
    record {
      can_next = tt;
      is_finite = tt;
      added = so_far.added ++ c.in-Some.instance ∷ [];
      parts =
          so_far.parts ∙ ap (λ is. so_far.added ++ is) c.in-Some.ensures.steps.0
          ∙ sym (append_assoc so_far.added (c.in-Some.instance ∷ []) rest);
      extended = extended-more c.args.self.now c.loop-instance.self c.add.new.self so_far.added c.in-Some.instance so_far.extended c.in_ok-add.ensures;
    }

pub returns-in_err-add : goal.returns-in_err-add
returns-in_err-add c =
    let so_far = c.loop-instance.invariant in
    let old = c.args.self.now.instances.items in
    let rest = into_iter_items c.next.new.self in
    let all = so_far.parts ∙ ap (λ is. so_far.added ++ is) c.in-Some.ensures.steps.0 in
    let x = c.in-Some.instance in
    let mid = c.loop-instance.self.instances.items in
    Answers-exit {Cause = λ f. (f ≡ TwoInstances x.path) × IsClash (mid ++ x ∷ []) (length mid) x.path} _ _ c.from_residual.ensures.1 (λ f cause. (
      x.path,
      cause.0,
      subst (λ is. IsClash is (length old) x.path)
          (append_assoc old so_far.added (x ∷ rest) ∙ ap (λ is. old ++ is) (sym all))
          (clash-more old mid so_far.added rest x x.path so_far.extended.instances cause.1),
    )) c.in_err-add.ensures
