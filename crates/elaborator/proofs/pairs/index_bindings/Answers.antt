use Rattle.std.proofs.Common.{◌≡◌, ◌<◌, ◌≤◌, sym, subst, take, length, arith, inl, inr}
use Rattle.std.specs.List.{flat_map}
use Rattle.std.proofs.lemmas.List.{take_all, length-map}
use Rattle.std.proofs.lemmas.Bool.{cases_lt}
use Rattle.elaborator.specs.Instances.{Instance}
use Rattle.elaborator.specs.Bindings.{pairs_in, bindings_in}
use Rattle.elaborator.specs.Numbering.{NumberedInstance, Numbered}
use Rattle.elaborator.specs.Expansion.{expanded_of}
use Rattle.elaborator.specs.PortIndex.{IsIndex, AreLawful}
use Rattle.base.proofs.AnswerLaws.{Answers-exit}
use Rattle.elaborator.proofs.PortLemmas.{instance_numbered, numbered_within}
use Rattle.elaborator.proofs.IndexLemmas.{same_numbered}
use Rattle.elaborator.proofs.WholeLemmas.{instances_of, first_before, instances-more, whole_index}
use Rattle.elaborator.proofs.pairs.index_bindings.Goals as goal

pub returns-in_err-index_instance : goal.returns-in_err-index_instance
returns-in_err-index_instance c =
    let e = expanded_of c.args.expansion.now in
    let n = c.loop-number.number in
    let below : n < length e.made = omega (arith, c.len-number-end.ensures, c.loop-number-test.true) in
    let here = instance_numbered e n below in
    Answers-exit _ _ c.from_residual.ensures.1 (λ f cause. cause) (c.in_err-index_instance.ensures here.0 (flat_map (pairs_in e.tree) (take n (instances_of e))) here.1 c.loop-number.invariant.indexed (first_before e n (omega arith)))

pub loop-number-preserved : goal.loop-number-preserved
loop-number-preserved c =
    let e = expanded_of c.args.expansion.now in
    let n = c.loop-number.number in
    let below : n < length e.made = omega (arith, c.len-number-end.ensures, c.loop-number-test.true) in
    let here = instance_numbered e n below in
    let pairs = flat_map (pairs_in e.tree) (take n (instances_of e)) in
    let done = c.in_ok-index_instance.ensures here.0 pairs here.1 c.loop-number.invariant.indexed (first_before e n (omega arith)) in
    record {
      indexed = subst (λ ps. IsIndex e ps c.index_instance.new.targets) (sym (instances-more e n here.0 here.1)) done.0;
      lawful = λ m i within at.
          elim (cases_lt m n) [
            | inl earlier ↦ c.loop-number.invariant.lawful m i earlier at
            | inr late ↦
                let same : m ≡ n = omega arith in
                subst (λ (j : Instance). AreLawful e.tree j (bindings_in j)) (same_numbered e n here.0 i here.1 (subst (λ k. Numbered e k i) same at)) done.1
          ];
    }

pub returns : goal.returns
returns c =
    let e = expanded_of c.args.expansion.now in
    let n = c.loop-number.number in
    let all : length (instances_of e) ≤ n = omega (arith, length-map e.made (λ (m : NumberedInstance). m.instance), c.len-number-end.ensures, c.loop-number-test.false) in
    whole_index e c.requires.is_expanded c.loop-number.targets (subst (λ is. IsIndex e (flat_map (pairs_in e.tree) is) c.loop-number.targets) (take_all n (instances_of e) all) c.loop-number.invariant.indexed) (λ m i at. c.loop-number.invariant.lawful m i (omega (arith, numbered_within e m i at, c.len-number-end.ensures, c.loop-number-test.false)) at)
