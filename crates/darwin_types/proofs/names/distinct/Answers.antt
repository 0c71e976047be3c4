use Rattle.std.proofs.Common.{◌≡◌, false, not, sym, ap, subst, ◌∙◌, map, take, option_map, [], ◌∷◌, ◌++◌}
use Rattle.std.specs.Bool.{OnTrue}
use Rattle.std.proofs.lemmas.List.{take_all}
use Rattle.darwin_types.specs.Check.{repeat_fault, repeat_faults}
use Rattle.std.specs.List.{Contains}
use Rattle.darwin_types.specs.Faults.{is_repeated}
use Rattle.darwin_types.proofs.Judged.{Judges-one, repeat_faults-none, repeat_faults-at, is_repeated-at}
use Rattle.darwin_types.proofs.names.distinct.Goals as goal
use Rattle.base.proofs.MapLaws.{map-take_more}

pub returns-then-not-branch-clause-judged : goal.returns-then-not-branch-clause-judged
returns-then-not-branch-clause-judged g c =
    let fault = repeat_fault (option_map (λ k. k.now) c.args.component) in
    let there = repeat_faults-at fault g.T.Named.name_of c.args.items.now c.loop-item.item-index c.item-item.result c.loop-item-test.true c.item-item.is (cc (c.in_ok-add.ensures.before, ap not c.if-not-branch.true, c.name-name.ensures)) in
    Judges-one _ _ _ (subst (λ n. Contains (repeat_faults fault (map g.T.Named.name_of c.args.items.now)) (fault n)) (sym c.name-name.ensures) there) c.repeated.ensures

pub loop-item-preserved : goal.loop-item-preserved
loop-item-preserved g c = record {
  indexed =
      subst (λ b. OnTrue b (c.add.new.self ≡ c.loop-item.index ++ c.as_bytes.result.now ∷ [])) c.if-not-branch.false c.in_ok-add.ensures.added ∙ ap (λ ns. ns ++ c.as_bytes.result.now ∷ []) c.loop-item.invariant.indexed ∙ ap (λ y. map g.T.Named.name_of (take c.loop-item.item-index c.args.items.now) ++ y ∷ []) (c.as_bytes.ensures ∙ c.name-name.ensures) ∙ sym (map-take_more g.T.Named.name_of c.args.items.now c.loop-item.item-index c.item-item.result c.loop-item-test.true c.item-item.is);
  differ = is_repeated-at g.T.Named.name_of c.args.items.now c.loop-item.item-index c.item-item.result c.loop-item-test.true c.item-item.is c.loop-item.invariant.differ (cc (c.in_ok-add.ensures.before, ap not c.if-not-branch.false, c.name-name.ensures));
}

pub returns-clause-judged : goal.returns-clause-judged
returns-clause-judged g c =
    repeat_faults-none (repeat_fault (option_map (λ k. k.now) c.args.component)) (map g.T.Named.name_of c.args.items.now) (subst (λ ns. (x : _) → is_repeated (map g.T.Named.name_of ns) x ≡ false) (take_all c.loop-item.item-index c.args.items.now c.loop-item-test.false) c.loop-item.invariant.differ)
