use Rattle.std.proofs.Common.{◌∙◌, ◌++◌, ◌+◌, map, drop, sym, ap, subst, All, Some}
use Rattle.std.specs.List.{flat_map, filter_map}
use Rattle.std.specs.Option.{option_map}
use Rattle.std.proofs.lemmas.List.{append-nil, drop_all}
use Rattle.darwin_parser.specs.Tree.{tree_of}
use Rattle.darwin_walk.specs.Walked.{child_of}
use Rattle.elaborator.specs.Instances.{instance_of}
use Rattle.elaborator.specs.Faults.{kind_argument_faults}
use Rattle.elaborator.specs.Expansion.{instance_in}
use Rattle.elaborator.specs.Opening.{IsNoted}
use Rattle.base.proofs.AnswerLaws.{Answers-exit}
use Rattle.elaborator.proofs.CauseLemmas.{fault-grow}
use Rattle.elaborator.proofs.MakingLemmas.{instances-push, instances-skip, faults-next, next, noted-push}
use Rattle.elaborator.proofs.making.make_all.Goals as goal
use Rattle.elaborator.proofs.making.make_all.Goals.{in-Some+in_ok-push, in_default}
use Rattle.base.proofs.ContainsLaws.{Contains-from}

pub returns-in_err-instance : goal.returns-in_err-instance
returns-in_err-instance c =
    let tree = tree_of c.args.directory.now.unit.now in
    Answers-exit _ _ c.from_residual-in_err-instance.ensures.1
    (fault-grow _ _ _ _ (Contains-from (kind_argument_faults tree) child_of _ _ _ _ c.loop-child-test.true c.child-item.is c.loop-child.invariant.no_faults))
    c.in_err-instance.ensures

pub returns : goal.returns
returns c =
    let tree = tree_of c.args.directory.now.unit.now in
    let make_one = instance_of tree (instance_in c.args.within.now) in
    let so_far = c.loop-child.invariant in
    let none = drop_all c.loop-child.child-index c.args.children.now c.loop-child-test.false in (
      so_far.no_faults ∙ ap (λ cs. flat_map (kind_argument_faults tree) (map child_of cs)) none,
      record {
        instances =
            sym
            (so_far.instances ∙ ap (λ cs. map instance_in c.loop-child.made.items ++ filter_map make_one (map child_of cs)) none
            ∙ append-nil (map instance_in c.loop-child.made.items));
        noted = so_far.noted;
      },
    )

pub loop-child-preserved : goal.loop-child-preserved
loop-child-preserved c =
    let tree = tree_of c.args.directory.now.unit.now in
    let make_one = instance_of tree (instance_in c.args.within.now) in
    let children = c.args.children.now in
    let k = c.loop-child.child-index in
    let x = c.child-item.result in
    let so_far = c.loop-child.invariant in
    let told = c.in_ok-instance.ensures in
    let rest = map child_of (drop (k + 1) children) in
    let left = next child_of children k x c.loop-child-test.true c.child-item.is in
    let made = so_far.instances ∙ ap (λ cs. map instance_in c.loop-child.made.items ++ filter_map make_one cs) left in
    let faultless = so_far.no_faults ∙ faults-next (kind_argument_faults tree) children k x c.loop-child-test.true c.child-item.is told.0 in
    elim c.match-branch-3.branch [
      | in-Some+in_ok-push w ↦
          let pushed = ap (λ v. v.items) w.made-is ∙ w.in_ok-push.ensures.items in
          record {
            no_faults = faultless;
            instances =
                instances-push make_one (map child_of children) rest (child_of x) c.loop-child.made.items _ w.in-Some.instance made
                (sym (ap (option_map instance_in) w.in-Some.is) ∙ told.1.instance) pushed;
            noted = noted-push (Some c.args.number) c.loop-child.made.items _ w.in-Some.instance c.in_ok-instance.field-0 so_far.noted told.1.noted w.in-Some.is pushed;
          }
      | in_default w ↦
          let same = ap (λ v. v.items) w.made-is in
          record {
            no_faults = faultless;
            instances =
                instances-skip make_one (map child_of children) rest (child_of x) c.loop-child.made.items _ made
                (sym (ap (option_map instance_in) w.in_default.is) ∙ told.1.instance) same;
            noted = subst (All (IsNoted (Some c.args.number))) (sym same) so_far.noted;
          }
    ]
