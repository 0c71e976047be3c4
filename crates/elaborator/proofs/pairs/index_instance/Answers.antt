use Rattle.std.proofs.Common.{◌∙◌, ◌++◌, [], ap, sym, subst, map, take, drop}
use Rattle.std.specs.List.{Contains, flat_map}
use Rattle.std.proofs.lemmas.List.{take_all}
use Rattle.darwin_walk.specs.Walked.{binding_of}
use Rattle.elaborator.specs.Bindings.{pair_of, bindings_in}
use Rattle.elaborator.specs.Expansion.{expanded_of}
use Rattle.elaborator.specs.PortIndex.{IsIndex, AreLawful}
use Rattle.elaborator.specs.PortIndex.BindingFault.{of_binding}
use Rattle.base.proofs.AnswerLaws.{Answers-exit}
use Rattle.elaborator.proofs.PortLemmas.{same_instance}
use Rattle.elaborator.proofs.InstanceLemmas.{front, next_there, pairs-more, lawful-more, twice}
use Rattle.elaborator.proofs.pairs.index_instance.Goals as goal
use Rattle.base.proofs.ContainsLaws.{Contains-flat_map, Contains-here}
use Rattle.base.proofs.MapLaws.{map-take_more}

pub returns-in_err-pair : goal.returns-in_err-pair
returns-in_err-pair c = λ i pairs at index before.
    let items = c.deref-binding-items.result.now in
    let same = same_instance c.args.expansion.now c.args.number c.instance-instance.result.now i c.instance-instance.ensures.made at in
    let all = ap (map binding_of) c.deref-binding-items.ensures.value ∙ c.instance-instance.ensures.bindings ∙ ap bindings_in (sym same) in
    let there = subst (λ bs. Contains bs (binding_of c.binding-item.result)) all (next_there binding_of items c.loop-binding.binding-index c.binding-item.result c.loop-binding-test.true c.binding-item.is) in
    Answers-exit _ _ c.from_residual.ensures.1 (λ f is. of_binding c.args.number i (binding_of c.binding-item.result) f at there is) (c.in_err-pair.ensures i at)

pub returns-in_err-bind_pair : goal.returns-in_err-bind_pair
returns-in_err-bind_pair c = λ i pairs at index before.
    let e = expanded_of c.args.expansion.now in
    let items = c.deref-binding-items.result.now in
    let k = c.loop-binding.binding-index in
    let b = binding_of c.binding-item.result in
    let same = same_instance c.args.expansion.now c.args.number c.instance-instance.result.now i c.instance-instance.ensures.made at in
    let all = ap (map binding_of) c.deref-binding-items.ensures.value ∙ c.instance-instance.ensures.bindings ∙ ap bindings_in (sym same) in
    let there = subst (λ bs. Contains bs b) all (next_there binding_of items k c.binding-item.result c.loop-binding-test.true c.binding-item.is) in
    let w = c.in_ok-pair.ensures i at in
    let pair_there = Contains-flat_map (pair_of e.tree i) (bindings_in i) b w.0 there (subst (λ ps. Contains ps w.0) (sym w.1.is_pair) (Contains-here w.0 [])) in
    let so_far = map binding_of (take k items) in
    Answers-exit _ _ c.from_residual-in_err-bind_pair.ensures.1 (λ f clash. twice e c.requires.kept.is_expanded c.args.number i pairs so_far (map binding_of (drop k items)) w.0 f at before (sym all ∙ front binding_of items k) pair_there clash) (c.in_err-bind_pair.ensures i w.0 (pairs ++ flat_map (pair_of e.tree i) so_far) at w.2 (c.loop-binding.invariant i pairs at index).0)

pub loop-binding-preserved : goal.loop-binding-preserved
loop-binding-preserved c = λ i pairs at index.
    let e = expanded_of c.args.expansion.now in
    let items = c.deref-binding-items.result.now in
    let k = c.loop-binding.binding-index in
    let b = binding_of c.binding-item.result in
    let so_far = map binding_of (take k items) in
    let before = c.loop-binding.invariant i pairs at index in
    let w = c.in_ok-pair.ensures i at in
    let bound = c.in_ok-bind_pair.ensures i w.0 (pairs ++ flat_map (pair_of e.tree i) so_far) at w.2 before.0 in
    let more = map-take_more binding_of items k c.binding-item.result c.loop-binding-test.true c.binding-item.is in
    (subst (λ bs. IsIndex e (pairs ++ flat_map (pair_of e.tree i) bs) c.bind_pair.new.targets) (sym more) (subst (λ ps. IsIndex e ps c.bind_pair.new.targets) (pairs-more e.tree i pairs so_far b w.0 w.1.is_pair) bound), subst (AreLawful e.tree i) (sym more) (lawful-more e.tree i so_far b w.0 before.1 w.1))

pub returns : goal.returns
returns c = λ i pairs at index earlier.
    let e = expanded_of c.args.expansion.now in
    let items = c.deref-binding-items.result.now in
    let k = c.loop-binding.binding-index in
    let same = same_instance c.args.expansion.now c.args.number c.instance-instance.result.now i c.instance-instance.ensures.made at in
    let all = ap (map binding_of) c.deref-binding-items.ensures.value ∙ c.instance-instance.ensures.bindings ∙ ap bindings_in (sym same) in
    let whole = ap (map binding_of) (take_all k items c.loop-binding-test.false) ∙ all in
    let done = c.loop-binding.invariant i pairs at index in
    (subst (λ bs. IsIndex e (pairs ++ flat_map (pair_of e.tree i) bs) c.loop-binding.targets) whole done.0, subst (AreLawful e.tree i) whole done.1)
