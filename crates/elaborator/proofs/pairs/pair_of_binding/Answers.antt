use Rattle.darwin_walk.specs.Walked.{binding_of}
use Rattle.elaborator.specs.Expansion.{expanded_of}
use Rattle.elaborator.specs.Ports.{named_of}
use Rattle.base.proofs.AnswerLaws.{Answers-exit, Answers-weaker}
use Rattle.elaborator.proofs.PortLemmas.{instance_numbered, stands_numbered, numbered_within}
use Rattle.elaborator.proofs.PairLaws.{pair-no_left, pair-no_right, fault_of_form, fault_of_left_index, fault_of_right_index, fault_of_notes, lawful}
use Rattle.elaborator.proofs.pairs.pair_of_binding.Goals as goal

pub returns-in_default : goal.returns-in_default
returns-in_default c = λ i at.
    let tree = (expanded_of c.args.expansion.now).tree in
    let b = binding_of c.args.binding.now in
    let left = rw c.in_default.is at (c.in_ok-left.ensures i at) in
    Answers-weaker _ c.bad_binding.result (λ _ none. absurd none) (fault_of_form tree i b (pair-no_left tree i b left)) (c.bad_binding.ensures i at)

pub returns-in_default-2 : goal.returns-in_default-2
returns-in_default-2 c = λ i at.
    let tree = (expanded_of c.args.expansion.now).tree in
    let b = binding_of c.args.binding.now in
    let left = rw c.in-Some.is at (c.in_ok-left.ensures i at) in
    let right = rw c.in_default-2.is at (c.in_ok-right.ensures i at) in
    Answers-weaker _ c.bad_binding-in_default-2.result (λ _ none. absurd none) (fault_of_form tree i b (pair-no_right tree i b (named_of left.0 c.in-Some.left) left.1 right)) (c.bad_binding-in_default-2.ensures i at)

pub returns-in_default-pair_of_ports : goal.returns-in_default-pair_of_ports
returns-in_default-pair_of_ports c = λ i at.
    let e = expanded_of c.args.expansion.now in
    let b = binding_of c.args.binding.now in
    let left = rw c.in-Some.is at (c.in_ok-left.ensures i at) in
    let right = rw c.in-Some-2.is at (c.in_ok-right.ensures i at) in
    Answers-weaker _ c.bad_binding-in_default-pair_of_ports.result (λ _ none. absurd none) (fault_of_form e.tree i b (c.in_default-pair_of_ports.ensures e c.args.number i left right)) (c.bad_binding-in_default-pair_of_ports.ensures i at)

pub check_index-requires-clause-port_within : goal.check_index-requires-clause-port_within
check_index-requires-clause-port_within c =
    let e = expanded_of c.args.expansion.now in
    let here = instance_numbered e c.args.number c.requires.within in
    let left = rw c.in-Some.is at (c.in_ok-left.ensures here.0 here.1) in
    numbered_within e c.in-Some.left.id.instance left.0 (stands_numbered e c.args.number c.in-Some.left.is_inner _ left.0 left.2.stands)

pub returns-in_err-check_index : goal.returns-in_err-check_index
returns-in_err-check_index c = λ i at.
    let e = expanded_of c.args.expansion.now in
    let b = binding_of c.args.binding.now in
    let left = rw c.in-Some.is at (c.in_ok-left.ensures i at) in
    let stands = stands_numbered e c.args.number c.in-Some.left.is_inner _ left.0 left.2.stands in
    Answers-exit _ _ c.from_residual-in_err-check_index.ensures.1 (fault_of_left_index e.tree i b (named_of left.0 c.in-Some.left) left.1) (c.in_err-check_index.ensures i left.0 at stands left.2.declared)

pub check_index-requires-2-clause-port_within : goal.check_index-requires-2-clause-port_within
check_index-requires-2-clause-port_within c =
    let e = expanded_of c.args.expansion.now in
    let here = instance_numbered e c.args.number c.requires.within in
    let right = rw c.in-Some-2.is at (c.in_ok-right.ensures here.0 here.1) in
    numbered_within e c.in-Some-2.right.id.instance right.0 (stands_numbered e c.args.number c.in-Some-2.right.is_inner _ right.0 right.2.stands)

pub returns-in_err-check_index-2 : goal.returns-in_err-check_index-2
returns-in_err-check_index-2 c = λ i at.
    let e = expanded_of c.args.expansion.now in
    let b = binding_of c.args.binding.now in
    let right = rw c.in-Some-2.is at (c.in_ok-right.ensures i at) in
    let stands = stands_numbered e c.args.number c.in-Some-2.right.is_inner _ right.0 right.2.stands in
    Answers-exit _ _ c.from_residual-in_err-check_index-2.ensures.1 (fault_of_right_index e.tree i b (named_of right.0 c.in-Some-2.right) right.1) (c.in_err-check_index-2.ensures i right.0 at stands right.2.declared)

pub returns-in_err-check_notes : goal.returns-in_err-check_notes
returns-in_err-check_notes c = λ i at.
    let e = expanded_of c.args.expansion.now in
    let b = binding_of c.args.binding.now in
    let left = rw c.in-Some.is at (c.in_ok-left.ensures i at) in
    let right = rw c.in-Some-2.is at (c.in_ok-right.ensures i at) in
    Answers-exit _ _ c.from_residual-in_err-check_notes.ensures.1 (fault_of_notes e.tree i b (named_of left.0 c.in-Some.left) (named_of right.0 c.in-Some-2.right) left.1 right.1) (c.in_err-check_notes.ensures i at)

pub returns : goal.returns
returns c = λ i at.
    let e = expanded_of c.args.expansion.now in
    let b = binding_of c.args.binding.now in
    let left = rw c.in-Some.is at (c.in_ok-left.ensures i at) in
    let right = rw c.in-Some-2.is at (c.in_ok-right.ensures i at) in
    let pair = c.in-Some-pair_of_ports.ensures e c.args.number i left right in
    let first = c.in_ok-check_index.ensures i left.0 at (stands_numbered e c.args.number c.in-Some.left.is_inner _ left.0 left.2.stands) left.2.declared in
    let second = c.in_ok-check_index-2.ensures i right.0 at (stands_numbered e c.args.number c.in-Some-2.right.is_inner _ right.0 right.2.stands) right.2.declared in
    let notes = c.in_ok-check_notes.ensures i at in
    (pair.0, lawful e.tree i b (named_of left.0 c.in-Some.left) (named_of right.0 c.in-Some-2.right) pair.0 left.1 right.1 pair.1 first second notes, pair.2)
