use Rattle.std.proofs.Common.{◌≢◌, IfErr, IfOk, subst}
use Rattle.darwin_parser.specs.Tree.{tree_of}
use Rattle.elaborator.specs.Expansion.{instance_in, expanded_of}
use Rattle.elaborator.specs.Faults.{Faults}
use Rattle.elaborator.specs.Elaboration.{HasNoFault}
use Rattle.elaborator.specs.declared.error.ElabError.TheVariants.{NoMemory}
use Rattle.base.proofs.AnswerLaws.{Answers-exit}
use Rattle.elaborator.proofs.ElaborationLemmas.{growth_fault, answer-no_fault, answer-fault}
use Rattle.elaborator.proofs.SoundLemmas.{answer-sound}
use Rattle.elaborator.proofs.elaborating.graph_or_fault.Goals as goal

pub returns-in_err-expansion-clause-fault : goal.returns-in_err-expansion-clause-fault
returns-in_err-expansion-clause-fault c =
    let tree = tree_of c.of-directory.result.unit.now in
    let name = c.args.top.now in
    let arguments = c.args.args.now in
    let top = instance_in c.in_ok-instance.instance in
    let r = c.from_residual-in_err-expansion.result in
    let is_top = c.in_ok-instance.ensures.1 in
    subst (λ t. IfErr r (λ f. f ≢ NoMemory → Faults t name arguments f)) (c.of-directory.ensures.tree) (Answers-exit _ _ c.from_residual-in_err-expansion.ensures.1 (growth_fault tree name arguments top is_top) c.in_err-expansion.ensures)

pub returns-clause-no_fault : goal.returns-clause-no_fault
returns-clause-no_fault c =
    let e = expanded_of c.in_ok-expansion.expansion in
    let tree = tree_of c.of-directory.result.unit.now in
    let top = instance_in c.in_ok-instance.instance in
    let whole = c.in_ok-expansion.ensures in
    subst (λ t. IfOk c.build_graph.result (λ _. HasNoFault t c.args.top.now c.args.args.now)) (c.of-directory.ensures.tree) (answer-no_fault e tree c.args.top.now c.args.args.now top c.build_graph.result whole.same_tree whole.is_of c.in_ok-instance.ensures.1 whole.clear (c.build_graph.ensures top whole.is_of))

pub returns-clause-sound : goal.returns-clause-sound
returns-clause-sound c =
    let e = expanded_of c.in_ok-expansion.expansion in
    let tree = tree_of c.of-directory.result.unit.now in
    let top = instance_in c.in_ok-instance.instance in
    let whole = c.in_ok-expansion.ensures in
    answer-sound e tree c.args.top.now c.args.args.now top c.build_graph.result whole.same_tree (c.of-directory.ensures.no_fault) c.in_ok-instance.ensures.1 whole.clear (c.build_graph.ensures top whole.is_of)

pub returns-clause-fault : goal.returns-clause-fault
returns-clause-fault c =
    let e = expanded_of c.in_ok-expansion.expansion in
    let tree = tree_of c.of-directory.result.unit.now in
    let top = instance_in c.in_ok-instance.instance in
    let whole = c.in_ok-expansion.ensures in
    subst (λ t. IfErr c.build_graph.result (λ f. f ≢ NoMemory → Faults t c.args.top.now c.args.args.now f)) (c.of-directory.ensures.tree) (answer-fault e tree c.args.top.now c.args.args.now top c.build_graph.result whole.same_tree whole.is_of c.in_ok-instance.ensures.1 (c.build_graph.ensures top whole.is_of))
