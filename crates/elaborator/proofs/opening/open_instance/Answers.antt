use Rattle.darwin_parser.specs.Tree.{tree_of}
use Rattle.darwin_walk.specs.Walked.{child_of}
use Rattle.std.proofs.Common.{◌≡◌, ◌∙◌, [], map, ap, subst}
use Rattle.std.specs.List.{flat_map}
use Rattle.elaborator.specs.Faults.{kind_argument_faults}
use Rattle.elaborator.specs.Opening.{AreMade}
use Rattle.elaborator.specs.Expansion.{instance_in}
use Rattle.base.proofs.AnswerLaws.{Answers-exit}
use Rattle.elaborator.proofs.CauseLemmas.{cause-grow, fault-grow}
use Rattle.elaborator.proofs.OpeningLemmas.{expanded, faults-own, kinds-own, count-own, found-opened}
use Rattle.elaborator.proofs.opening.open_instance.Goals as goal

pub returns-in_err-walked : goal.returns-in_err-walked
returns-in_err-walked c =
    let i = instance_in c.args.instance.now in
    let is = expanded c.args.instance.now c.requires.primitive c.requires.depth c.if-instance.false in
    Answers-exit _ _ c.from_residual.ensures.1
    (cause-grow _ _ _ _ _ (λ f. faults-own (tree_of c.args.directory.now.unit.now) i f is) (count-own c.args.room i is)) c.in_err-walked.ensures

pub returns-in_err-made : goal.returns-in_err-made
returns-in_err-made c =
    let i = instance_in c.args.instance.now in
    let is = expanded c.args.instance.now c.requires.primitive c.requires.depth c.if-instance.false in
    Answers-exit _ _ c.from_residual-in_err-made.ensures.1
    (fault-grow _ _ _ _
    (λ f. kinds-own (tree_of c.args.directory.now.unit.now) i (map child_of c.as_slice.result.now) f is (ap (map child_of) c.as_slice.ensures.value ∙ c.in_ok-walked.ensures.1.children)))
    c.in_err-made.ensures

pub returns : goal.returns
returns c =
    let tree = tree_of c.args.directory.now.unit.now in
    let i = instance_in c.args.instance.now in
    let is = expanded c.args.instance.now c.requires.primitive c.requires.depth c.if-instance.false in
    let made = c.in_ok-made.ensures in
    found-opened tree c.args.instance.now c.args.number c.args.room c.in_ok-walked.walked c.in_ok-made.made is c.in_ok-walked.ensures.0 c.in_ok-walked.ensures.1
    (subst (λ cs. flat_map (kind_argument_faults tree) (map child_of cs) ≡ []) c.as_slice.ensures.value made.0)
    (subst (λ cs. AreMade tree i c.args.number (map child_of cs) c.in_ok-made.made) c.as_slice.ensures.value made.1)
