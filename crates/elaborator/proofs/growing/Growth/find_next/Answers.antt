use Rattle.std.proofs.Common.{◌≡◌, ◌∙◌, ◌<◌, ◌≤◌, refl, ap, sym, subst}
use Rattle.std.proofs.lemmas.Option.{slice_get_read, get_or_from_slice_get}
use Rattle.darwin_parser.specs.Tree.{tree_of}
use Rattle.elaborator.specs.Expansion.{instance_in}
use Rattle.elaborator.specs.Faults.{own_faults}
use Rattle.elaborator.specs.Instances.{count_in}
use Rattle.elaborator.specs.Opening.{JudgesAt, IsFound}
use Rattle.elaborator.specs.declared.instance.Instance as code
use Rattle.elaborator.proofs.ExpandLemmas.{deep-fault, judged-next, plain-next}
use Rattle.elaborator.proofs.growing.Growth.find_next.Goals as goal

pub returns-then-next-ge-TOO_DEEP : goal.returns-then-next-ge-TOO_DEEP
returns-then-next-ge-TOO_DEEP c = λ top next growth at other.
    let is : c.index-next.result.now ≡ next = c.index-next.ensures ∙ get_or_from_slice_get c.args.self.now.expansion.instances.items c.args.self.now.opened next c.index-next.result.now at in
    deep-fault top c.args.self.now next _ growth at (subst (λ (x : code.Instance). 33 ≤ x.depth) is c.if-next-ge-TOO_DEEP.true)
    (c.in_ok-try_clone.ensures ∙ ap (λ (x : code.Instance). x.path) is)

pub open_instance-requires-clause-primitive : goal.open_instance-requires-clause-primitive
open_instance-requires-clause-primitive c =
    let g = c.args.self.now in
    c.requires.growth.1.told g.opened c.index-next.result.now (slice_get_read g.expansion.instances.items _ g.opened c.index-next.result.now refl c.requires.within c.index-next.ensures)

pub open_instance-requires-clause-plain : goal.open_instance-requires-clause-plain
open_instance-requires-clause-plain c = λ primitive.
    let g = c.args.self.now in
    let x = c.index-next.result.now in
    let at = slice_get_read g.expansion.instances.items _ g.opened x refl c.requires.within c.index-next.ensures in
    plain-next c.requires.growth.0 g x c.requires.growth.1 at (sym (c.requires.growth.1.told g.opened x at) ∙ primitive)

pub returns : goal.returns
returns c = λ top next growth at.
    let g = c.args.self.now in
    let is : c.index-next.result.now ≡ next = c.index-next.ensures ∙ get_or_from_slice_get c.args.self.now.expansion.instances.items c.args.self.now.opened next c.index-next.result.now at in
    judged-next top g next (IsFound (tree_of g.expansion.directory.unit.now) (instance_in next) g.opened g.room) c.open_instance.result growth at (subst (λ (x : code.Instance). x.depth < 33) is c.if-next-ge-TOO_DEEP.false)
    (subst (λ (x : code.Instance). JudgesAt x.path (own_faults (tree_of g.expansion.directory.unit.now) (instance_in x)) (g.room < count_in (instance_in x)) (IsFound (tree_of g.expansion.directory.unit.now) (instance_in x) g.opened g.room) c.open_instance.result) is c.open_instance.ensures)
