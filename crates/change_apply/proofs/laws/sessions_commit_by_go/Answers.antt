use Rattle.std.proofs.Common.{◌∙◌, sym, ap}
use Rattle.std.proofs.lemmas.List.Sums.{fold-append}
use Rattle.change_apply.specs.Courses.{scene_after}
use Rattle.change_apply.specs.Sessions.{Scene, first_scene, goes_on, turn}
use Rattle.change_apply.specs.declared.said.Said.TheVariants.{Go}
use Rattle.change_apply.proofs.LawLemmas.{scene_after_one, go_always, go_only, over_always}
use Rattle.change_apply.proofs.laws.sessions_commit_by_go.Goals as goal

pub returns-clause-only : goal.returns-clause-only
returns-clause-only c = λ h said x going made. go_only h (scene_after h said) x going (ap (λ (s : Scene). s.phase) (sym (scene_after_one h said x)) ∙ made)

pub returns-clause-always : goal.returns-clause-always
returns-clause-always c = λ h said is. ap (λ (s : Scene). s.phase) (scene_after_one h said Go) ∙ go_always h (scene_after h said) is

pub returns-clause-over : goal.returns-clause-over
returns-clause-over c = λ h said more_ over.
    fold-append (λ s x. (turn h s x).next) (goes_on h (first_scene h)).next said more_ ∙ over_always h (scene_after h said) more_ over
