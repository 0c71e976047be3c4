use Rattle.std.proofs.Common.{sym, subst}
use Rattle.std.proofs.lemmas.List.Elements.{Contains-append_left}
use Rattle.std.specs.List.{Contains}
use Rattle.base.proofs.AnswerLaws.{Answers-exit}
use Rattle.darwin_parser.specs.Tree.{binding_of}
use Rattle.darwin_types.specs.NameUses.{end_uses}
use Rattle.darwin_types.specs.Check.{Judges, uses_faults}
use Rattle.darwin_types.specs.Within.{tree_in, component_in}
use Rattle.darwin_types.proofs.UseFaults.{uses_faults-append}
use Rattle.darwin_types.proofs.Judged.{Judges_after}
use Rattle.darwin_types.proofs.declared.Declared.check_binding.Goals as goal

pub returns-in_err-check_end : goal.returns-in_err-check_end
returns-in_err-check_end c =
    let t = tree_in c.args.self.now in
    let k = component_in c.args.self.now in
    let left = end_uses c.args.scope.now (binding_of c.args.entry.now).left in
    let right = end_uses c.args.scope.now (binding_of c.args.entry.now).right in
    Answers-exit {Cause = Contains _} _ _ c.from_residual.ensures.1 (λ f has. subst (λ fs. Contains fs f) (sym (uses_faults-append t k left right)) (Contains-append_left (uses_faults t k left) (uses_faults t k right) f has)) c.in_err-check_end.ensures

pub returns : goal.returns
returns c =
    let t = tree_in c.args.self.now in
    let k = component_in c.args.self.now in
    let left = end_uses c.args.scope.now (binding_of c.args.entry.now).left in
    let right = end_uses c.args.scope.now (binding_of c.args.entry.now).right in
    let last = c.check_end-2 in
    subst (λ fs. Judges fs last.result) (sym (uses_faults-append t k left right)) (Judges_after (uses_faults t k left) (uses_faults t k right) last.result c.in_ok-check_end.ensures last.ensures)
