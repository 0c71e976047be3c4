use Rattle.std.proofs.Common.{sym, subst, ap, ◌∙◌, ◌++◌, take, drop, length, ◌-◌, ◌+◌}
use Rattle.std.proofs.lemmas.List.{drop_all}
use Rattle.std.proofs.lemmas.List.Elements.{Contains-append_left, Contains-append_right}
use Rattle.std.specs.List.{Contains}
use Rattle.base.proofs.AnswerLaws.{Answers-exit}
use Rattle.darwin_parser.specs.Tree.{expr_of, stmt_of, stmts_of}
use Rattle.darwin_types.specs.NameUses.{stmt_uses, body_uses}
use Rattle.darwin_types.specs.Check.{Judges, value_faults, uses_faults}
use Rattle.darwin_types.specs.Within.{tree_in, component_in}
use Rattle.darwin_types.proofs.Bodies.{stmt_of_forall, stmt_of_when}
use Rattle.darwin_types.proofs.UseFaults.{body_faults-drop}
use Rattle.darwin_types.proofs.Judged.{Judges_after, none-append}
use Rattle.darwin_types.proofs.declared.Declared.+statements.Goals as goal
use Rattle.base.proofs.MapLaws.{take_pushed}

pub check_body-returns-in_err-check_stmt-clause-judged : goal.check_body-returns-in_err-check_stmt-clause-judged
check_body-returns-in_err-check_stmt-clause-judged t c =
    let tree = tree_in c.args.self.now in
    let k = component_in c.args.self.now in
    let rest = c.loop-stmt.invariant.rest ∙ body_faults-drop tree k c.args.scope.now c.args.body.now c.loop-stmt.stmt-index c.stmt-item.result c.loop-stmt-test.true c.stmt-item.is in
    Answers-exit {Cause = Contains _} _ _ c.from_residual.ensures.1 (λ f has. subst (λ fs. Contains fs f) (sym rest) (Contains-append_left _ _ f has)) (rw c.loop-stmt.invariant.scope_kept at c.in_err-check_stmt.ensures.judged)

pub check_body-loop-stmt-preserved : goal.check_body-loop-stmt-preserved
check_body-loop-stmt-preserved t c =
    let tree = tree_in c.args.self.now in
    let k = component_in c.args.self.now in
    let i = c.loop-stmt.stmt-index in
    let body = c.args.body.now in
    let left = body_faults-drop tree k c.args.scope.now body i c.stmt-item.result c.loop-stmt-test.true c.stmt-item.is in
    let none = rw c.loop-stmt.invariant.scope_kept at c.in_ok-check_stmt.ensures.judged in
    record {
      scope_kept = c.in_ok-check_stmt.ensures.scope_kept ∙ c.loop-stmt.invariant.scope_kept;
      rest = c.loop-stmt.invariant.rest ∙ left ∙ ap (λ fs. fs ++ uses_faults tree k (body_uses c.args.scope.now (stmts_of (drop (i + 1) body)))) none;
    }

pub check_body-returns-clause-judged : goal.check_body-returns-clause-judged
check_body-returns-clause-judged t c =
    let tree = tree_in c.args.self.now in
    let k = component_in c.args.self.now in
    c.loop-stmt.invariant.rest ∙ ap (λ b. uses_faults tree k (body_uses c.args.scope.now (stmts_of b))) (drop_all c.loop-stmt.stmt-index c.args.body.now c.loop-stmt-test.false)

pub check_stmt-returns-in_err-check_value-in-Forall-clause-judged : goal.check_stmt-returns-in_err-check_value-in-Forall-clause-judged
check_stmt-returns-in_err-check_value-in-Forall-clause-judged t c =
    let tree = tree_in c.args.self.now in
    let k = component_in c.args.self.now in
    let w = c.in-Forall in
    let is = ap stmt_of w.is ∙ stmt_of_forall w.var w.low w.high w.body w.at in
    Answers-exit {Cause = Contains _} _ _ c.from_residual.ensures.1 (λ f has. subst (λ v. Contains (uses_faults tree k (stmt_uses c.args.scope.now v)) f) (sym is) (Contains-append_left _ _ f has)) c.in_err-check_value-in-Forall.ensures

pub check_stmt-returns-in_err-check_value-in-Forall-2-clause-judged : goal.check_stmt-returns-in_err-check_value-in-Forall-2-clause-judged
check_stmt-returns-in_err-check_value-in-Forall-2-clause-judged t c =
    let tree = tree_in c.args.self.now in
    let k = component_in c.args.self.now in
    let w = c.in-Forall in
    let is = ap stmt_of w.is ∙ stmt_of_forall w.var w.low w.high w.body w.at in
    let low = value_faults k c.args.scope.now (expr_of w.low) in
    Answers-exit {Cause = Contains _} _ _ c.from_residual-in_err-check_value-in-Forall-2.ensures.1 (λ f has. subst (λ v. Contains (uses_faults tree k (stmt_uses c.args.scope.now v)) f) (sym is) (Contains-append_right low _ f (Contains-append_left _ _ f has))) c.in_err-check_value-in-Forall-2.ensures

pub check_stmt-returns-in_ok-check_value-in-Forall-2-clause-judged : goal.check_stmt-returns-in_ok-check_value-in-Forall-2-clause-judged
check_stmt-returns-in_ok-check_value-in-Forall-2-clause-judged t c =
    let tree = tree_in c.args.self.now in
    let k = component_in c.args.self.now in
    let w = c.in-Forall in
    let r = c.check_turns.result in
    let is = ap stmt_of w.is ∙ stmt_of_forall w.var w.low w.high w.body w.at in
    let low = value_faults k c.args.scope.now (expr_of w.low) in
    let high = value_faults k c.args.scope.now (expr_of w.high) in
    subst (λ v. Judges (uses_faults tree k (stmt_uses c.args.scope.now v)) r) (sym is) (Judges_after low _ r c.in_ok-check_value-in-Forall.ensures (Judges_after high _ r c.in_ok-check_value-in-Forall-2.ensures (rw c.as_slice.ensures.value at c.check_turns.ensures.judged)))

pub check_stmt-returns-in_err-check_value-in-When-clause-judged : goal.check_stmt-returns-in_err-check_value-in-When-clause-judged
check_stmt-returns-in_err-check_value-in-When-clause-judged t c =
    let tree = tree_in c.args.self.now in
    let k = component_in c.args.self.now in
    let w = c.in-When in
    let is = ap stmt_of w.is ∙ stmt_of_when w.test w.body w.at in
    Answers-exit {Cause = Contains _} _ _ c.from_residual-in_err-check_value-in-When.ensures.1 (λ f has. subst (λ v. Contains (uses_faults tree k (stmt_uses c.args.scope.now v)) f) (sym is) (Contains-append_left _ _ f has)) c.in_err-check_value-in-When.ensures

pub check_stmt-returns-in_ok-check_value-in-When-clause-judged : goal.check_stmt-returns-in_ok-check_value-in-When-clause-judged
check_stmt-returns-in_ok-check_value-in-When-clause-judged t c =
    let tree = tree_in c.args.self.now in
    let k = component_in c.args.self.now in
    let w = c.in-When in
    let r = c.check_body.result in
    let is = ap stmt_of w.is ∙ stmt_of_when w.test w.body w.at in
    let test = value_faults k c.args.scope.now (expr_of w.test) in
    subst (λ v. Judges (uses_faults tree k (stmt_uses c.args.scope.now v)) r) (sym is) (Judges_after test _ r c.in_ok-check_value-in-When.ensures (rw c.as_slice-in-When.ensures.value at c.check_body.ensures.judged))

pub check_stmt-returns-in-Inst-clause-judged : goal.check_stmt-returns-in-Inst-clause-judged
check_stmt-returns-in-Inst-clause-judged t c =
    let d = c.args.self.now in
    subst (λ v. Judges (uses_faults (tree_in d) (component_in d) (stmt_uses c.args.scope.now (stmt_of v))) c.check_entry.result) (sym c.in-Inst.is) c.check_entry.ensures

pub check_stmt-returns-in-Bind-clause-judged : goal.check_stmt-returns-in-Bind-clause-judged
check_stmt-returns-in-Bind-clause-judged t c =
    let d = c.args.self.now in
    subst (λ v. Judges (uses_faults (tree_in d) (component_in d) (stmt_uses c.args.scope.now (stmt_of v))) c.check_binding.result) (sym c.in-Bind.is) c.check_binding.ensures

pub check_turns-returns-in_err-enter-clause-judged : goal.check_turns-returns-in_err-enter-clause-judged
check_turns-returns-in_err-enter-clause-judged t c =
    Answers-exit _ _ c.from_residual.ensures.1 (Contains-append_left _ _) c.in_err-enter.ensures.judged

pub check_turns-returns-in_err-check_body-clause-judged : goal.check_turns-returns-in_err-check_body-clause-judged
check_turns-returns-in_err-check_body-clause-judged t c =
    Answers-exit _ _ c.from_residual-in_err-check_body.ensures.1 (Contains-append_right _ _) (rw c.in_ok-enter.ensures.added at c.in_err-check_body.ensures.judged)

pub check_turns-returns-clause-judged : goal.check_turns-returns-clause-judged
check_turns-returns-clause-judged t c =
    none-append _ _ c.in_ok-enter.ensures.judged (rw c.in_ok-enter.ensures.added at c.in_ok-check_body.ensures.judged)

pub check_turns-returns-clause-scope_kept : goal.check_turns-returns-clause-scope_kept
check_turns-returns-clause-scope_kept t c =
    c.remove_last.ensures ∙ ap (λ ns. take (length ns - 1) ns) (c.in_ok-check_body.ensures.scope_kept ∙ c.in_ok-enter.ensures.added) ∙ take_pushed c.args.scope.now c.args.variable.now
