-- The lines are passed one after the other.
use Rattle.std.proofs.Common.{◌≡◌, ◌∙◌, ◌++◌, ◌∷◌, [], append_assoc, ap, arith, subst, sym}
use Rattle.std.specs.Prelude.{is_some}
use Rattle.std.proofs.lemmas.Result.{err_from_is_err_and}
use Rattle.std.proofs.lemmas.List.{nil_from_length}
use Rattle.command_program.specs.Fitting.{MayAllStand}
use Rattle.command_program.proofs.Passing.{IsPassed, all_passed, begun_at_end, none_passed, passed_on, stopped_at}
use Rattle.command_program.proofs.taking.take_lines.Goals as goal

pub loop-line-init : goal.loop-line-init
loop-line-init g c =
    let e = c.into_iter-line-iterator.ensures.into_iter_gives.0 in
    let way = c.args.way.now in (
      tt,
      tt,
      none_passed (g.H.Shelf.files c.args.shelf.now) way c.into_iter-line-iterator.result.rest.items (g.H.Shelf.failed c.args.shelf.now)
          (subst (MayAllStand (is_some way.used) (is_some way.start)) (sym e) c.requires),
      e,
    )

pub take_line-requires : goal.take_line-requires
take_line-requires g c =
    let l = c.loop-line in
    let p = subst (λ rs. IsPassed (g.H.Shelf.files c.args.shelf.now) (g.H.Shelf.files l.shelf) c.args.way.now l.way l.yielded rs (g.H.Shelf.failed c.args.shelf.now) (g.H.Shelf.failed l.shelf))
    c.in-Some.ensures.steps.0 l.invariant.2 in
    p.fit.0

pub loop-line-preserved : goal.loop-line-preserved
loop-line-preserved g c =
    let l = c.loop-line in
    let line = c.in-Some.line in
    let rest = c.next.new.self.rest.items in
    let same = c.in-Some.ensures.steps.0 in
    let p = subst (λ rs. IsPassed (g.H.Shelf.files c.args.shelf.now) (g.H.Shelf.files l.shelf) c.args.way.now l.way l.yielded rs (g.H.Shelf.failed c.args.shelf.now) (g.H.Shelf.failed l.shelf)) same
    l.invariant.2 in
    let took = c.take_line.ensures in (
      tt,
      tt,
      passed_on _ _ _ l.way c.take_line.new.way l.yielded rest line _ _ _ p _ c.take_line.result _ c.in_ok-take_line.was took.kept took.took c.in_ok-take_line.ensures.marks,
      append_assoc l.yielded (line ∷ []) rest ∙ ap (λ es. l.yielded ++ es) (sym same) ∙ l.invariant.3,
    )

pub returns-in_err-take_line-clause-took : goal.returns-in_err-take_line-clause-took
returns-in_err-take_line-clause-took g c = λ p at.
    let q = err_from_is_err_and c.from_residual.result c.from_residual.ensures.1 in
    let l = c.loop-line in
    let line = c.in-Some.line in
    let rest = c.next.new.self.rest.items in
    let same = c.in-Some.ensures.steps.0 in
    let before = subst (λ rs. IsPassed (g.H.Shelf.files c.args.shelf.now) (g.H.Shelf.files l.shelf) c.args.way.now l.way l.yielded rs (g.H.Shelf.failed c.args.shelf.now) (g.H.Shelf.failed l.shelf))
    same l.invariant.2 in
    rw (q.1, q.2)
    (stopped_at _ _ _ l.way c.take_line.new.way l.yielded rest line _ _ _ before c.args.lines.items c.take_line.result c.in_err-take_line.field-0.0 c.in_err-take_line.was
    (ap (λ es. l.yielded ++ es) (sym same) ∙ l.invariant.3) c.take_line.ensures.took p at)

pub returns-clause-took : goal.returns-clause-took
returns-clause-took g c = λ p at.
    let l = c.loop-line in
    let rest = l.line-iterator.rest in
    let none_ : rest.items ≡ [] = nil_from_length rest.items (omega (arith, rest.ok.0, c.in-None.ensures.steps.0)) in
    all_passed _ _ _ _ _ l.yielded rest.items c.args.lines.items _ _ none_ l.invariant.3 l.invariant.2 p at

pub returns-clause-begun : goal.returns-clause-begun
returns-clause-begun g c =
    let l = c.loop-line in
    let rest = l.line-iterator.rest in
    let none_ : rest.items ≡ [] = nil_from_length rest.items (omega (arith, rest.ok.0, c.in-None.ensures.steps.0)) in
    begun_at_end _ _ _ _ l.yielded rest.items _ _ none_ l.invariant.2
