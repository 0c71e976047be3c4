use Rattle.std.proofs.Common.{◌≡◌, ℕ, ◌↔◌, List, None, Option, Some, Contains, get_or, subst, take}
use Rattle.std.proofs.lemmas.Result.{err_from_is_err_and}
use Rattle.change_plan.specs.declared.plan_data.Shift.{Shift}
use Rattle.change_plan.proofs.MoveLemmas.{first_fault, may_move_all, may_move_more, move_at, marked_all, marked_next, shifts_are}
use Rattle.change_plan.proofs.moving.list_shifts.Goals as goal

pub returns-in_err-mark_move-clause-refused : goal.returns-in_err-mark_move-clause-refused
returns-in_err-mark_move-clause-refused c =
    let old = c.args.old.now in
    let new = c.args.new.now in
    let moves = c.args.moves.now in
    let k = c.loop-moved.moved-index in
    let m = c.moved-item.result in
    let h = err_from_is_err_and c.from_residual-in_err-mark_move.result c.from_residual-in_err-mark_move.ensures.1 in
    rw (h.1, h.2) (first_fault old new moves k m _ (move_at old new moves k m c.loop-moved-test.true c.moved-item.is) c.loop-moved.invariant.may_move (c.in_err-mark_move.ensures.refused (take k moves) c.loop-moved.invariant.marked))

pub loop-moved-preserved : goal.loop-moved-preserved
loop-moved-preserved c =
    let old = c.args.old.now in
    let new = c.args.new.now in
    let moves = c.args.moves.now in
    let k = c.loop-moved.moved-index in
    let m = c.moved-item.result in
    let ends = c.mark_move.new.ends in
    let marked = c.loop-moved.invariant.marked in
    let may_move = c.in_ok-mark_move.ensures.may_move (take k moves) marked in
    record {
      marked = marked_next old new moves k m c.loop-moved-test.true c.moved-item.is ends.sources.items ends.targets.items (c.in_ok-mark_move.ensures.marked (take k moves) marked);
      may_move = may_move_more old new moves k m (move_at old new moves k m c.loop-moved-test.true c.moved-item.is) c.loop-moved.invariant.may_move may_move;
    }

pub returns-clause-shifts : goal.returns-clause-shifts
returns-clause-shifts c =
    let old = c.args.old.now in
    let new = c.args.new.now in
    let moves = c.args.moves.now in
    let ends = c.loop-moved.ends in
    let shifts = c.in_ok-list_by_target.field-0.items in
    let marked = marked_all old new moves c.loop-moved.moved-index ends.sources.items ends.targets.items c.loop-moved-test.false c.loop-moved.invariant.marked in
    let listed = λ (targets : List (Option ℕ)). (s : Shift) → Contains shifts s ↔ (get_or targets s.new None ≡ Some s.old) in
    shifts_are old new moves ends.sources.items ends.targets.items shifts marked (subst listed c.deref.ensures.value c.in_ok-list_by_target.ensures.shifts) c.in_ok-list_by_target.ensures.rising

pub returns-clause-may_move : goal.returns-clause-may_move
returns-clause-may_move c =
    may_move_all c.args.old.now c.args.new.now c.args.moves.now c.loop-moved.moved-index c.loop-moved-test.false c.loop-moved.invariant.may_move
