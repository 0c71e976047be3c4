-- Each guard is needed: the worked histories and logs mislead without it.
use Rattle.std.proofs.Common.{◌≡◌, ℕ, zero, suc, false, List, [], ◌∷◌, refl, arith}
use Rattle.std.specs.Prelude.{fold}
use Rattle.quiesce_core.specs.Reach.{has_no_cycle, reaches}
use Rattle.quiesce_core.specs.State.{State}
use Rattle.report_types.specs.declared.report.HistoryLine.{HistoryLine}
use Rattle.report_types.specs.declared.report.HistoryLine.TheVariants as to
use Rattle.quiesce_core.specs.declared.event.Event.{Event}
use Rattle.quiesce_core.specs.declared.event.Event.TheVariants.{Begin}
use Rattle.merge_laws.specs.Guarded.{Left, all_left, go, log_of, may_do_first, may_go, may_tell, may_tell_first}
use Rattle.merge_laws.specs.Guards.{Misleads, all_guards, may_do_first_by, may_go_by, may_tell_by, may_tell_first_by}
use Rattle.merge_laws.specs.Misleading as worked

-- ---- with all guards it is the simulation

told_alike : (s : State) (rest : List HistoryLine) (l : HistoryLine) → may_tell_by all_guards s rest l ≡ may_tell s rest l
told_alike s rest (to.Close p) = refl
told_alike s rest _ = refl

pub same_with_all : (x : Left) (c : ℕ) → may_go_by all_guards x c ≡ may_go x c
same_with_all x zero = first x.lines
  where
    first : (ls : List HistoryLine) → may_tell_first_by all_guards x.state ls ≡ may_tell_first x.state ls
    first [] = refl
    first (l ∷ ls) = told_alike x.state ls l
same_with_all x (suc n) = first (log_of x n)
  where
    first : (es : List Event) → may_do_first_by all_guards x.state x.lines n es ≡ may_do_first x.state x.lines n es
    first [] = refl
    first (Begin p k v ∷ es) = refl
    first (_ ∷ es) = refl

-- ---- without one of them there are such histories and logs

stuck_close : (c : ℕ) → may_go_by (record all_guards { close_waits = false }) (fold go (all_left worked.closing worked.handed) (0 ∷ 0 ∷ 0 ∷ 0 ∷ 0 ∷ [])) c ≡ false
stuck_close zero = refl
stuck_close (suc zero) = refl
stuck_close (suc (suc zero)) = refl
stuck_close (suc (suc (suc n))) = refl

pub close_misleads : Misleads (record all_guards { close_waits = false })
unfolding reaches has_no_cycle
close_misleads = record {
  history = worked.closing;
  logs = worked.handed;
  ends = 0 ∷ 0 ∷ 0 ∷ 0 ∷ 1 ∷ 2 ∷ 2 ∷ 1 ∷ 0 ∷ 0 ∷ [];
  can_end = refl;
  ended = refl;
  sticks = 0 ∷ 0 ∷ 0 ∷ 0 ∷ 0 ∷ [];
  can_stick = refl;
  stuck = stuck_close;
  some_left = omega arith;
}

stuck_begin : (c : ℕ) → may_go_by (record all_guards { begin_waits = false }) (fold go (all_left worked.beginning worked.begun) (0 ∷ 0 ∷ 0 ∷ 0 ∷ 1 ∷ [])) c ≡ false
stuck_begin zero = refl
stuck_begin (suc zero) = refl
stuck_begin (suc (suc zero)) = refl
stuck_begin (suc (suc (suc n))) = refl

pub begin_misleads : Misleads (record all_guards { begin_waits = false })
unfolding reaches has_no_cycle
begin_misleads = record {
  history = worked.beginning;
  logs = worked.begun;
  ends = 0 ∷ 0 ∷ 0 ∷ 0 ∷ 0 ∷ 0 ∷ 0 ∷ 1 ∷ [];
  can_end = refl;
  ended = refl;
  sticks = 0 ∷ 0 ∷ 0 ∷ 0 ∷ 1 ∷ [];
  can_stick = refl;
  stuck = stuck_begin;
  some_left = omega arith;
}

stuck_call : (c : ℕ) → may_go_by (record all_guards { call_waits = false }) (fold go (all_left worked.calling worked.called) (0 ∷ 0 ∷ 0 ∷ 0 ∷ 0 ∷ 0 ∷ 0 ∷ 1 ∷ 2 ∷ 2 ∷ 0 ∷ [])) c ≡ false
stuck_call zero = refl
stuck_call (suc zero) = refl
stuck_call (suc (suc zero)) = refl
stuck_call (suc (suc (suc zero))) = refl
stuck_call (suc (suc (suc (suc n)))) = refl

pub call_misleads : Misleads (record all_guards { call_waits = false })
unfolding reaches has_no_cycle
call_misleads = record {
  history = worked.calling;
  logs = worked.called;
  ends = 0 ∷ 0 ∷ 0 ∷ 0 ∷ 0 ∷ 0 ∷ 0 ∷ 0 ∷ 0 ∷ 1 ∷ 2 ∷ 2 ∷ [];
  can_end = refl;
  ended = refl;
  sticks = 0 ∷ 0 ∷ 0 ∷ 0 ∷ 0 ∷ 0 ∷ 0 ∷ 1 ∷ 2 ∷ 2 ∷ 0 ∷ [];
  can_stick = refl;
  stuck = stuck_call;
  some_left = omega arith;
}

stuck_begin_there : (c : ℕ) → may_go_by (record all_guards { begin_is_apart = false }) (fold go (all_left worked.beginning_there worked.begun_there) (0 ∷ 0 ∷ 0 ∷ 0 ∷ 0 ∷ 0 ∷ 0 ∷ 0 ∷ [])) c ≡ false
stuck_begin_there zero = refl
stuck_begin_there (suc zero) = refl
stuck_begin_there (suc (suc zero)) = refl
stuck_begin_there (suc (suc (suc zero))) = refl
stuck_begin_there (suc (suc (suc (suc n)))) = refl

pub begin_there_misleads : Misleads (record all_guards { begin_is_apart = false })
unfolding reaches has_no_cycle
begin_there_misleads = record {
  history = worked.beginning_there;
  logs = worked.begun_there;
  ends = 0 ∷ 0 ∷ 0 ∷ 0 ∷ 0 ∷ 0 ∷ 0 ∷ 2 ∷ 3 ∷ 3 ∷ 2 ∷ 0 ∷ 0 ∷ [];
  can_end = refl;
  ended = refl;
  sticks = 0 ∷ 0 ∷ 0 ∷ 0 ∷ 0 ∷ 0 ∷ 0 ∷ 0 ∷ [];
  can_stick = refl;
  stuck = stuck_begin_there;
  some_left = omega arith;
}

stuck_end : (c : ℕ) → may_go_by (record all_guards { end_waits = false }) (fold go (all_left worked.ending worked.handed) (0 ∷ 0 ∷ 0 ∷ 0 ∷ 1 ∷ 2 ∷ 2 ∷ 1 ∷ [])) c ≡ false
stuck_end zero = refl
stuck_end (suc zero) = refl
stuck_end (suc (suc zero)) = refl
stuck_end (suc (suc (suc n))) = refl

pub end_misleads : Misleads (record all_guards { end_waits = false })
unfolding reaches has_no_cycle
end_misleads = record {
  history = worked.ending;
  logs = worked.handed;
  ends = 0 ∷ 0 ∷ 0 ∷ 0 ∷ 1 ∷ 0 ∷ 0 ∷ 2 ∷ 2 ∷ 1 ∷ [];
  can_end = refl;
  ended = refl;
  sticks = 0 ∷ 0 ∷ 0 ∷ 0 ∷ 1 ∷ 2 ∷ 2 ∷ 1 ∷ [];
  can_stick = refl;
  stuck = stuck_end;
  some_left = omega arith;
}

stuck_open : (c : ℕ) → may_go_by (record all_guards { open_is_closed = false }) (fold go (all_left worked.opening worked.begun) (0 ∷ 0 ∷ 0 ∷ 0 ∷ 1 ∷ 0 ∷ [])) c ≡ false
stuck_open zero = refl
stuck_open (suc zero) = refl
stuck_open (suc (suc zero)) = refl
stuck_open (suc (suc (suc n))) = refl

pub open_misleads : Misleads (record all_guards { open_is_closed = false })
unfolding reaches has_no_cycle
open_misleads = record {
  history = worked.opening;
  logs = worked.begun;
  ends = 0 ∷ 0 ∷ 0 ∷ 0 ∷ 0 ∷ 0 ∷ 0 ∷ 0 ∷ 1 ∷ [];
  can_end = refl;
  ended = refl;
  sticks = 0 ∷ 0 ∷ 0 ∷ 0 ∷ 1 ∷ 0 ∷ [];
  can_stick = refl;
  stuck = stuck_open;
  some_left = omega arith;
}

stuck_open_there : (c : ℕ) → may_go_by (record all_guards { open_is_apart = false }) (fold go (all_left worked.opening_there worked.called) (0 ∷ 0 ∷ 0 ∷ 0 ∷ 0 ∷ 0 ∷ 1 ∷ 2 ∷ 2 ∷ 0 ∷ [])) c ≡ false
stuck_open_there zero = refl
stuck_open_there (suc zero) = refl
stuck_open_there (suc (suc zero)) = refl
stuck_open_there (suc (suc (suc zero))) = refl
stuck_open_there (suc (suc (suc (suc n)))) = refl

pub open_there_misleads : Misleads (record all_guards { open_is_apart = false })
unfolding reaches has_no_cycle
open_there_misleads = record {
  history = worked.opening_there;
  logs = worked.called;
  ends = 0 ∷ 0 ∷ 0 ∷ 0 ∷ 0 ∷ 0 ∷ 0 ∷ 0 ∷ 1 ∷ 2 ∷ 2 ∷ [];
  can_end = refl;
  ended = refl;
  sticks = 0 ∷ 0 ∷ 0 ∷ 0 ∷ 0 ∷ 0 ∷ 1 ∷ 2 ∷ 2 ∷ 0 ∷ [];
  can_stick = refl;
  stuck = stuck_open_there;
  some_left = omega arith;
}
