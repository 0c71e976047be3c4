-- The guards by which members wait are needed by lawful reports of scripts: each has one that misleads without it.
use Rattle.std.proofs.Common.{◌≡◌, ℕ, zero, suc, false, List, [], ◌∷◌, refl, arith}
use Rattle.std.specs.Prelude.{fold}
use Rattle.quiesce_core.specs.Reach.{has_no_cycle, reaches}
use Rattle.worked_report_laws.proofs.CalledLaterLaws as called_later
use Rattle.worked_report_laws.proofs.GivenUpLaws as given_up
use Rattle.worked_report_laws.proofs.WaitedLaws as waited
use Rattle.worked_report_laws.specs.CalledLater as of_called_later
use Rattle.worked_report_laws.specs.GivenUp as of_given_up
use Rattle.worked_report_laws.specs.Waited as of_waited
use Rattle.merge_laws.specs.Guarded.{go, left_of}
use Rattle.merge_laws.specs.Guards.{MisleadsOnReport, all_guards, may_go_by}

abbrev close_sticks : List ℕ
close_sticks = 0 ∷ 0 ∷ 0 ∷ 0 ∷ 0 ∷ 0 ∷ 0 ∷ 0 ∷ 0 ∷ 0 ∷ 0 ∷ 0 ∷ 0 ∷ []

stuck_close : (c : ℕ) → may_go_by (record all_guards { close_waits = false }) (fold go (left_of of_given_up.report) close_sticks) c ≡ false
stuck_close zero = refl
stuck_close (suc zero) = refl
stuck_close (suc (suc zero)) = refl
stuck_close (suc (suc (suc zero))) = refl
stuck_close (suc (suc (suc (suc n)))) = refl

pub close_misleads : MisleadsOnReport (record all_guards { close_waits = false })
unfolding reaches has_no_cycle
close_misleads = record {
  statements = of_given_up.script;
  report = of_given_up.report;
  lawful = given_up.lawful;
  sticks = close_sticks;
  can_stick = refl;
  stuck = stuck_close;
  some_left = omega arith;
}

abbrev begin_sticks : List ℕ
begin_sticks = 0 ∷ 0 ∷ 0 ∷ 0 ∷ 0 ∷ 0 ∷ 0 ∷ 0 ∷ 0 ∷ 2 ∷ 1 ∷ 1 ∷ 3 ∷ 3 ∷ 1 ∷ 1 ∷ 2 ∷ 2 ∷ 0 ∷ 0 ∷ 0 ∷ []

stuck_begin : (c : ℕ) → may_go_by (record all_guards { begin_waits = false }) (fold go (left_of of_waited.report) begin_sticks) c ≡ false
stuck_begin zero = refl
stuck_begin (suc zero) = refl
stuck_begin (suc (suc zero)) = refl
stuck_begin (suc (suc (suc zero))) = refl
stuck_begin (suc (suc (suc (suc zero)))) = refl
stuck_begin (suc (suc (suc (suc (suc n))))) = refl

pub begin_misleads : MisleadsOnReport (record all_guards { begin_waits = false })
unfolding reaches has_no_cycle
begin_misleads = record {
  statements = of_waited.script;
  report = of_waited.report;
  lawful = waited.lawful;
  sticks = begin_sticks;
  can_stick = refl;
  stuck = stuck_begin;
  some_left = omega arith;
}

abbrev call_sticks : List ℕ
call_sticks = 0 ∷ 0 ∷ 0 ∷ 0 ∷ 0 ∷ 0 ∷ 0 ∷ 0 ∷ 0 ∷ 2 ∷ 1 ∷ 1 ∷ 3 ∷ 3 ∷ 1 ∷ 1 ∷ 2 ∷ 0 ∷ 0 ∷ 0 ∷ []

stuck_call : (c : ℕ) → may_go_by (record all_guards { call_waits = false }) (fold go (left_of of_called_later.report) call_sticks) c ≡ false
stuck_call zero = refl
stuck_call (suc zero) = refl
stuck_call (suc (suc zero)) = refl
stuck_call (suc (suc (suc zero))) = refl
stuck_call (suc (suc (suc (suc zero)))) = refl
stuck_call (suc (suc (suc (suc (suc n))))) = refl

pub call_misleads : MisleadsOnReport (record all_guards { call_waits = false })
unfolding reaches has_no_cycle
call_misleads = record {
  statements = of_called_later.script;
  report = of_called_later.report;
  lawful = called_later.lawful;
  sticks = call_sticks;
  can_stick = refl;
  stuck = stuck_call;
  some_left = omega arith;
}

abbrev end_sticks : List ℕ
end_sticks = 0 ∷ 0 ∷ 0 ∷ 0 ∷ 0 ∷ 0 ∷ 0 ∷ 0 ∷ 0 ∷ 2 ∷ 1 ∷ 1 ∷ 3 ∷ 3 ∷ 1 ∷ 1 ∷ 2 ∷ 0 ∷ 0 ∷ 0 ∷ []

stuck_end : (c : ℕ) → may_go_by (record all_guards { end_waits = false }) (fold go (left_of of_given_up.report) end_sticks) c ≡ false
stuck_end zero = refl
stuck_end (suc zero) = refl
stuck_end (suc (suc zero)) = refl
stuck_end (suc (suc (suc zero))) = refl
stuck_end (suc (suc (suc (suc n)))) = refl

pub end_misleads : MisleadsOnReport (record all_guards { end_waits = false })
unfolding reaches has_no_cycle
end_misleads = record {
  statements = of_given_up.script;
  report = of_given_up.report;
  lawful = given_up.lawful;
  sticks = end_sticks;
  can_stick = refl;
  stuck = stuck_end;
  some_left = omega arith;
}
