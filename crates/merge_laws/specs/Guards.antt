-- The guards of the simulation, each of which may be left out. Without one of them two ways from one place may end
-- differently: then whether a merge is found hangs on which member is let come first.
use Rattle.std.specs.Prelude.{◌≡◌, ◌<◌, ℕ, zero, suc, Bool, true, false, not, ◌&&◌, ◌||◌, ◌==◌, List, [], ◌∷◌, is_none, fold}
use Rattle.std.specs.Option.{option_map_or}
use Rattle.quiesce_core.specs.declared.event.Event.{Event}
use Rattle.quiesce_core.specs.declared.event.Event.TheVariants.{Begin, Call, End, Close}
use Rattle.quiesce_core.specs.Doers.{is_of_change}
use Rattle.quiesce_core.specs.Rules.{denial}
use Rattle.quiesce_core.specs.Runs.{is_doer}
use Rattle.quiesce_core.specs.State.{State, exchange, gate}
use Rattle.quiesce_laws.specs.Drained.{is_drained}
use Rattle.report_types.specs.declared.report.HistoryLine.{HistoryLine}
use Rattle.report_types.specs.declared.report.HistoryLine.TheVariants as to
use Rattle.report_types.specs.declared.report.Report.{Report}
use Rattle.change_spec.specs.Lawful.{LawfulOnThreads}
use Rattle.change_spec.specs.Members.{event_of}
use Rattle.change_spec.specs.Statements.{Statement}
use Rattle.merge_laws.specs.Guarded.{Left, all_left, closes_before, go, is_beyond, is_called_at, is_met, left, left_of, log_of, told}

-- which guards there are
pub record Guards : Type 0 where
  -- a close waits until its port has what is told of it next
  pub close_waits : Bool
  -- a begin, and a call, waits where its serial is beyond that
  pub begin_waits : Bool
  pub call_waits : Bool
  -- a begin waits where services call at its port
  pub begin_is_apart : Bool
  -- an end waits while a close is left before the line that tells its root
  pub end_waits : Bool
  -- an `open` line waits until its port is closed, and where services call there
  pub open_is_closed : Bool
  pub open_is_apart : Bool

abbrev pub all_guards : Guards
all_guards =
    record {
      close_waits = true;
      begin_waits = true;
      call_waits = true;
      begin_is_apart = true;
      end_waits = true;
      open_is_closed = true;
      open_is_apart = true;
    }

-- what a guard asks for, where it is there
abbrev pub asked_by : Bool → Bool → Bool
asked_by guard test = not guard || test

-- the simulation with these guards, as `waits`, `may_tell`, `may_do` and `may_go` of Guarded are with all
abbrev pub waits_by : Guards → State → List HistoryLine → Event → Bool
waits_by g s lines (Begin p k v) = (g.begin_is_apart && is_called_at s.config p) || (g.begin_waits && is_beyond k (told p lines))
waits_by g s lines (Call p k v) = g.call_waits && is_beyond k (told p lines)
waits_by g s lines (End p k v) = g.end_waits && closes_before p k lines
waits_by g s lines _ = false

abbrev pub may_tell_by : Guards → State → List HistoryLine → HistoryLine → Bool
may_tell_by g s rest (to.Close p) = is_none (denial s (Close p)) && asked_by g.close_waits (is_met s p (told p rest))
may_tell_by g s rest (to.Drained p k) = is_drained s p && (exchange s p).serial == k
may_tell_by g s rest (to.Root p k) = asked_by g.open_is_closed (gate s.config p).closed && asked_by g.open_is_apart (not (is_called_at s.config p))
may_tell_by g s rest l = option_map_or (λ e. is_none (denial s e)) (event_of l) true

abbrev pub may_do_by : Guards → State → List HistoryLine → ℕ → Event → Bool
may_do_by g s lines n e = not (is_of_change e) && (is_doer s n e && (is_none (denial s e) && not (waits_by g s lines e)))

abbrev pub may_tell_first_by : Guards → State → List HistoryLine → Bool
may_tell_first_by g s [] = false
may_tell_first_by g s (l ∷ rest) = may_tell_by g s rest l

abbrev pub may_do_first_by : Guards → State → List HistoryLine → ℕ → List Event → Bool
may_do_first_by g s lines n [] = false
may_do_first_by g s lines n (e ∷ es) = may_do_by g s lines n e

abbrev pub may_go_by : Guards → Left → ℕ → Bool
may_go_by g x zero = may_tell_first_by g x.state x.lines
may_go_by g x (suc n) = may_do_first_by g x.state x.lines n (log_of x n)

abbrev pub can_go_by : Guards → Left → List ℕ → Bool
can_go_by g x [] = true
can_go_by g x (c ∷ cs) = may_go_by g x c && can_go_by g (go x c) cs

-- a history and logs from which, with these guards, one way leads to the end, and another doesn't but goes on no more
pub record Misleads (g : Guards) : Type 0 where
  pub history : List HistoryLine
  pub logs : List (List Event)
  pub ends : List ℕ
  pub can_end : can_go_by g (all_left history logs) ends ≡ true
  pub ended : left (fold go (all_left history logs) ends) ≡ 0
  pub sticks : List ℕ
  pub can_stick : can_go_by g (all_left history logs) sticks ≡ true
  pub stuck : (c : ℕ) → may_go_by g (fold go (all_left history logs) sticks) c ≡ false
  pub some_left : 0 < left (fold go (all_left history logs) sticks)

-- a lawful report of a script from which, with these guards, a way goes on no more before its end: so it would be
-- called unlawful
pub record MisleadsOnReport (g : Guards) : Type 0 where
  pub statements : List Statement
  pub report : Report
  pub lawful : LawfulOnThreads statements report
  pub sticks : List ℕ
  pub can_stick : can_go_by g (left_of report) sticks ≡ true
  pub stuck : (c : ℕ) → may_go_by g (fold go (left_of report) sticks) c ≡ false
  pub some_left : 0 < left (fold go (left_of report) sticks)
