-- A merge of a history with logs, found member by member: what is left of the history and of the logs, and the state of
-- the machine behind what came. Which member may come next is told by the machine's rules, and by guards: what the history
-- tells ahead of the serial that a port will have.
use Rattle.std.specs.Prelude.{ℕ, zero, suc, ◌+◌, Bool, true, false, not, ◌&&◌, ◌||◌, ◌==◌, nat_lt, List, [], ◌∷◌, length, find, map, Option, Some, is_none, slice_index_or, slice_set}
use Rattle.std.specs.List.{list_any}
use Rattle.std.specs.Option.{option_map_or}
use Rattle.quiesce_core.specs.declared.event.Event.{Event}
use Rattle.quiesce_core.specs.declared.event.Event.TheVariants.{Begin, Call, End, Close}
use Rattle.quiesce_core.specs.Doers.{is_of_change}
use Rattle.quiesce_core.specs.Effect.{effect}
use Rattle.quiesce_core.specs.Rules.{denial}
use Rattle.quiesce_core.specs.Runs.{is_doer}
use Rattle.quiesce_core.specs.State.{Configuration, State, empty, exchange, gate, is_depended, owner}
use Rattle.quiesce_laws.specs.Drained.{is_drained}
use Rattle.quiesce_laws.specs.Roots.{has_root}
use Rattle.report_types.specs.declared.report.HistoryLine.{HistoryLine}
use Rattle.report_types.specs.declared.report.HistoryLine.TheVariants as to
use Rattle.report_types.specs.declared.report.NodeLog.{NodeLog}
use Rattle.report_types.specs.declared.report.Report.{Report}
use Rattle.change_spec.specs.Members.{event_of, is_close}

-- ---- what is told ahead

-- whether a line tells the serial of a port, and what the next such line is
abbrev pub tells : ℕ → HistoryLine → Bool
tells p (to.Drained q k) = q == p
tells p (to.Root q k) = q == p
tells p _ = false

abbrev pub told : ℕ → List HistoryLine → Option HistoryLine
told p lines = find (tells p) lines

-- whether a serial is more than what is told
abbrev pub is_beyond : ℕ → Option HistoryLine → Bool
is_beyond k (Some (to.Drained q j)) = nat_lt j k
is_beyond k (Some (to.Root q j)) = nat_lt j k
is_beyond k _ = false

abbrev pub is_root_line : ℕ → ℕ → HistoryLine → Bool
is_root_line p k (to.Root q j) = q == p && j == k
is_root_line p k _ = false

-- whether a close is left before the line that tells this root
abbrev pub closes_before : ℕ → ℕ → List HistoryLine → Bool
closes_before p k [] = false
closes_before p k (l ∷ ls) = (is_close l && list_any (is_root_line p k) ls) || closes_before p k ls

-- whether a port is one at which services call
abbrev pub is_called_at : Configuration → ℕ → Bool
is_called_at c p = is_depended c (owner c p) p

-- whether the port has what is told of it, so that it may be closed
abbrev pub is_met : State → ℕ → Option HistoryLine → Bool
is_met s p (Some (to.Drained q k)) = is_called_at s.config p || (exchange s p).serial == k
is_met s p (Some (to.Root q k)) = has_root s p k
is_met s p _ = false

-- whether an event has to wait for a line
abbrev pub waits : State → List HistoryLine → Event → Bool
waits s lines (Begin p k v) = is_called_at s.config p || is_beyond k (told p lines)
waits s lines (Call p k v) = is_beyond k (told p lines)
waits s lines (End p k v) = closes_before p k lines
waits s lines _ = false

-- ---- what may be done next

abbrev pub may_tell : State → List HistoryLine → HistoryLine → Bool
may_tell s rest (to.Close p) = is_none (denial s (Close p)) && is_met s p (told p rest)
may_tell s rest (to.Drained p k) = is_drained s p && (exchange s p).serial == k
may_tell s rest (to.Root p k) = (gate s.config p).closed && not (is_called_at s.config p)
may_tell s rest l = option_map_or (λ e. is_none (denial s e)) (event_of l) true

abbrev pub may_do : State → List HistoryLine → ℕ → Event → Bool
may_do s lines n e = not (is_of_change e) && (is_doer s n e && (is_none (denial s e) && not (waits s lines e)))

-- what is left, behind a state
pub record Left : Type 0 where
  pub state : State
  pub lines : List HistoryLine
  pub logs : List (List Event)

abbrev pub log_of : Left → ℕ → List Event
log_of x n = slice_index_or x.logs n []

-- the state behind a line
abbrev pub told_state : State → HistoryLine → State
told_state s l = option_map_or (λ e. effect s e) (event_of l) s

-- the history is chain 0, and the log of slot n chain n + 1
abbrev pub may_tell_first : State → List HistoryLine → Bool
may_tell_first s [] = false
may_tell_first s (l ∷ rest) = may_tell s rest l

abbrev pub may_do_first : State → List HistoryLine → ℕ → List Event → Bool
may_do_first s lines n [] = false
may_do_first s lines n (e ∷ es) = may_do s lines n e

abbrev pub may_go : Left → ℕ → Bool
may_go x zero = may_tell_first x.state x.lines
may_go x (suc n) = may_do_first x.state x.lines n (log_of x n)

abbrev pub tell_first : Left → List HistoryLine → Left
tell_first x [] = x
tell_first x (l ∷ rest) = record x { state = told_state x.state l; lines = rest }

abbrev pub do_first : Left → ℕ → List Event → Left
do_first x n [] = x
do_first x n (e ∷ es) = record x { state = effect x.state e; logs = slice_set x.logs n es }

abbrev pub go : Left → ℕ → Left
go x zero = tell_first x x.lines
go x (suc n) = do_first x n (log_of x n)

-- how many members are left
abbrev pub amount : List (List Event) → ℕ
amount [] = 0
amount (es ∷ logs) = length es + amount logs

abbrev pub left : Left → ℕ
left x = length x.lines + amount x.logs

-- nothing has come yet
abbrev pub all_left : List HistoryLine → List (List Event) → Left
all_left history logs = record { state = empty; lines = history; logs = logs }

abbrev pub left_of : Report → Left
left_of report = all_left report.history (map (λ (l : NodeLog). l.events) report.logs)

-- whether members may come one after the other, by their chains
abbrev pub can_go : Left → List ℕ → Bool
can_go x [] = true
can_go x (c ∷ cs) = may_go x c && can_go (go x c) cs
