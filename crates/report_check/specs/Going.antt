-- What is left of a history and of logs, where so many members of each came.
use Rattle.std.specs.Prelude.{◌≡◌, ℕ, suc, Bool, true, ◌&&◌, ◌==◌, not, nat_le, List, [], ◌∷◌, drop, length, map, slice_index_or, is_none, if◌then◌else◌}
use Rattle.std.specs.Option.{option_map_or}
use Rattle.quiesce_core.specs.declared.event.Event.{Event}
use Rattle.quiesce_core.specs.Rules.{denial}
use Rattle.quiesce_core.specs.State.{State, exchange, gate}
use Rattle.quiesce_laws.specs.Drained.{is_drained}
use Rattle.report_types.specs.declared.report.HistoryLine.{HistoryLine}
use Rattle.report_types.specs.declared.report.HistoryLine.TheVariants as to
use Rattle.report_types.specs.declared.report.NodeLog.{NodeLog}
use Rattle.change_spec.specs.Members.{event_of}
use Rattle.merge_laws.specs.Guarded.{Left, go, is_called_at, is_met, may_go, told}
use Rattle.report_check.specs.Ahead.{AreBounds, IsAhead}
use Rattle.report_check.specs.declared.candidates.Chain.{Chain}
use Rattle.report_check.specs.declared.candidates.Chain.TheVariants.{History, Log}
use Rattle.report_check.specs.declared.way.Way.{Way}

-- what each node did, by slots
abbrev pub events_of : List NodeLog → List (List Event)
events_of logs = map (λ (l : NodeLog). l.events) logs

abbrev pub logs_behind : List ℕ → List NodeLog → List (List Event)
logs_behind [] logs = []
logs_behind (k ∷ ks) [] = []
logs_behind (k ∷ ks) (l ∷ ls) = drop k l.events ∷ logs_behind ks ls

-- what is left behind a way
abbrev pub left_behind : Way → List HistoryLine → List NodeLog → Left
left_behind w history logs =
    record { state = w.core.state; lines = drop w.line history; logs = logs_behind w.places.items logs }

-- there is a place in each log, and the tables are those of the history
pub record IsPlaced (w : Way) (history : List HistoryLine) (logs : List NodeLog) : Type 0 where
  pub places : length w.places.items ≡ length logs
  pub ahead : IsAhead w.ahead history w.line
  pub closes : AreBounds w.closes history

-- the history is chain 0, and the log of slot n chain n + 1
abbrev pub number_of : Chain → ℕ
number_of History = 0
number_of (Log n) = suc n

abbrev pub is_at_end : List ℕ → List NodeLog → ℕ → Bool
is_at_end places logs n = nat_le (length (slice_index_or (events_of logs) n [])) (slice_index_or places n 0)

-- the next member of a chain came where it may, and else none did
pub record IsTried (old : Left) (chain : ℕ) (came : Bool) (new : Left) : Type 0 where
  pub came_is : came ≡ may_go old chain
  pub new_is : new ≡ (if came then go old chain else old)

-- what a line waits for beside the machine's rules
abbrev pub is_ready : State → List HistoryLine → HistoryLine → Bool
is_ready s rest (to.Close p) = is_met s p (told p rest)
is_ready s rest (to.Drained p k) = is_drained s p && (exchange s p).serial == k
is_ready s rest (to.Root p k) = (gate s.config p).closed && not (is_called_at s.config p)
is_ready s rest _ = true

-- whether no rule denies the event of a line, where it is one
abbrev pub is_allowed : State → HistoryLine → Bool
is_allowed s l = option_map_or (λ e. is_none (denial s e)) (event_of l) true
