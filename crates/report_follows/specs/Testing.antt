-- What a reader tests of lines.
use Rattle.std.specs.Prelude.{ℕ, zero, suc, Bool, true, false, ◌&&◌, ◌==◌, List, length, not, slice_get, is_some, Option, nat_lt, Some, None}
use Rattle.std.specs.List.{count_by, list_all, prefix_len, range_with_len}
use Rattle.config_graph.specs.contracts.node.NodePartialEq as node_eq
use Rattle.quiesce_core.specs.declared.event.Event.{Event}
use Rattle.quiesce_core.specs.declared.event.Event.TheVariants as event
use Rattle.report_types.specs.declared.report.HistoryLine.{HistoryLine}
use Rattle.report_types.specs.declared.report.HistoryLine.TheVariants as to

abbrev pub are_same : Option ℕ → Option ℕ → Bool
are_same None None = true
are_same (Some a) (Some b) = a == b
are_same _ _ = false

-- whether a line is that of an event
abbrev pub tells_event : HistoryLine → Event → Bool
tells_event (to.Make n made from) (event.Make k node source) =
    n == k && ((node_eq.TheImpl.eq-value).it made node && are_same from source)
tells_event (to.Link p n x) (event.Link q k y) = p == q && (n == k && x == y)
tells_event (to.Unlink p) (event.Unlink q) = p == q
tells_event (to.Remove n) (event.Remove k) = n == k
tells_event (to.Reopen p) (event.Reopen q) = p == q
tells_event _ _ = false

-- events that a start or a commit does: each has a line, and none is a close
abbrev pub is_tellable : Event → Bool
is_tellable (event.Make n made from) = true
is_tellable (event.Link p n x) = true
is_tellable (event.Unlink p) = true
is_tellable (event.Remove n) = true
is_tellable (event.Reopen p) = true
is_tellable _ = false

-- whether two are there, and fit
abbrev pub both : {A B : Type 0} → (A → B → Bool) → Option A → Option B → Bool
both fit (Some a) (Some b) = fit a b
both fit _ _ = false

-- whether lines begin with those of events, and with the closes and the reopens of ports
abbrev pub tells_at : List HistoryLine → List Event → ℕ → Bool
tells_at lines es k = both tells_event (slice_get lines k) (slice_get es k)

abbrev pub tell_events : List HistoryLine → List Event → Bool
tell_events lines es = list_all (tells_at lines es) (range_with_len 0 (length es))

abbrev pub is_close_of : HistoryLine → ℕ → Bool
is_close_of (to.Close q) p = q == p
is_close_of _ p = false

abbrev pub closes_at : List HistoryLine → List ℕ → ℕ → Bool
closes_at lines ports k = both is_close_of (slice_get lines k) (slice_get ports k)

abbrev pub tell_closes : List HistoryLine → List ℕ → Bool
tell_closes lines ports = list_all (closes_at lines ports) (range_with_len 0 (length ports))

abbrev pub is_reopen_of : HistoryLine → ℕ → Bool
is_reopen_of (to.Reopen q) p = q == p
is_reopen_of _ p = false

abbrev pub reopens_at : List HistoryLine → List ℕ → ℕ → Bool
reopens_at lines ports k = both is_reopen_of (slice_get lines k) (slice_get ports k)

abbrev pub tell_reopens : List HistoryLine → List ℕ → Bool
tell_reopens lines ports = list_all (reopens_at lines ports) (range_with_len 0 (length ports))

-- at how many places the port isn't above the one of the place before
abbrev pub drained_port : Option HistoryLine → Option ℕ
drained_port (Some (to.Drained p k)) = Some p
drained_port _ = None

abbrev pub is_drained_at : List HistoryLine → ℕ → Bool
is_drained_at lines k = is_some (drained_port (slice_get lines k))

abbrev pub drained_in : List HistoryLine → ℕ
drained_in lines = prefix_len (is_drained_at lines) (range_with_len 0 (length lines))

abbrev pub root_port : Option HistoryLine → Option ℕ
root_port (Some (to.Root p k)) = Some p
root_port _ = None

abbrev pub is_root_at : List HistoryLine → ℕ → Bool
is_root_at lines k = is_some (root_port (slice_get lines k))

abbrev pub roots_in : List HistoryLine → ℕ
roots_in lines = prefix_len (is_root_at lines) (range_with_len 0 (length lines))

abbrev pub is_fall : Option ℕ → Option ℕ → Bool
is_fall (Some p) (Some q) = not (nat_lt p q)
is_fall _ _ = false

abbrev pub falls_at : List HistoryLine → ℕ → Bool
falls_at lines zero = false
falls_at lines (suc k) = is_fall (drained_port (slice_get lines k)) (drained_port (slice_get lines (suc k)))

abbrev pub falls_in : List HistoryLine → ℕ
falls_in lines = count_by (falls_at lines) (range_with_len 0 (length lines))

abbrev pub told_port : HistoryLine → Option ℕ
told_port (to.Drained p k) = Some p
told_port (to.Root p k) = Some p
told_port _ = None
