-- What a reader finds at the front of lines: what is left behind the front that is right, or that none is.
use Rattle.std.specs.Prelude.{◌≡◌, ℕ, ℤ, Bool, true, false, ◌&&◌, ◌==◌, nat_le, nat_lt, List, [], ◌∷◌, ◌++◌, drop, filter_map, length, map, take, slice_get, bytes_eq, Option, Some, None, option_and_then, if◌then◌else◌}
use Rattle.std.specs.List.{count_by, list_all}
use Rattle.std.specs.Option.{option_map_or}
use Rattle.std.specs.Ordering.{int_eq}
use Rattle.std.specs.Cmp.Lexicographic.{pointwise}
use Rattle.quiesce_core.specs.declared.event.Event.{Event}
use Rattle.report_types.specs.declared.report.HistoryLine.{HistoryLine}
use Rattle.report_types.specs.declared.report.HistoryLine.TheVariants as to
use Rattle.change_spec.specs.Scene.{AreSeen, Seen, drained_line}
use Rattle.report_follows.specs.Testing.{drained_in, falls_in, roots_in, tell_closes, tell_events, tell_reopens, told_port}

-- a front that is so, and what is left behind it
pub record LeadsTo (Is : List HistoryLine → Type 0) (lines rest : List HistoryLine) : Type 0 where
  pub front : List HistoryLine
  pub is : Is front
  pub parts : lines ≡ front ++ rest

abbrev pub HasNoFront : (List HistoryLine → Type 0) → List HistoryLine → Type 0
HasNoFront Is lines = (front rest : List HistoryLine) → Is front → lines ≡ front ++ rest → ⊥

-- lines behind a first one
abbrev pub is_commit_line : HistoryLine → Bool
is_commit_line to.Commit = true
is_commit_line _ = false

abbrev pub is_abandon_line : HistoryLine → Bool
is_abandon_line to.Abandon = true
is_abandon_line _ = false

abbrev pub is_pending_for : ℕ → HistoryLine → Bool
is_pending_for within (to.Pending r) = r == within
is_pending_for within _ = false

abbrev pub begin_so : (HistoryLine → Bool) → List HistoryLine → Bool
begin_so test lines = option_map_or test (slice_get lines 0) false

abbrev pub behind_if : Bool → ℕ → List HistoryLine → Option (List HistoryLine)
behind_if test count lines = if test then Some (drop count lines) else None

abbrev pub behind_first : (HistoryLine → Bool) → List HistoryLine → Option (List HistoryLine)
behind_first test lines = behind_if (begin_so test lines) 1 lines

-- behind the events of a commit, and its line
abbrev pub behind_commit : List Event → List HistoryLine → Option (List HistoryLine)
behind_commit es lines = option_and_then (behind_first is_commit_line) (behind_if (tell_events lines es) (length es) lines)

-- behind the reopens of ports, and the line of a change that is given up
abbrev pub behind_abandon : List ℕ → List HistoryLine → Option (List HistoryLine)
behind_abandon closed lines =
    option_and_then (behind_first is_abandon_line) (behind_if (tell_reopens lines closed) (length closed) lines)

-- whether each port is told of as often as it is closed, and no other
abbrev pub are_told_once : List ℕ → List ℕ → Bool
are_told_once closed seen = list_all (λ p. count_by (λ q. q == p) seen == count_by (λ q. q == p) closed) (closed ++ seen)

-- behind the lines of a change that is committed, from those behind its closes on
abbrev pub behind_committed : ℕ → List ℕ → List Event → List HistoryLine → Option (List HistoryLine)
behind_committed within closed es lines =
    if nat_le (falls_in (take (drained_in lines) lines)) within
    && are_told_once closed (filter_map told_port (take (drained_in lines) lines) ++ filter_map told_port [])
    then behind_commit es (drop (drained_in lines) lines) else None

-- and of one that is given up: behind its `pending` line, where these were drained
abbrev pub behind_roots : ℕ → List ℕ → List HistoryLine → List HistoryLine → Option (List HistoryLine)
behind_roots within closed drained lines =
    if nat_lt 0 (roots_in lines) && (nat_le (falls_in drained) within
    && are_told_once closed (filter_map told_port drained ++ filter_map told_port (take (roots_in lines) lines)))
    then behind_abandon closed (drop (roots_in lines) lines) else None

abbrev pub behind_given_up : ℕ → List ℕ → List HistoryLine → Option (List HistoryLine)
behind_given_up within closed lines =
    option_and_then (behind_roots within closed (take (drained_in lines) lines))
    (behind_first (is_pending_for within) (drop (drained_in lines) lines))

-- behind the line of a change, and its closes
abbrev pub is_change_line : List ℕ → List ℤ → HistoryLine → Bool
is_change_line name args (to.Change n a) = bytes_eq n name && pointwise int_eq a args
is_change_line name args _ = false

abbrev pub behind_closes : List ℕ → List HistoryLine → Option (List HistoryLine)
behind_closes closed lines = behind_if (tell_closes lines closed) (length closed) lines

abbrev pub behind_opening : List ℕ → List ℤ → List ℕ → List HistoryLine → Option (List HistoryLine)
behind_opening name args closed lines = option_and_then (behind_closes closed) (behind_first (is_change_line name args) lines)

-- behind the one line of a run, a finish or a show, and the two of a change that isn't tried
abbrev pub is_run_line : ℕ → HistoryLine → Bool
is_run_line k (to.Run asked ended) = asked == k
is_run_line k _ = false

abbrev pub is_finish_line : ℕ → HistoryLine → Bool
is_finish_line n (to.Finish most rounds) = most == n
is_finish_line n _ = false

abbrev pub is_show_line : HistoryLine → Bool
is_show_line (to.Show g) = true
is_show_line _ = false

abbrev pub is_skipped_line : HistoryLine → Bool
is_skipped_line to.Skipped = true
is_skipped_line _ = false

abbrev pub behind_skipped : List ℕ → List ℤ → List HistoryLine → Option (List HistoryLine)
behind_skipped name args lines =
    option_and_then (behind_first is_skipped_line) (behind_first (is_change_line name args) lines)

-- behind those of a start
abbrev pub is_start_line : List ℕ → List ℤ → HistoryLine → Bool
is_start_line name args (to.Start n a) = bytes_eq n name && pointwise int_eq a args
is_start_line name args _ = false

abbrev pub behind_start : List ℕ → List ℤ → List Event → List HistoryLine → Option (List HistoryLine)
behind_start name args es lines = option_and_then (behind_commit es) (behind_first (is_start_line name args) lines)

-- the lines of a stop that closes these ports, and finds each of them drained
pub record IsStopOf (ports : List ℕ) (lines : List HistoryLine) : Type 0 where
  pub seen : List Seen
  pub are : lines ≡ to.Stop ∷ map to.Close ports ++ map drained_line seen
  pub all_seen : AreSeen ports seen

abbrev pub is_stop_line : HistoryLine → Bool
is_stop_line to.Stop = true
is_stop_line _ = false

abbrev pub are_all_told : List ℕ → List HistoryLine → Bool
are_all_told ports lines =
    drained_in lines == length lines && are_told_once ports (filter_map told_port lines ++ filter_map told_port [])

abbrev pub is_stop_of : List ℕ → List HistoryLine → Bool
is_stop_of ports lines =
    option_map_or (are_all_told ports) (option_and_then (behind_closes ports) (behind_first is_stop_line lines)) false
