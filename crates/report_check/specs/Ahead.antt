-- What tables say of the lines that are left of a history: which line tells of a port next, and up to which place a close
-- is left before the line that tells a root.
use Rattle.std.specs.Prelude.{◌≡◌, ◌≤◌, ◌<◌, ◌+◌, ℕ, Bool, false, ◌&&◌, ◌==◌, nat_lt, List, drop, length, slice_get, slice_index, Option, Some, None, option_and_then, if◌then◌else◌}
use Rattle.std.specs.List.{list_any}
use Rattle.std.specs.Map.{lookup}
use Rattle.std.specs.Option.{option_map_or}
use Rattle.config_graph.specs.declared.TheConstants.{MAX_PORTS}
use Rattle.report_types.specs.declared.report.HistoryLine.{HistoryLine}
use Rattle.report_types.specs.declared.report.HistoryLine.TheVariants as to
use Rattle.change_spec.specs.Members.{is_close}
use Rattle.merge_laws.specs.Guarded.{closes_before, told}
use Rattle.report_check.specs.declared.ahead.Ahead.{Ahead}
use Rattle.report_check.specs.declared.closes.Root.{Root}

-- the port of which a line tells the serial
abbrev pub told_port : HistoryLine → Option ℕ
told_port (to.Drained p k) = Some p
told_port (to.Root p k) = Some p
told_port _ = None

-- the same, of ports that a run can have
abbrev pub known_port : HistoryLine → Option ℕ
known_port l = option_and_then (λ p. if nat_lt p MAX_PORTS then Some p else None) (told_port l)

abbrev pub port_told_at : List HistoryLine → ℕ → Option ℕ
port_told_at history i = option_and_then told_port (slice_get history i)

-- From this line on the tables lead to what is told of each port next. A place that no line has says that nothing is.
pub record IsAhead (a : Ahead) (history : List HistoryLine) (line : ℕ) : Type 0 where
  pub ports : length a.next.items ≡ MAX_PORTS
  pub lines : length a.later.items ≡ length history
  pub next : (p : ℕ) → p < MAX_PORTS → told p (drop line history) ≡ slice_get history (slice_index a.next.items p)
  pub later : (i p : ℕ) → line ≤ i → p < MAX_PORTS → port_told_at history i ≡ Some p
      → told p (drop (i + 1) history) ≡ slice_get history (slice_index a.later.items i)

-- whether two roots are one
abbrev pub root_eq : Root → Root → Bool
root_eq x y = x.port == y.port && x.serial == y.serial

-- the place up to which a close is left before the line that tells this root
abbrev pub bound_of : List (Root × ℕ) → Root → Option ℕ
bound_of bounds x = lookup (root_eq x) bounds

abbrev pub Updated : List (Root × ℕ) → List (Root × ℕ) → Root → ℕ → Type 0
Updated old new root bound = (x : Root) → bound_of new x ≡ (if root_eq root x then Some bound else bound_of old x)

abbrev pub AreBounds : List (Root × ℕ) → List HistoryLine → Type 0
AreBounds bounds history = (p k place : ℕ)
    → closes_before p k (drop place history) ≡ option_map_or (nat_lt place) (bound_of bounds (record { port = p; serial = k })) false

-- the same of the lines so far, with the place behind the last close among them
pub record AreNoted (bounds : List (Root × ℕ)) (bound : ℕ) (lines : List HistoryLine) : Type 0 where
  pub closes : (place : ℕ) → list_any is_close (drop place lines) ≡ nat_lt place bound
  pub roots : AreBounds bounds lines
