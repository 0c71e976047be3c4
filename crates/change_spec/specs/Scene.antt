-- To be believed (definitions.md).
-- What the lines of a history so far come to, and what looks at closed ports found.
use Rattle.std.specs.Prelude.{◌≡◌, ℕ, ◌==◌, List, filter_map}
use Rattle.std.specs.List.{count_by}
use Rattle.quiesce_laws.specs.Steps.{change_all}
use Rattle.quiesce_core.specs.State.{Configuration, empty}
use Rattle.report_types.specs.declared.report.HistoryLine.{HistoryLine}
use Rattle.report_types.specs.declared.report.HistoryLine.TheVariants as to
use Rattle.change_spec.specs.Members.{event_of}

-- the configuration: the lines that are events alone change it
abbrev pub config_after : List HistoryLine → Configuration
config_after history = change_all empty.config (filter_map event_of history)

-- a port, with the serial that a look found there
pub record Seen : Type 0 where
  pub port : ℕ
  pub serial : ℕ

abbrev pub drained_line : Seen → HistoryLine
drained_line d = to.Drained d.port d.serial

abbrev pub root_line : Seen → HistoryLine
root_line d = to.Root d.port d.serial

-- each of these ports was seen as often as it is listed, and no other
abbrev pub AreSeen : List ℕ → List Seen → Type 0
AreSeen ports seen = (p : ℕ) → count_by (λ (d : Seen). d.port == p) seen ≡ count_by (λ q. q == p) ports
