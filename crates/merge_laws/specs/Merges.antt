-- Merges with a history: lists of members that are one run of the machine with these lines, and in which all that the
-- lines say is so.
use Rattle.std.specs.Prelude.{◌≡◌, ℕ, true, false, List, [], ◌∷◌, ◌++◌, All, slice_index_or}
use Rattle.std.specs.List.{list_any}
use Rattle.base.specs.Each.{Each}
use Rattle.quiesce_core.specs.declared.event.Event.{Event}
use Rattle.quiesce_core.specs.Runs.{IsRun, done_by}
use Rattle.quiesce_laws.specs.Events.{is_root_of}
use Rattle.report_types.specs.declared.report.HistoryLine.{HistoryLine}
use Rattle.report_types.specs.declared.report.HistoryLine.TheVariants as to
use Rattle.change_spec.specs.Lawful.{IsDrainedAt, IsOfItsKind, StoodOpen}
use Rattle.change_spec.specs.Members.{Member, events, lines, state_at, without_roots}
use Rattle.merge_laws.specs.Guarded.{is_called_at}

pub record IsMergeWith (history : List HistoryLine) (m : List Member) : Type 0 where
  -- its events are a run of the change machine
  pub runs : IsRun (events m)
  -- its lines are those of the history, but those on what was still open
  pub lines_are : lines m ≡ without_roots history
  -- an event that is no line is one that nodes do
  pub by_nodes : All IsOfItsKind m
  -- what is said to be drained is so, with the serial that is said
  pub drained : Each IsDrainedAt m
  -- and what is said to be open stands open
  pub open_roots : (c r : List HistoryLine) (p k : ℕ) → history ≡ c ++ to.Root p k ∷ r → StoodOpen m c p k

-- each root was begun at a port at which no service calls
abbrev pub HasRootsApart : List Member → Type 0
HasRootsApart m = (p k : ℕ) → list_any (is_root_of p k) (events m) ≡ true → is_called_at (state_at m).config p ≡ false

-- each node does what its log has, by slots
abbrev pub HasLogs : List (List Event) → List Member → Type 0
HasLogs logs m = (k : ℕ) → done_by k (events m) ≡ slice_index_or logs k []
