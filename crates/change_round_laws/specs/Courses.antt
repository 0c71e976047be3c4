-- A course: a history so far, the world behind it, and the one list in which the rounds made the events and the lines.
use Rattle.std.specs.Prelude.{◌≡◌, ◌≤◌, ⊤, List, All}
use Rattle.base.specs.Each.{Each}
use Rattle.change_spec.specs.Lawful.{EndedSince, IsDrainedAt, IsOfItsKind, StoodOpenWhereSaid}
use Rattle.change_spec.specs.Members.{Member, of_history, events, lines, state_at, without_roots}
use Rattle.report_types.specs.declared.report.HistoryLine.{HistoryLine}
use Rattle.report_types.specs.declared.report.HistoryLine.TheVariants as to
use Rattle.quiesce_core.specs.Live.{IsGraphOf}
use Rattle.node_turn_laws.specs.Reached.{IsReached}
use Rattle.node_turn_laws.specs.World.{World}

-- a `run` says no more than ended since the line before it, a `finish` no more rounds than were allowed, and a `show`
-- the graph that is there
abbrev pub IsToldAt : List Member → Member → Type 0
IsToldAt before (of_history (to.Run k n)) = EndedSince before n
IsToldAt before (of_history (to.Finish n r)) = r ≤ n
IsToldAt before (of_history (to.Show g)) = IsGraphOf (state_at before).config g
IsToldAt before _ = ⊤

pub record Course (history : List HistoryLine) (w : World) (m : List Member) : Type 0 where
  -- turns and allowed events of the change led there
  pub reached : IsReached w
  -- in the order of the list
  pub events_are : events m ≡ w.events
  pub lines_are : lines m ≡ without_roots history
  pub kinds : All IsOfItsKind m
  -- what is said to be drained is so, what is said to be open stood so, and what is counted or shown is right
  pub drained : Each IsDrainedAt m
  pub stood_open : Each (StoodOpenWhereSaid m) history
  pub told : Each IsToldAt m
