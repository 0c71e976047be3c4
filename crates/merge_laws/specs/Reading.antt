-- How a reader goes through a history: statement by statement, with what is expected of each (what is closed for a
-- change, and what its commit does) computed before.
use Rattle.std.specs.Prelude.{◌≡◌, ◌≤◌, ◌<◌, ◌⊎◌, ℕ, ℤ, List, [], ◌∷◌, ◌++◌, map, length}
use Rattle.quiesce_core.specs.declared.event.Event.{Event}
use Rattle.report_types.specs.declared.report.HistoryLine.{HistoryLine}
use Rattle.report_types.specs.declared.report.HistoryLine.TheVariants as to
use Rattle.change_spec.specs.Changes.{pending_lines}
use Rattle.change_spec.specs.Follows.{AreRight, Part, lines_of}
use Rattle.change_spec.specs.Members.{lines_of_events}
use Rattle.change_spec.specs.Scene.{AreSeen, Seen, drained_line}
use Rattle.change_spec.specs.Statements.{Statement}
use Rattle.merge_laws.specs.Descents.{descents}

-- the lines of a change behind its closes, where it closes these ports and its commit does these events
pub record IsCommittedSo (within : ℕ) (closed : List ℕ) (events : List Event) (lines : List HistoryLine) : Type 0 where
  pub seen : List Seen
  pub few : descents seen ≤ within
  pub all_seen : AreSeen closed seen
  pub are : lines ≡ map drained_line seen ++ (lines_of_events events ++ to.Commit ∷ [])

pub record IsGivenUpSo (within : ℕ) (closed : List ℕ) (lines : List HistoryLine) : Type 0 where
  pub seen : List Seen
  pub left : List Seen
  pub few : descents seen ≤ within
  pub some_left : 0 < length left
  pub all_seen : AreSeen closed (seen ++ left)
  pub are : lines ≡ map drained_line seen ++ pending_lines within left closed

pub record IsChangeSo (name : List ℕ) (args : List ℤ) (within : ℕ) (closed : List ℕ) (events : List Event) (lines : List HistoryLine) : Type 0 where
  pub rest : List HistoryLine
  pub are : lines ≡ to.Change name args ∷ map to.Close closed ++ rest
  pub ends : IsCommittedSo within closed events rest ⊎ IsGivenUpSo within closed rest

-- the invariant of the reader's loop: the lines of these statements are read, and these are left
pub record HasRead (done : List Statement) (history left : List HistoryLine) : Type 0 where
  pub parts : List Part
  pub statements_are : map (λ (p : Part). p.statement) parts ≡ done
  pub right : AreRight parts
  pub are : lines_of parts ++ left ≡ history
