-- What `StoodOpen` of Lawful comes to in a run: the root stood open from the port's last close on.
use Rattle.std.specs.Prelude.{◌≡◌, ℕ, false, List, ◌∷◌, ◌++◌, IsTrue}
use Rattle.std.specs.List.{list_any}
use Rattle.quiesce_laws.specs.Events.{reopens}
use Rattle.quiesce_laws.specs.Roots.{has_root}
use Rattle.report_types.specs.declared.report.HistoryLine.{HistoryLine}
use Rattle.report_types.specs.declared.report.HistoryLine.TheVariants as to
use Rattle.change_spec.specs.Members.{Member, of_history, events, is_close, lines, state_at, without_roots}

-- Root k of port p stood open from a close of the port on, through members that don't reopen it, to a place behind all
-- closes of the change and before the line that says so.
pub record StoodSinceClose (m : List Member) (before : List HistoryLine) (p k : ℕ) : Type 0 where
  pub front : List Member
  pub since : List Member
  pub rest : List Member
  pub later : List HistoryLine
  pub parts : m ≡ front ++ of_history (to.Close p) ∷ since ++ rest
  pub place : lines (front ++ of_history (to.Close p) ∷ since) ++ later ≡ without_roots before
  pub behind_closes : list_any is_close later ≡ false
  pub not_reopened : list_any (reopens p) (events since) ≡ false
  pub stood : (x y : List Member) → since ≡ x ++ y
      → IsTrue (has_root (state_at (front ++ of_history (to.Close p) ∷ x)) p k)
