-- To be believed (definitions.md).
-- Rest on threads: all at rest at one place, and what the report of a run on threads must be beside lawful: where it
-- ended short of what was asked, all rested at one place.
use Rattle.std.specs.Prelude.{◌≡◌, ◌≤◌, ◌<◌, ◌⊎◌, ◌++◌, ◌∷◌, ⊤, ℕ, false, List, map, None, IsTrue}
use Rattle.std.specs.List.{AllByRecursion, list_any}
use Rattle.base.specs.Each.{Each}
use Rattle.quiesce_core.specs.Doers.{is_of_change}
use Rattle.quiesce_core.specs.Rules.{is_live_port}
use Rattle.quiesce_core.specs.Runs.{state_after}
use Rattle.quiesce_core.specs.State.{is_live}
use Rattle.quiesce_core.specs.declared.event.Event.{Event}
use Rattle.report_types.specs.declared.report.HistoryLine.{HistoryLine}
use Rattle.report_types.specs.declared.report.HistoryLine.TheVariants as to
use Rattle.report_types.specs.declared.report.Report.{Report}
use Rattle.change_spec.specs.Lawful.{LawfulOnThreads, is_done, is_idle_after}
use Rattle.change_spec.specs.Members.{Member, by_node, events, is_commit, of_history}
use Rattle.change_spec.specs.Statements.{Statement}

-- what nodes do
abbrev pub AreByNodes : List Event → Type 0
AreByNodes es = AllByRecursion (λ e. is_of_change e ≡ false) es

-- all at rest at once, by these events
pub record AreAtRest (es : List Event) : Type 0 where
  pub nodes : (n : ℕ) → IsTrue (is_live (state_after es).config n) → IsTrue (is_done es n)
  pub ports : (p : ℕ) → IsTrue (is_live_port (state_after es).config p) → IsTrue (is_idle_after p es)

-- at one place since the last line, behind which nodes alone did something
pub record RestedAtOnce (before : List Member) : Type 0 where
  pub front : List Member
  pub later : List Event
  pub parts : before ≡ front ++ map by_node later
  pub by_nodes : AreByNodes later
  pub rest : AreAtRest (events front)

-- A run ended with as many transactions as were asked for, or all was at rest at one place since the line before; and a
-- finish made all rounds that were allowed, or fewer and all was so.
abbrev pub RestedIfShort : List Member → Member → Type 0
RestedIfShort before (of_history (to.Run k n)) = (k ≤ n) ⊎ RestedAtOnce before
RestedIfShort before (of_history (to.Finish n r)) = (r ≡ n) ⊎ ((r < n) × RestedAtOnce before)
RestedIfShort before _ = ⊤

-- A finish made fewer rounds than were allowed, and no change was committed behind it.
pub record FinishedEarly (history : List HistoryLine) : Type 0 where
  pub front : List HistoryLine
  pub n : ℕ
  pub rounds : ℕ
  pub later : List HistoryLine
  pub parts : history ≡ front ++ to.Finish n rounds ∷ later
  pub fewer : rounds < n
  pub uncommitted : list_any is_commit later ≡ false

-- What the report of a run on threads must be: lawful, and where a run ended with fewer transactions than were asked for,
-- or a finish made fewer rounds than were allowed, all rested at one place. Where no change was committed behind such a
-- finish, no node is named as undone.
pub record ReportsOnThreads (statements : List Statement) (report : Report) : Type 0 where
  pub lawful : LawfulOnThreads statements report
  pub at_once : Each RestedIfShort lawful.lawful.members
  pub early : FinishedEarly report.history → report.unfinished ≡ None
