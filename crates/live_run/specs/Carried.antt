-- A script that is carried out on threads: what it needs, and what it leaves before the seat has had its last look.
use Rattle.std.specs.Prelude.{◌≡◌, ℕ, ◌<◌, ◌≤◌, List, [], length, IsTrue}
use Rattle.atomic_table.specs.Seated.{TableId}
use Rattle.change_spec.specs.Asked.{CanDoAll, CanStart, after_start}
use Rattle.change_spec.specs.Statements.{Statement}
use Rattle.change_spec.specs.declared.steps.Start.{Start}
use Rattle.change_spec.specs.declared.steps.Step.{Step}
use Rattle.live_board.specs.Ended.{CarriedOutOnThreads}
use Rattle.report_types.specs.declared.report.Report.{Report}
use Rattle.report_writing.specs.Reports.{LogsAreMade}
use Rattle.txn_gate.specs.Seats.{IsChangeSeatOf, change_in, collected_in, record_of, table_of_change}
use Rattle.txn_gate.specs.declared.change_seat.ChangeSeat.{ChangeSeat}
use Rattle.txn_gate.specs.declared.gates.Gates.{Gates}
use Rattle.txn_spec.specs.Views.{is_among, nothing_done}
use Rattle.txn_records.specs.Entries.{config_of}

-- the seat is of these gates and fresh, the observers are few, and the script can be carried out
pub record IsReady (gates : Gates) (s : ChangeSeat) (observers : ℕ) (start : Start) (steps : List Step) : Type 0 where
  pub here : IsChangeSeatOf s gates
  pub fresh : (change_in s ≡ nothing_done) × (collected_in s ≡ []) × (s.spare ≡ 0)
  pub few : observers ≤ 4
  pub can_start : CanStart start
  pub can_do : CanDoAll (after_start start) steps

-- the seat is of these gates, and took in the seats of all nodes made; by its record and their logs the statements were
-- carried out, and the report tells it
pub record CarriedOut (gates : TableId) (statements : List Statement) (report : Report) (s : ChangeSeat) : Type 0 where
  pub here : table_of_change s ≡ gates
  pub carried : CarriedOutOnThreads statements report (record_of s) (collected_in s)
  pub all_taken_in : (n : ℕ) → n < length (config_of (record_of s)).slots → IsTrue (is_among (collected_in s) n)
  pub logs : LogsAreMade report
