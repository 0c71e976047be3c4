-- To be believed (definitions.md).
-- What comes back of a run on threads: the seat of the change, which agrees with the report that was written.
use Rattle.std.specs.Prelude.{◌≡◌, ◌↔◌, ℕ, List, [], Option, IfSome, IsTrue, is_some}
use Rattle.atomic_table.specs.Seated.{TableId}
use Rattle.change_spec.specs.Statements.{Statement}
use Rattle.report_types.specs.declared.report.Report.{Report}
use Rattle.watch_lines.specs.Observers.{Watched}
use Rattle.txn_spec.specs.Views.{nothing_done}
use Rattle.txn_gate.specs.Seats.{IsChangeSeatOf, change_in, collected_in, record_of, table_of_change}
use Rattle.txn_gate.specs.declared.change_seat.ChangeSeat.{ChangeSeat}
use Rattle.txn_gate.specs.declared.gates.Gates.{Gates}
use Rattle.live_board.specs.Ended.{AgreesWith}
use Rattle.command_words.specs.CommandLine.{Asks}
use Rattle.command_words.specs.declared.words.Command.TheVariants as commands
use Rattle.command_spec.specs.Outcomes.{IsRunStatus, Reported}
use Rattle.command_spec.specs.Runs.{Run}

-- the report of these statements is lawful on threads, the record of the seat bears it, and its logs are what the seat
-- took in, slot by slot
abbrev pub AgreesWithSeat : ChangeSeat → List Statement → Report → Type 0
AgreesWithSeat seat statements report = AgreesWith statements report (record_of seat) (collected_in seat)

-- the seat is of these gates, on which nothing was made, and took in nothing
pub record IsFresh (gates : Gates) (seat : ChangeSeat) : Type 0 where
  pub here : IsChangeSeatOf seat gates
  pub fresh : (change_in seat ≡ nothing_done) × (collected_in seat ≡ []) × (seat.spare ≡ 0)

-- The words ask for a run on threads, and there is one report of it: its text was written, and behind it what observers
-- saw; the run ended as it says; and the seat, which is of these gates, agrees with it.
pub record ComesBack (gates : TableId) (r : Run) (seat : ChangeSeat) : Type 0 where
  pub name : List ℕ
  pub workers : ℕ
  pub observers : ℕ
  pub asks : Asks r.words (commands.Live name workers observers)
  pub here : table_of_change seat ≡ gates
  pub reported : Reported (AgreesWithSeat seat) (λ report bytes. Watched report observers bytes) r.files name r.status r.taken r.taken'

-- The seat comes back exactly where a script was run on threads, and agrees with the report that was written.
pub record GivesBack (gates : TableId) (r : Run) (seat : Option ChangeSeat) : Type 0 where
  pub back :
      IsTrue (is_some seat)
      ↔ ((name : List ℕ) × (workers observers : ℕ) × Asks r.words (commands.Live name workers observers) × IsRunStatus r.status)
  pub agrees : IfSome seat (ComesBack gates r)
