-- What a run on threads comes to, before it is written.
use Rattle.std.specs.Prelude.{ℕ, List, Option, Ok, Err}
use Rattle.cfg_io.specs.Shelf.{Files}
use Rattle.txn_gate.specs.declared.change_seat.ChangeSeat.{ChangeSeat}
use Rattle.command_apply.specs.declared.Answer.{Answer}
use Rattle.command_apply.specs.declared.Stop.{Stop}
use Rattle.command_spec.specs.Commands.{runs_by, runs_script}
use Rattle.command_spec.specs.Schedules.{IsShownBy, threads}
use Rattle.command_apply.specs.Coming.{Comes, Shows}
use Rattle.command_live.specs.Agreeing.{AgreesWithSeat}

-- the answer is the report of the script of a name, beside so many observers, and the seat that comes with it agrees with it
abbrev pub ComesWithSeat : Option Files → List ℕ → ℕ → List (List ℕ) → List (List ℕ) → Answer → ChangeSeat → Type 0
ComesWithSeat files name observers failures failures' answer seat =
    Comes Shows files (runs_script (AgreesWithSeat seat) (IsShownBy (threads observers)) name) failures failures' (Ok answer)

-- there is no report
abbrev pub ComesWithout : Option Files → List ℕ → ℕ → List (List ℕ) → List (List ℕ) → Stop → Type 0
ComesWithout files name observers failures failures' stop = Comes Shows files (runs_by (threads observers) name) failures failures' (Err stop)
