-- A report on threads that no rounds have: the finish in rounds makes six, and comes to rest.
use Rattle.std.proofs.Common.{◌≡◌, true, List, [], ◌∷◌, ◌++◌, drop, map, take, refl, ap, arith}
use Rattle.std.specs.Prelude.{codes, fold, pos, slice_get}
use Rattle.quiesce_core.specs.declared.event.Event.TheVariants.{Close}
use Rattle.quiesce_laws.specs.Starts.{start_of}
use Rattle.node_turn_laws.specs.Round.{after_rounds}
use Rattle.node_turn_laws.specs.World.{World, nowhere, with_event}
use Rattle.report_types.specs.declared.report.HistoryLine.{HistoryLine}
use Rattle.report_types.specs.declared.report.HistoryLine.TheVariants as to
use Rattle.report_types.specs.declared.report.Report.{Report}
use Rattle.change_spec.specs.Serial.{Serial, after_changes, finish_ends, is_none_left, report_of}
use Rattle.change_spec.specs.Statements.{finish, start}
use Rattle.change_spec.proofs.SerialLaws.{one_serial}
use Rattle.worked_report_laws.specs.Filled as filled
use Rattle.worked_report_laws.specs.Systems.{small}
use Rattle.worked_report_laws.proofs.SerialLemmas.{first_at}
use Rattle.worked_report_laws.proofs.WrongLineLemmas.{rounds_in}

abbrev small_started : World
small_started = fold with_event nowhere (start_of small)

abbrev small_rested : World
small_rested = after_rounds true small_started 6

abbrev small_closed : World
small_closed = after_changes small_rested (map Close (0 ∷ 1 ∷ []))

abbrev in_rounds : List HistoryLine
in_rounds =
    take 9 filled.history ++ to.Finish 10 6 ∷ to.Stop ∷ to.Close 0 ∷ to.Close 1 ∷ to.Drained 0 1 ∷ to.Drained 1 1 ∷ []

small_is_serial : Serial filled.script (report_of filled.script in_rounds small_closed)
small_is_serial = record {
  parts = record { statement = start (codes "Small") (pos 1 ∷ []) small; lines = take 9 filled.history; world = small_started }
      ∷ record { statement = finish 10; lines = to.Finish 10 6 ∷ []; world = small_rested } ∷ [];
  statements_are = refl;
  played = ((refl, refl), (record { rounds = 6; number = first_at (finish_ends small_started 10) 6 refl refl; world = refl; are = refl }, tt));
  stop = drop 10 in_rounds;
  world = small_closed;
  stops = record { waiting = small_closed; waits = refl; rounds = 0; number = first_at (is_none_left small_closed (0 ∷ 1 ∷ [])) 0 refl refl; world = refl; are = refl };
  report_is = refl;
}

pub not_in_rounds : Serial filled.script filled.report → ⊥
not_in_rounds serial =
    let made : 0 ≡ 6 = ap (λ (r : Report). rounds_in (slice_get r.history 9)) (one_serial filled.script filled.report (report_of filled.script in_rounds small_closed) serial small_is_serial) in
    omega (arith, made)
