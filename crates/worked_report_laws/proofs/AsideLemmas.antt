-- The report in which a source that isn't frozen begins nothing while a change waits is that of the rounds.
use Rattle.std.proofs.Common.{true, false, [], ◌∷◌, drop, map, take, refl}
use Rattle.std.specs.Prelude.{codes, fold, pos}
use Rattle.std.specs.List.{list_any}
use Rattle.std.proofs.lemmas.Bool.{both_ways}
use Rattle.quiesce_core.specs.declared.event.Event.TheVariants.{Close}
use Rattle.quiesce_laws.specs.Starts.{start_of}
use Rattle.node_turn_laws.specs.Round.{after_rounds}
use Rattle.node_turn_laws.specs.World.{World, nowhere, with_event}
use Rattle.change_spec.specs.Members.{is_pending}
use Rattle.change_spec.specs.Planning.{planned}
use Rattle.change_spec.specs.Serial.{ChangesTo, Serial, after_changes, end_events, is_none_left, looks_after, run_ends, wait_ends}
use Rattle.change_spec.specs.Statements.{change, run, start}
use Rattle.change_spec.proofs.PlanningLaws.{moves_lead_so, planned_so}
use Rattle.change_spec.proofs.StandingLaws.{graph_by}
use Rattle.worked_report_laws.specs.Aside.{history, lanes, report, script}
use Rattle.worked_report_laws.proofs.SerialLemmas.{first_at}

abbrev started : World
started = fold with_event nowhere (start_of (lanes 10))

abbrev ran : World
ran = after_rounds true started 3

abbrev closed : World
closed = after_changes ran (map Close (1 ∷ 3 ∷ []))

abbrev waited : World
waited = after_rounds false closed 6

abbrev committed : World
committed = after_changes waited (end_events (lanes 10) (lanes 20) (planned (lanes 10) (lanes 20) []) (1 ∷ 3 ∷ []) waited (looks_after closed (1 ∷ 3 ∷ []) 6))

abbrev stopped : World
stopped = after_changes committed (map Close (0 ∷ 2 ∷ 3 ∷ 4 ∷ []))

changes : ChangesTo ran (codes "Lanes") (pos 20 ∷ []) (lanes 20) 6 [] (take 14 (drop 16 history)) committed
changes = record {
  old = lanes 10;
  is_old = graph_by ran.machine.config (lanes 10) refl;
  plan = planned (lanes 10) (lanes 20) [];
  moves_lead = moves_lead_so (lanes 10) (lanes 20) [] refl;
  is_plan = planned_so (lanes 10) (lanes 20) [] refl;
  closed = 1 ∷ 3 ∷ [];
  closed_are = refl;
  waiting = closed;
  waits = refl;
  rounds = 6;
  number = first_at (wait_ends closed (1 ∷ 3 ∷ []) 6) 6 refl refl;
  at_end = waited;
  end_is = refl;
  found = looks_after closed (1 ∷ 3 ∷ []) 6;
  found_is = refl;
  are = refl;
  world = refl;
}

pub aside_is_serial : Serial script report
aside_is_serial = record {
  parts = record { statement = start (codes "Lanes") (pos 10 ∷ []) (lanes 10); lines = take 15 history; world = started }
      ∷ record { statement = run 1; lines = take 1 (drop 15 history); world = ran }
      ∷ record { statement = change (codes "Lanes") (pos 20 ∷ []) (lanes 20) 6 []; lines = take 14 (drop 16 history); world = committed } ∷ [];
  statements_are = refl;
  played = (
    (refl, refl),
    (
      record { rounds = 3; number = first_at (run_ends started 1) 3 refl refl; world = refl; are = refl },
      ((λ h. absurd (both_ways (list_any is_pending (take 16 history)) refl h), λ h. changes), tt),
    ),
  );
  stop = drop 30 history;
  world = stopped;
  stops = record { waiting = stopped; waits = refl; rounds = 0; number = first_at (is_none_left stopped (0 ∷ 2 ∷ 3 ∷ 4 ∷ [])) 0 refl refl; world = refl; are = refl };
  report_is = refl;
}
