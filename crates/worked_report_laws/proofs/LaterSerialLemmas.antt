-- More reports that are those of rounds: runs that end where a round moves nothing, and a change that is given up after rounds.
use Rattle.std.proofs.Common.{◌≡◌, true, false, [], ◌∷◌, drop, map, take, refl}
use Rattle.std.specs.Prelude.{codes, fold, pos}
use Rattle.std.specs.List.{list_any}
use Rattle.std.proofs.lemmas.Bool.{both_ways}
use Rattle.quiesce_core.specs.declared.event.Event.TheVariants.{Close}
use Rattle.quiesce_laws.specs.Starts.{start_of}
use Rattle.node_turn_laws.specs.Round.{after_rounds}
use Rattle.node_turn_laws.specs.World.{World, nowhere, with_event}
use Rattle.change_spec.specs.Members.{is_pending}
use Rattle.change_spec.specs.Planning.{planned}
use Rattle.change_spec.specs.Serial.{ChangesTo, Serial, after_changes, end_events, finish_ends, is_none_left, looks_after, run_ends, wait_ends}
use Rattle.change_spec.specs.Statements.{change, finish, run, start}
use Rattle.change_spec.proofs.PlanningLaws.{moves_lead_so, planned_so}
use Rattle.change_spec.proofs.StandingLaws.{graph_by}
use Rattle.worked_report_laws.specs.GivenUpLater as later
use Rattle.worked_report_laws.specs.RunOut as run_out
use Rattle.worked_report_laws.specs.Stuck as stuck
use Rattle.worked_report_laws.specs.Systems.{lone, three, two_of}
use Rattle.worked_report_laws.proofs.SerialLemmas.{first_at}

-- a source that leads nowhere

abbrev pub lone_started : World
lone_started = fold with_event nowhere (start_of lone)

abbrev pub lone_ran : World
lone_ran = after_rounds true lone_started 1

abbrev pub lone_closed : World
lone_closed = after_changes lone_ran (map Close (0 ∷ []))

pub stuck_is_serial : Serial stuck.script stuck.report
stuck_is_serial = record {
  parts = record { statement = start (codes "Lone") (pos 2 ∷ []) lone; lines = take 4 stuck.history; world = lone_started }
      ∷ record { statement = run 5; lines = take 1 (drop 4 stuck.history); world = lone_ran } ∷ [];
  statements_are = refl;
  played = ((refl, refl), (record { rounds = 1; number = first_at (run_ends lone_started 5) 1 refl refl; world = refl; are = refl }, tt));
  stop = drop 5 stuck.history;
  world = lone_closed;
  stops = record { waiting = lone_closed; waits = refl; rounds = 0; number = first_at (is_none_left lone_closed (0 ∷ [])) 0 refl refl; world = refl; are = refl };
  report_is = refl;
}

pub stuck_world : stuck_is_serial.world ≡ lone_closed
unfolding stuck_is_serial
stuck_world = refl

-- two sources, of which each ends a transaction in the third round and one in the sixth; the seventh moves nothing

abbrev pub two_started : World
two_started = fold with_event nowhere (start_of (two_of 2))

abbrev two_ended : World
two_ended = after_rounds true two_started 3

abbrev two_ran : World
two_ran = after_rounds true two_ended 4

abbrev two_closed : World
two_closed = after_changes two_ran (map Close (0 ∷ 1 ∷ []))

pub run_out_is_serial : Serial run_out.script run_out.report
run_out_is_serial = record {
  parts = record { statement = start (codes "Two") (pos 2 ∷ []) (two_of 2); lines = take 10 run_out.history; world = two_started }
      ∷ record { statement = run 1; lines = take 1 (drop 10 run_out.history); world = two_ended }
      ∷ record { statement = run 9; lines = take 1 (drop 11 run_out.history); world = two_ran } ∷ [];
  statements_are = refl;
  played = (
    (refl, refl),
    (
      record { rounds = 3; number = first_at (run_ends two_started 1) 3 refl refl; world = refl; are = refl },
      (record { rounds = 4; number = first_at (run_ends two_ended 9) 4 refl refl; world = refl; are = refl }, tt),
    ),
  );
  stop = drop 12 run_out.history;
  world = two_closed;
  stops = record { waiting = two_closed; waits = refl; rounds = 0; number = first_at (is_none_left two_closed (0 ∷ 1 ∷ [])) 0 refl refl; world = refl; are = refl };
  report_is = refl;
}

-- the second run ends with the sixth round

abbrev two_again : World
two_again = after_rounds true two_ended 3

abbrev two_stopping : World
two_stopping = after_changes two_again (map Close (0 ∷ 1 ∷ []))

pub twice_is_serial : Serial run_out.twice_script run_out.twice_report
twice_is_serial = record {
  parts = record { statement = start (codes "Two") (pos 2 ∷ []) (two_of 2); lines = take 10 run_out.history; world = two_started }
      ∷ record { statement = run 1; lines = take 1 (drop 10 run_out.history); world = two_ended }
      ∷ record { statement = run 1; lines = take 1 (drop 10 run_out.history); world = two_again } ∷ [];
  statements_are = refl;
  played = (
    (refl, refl),
    (
      record { rounds = 3; number = first_at (run_ends two_started 1) 3 refl refl; world = refl; are = refl },
      (record { rounds = 3; number = first_at (run_ends two_ended 1) 3 refl refl; world = refl; are = refl }, tt),
    ),
  );
  stop = drop 12 run_out.history;
  world = two_stopping;
  stops = record { waiting = two_stopping; waits = refl; rounds = 0; number = first_at (is_none_left two_stopping (0 ∷ 1 ∷ [])) 0 refl refl; world = refl; are = refl };
  report_is = refl;
}

-- a change that makes three rounds, and is given up

abbrev three_started : World
three_started = fold with_event nowhere (start_of (three 2))

abbrev three_ran : World
three_ran = after_rounds true three_started 3

abbrev three_closed : World
three_closed = after_changes three_ran (map Close (0 ∷ 1 ∷ 2 ∷ []))

abbrev three_waited : World
three_waited = after_rounds false three_closed 3

abbrev three_reopened : World
three_reopened = after_changes three_waited
    (end_events (three 2) (three 3) (planned (three 2) (three 3) []) (0 ∷ 1 ∷ 2 ∷ []) three_waited (looks_after three_closed (0 ∷ 1 ∷ 2 ∷ []) 3))

abbrev three_stopping : World
three_stopping = after_changes three_reopened (map Close (0 ∷ 1 ∷ 2 ∷ []))

abbrev three_stopped : World
three_stopped = after_rounds false three_stopping 1

gives_up_later : ChangesTo three_ran (codes "Three") (pos 3 ∷ []) (three 3) 3 [] (take 12 (drop 13 later.history)) three_reopened
gives_up_later = record {
  old = three 2;
  is_old = graph_by three_ran.machine.config (three 2) refl;
  plan = planned (three 2) (three 3) [];
  moves_lead = moves_lead_so (three 2) (three 3) [] refl;
  is_plan = planned_so (three 2) (three 3) [] refl;
  closed = 0 ∷ 1 ∷ 2 ∷ [];
  closed_are = refl;
  waiting = three_closed;
  waits = refl;
  rounds = 3;
  number = first_at (wait_ends three_closed (0 ∷ 1 ∷ 2 ∷ []) 3) 3 refl refl;
  at_end = three_waited;
  end_is = refl;
  found = looks_after three_closed (0 ∷ 1 ∷ 2 ∷ []) 3;
  found_is = refl;
  are = refl;
  world = refl;
}

pub later_is_serial : Serial later.script later.report
later_is_serial = record {
  parts = record { statement = start (codes "Three") (pos 2 ∷ []) (three 2); lines = take 12 later.history; world = three_started }
      ∷ record { statement = run 1; lines = take 1 (drop 12 later.history); world = three_ran }
      ∷ record { statement = change (codes "Three") (pos 3 ∷ []) (three 3) 3 []; lines = take 12 (drop 13 later.history); world = three_reopened }
      ∷ record { statement = finish 0; lines = take 1 (drop 25 later.history); world = three_reopened } ∷ [];
  statements_are = refl;
  played = (
    (refl, refl),
    (
      record { rounds = 3; number = first_at (run_ends three_started 1) 3 refl refl; world = refl; are = refl },
      (
        (λ h. absurd (both_ways (list_any is_pending (take 13 later.history)) refl h), λ h. gives_up_later),
        (record { rounds = 0; number = first_at (finish_ends three_reopened 0) 0 refl refl; world = refl; are = refl }, tt),
      ),
    ),
  );
  stop = drop 26 later.history;
  world = three_stopped;
  stops = record {
    waiting = three_stopping;
    waits = refl;
    rounds = 1;
    number = first_at (is_none_left three_stopping (0 ∷ 1 ∷ 2 ∷ [])) 1 refl refl;
    world = refl;
    are = refl;
  };
  report_is = refl;
}
