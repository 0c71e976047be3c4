-- Reports that are those of rounds.
use Rattle.std.proofs.Common.{◌≡◌, ℕ, Bool, true, false, not, [], ◌∷◌, drop, map, take, refl, arith}
use Rattle.std.specs.Prelude.{codes, fold, pos}
use Rattle.std.specs.List.{list_all, list_any, range_with_len}
use Rattle.std.proofs.lemmas.Bool.{both_ways, not-true}
use Rattle.base.proofs.RangeLaws.{all_in_range}
use Rattle.quiesce_core.specs.declared.event.Event.TheVariants.{Close}
use Rattle.quiesce_laws.specs.Starts.{start_of}
use Rattle.node_turn_laws.specs.Round.{FirstAt, after_rounds}
use Rattle.node_turn_laws.specs.World.{World, nowhere, with_event}
use Rattle.change_spec.specs.Members.{is_pending}
use Rattle.change_spec.specs.Planning.{planned}
use Rattle.change_spec.specs.Serial.{ChangesTo, Serial, after_changes, end_events, finish_ends, is_none_left, looks_after, run_ends, wait_ends}
use Rattle.change_spec.specs.Statements.{change, finish, run, show, start}
use Rattle.change_spec.proofs.PlanningLaws.{moves_lead_so, planned_so}
use Rattle.change_spec.proofs.StandingLaws.{graph_by}
use Rattle.worked_report_laws.specs.Alone as alone
use Rattle.worked_report_laws.specs.GivenUp as given_up
use Rattle.worked_report_laws.specs.Ran as ran_line
use Rattle.worked_report_laws.specs.Shown as shown_sink
use Rattle.worked_report_laws.specs.Summed as summed_up
use Rattle.change_plan_laws.specs.Systems.{line}
use Rattle.worked_report_laws.specs.Systems.{lone, one, sums}
use Rattle.worked_report_laws.specs.Waited as waited

-- found by computing
pub first_at : (test : ℕ → Bool) (n : ℕ) → test n ≡ true → list_all (λ j. not (test j)) (range_with_len 0 n) ≡ true → FirstAt test n
first_at test n holds before =
    record { holds = holds; before = λ j l. not-true (test j) (all_in_range (λ i. not (test i)) 0 n j before (omega arith) (omega (arith, l))) }

abbrev started : World
started = fold with_event nowhere (start_of (line 10))

-- one transaction ended, and both ports are closed
abbrev ran : World
ran = after_rounds true started 5

abbrev closed : World
closed = after_changes ran (map Close (0 ∷ 1 ∷ []))

-- the change waits for a round, and commits

abbrev round_later : World
round_later = after_rounds false closed 1

abbrev committed : World
committed = after_changes round_later (end_events (line 10) (line 20) (planned (line 10) (line 20) []) (0 ∷ 1 ∷ []) round_later (looks_after closed (0 ∷ 1 ∷ []) 1))

abbrev finished : World
finished = after_rounds true committed 12

abbrev stopped : World
stopped = after_changes finished (map Close (1 ∷ 2 ∷ []))

waits : ChangesTo ran (codes "Line") (pos 3 ∷ pos 20 ∷ []) (line 20) 2 [] (take 14 (drop 10 waited.history)) committed
waits = record {
  old = line 10;
  is_old = graph_by ran.machine.config (line 10) refl;
  plan = planned (line 10) (line 20) [];
  moves_lead = moves_lead_so (line 10) (line 20) [] refl;
  is_plan = planned_so (line 10) (line 20) [] refl;
  closed = 0 ∷ 1 ∷ [];
  closed_are = refl;
  waiting = closed;
  waits = refl;
  rounds = 1;
  number = first_at (wait_ends closed (0 ∷ 1 ∷ []) 2) 1 refl refl;
  at_end = round_later;
  end_is = refl;
  found = looks_after closed (0 ∷ 1 ∷ []) 1;
  found_is = refl;
  are = refl;
  world = refl;
}

pub waited_is_serial : Serial waited.script waited.report
waited_is_serial = record {
  parts = record { statement = start (codes "Line") (pos 3 ∷ pos 10 ∷ []) (line 10); lines = take 9 waited.history; world = started }
      ∷ record { statement = run 1; lines = take 1 (drop 9 waited.history); world = ran }
      ∷ record { statement = change (codes "Line") (pos 3 ∷ pos 20 ∷ []) (line 20) 2 []; lines = take 14 (drop 10 waited.history); world = committed }
      ∷ record { statement = finish 100; lines = take 1 (drop 24 waited.history); world = finished } ∷ [];
  statements_are = refl;
  played = (
    (refl, refl),
    (
      record { rounds = 5; number = first_at (run_ends started 1) 5 refl refl; world = refl; are = refl },
      (
        (λ h. absurd (both_ways (list_any is_pending (take 10 waited.history)) refl h), λ h. waits),
        (record { rounds = 12; number = first_at (finish_ends committed 100) 12 refl refl; world = refl; are = refl }, tt),
      ),
    ),
  );
  stop = drop 25 waited.history;
  world = stopped;
  stops = record { waiting = stopped; waits = refl; rounds = 0; number = first_at (is_none_left stopped (1 ∷ 2 ∷ [])) 0 refl refl; world = refl; are = refl };
  report_is = refl;
}

-- the change may make no round, and is given up

abbrev abandoned : World
abandoned = after_changes closed (end_events (line 10) (line 20) (planned (line 10) (line 20) []) (0 ∷ 1 ∷ []) closed (looks_after closed (0 ∷ 1 ∷ []) 0))

abbrev at_rest : World
at_rest = after_rounds true abandoned 13

abbrev at_end : World
at_end = after_changes at_rest (map Close (0 ∷ 1 ∷ []))

gives_up : ChangesTo ran (codes "Line") (pos 3 ∷ pos 20 ∷ []) (line 20) 0 [] (take 9 (drop 10 given_up.history)) abandoned
gives_up = record {
  old = line 10;
  is_old = graph_by ran.machine.config (line 10) refl;
  plan = planned (line 10) (line 20) [];
  moves_lead = moves_lead_so (line 10) (line 20) [] refl;
  is_plan = planned_so (line 10) (line 20) [] refl;
  closed = 0 ∷ 1 ∷ [];
  closed_are = refl;
  waiting = closed;
  waits = refl;
  rounds = 0;
  number = first_at (wait_ends closed (0 ∷ 1 ∷ []) 0) 0 refl refl;
  at_end = closed;
  end_is = refl;
  found = looks_after closed (0 ∷ 1 ∷ []) 0;
  found_is = refl;
  are = refl;
  world = refl;
}

pub given_up_is_serial : Serial given_up.script given_up.report
given_up_is_serial = record {
  parts = record { statement = start (codes "Line") (pos 3 ∷ pos 10 ∷ []) (line 10); lines = take 9 given_up.history; world = started }
      ∷ record { statement = run 1; lines = take 1 (drop 9 given_up.history); world = ran }
      ∷ record { statement = change (codes "Line") (pos 3 ∷ pos 20 ∷ []) (line 20) 0 []; lines = take 9 (drop 10 given_up.history); world = abandoned }
      ∷ record { statement = finish 100; lines = take 1 (drop 19 given_up.history); world = at_rest } ∷ [];
  statements_are = refl;
  played = (
    (refl, refl),
    (
      record { rounds = 5; number = first_at (run_ends started 1) 5 refl refl; world = refl; are = refl },
      (
        (λ h. absurd (both_ways (list_any is_pending (take 10 given_up.history)) refl h), λ h. gives_up),
        (record { rounds = 13; number = first_at (finish_ends abandoned 100) 13 refl refl; world = refl; are = refl }, tt),
      ),
    ),
  );
  stop = drop 20 given_up.history;
  world = at_end;
  stops = record { waiting = at_end; waits = refl; rounds = 0; number = first_at (is_none_left at_end (0 ∷ 1 ∷ [])) 0 refl refl; world = refl; are = refl };
  report_is = refl;
}

-- without a change

abbrev sink_alone : World
sink_alone = fold with_event nowhere (start_of one)

pub shown_is_serial : Serial shown_sink.script shown_sink.report
shown_is_serial = record {
  parts = record { statement = start (codes "One") [] one; lines = take 3 shown_sink.history; world = sink_alone }
      ∷ record { statement = show; lines = take 1 (drop 3 shown_sink.history); world = sink_alone } ∷ [];
  statements_are = refl;
  played = ((refl, refl), ((record { graph = one; is_graph = graph_by sink_alone.machine.config one refl; are = refl }, refl), tt));
  stop = drop 4 shown_sink.history;
  world = sink_alone;
  stops = record { waiting = sink_alone; waits = refl; rounds = 0; number = first_at (is_none_left sink_alone []) 0 refl refl; world = refl; are = refl };
  report_is = refl;
}

abbrev line_done : World
line_done = after_rounds true started 18

abbrev line_closed : World
line_closed = after_changes line_done (map Close (0 ∷ 1 ∷ []))

pub ran_is_serial : Serial ran_line.script ran_line.report
ran_is_serial = record {
  parts = record { statement = start (codes "Line") (pos 3 ∷ pos 10 ∷ []) (line 10); lines = take 9 ran_line.history; world = started }
      ∷ record { statement = finish 100; lines = take 1 (drop 9 ran_line.history); world = line_done } ∷ [];
  statements_are = refl;
  played = ((refl, refl), (record { rounds = 18; number = first_at (finish_ends started 100) 18 refl refl; world = refl; are = refl }, tt));
  stop = drop 10 ran_line.history;
  world = line_closed;
  stops = record { waiting = line_closed; waits = refl; rounds = 0; number = first_at (is_none_left line_closed (0 ∷ 1 ∷ [])) 0 refl refl; world = refl; are = refl };
  report_is = refl;
}

abbrev pub lone_world : World
lone_world = fold with_event nowhere (start_of lone)

abbrev pub lone_round : World
lone_round = after_rounds true lone_world 1

abbrev pub lone_closed : World
lone_closed = after_changes lone_round (map Close (0 ∷ []))

pub alone_is_serial : Serial alone.script alone.report
alone_is_serial = record {
  parts = record { statement = start (codes "Lone") (pos 2 ∷ []) lone; lines = alone.start_lines; world = lone_world }
      ∷ record { statement = finish 5; lines = take 1 (drop 4 alone.report.history); world = lone_round } ∷ [];
  statements_are = refl;
  played = ((refl, refl), (record { rounds = 1; number = first_at (finish_ends lone_world 5) 1 refl refl; world = refl; are = refl }, tt));
  stop = alone.stop_lines;
  world = lone_closed;
  stops = record { waiting = lone_closed; waits = refl; rounds = 0; number = first_at (is_none_left lone_closed (0 ∷ [])) 0 refl refl; world = refl; are = refl };
  report_is = refl;
}

pub alone_world : alone_is_serial.world ≡ lone_closed
unfolding alone_is_serial
alone_world = refl

abbrev sums_world : World
sums_world = fold with_event nowhere (start_of sums)

abbrev summed_world : World
summed_world = after_rounds true sums_world 5

abbrev sums_closed : World
sums_closed = after_changes summed_world (map Close (0 ∷ []))

pub summed_is_serial : Serial summed_up.script summed_up.report
summed_is_serial = record {
  parts = record { statement = start (codes "Sums") (pos 1 ∷ []) sums; lines = take 6 summed_up.history; world = sums_world }
      ∷ record { statement = run 1; lines = take 1 (drop 6 summed_up.history); world = summed_world } ∷ [];
  statements_are = refl;
  played = ((refl, refl), (record { rounds = 5; number = first_at (run_ends sums_world 1) 5 refl refl; world = refl; are = refl }, tt));
  stop = drop 7 summed_up.history;
  world = sums_closed;
  stops = record { waiting = sums_closed; waits = refl; rounds = 0; number = first_at (is_none_left sums_closed (0 ∷ [])) 0 refl refl; world = refl; are = refl };
  report_is = refl;
}
