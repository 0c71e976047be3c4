-- The rounds of a small change in two parts, and of the whole at once, evaluated.
use Rattle.std.proofs.Common.{◌≡◌, ◌<◌, ℕ, suc, ◌+◌, ℤ, Bool, true, false, List, [], ◌∷◌, ◌++◌, length, map, Option, Some, None, refl, arith}
use Rattle.std.specs.Prelude.{◌^◌, codes, fold, nat_lt, pos, sum_by}
use Rattle.std.specs.List.{list_any, range_with_len}
use Rattle.std.proofs.lemmas.Bool.{both_ways, false_from_ne_true, ltb-true}
use Rattle.std.proofs.lemmas.Option.{none-some}
use Rattle.base.proofs.RangeLaws.{range_has}
use Rattle.config_graph.specs.Graph.{Graph, IsGraph, ports, requires_at}
use Rattle.config_graph.specs.declared.TheConstants.{MAX_NODES, MAX_PORTS}
use Rattle.config_graph.specs.declared.node.Made.{Made}
use Rattle.change_plan.specs.Refusals.{CanPlan}
use Rattle.change_plan.specs.Room.{HasRoomFor}
use Rattle.change_plan_laws.specs.Commit.{ports_to_close}
use Rattle.quiesce_core.specs.Reach.{has_no_cycle, reaches}
use Rattle.quiesce_core.specs.Runs.{can_run, state_after}
use Rattle.quiesce_core.specs.State.{empty}
use Rattle.quiesce_core.specs.declared.event.Event.{Event}
use Rattle.quiesce_core.specs.declared.event.Event.TheVariants.{Close}
use Rattle.quiesce_core.proofs.GraphExistsLaws.{graphs_are_sound}
use Rattle.quiesce_core.proofs.RunLaws.{nodes_are_named, run_if, runs_are_well_formed}
use Rattle.quiesce_laws.specs.Starts.{start_of}
use Rattle.node_turn_laws.specs.Round.{FirstAt, after_rounds}
use Rattle.node_turn_laws.specs.World.{World, nowhere, with_event}
use Rattle.report_types.specs.declared.report.HistoryLine.{HistoryLine}
use Rattle.report_types.specs.declared.report.HistoryLine.TheVariants as to
use Rattle.change_spec.specs.Changes.{opening_lines}
use Rattle.change_spec.specs.Follows.{skip_lines, start_lines}
use Rattle.change_spec.specs.Planning.{can_be_planned, planned}
use Rattle.change_spec.specs.Scripts.{more_made, nothing_made}
use Rattle.change_spec.specs.Serial.{ChangesTo, Played, after_changes, end_events, end_lines, looks_after, run_ends, wait_ends, world_after}
use Rattle.change_spec.specs.Standing.{is_graph_of}
use Rattle.change_spec.specs.Statements.{Statement, change, run, start}
use Rattle.change_spec.proofs.PlanningLaws.{moves_lead_so, planned_so}
use Rattle.change_spec.proofs.StandingLaws.{graph_by}
use Rattle.change_round_laws.specs.SoundStatements.{AreSound, IsSoundGraph, made_of_graph}
use Rattle.change_parts.specs.Rolls.{IsRoll}
use Rattle.result_laws.specs.Describing.{LinksAre}
use Rattle.result_laws.specs.Flows.{AreApart, one, same_side}
use Rattle.result_laws.specs.UnderWay.{of_nodes, spent, stock, under_way}
use Rattle.result_laws.specs.WorkedRolls.{as_a_whole, forked, in_parts}
use Rattle.result_laws.proofs.Testing.{links_pass}
use Rattle.result_laws.proofs.WorkedScripts.{both}

-- the first round of which a test holds, by evaluation
found_first : (test : ℕ → Bool) (n : ℕ) → test n ≡ true → list_any test (range_with_len 0 n) ≡ false → FirstAt test n
found_first test n holds none_ = record { holds = holds; before = λ j low. false_from_ne_true (test j) (λ h. both_ways (list_any test (range_with_len 0 n)) none_ (range_has test 0 n j (omega arith) (omega (arith, low)) h)) }

-- ---- a change of a world, after so many rounds

abbrev closed_by : World → Graph → Graph → List ℕ
closed_by w old new = ports_to_close old (planned old new []) w.machine.config

abbrev waiting_for : World → Graph → Graph → World
waiting_for w old new = after_changes w (map Close (closed_by w old new))

abbrev waited_for : World → Graph → Graph → ℕ → World
waited_for w old new rounds = after_rounds false (waiting_for w old new) rounds

abbrev changed_after : World → Graph → Graph → ℕ → World
changed_after w old new rounds =
    after_changes (waited_for w old new rounds)
    (end_events old new (planned old new []) (closed_by w old new) (waited_for w old new rounds) (looks_after (waiting_for w old new) (closed_by w old new) rounds))

abbrev change_lines : World → List ℕ → List ℤ → Graph → Graph → ℕ → ℕ → List HistoryLine
change_lines w name args old new within rounds =
    opening_lines name args old (planned old new []) w.machine.config
    ++ end_lines old new (planned old new []) within (closed_by w old new) (waited_for w old new rounds) (looks_after (waiting_for w old new) (closed_by w old new) rounds)

changes_so : (w : World) (name : List ℕ) (args : List ℤ) (old new : Graph) (within rounds : ℕ) → can_be_planned old new [] ≡ true → is_graph_of w.machine.config old ≡ true
    → wait_ends (waiting_for w old new) (closed_by w old new) within rounds ≡ true → list_any (wait_ends (waiting_for w old new) (closed_by w old new) within) (range_with_len 0 rounds) ≡ false
    → ChangesTo w name args new within [] (change_lines w name args old new within rounds) (changed_after w old new rounds)
changes_so w name args old new within rounds can stands ends before = record {
  old = old;
  is_old = graph_by w.machine.config old stands;
  plan = planned old new [];
  moves_lead = moves_lead_so old new [] can;
  is_plan = planned_so old new [] can;
  closed = closed_by w old new;
  closed_are = refl;
  waiting = waiting_for w old new;
  waits = refl;
  rounds = rounds;
  number = found_first (wait_ends (waiting_for w old new) (closed_by w old new) within) rounds ends before;
  at_end = waited_for w old new rounds;
  end_is = refl;
  found = looks_after (waiting_for w old new) (closed_by w old new) rounds;
  found_is = refl;
  are = refl;
  world = refl;
}

-- ---- the start and the run

abbrev fork_started : World
fork_started = fold with_event nowhere (start_of (forked 1 1))

abbrev ran : World
ran = after_rounds true fork_started 3

abbrev new_args : List ℤ
new_args = pos 2 ∷ pos 2 ∷ []

abbrev first_played : List Played
first_played =
    record { statement = start (codes "Forked") (pos 1 ∷ pos 1 ∷ []) (forked 1 1); lines = start_lines (codes "Forked") (pos 1 ∷ pos 1 ∷ []) (forked 1 1); world = fork_started }
    ∷ record { statement = run 1; lines = to.Run 1 1 ∷ []; world = ran } ∷ []

-- ---- at once: the change waits for three rounds, or for too few

abbrev whole_played : ℕ → ℕ → List Played
whole_played within rounds =
    first_played ++ record { statement = change (codes "Forked") new_args (forked 2 2) within []; lines = change_lines ran (codes "Forked") new_args (forked 1 1) (forked 2 2) within rounds; world = changed_after ran (forked 1 1) (forked 2 2) rounds } ∷ []

pub whole_is_committed : IsRoll (as_a_whole 3) None
whole_is_committed = record {
  played = whole_played 3 3;
  statements_are = refl;
  are_played = (
    (refl, refl),
    (
      record { rounds = 3; number = found_first (run_ends fork_started 1) 3 refl refl; world = refl; are = refl },
      ((λ h. absurd (both_ways false refl h), λ h. changes_so ran (codes "Forked") new_args (forked 1 1) (forked 2 2) 3 3 refl refl refl refl), tt),
    ),
  );
  given_up_is = refl;
}

whole_is_given_up : IsRoll (as_a_whole 2) (Some 1)
whole_is_given_up = record {
  played = whole_played 2 2;
  statements_are = refl;
  are_played = (
    (refl, refl),
    (
      record { rounds = 3; number = found_first (run_ends fork_started 1) 3 refl refl; world = refl; are = refl },
      ((λ h. absurd (both_ways false refl h), λ h. changes_so ran (codes "Forked") new_args (forked 1 1) (forked 2 2) 2 2 refl refl refl refl), tt),
    ),
  );
  given_up_is = refl;
}

-- there is one roll
pub whole_is_not_committed : ((statements : List Statement) (a b : Option ℕ) → IsRoll statements a → IsRoll statements b → a ≡ b) → IsRoll (as_a_whole 2) None → ⊥
whole_is_not_committed one_roll roll = none-some 1 (one_roll (as_a_whole 2) None (Some 1) roll whole_is_given_up)

-- ---- in parts: the map, which waits for as many, and the buffer, which waits for none

abbrev half : ℕ → World
half rounds = changed_after ran (forked 1 1) (forked 2 1) rounds

abbrev half_played : ℕ → ℕ → List Played
half_played within rounds =
    first_played ++ record { statement = change (codes "Forked") new_args (forked 2 1) within []; lines = change_lines ran (codes "Forked") new_args (forked 1 1) (forked 2 1) within rounds; world = half rounds } ∷ []

pub parts_are_committed : IsRoll (in_parts 3) None
parts_are_committed = record {
  played = half_played 3 3
      ++ record { statement = change (codes "Forked") new_args (forked 2 2) 3 []; lines = change_lines (half 3) (codes "Forked") new_args (forked 2 1) (forked 2 2) 3 0; world = changed_after (half 3) (forked 2 1) (forked 2 2) 0 } ∷ [];
  statements_are = refl;
  are_played = (
    (refl, refl),
    (
      record { rounds = 3; number = found_first (run_ends fork_started 1) 3 refl refl; world = refl; are = refl },
      (
        (λ h. absurd (both_ways false refl h), λ h. changes_so ran (codes "Forked") new_args (forked 1 1) (forked 2 1) 3 3 refl refl refl refl),
        ((λ h. absurd (both_ways false refl h), λ h. changes_so (half 3) (codes "Forked") new_args (forked 2 1) (forked 2 2) 3 0 refl refl refl refl), tt),
      ),
    ),
  );
  given_up_is = refl;
}

pub first_part_is_given_up : IsRoll (in_parts 2) (Some 1)
first_part_is_given_up = record {
  played = half_played 2 2 ++ record { statement = change (codes "Forked") new_args (forked 2 2) 2 []; lines = skip_lines (codes "Forked") new_args; world = half 2 } ∷ [];
  statements_are = refl;
  are_played = (
    (refl, refl),
    (
      record { rounds = 3; number = found_first (run_ends fork_started 1) 3 refl refl; world = refl; are = refl },
      (
        (λ h. absurd (both_ways false refl h), λ h. changes_so ran (codes "Forked") new_args (forked 1 1) (forked 2 1) 2 2 refl refl refl refl),
        ((λ h. record { are = refl; world = refl }, λ h. absurd (both_ways true h refl)), tt),
      ),
    ),
  );
  given_up_is = refl;
}

-- ---- what buffers and sinks hold then, what sources have sent, and what is under way

abbrev Books : List Event → ℕ → ℕ → ℕ → Type 0
Books es held sent still = (of_nodes (stock one) es ≡ held) × (of_nodes (spent one) es ≡ sent) × (under_way one es ≡ still)

pub committed_books : Books (world_after parts_are_committed.played).events 2 2 0
unfolding parts_are_committed
committed_books = (refl, refl, refl)

pub given_up_books : Books (world_after first_part_is_given_up.played).events 2 1 1
unfolding first_part_is_given_up
given_up_books = (refl, refl, refl)

-- ---- the premises

sound_by : (g : Graph) → can_run empty (start_of g) ≡ true → is_graph_of (state_after (start_of g)).config g ≡ true → length g.nodes < 2 ^ 32 → length (ports g.nodes) < 2 ^ 32 → IsSoundGraph g
sound_by g goes stands few_nodes few_ports =
    let run = run_if (start_of g) goes in
    let c = (state_after (start_of g)).config in
    let sound = graphs_are_sound c g (runs_are_well_formed (start_of g) run).sound (nodes_are_named (start_of g) run) (graph_by c g stands) in
    record { is_graph = record { paths_rise = sound.paths_rise; within = sound.within; in_order = sound.in_order; few_nodes = few_nodes; few_ports = few_ports }; sound = sound }

first_sound : IsSoundGraph (forked 1 1)
unfolding has_no_cycle reaches
first_sound = sound_by (forked 1 1) refl refl (omega arith) (omega arith)

half_sound : IsSoundGraph (forked 2 1)
unfolding has_no_cycle reaches
half_sound = sound_by (forked 2 1) refl refl (omega arith) (omega arith)

last_sound : IsSoundGraph (forked 2 2)
unfolding has_no_cycle reaches
last_sound = sound_by (forked 2 2) refl refl (omega arith) (omega arith)

pub last_is_graph : IsGraph (forked 2 2)
last_is_graph = last_sound.is_graph

can_plan_by : (old new : Graph) (made : Made) → can_be_planned old new [] ≡ true → nat_lt (made.nodes + length (planned old new []).create) (suc MAX_NODES) ≡ true → nat_lt (made.ports + sum_by (requires_at new.nodes) (planned old new []).create) (suc MAX_PORTS) ≡ true
    → CanPlan old new [] made
can_plan_by old new made can nodes_fit ports_fit = record {
  may_move = moves_lead_so old new [] can;
  nodes = length (planned old new []).create;
  ports = sum_by (requires_at new.nodes) (planned old new []).create;
  wanted = record { created = (planned old new []).create; gone = (planned_so old new [] can).steps.create; nodes_are = refl; ports_are = refl };
  room = record {
    nodes_fit = let low = ltb-true (made.nodes + length (planned old new []).create) (suc MAX_NODES) nodes_fit in omega (arith, low);
    ports_fit = let low = ltb-true (made.ports + sum_by (requires_at new.nodes) (planned old new []).create) (suc MAX_PORTS) ports_fit in omega (arith, low);
  };
}

has_room : HasRoomFor nothing_made (forked 1 1)
has_room = record { nodes_fit = omega arith; ports_fit = omega arith }

pub whole_is_sound : (within : ℕ) → AreSound (as_a_whole within)
whole_is_sound within = record {
  graph = first_sound;
  room = has_room;
  below = record { graph = last_sound; can_plan = can_plan_by (forked 1 1) (forked 2 2) (made_of_graph (forked 1 1)) refl refl refl; below = tt };
}

pub parts_are_sound : (within : ℕ) → AreSound (in_parts within)
unfolding can_plan_by
parts_are_sound within =
    let first = can_plan_by (forked 1 1) (forked 2 1) (made_of_graph (forked 1 1)) refl refl refl in
    record {
      graph = first_sound;
      room = has_room;
      below = record {
        graph = half_sound;
        can_plan = first;
        below = record { graph = last_sound; can_plan = can_plan_by (forked 2 1) (forked 2 2) (more_made (made_of_graph (forked 1 1)) first.nodes first.ports) refl refl refl; below = tt };
      };
    }

links_apart : (k room : ℕ) → LinksAre same_side (forked k room)
links_apart k room = links_pass same_side (forked k room) refl

pub parts_are_apart : (within : ℕ) → AreApart (in_parts within)
parts_are_apart within = both (LinksAre same_side) (in_parts within) _ _ _ _ refl (links_apart 1 1) tt (links_apart 2 1) (links_apart 2 2)
