-- What a commit of a plan stands on, told of the configuration alone.
use Rattle.std.proofs.Common.{◌≡◌, ℕ, ◌+◌, ◌≤◌, List, [], ◌∷◌, length, refl, sym, ap, ◌∙◌, arith, Contains}
use Rattle.std.specs.Prelude.{slice_get, sum_by}
use Rattle.std.specs.List.{range_with_len}
use Rattle.std.proofs.lemmas.List.Elements.{All-contains}
use Rattle.std.proofs.lemmas.List.Sums.{sum_by-cons}
use Rattle.change_plan.specs.Differences.{IsGone}
use Rattle.change_plan.specs.Moves.{IsOfOneKind, IsShifts, MayMoveAll}
use Rattle.change_plan.specs.Plans.{HasStepsBetween}
use Rattle.change_plan.specs.declared.plan_data.Move.{Move}
use Rattle.change_plan.specs.declared.plan_data.Plan.{Plan}
use Rattle.change_plan.specs.declared.plan_data.Shift.{Shift}
use Rattle.change_plan.proofs.MoveLaws.{one_kind, one_source}
use Rattle.change_plan.proofs.SelectsLaws.{Selects-one}
use Rattle.config_graph.specs.Cycles.{graph_wiring}
use Rattle.config_graph.specs.Graph.{Graph, IsGraph, requires_at}
use Rattle.config_graph.specs.Sound.{Sound}
use Rattle.config_graph.specs.Wiring.{Reach}
use Rattle.config_graph.specs.declared.TheConstants.{MAX_NODES, MAX_PORTS}
use Rattle.config_graph.specs.declared.node.Port.{Port}
use Rattle.quiesce_core.specs.declared.event.Event.{Event}
use Rattle.quiesce_core.specs.Live.{IsGraphOf, StandsAt}
use Rattle.quiesce_core.specs.Reach.{wiring_of}
use Rattle.quiesce_core.specs.Runs.{state_after}
use Rattle.quiesce_core.specs.SameWiring.{IsPortAt}
use Rattle.quiesce_core.specs.State.{Configuration}
use Rattle.quiesce_core.proofs.RunLaws.{nodes_are_named, runs_are_consistent, runs_are_well_formed}
use Rattle.quiesce_core.proofs.SameWiringLaws.{reaches_in_both}
use Rattle.quiesce_laws.specs.Work.{ports_wanted}
use Rattle.quiesce_laws.proofs.AfterRunLaws.{IsAfterRun, after_run}
use Rattle.change_plan_laws.specs.Commit.{makes_from, work}
use Rattle.change_plan_laws.specs.Committing.{MayCommit}
use Rattle.config_graph.proofs.KindLaws.{ports_wanted_at}

-- the moves of a plan: each leads from a removed node to one of its kind, and no two from one node
pub record AreMoves (old new : Graph) (plan : Plan) : Type 0 where
  pub removed : (s : Shift) → Contains plan.moves s → IsGone old new s.old
  pub one_kind : (s : Shift) → Contains plan.moves s → IsOfOneKind old new s
  pub one_source : (s t : Shift) → Contains plan.moves s → Contains plan.moves t → s.old ≡ t.old → s.new ≡ t.new

pub record IsReady (old new : Graph) (plan : Plan) (c : Configuration) : Type 0 where
  pub old_graph : IsGraph old
  pub new_graph : IsGraph new
  pub new_sound : Sound new
  pub steps : HasStepsBetween old new plan
  pub moves : AreMoves old new plan
  pub after : IsAfterRun c
  pub graph : IsGraphOf c old
  pub reached : (n i p : ℕ) → StandsAt c old.nodes n i → Reach (wiring_of c) n p → (q : Port) × IsPortAt c old p q × Reach (graph_wiring old) i q
  pub room_nodes : length c.slots + length plan.create ≤ MAX_NODES
  pub room_ports : length c.gates + ports_wanted (work old new plan c).makes ≤ MAX_PORTS

moves_are : (old new : Graph) → IsGraph old → IsGraph new → (moves : List Move) → MayMoveAll old new moves (length moves) → (plan : Plan) → IsShifts old new moves plan.moves → AreMoves old new plan
moves_are old new old_graph new_graph moves may plan are = record {
  removed = λ s there. let r = (are.sound s there).leads.removed in record { node = r.node; here = r.here; gone = r.gone };
  one_kind = λ s there. All-contains (IsOfOneKind old new) plan.moves s (one_kind old new old_graph new_graph moves may plan.moves are) there;
  one_source = λ s t s_there t_there same. ap (λ (x : Shift). x.new) (one_source old new old_graph new_graph moves may plan.moves are s t s_there t_there same);
}

ports_are : (old new : Graph) (plan : Plan) (c : Configuration) (k : ℕ) (js : List ℕ) → ports_wanted (makes_from old new plan c k js) ≡ sum_by (requires_at new.nodes) js
ports_are old new plan c k [] = refl
ports_are old new plan c k (j ∷ js) = ap (λ n. n + ports_wanted (makes_from old new plan c (k + 1) js)) (ports_wanted_at (slice_get new.nodes j)) ∙ ap (λ n. requires_at new.nodes j + n) (ports_are old new plan c (k + 1) js)
    ∙ sym (sum_by-cons (requires_at new.nodes) j js)

pub ready : (old new : Graph) (moves : List Move) (plan : Plan) (es : List Event) → MayCommit old new moves plan es → IsReady old new plan (state_after es).config
ready old new moves plan es may =
    let c = (state_after es).config in
    let can = may.can_plan in
    let steps = may.is_plan.steps in
    let sound = (runs_are_well_formed es may.run).sound in
    let same : can.wanted.created ≡ plan.create = Selects-one (IsGone new old) (range_with_len 0 (length new.nodes)) can.wanted.created plan.create can.wanted.gone steps.create in
    let n_are : can.nodes ≡ length plan.create = can.wanted.nodes_are ∙ ap (λ (js : List ℕ). length js) same in
    let p_are : can.ports ≡ ports_wanted (makes_from old new plan c (length c.slots) plan.create) = can.wanted.ports_are ∙ ap (sum_by (requires_at new.nodes)) same ∙ sym (ports_are old new plan c (length c.slots) plan.create) in
    record {
      old_graph = may.old_graph;
      new_graph = may.new_graph;
      new_sound = may.new_sound;
      steps = steps;
      moves = moves_are old new may.old_graph may.new_graph moves can.may_move plan may.is_plan.moves;
      after = after_run es may.run;
      graph = may.graph;
      reached = λ n i p at r. (reaches_in_both (state_after es) old sound (runs_are_consistent es may.run) (nodes_are_named es may.run) may.graph n i p at).0 r;
      room_nodes = omega (arith, n_are, can.room.nodes_fit);
      room_ports = omega (arith, p_are, can.room.ports_fit);
    }
