-- A change in parts, behind a start and a run, is a roll.
use Rattle.std.proofs.Common.{◌≡◌, ◌∙◌, ℕ, ℤ, List, [], ◌∷◌, length, map, Option, Some, refl, ap, sym, subst, arith, slice_get}
use Rattle.std.specs.List.{sum_by}
use Rattle.std.specs.Prelude.{All}
use Rattle.base.proofs.ContainsLaws.{at_some_place, All-from}
use Rattle.config_graph.specs.Graph.{Graph, IsGraph, requires_at}
use Rattle.config_graph.specs.Sound.{Sound}
use Rattle.config_graph.specs.declared.node.Made.{Made}
use Rattle.change_plan.specs.Differences.{IsGone}
use Rattle.change_plan.specs.Plans.{IsPlanOf}
use Rattle.change_plan.specs.Refusals.{CanPlan}
use Rattle.change_plan.specs.Room.{HasRoomFor}
use Rattle.change_plan.specs.declared.plan_data.Move.{Move}
use Rattle.change_plan.proofs.SelectsLaws.{Selects-one}
use Rattle.change_spec.specs.Scripts.{more_made, nothing_made}
use Rattle.change_spec.specs.Serial.{Serial}
use Rattle.change_spec.specs.Statements.{Statement, change}
use Rattle.change_parts.specs.Carrying.{CanCarryOutAll, made_with}
use Rattle.change_parts.specs.Parts.{AreParts}
use Rattle.change_parts.specs.Stages.{HasLinksOf}
use Rattle.change_parts.specs.declared.part.Part.{Part}
use Rattle.change_round_laws.specs.SoundStatements.{AreSound, GoOnSoundly, made_of_graph}
use Rattle.report_types.specs.declared.report.Report.{Report}
use Rattle.std.specs.List.{range_with_len}
use Rattle.change_parts.specs.Rolls.{IsRoll, given_up_in, roll_statements}
use Rattle.change_parts.proofs.StageLemmas.{stage_graph}

-- what was found to fit is what a plan creates
as_planned : (old : Graph) (made : Made) (p : Part) (can : CanPlan old p.next p.moves made) → IsPlanOf old p.next p.moves p.plan → made_with made p ≡ more_made made can.nodes can.ports
as_planned old made p can is_plan =
    let one = Selects-one (IsGone p.next old) (range_with_len 0 (length p.next.nodes)) p.plan.create can.wanted.created is_plan.steps.create can.wanted.gone in
    ap (λ places. more_made made (length places) (sum_by (requires_at p.next.nodes) places)) one
    ∙ (λ i. more_made made (sym can.wanted.nodes_are i) (sym can.wanted.ports_are i))

-- parts that may be carried out one after the other are sound statements
go_on : (name : List ℕ) (args : List ℤ) (within : ℕ) (g : Graph) (made : Made) (ps : List Part) → CanCarryOutAll g made ps
    → GoOnSoundly (map (λ (p : Part). change name args p.next within p.moves) ps) g made
go_on name args within g made [] can = tt
go_on name args within g made (p ∷ ps) can = record {
  graph = record { is_graph = can.0.is_graph; sound = can.0.sound };
  can_plan = can.0.can_plan;
  below = subst (GoOnSoundly (map (λ (q : Part). change name args q.next within q.moves) ps) p.next) (as_planned g made p can.0.can_plan can.0.is_plan)
      (go_on name args within p.next (made_with made p) ps can.1);
}

-- what laws of other crates say
abbrev pub HaveReports : Type 0
HaveReports = (statements : List Statement) → AreSound statements → (report : Report) × Serial statements report

abbrev pub LoseNoLink : Type 0
LoseNoLink = (old new : Graph) (moves : List Move) (ps : List Part) → IsGraph old → IsGraph new → AreParts old new moves ps
    → (k : ℕ) (p : Part) → slice_get ps k ≡ Some p → HasLinksOf old new moves p.next

abbrev pub AreSoundStages : Type 0
AreSoundStages = (old new : Graph) (moves : List Move) (ps : List Part) → IsGraph old → IsGraph new → AreParts old new moves ps → Sound old → Sound new
    → (k : ℕ) (p : Part) → slice_get ps k ≡ Some p → Sound p.next

abbrev pub MayBeCarriedOut : Type 0
MayBeCarriedOut = (old new : Graph) (moves : List Move) (made : Made) (ps : List Part) → IsGraph old → IsGraph new → Sound old → Sound new → CanPlan old new moves made
    → AreParts old new moves ps → All (λ (p : Part). IsGraph p.next) ps → CanCarryOutAll old made ps

module _ (reports : HaveReports) (links : LoseNoLink) (sounds : AreSoundStages) (carried : MayBeCarriedOut) (name : List ℕ) (args : List ℤ) (old : Graph) (k : ℕ) (new_name : List ℕ) (new_args : List ℤ) (within : ℕ) (new : Graph) (moves : List Move)
    (ps : List Part) (old_sound : Sound old) (room : HasRoomFor nothing_made old) (new_graph : IsGraph new) (new_sound : Sound new) (can : CanPlan old new moves (made_of_graph old)) (parts : AreParts old new moves ps) where
  old_graph : IsGraph old
  old_graph = record {
    paths_rise = old_sound.paths_rise;
    within = old_sound.within;
    in_order = old_sound.in_order;
    few_nodes = omega (arith, room.nodes_fit);
    few_ports = omega (arith, room.ports_fit);
  }

  stages : All (λ (p : Part). IsGraph p.next) ps
  stages = All-from ps (λ (p : Part). IsGraph p.next) (λ p held.
      let w = at_some_place ps p held in
      let has = links old new moves ps old_graph new_graph parts w.0 p w.1 in
      stage_graph old new new_graph moves (made_of_graph old) can (omega arith) (omega arith) has.applied p.next has.stage_is
      (sounds old new moves ps old_graph new_graph parts old_sound new_sound w.0 p w.1))

  statements : List Statement
  statements = roll_statements name args old k new_name new_args within ps

  pub sound_statements : AreSound (roll_statements name args old k new_name new_args within ps)
  unfolding statements
  sound_statements = record {
    graph = record { is_graph = old_graph; sound = old_sound };
    room = room;
    below = go_on new_name new_args within old (made_of_graph old) ps (carried old new moves (made_of_graph old) ps old_graph new_graph old_sound new_sound can parts stages);
  }

  pub some_roll : (given_up : Option ℕ) × IsRoll (roll_statements name args old k new_name new_args within ps) given_up
  unfolding statements
  some_roll =
      let s = (reports statements sound_statements).1 in
      (given_up_in s.parts, record { played = s.parts; statements_are = s.statements_are; are_played = s.played; given_up_is = refl })
