-- A whole change at once is there, and is committed where no more is left behind the run than it may wait for.
use Rattle.std.proofs.Common.{◌≡◌, ◌∙◌, ℕ, ℤ, ◌≤◌, false, cond, List, [], ◌∷◌, ◌++◌, map, Option, Some, None, refl, sym, ap, subst, arith}
use Rattle.std.specs.Prelude.{All, take}
use Rattle.std.specs.List.{list_any}
use Rattle.std.proofs.lemmas.List.{append-nil}
use Rattle.std.proofs.lemmas.List.Elements.{All-cons, All-nil}
use Rattle.base.specs.Each.{Each}
use Rattle.base.proofs.PlaceLaws.{heads_are, tails_are}
use Rattle.config_graph.specs.Graph.{Graph, IsGraph}
use Rattle.config_graph.specs.Sound.{Sound}
use Rattle.change_plan.specs.Refusals.{CanPlan}
use Rattle.change_plan.specs.Room.{HasRoomFor}
use Rattle.change_plan.specs.declared.plan_data.Move.{Move}
use Rattle.change_parts.specs.Rolls.{IsRoll, given_up_in}
use Rattle.quiesce_core.specs.Rest.{rest}
use Rattle.quiesce_laws.specs.Starts.{start_of}
use Rattle.report_types.specs.declared.report.HistoryLine.TheVariants as to
use Rattle.change_spec.specs.Members.{is_pending, lines_of_events}
use Rattle.change_spec.specs.Scripts.{nothing_made}
use Rattle.change_spec.specs.Serial.{IsPlayed, Played, Plays, lines_played, world_after}
use Rattle.change_spec.specs.Statements.{Statement, change, run, start}
use Rattle.change_round_laws.specs.SoundStatements.{AreSound, made_of_graph}
use Rattle.change_round_laws.specs.Waits.{IsPatient, MayWait}
use Rattle.change_round_laws.proofs.TogetherLaws.{no_pending_both, no_pending_events}
use Rattle.result_laws.specs.Rolling.{at_once}
use Rattle.result_laws.proofs.Rolling.{HaveReports}

-- what a law of change_round_laws says
abbrev pub AreDrainedTogether : Type 0
AreDrainedTogether = (k : ℕ) (before ps : List Played) → AreSound (map (λ (p : Played). p.statement) (before ++ ps)) → Each IsPlayed (before ++ ps) → list_any is_pending (lines_played before) ≡ false
    → rest (world_after before).machine ≤ k → All (MayWait k) ps → list_any is_pending (lines_played ps) ≡ false

module _ (name : List ℕ) (args : List ℤ) (old : Graph) (k : ℕ) (new_name : List ℕ) (new_args : List ℤ) (within : ℕ) (new : Graph) (moves : List Move) where
  abbrev statements : List Statement
  statements = at_once name args old k new_name new_args within new moves

  pub once_sound : Sound old → HasRoomFor nothing_made old → IsGraph new → Sound new → CanPlan old new moves (made_of_graph old) → AreSound (at_once name args old k new_name new_args within new moves)
  once_sound old_sound room new_graph new_sound can = record {
    graph = record {
      is_graph = record {
        paths_rise = old_sound.paths_rise;
        within = old_sound.within;
        in_order = old_sound.in_order;
        few_nodes = omega (arith, room.nodes_fit);
        few_ports = omega (arith, room.ports_fit);
      };
      sound = old_sound;
    };
    room = room;
    below = record { graph = record { is_graph = new_graph; sound = new_sound }; can_plan = can; below = tt };
  }

  pub once_there : HaveReports → AreSound (at_once name args old k new_name new_args within new moves) → (given_up : Option ℕ) × IsRoll (at_once name args old k new_name new_args within new moves) given_up
  once_there reports sound =
      let s = (reports (at_once name args old k new_name new_args within new moves) sound).1 in
      (given_up_in s.parts, record { played = s.parts; statements_are = s.statements_are; are_played = s.played; given_up_is = refl })

  said : Played → Statement
  said p = p.statement

  pub once_drains : AreDrainedTogether → (given_up : Option ℕ) → AreSound (at_once name args old k new_name new_args within new moves) → (once : IsRoll (at_once name args old k new_name new_args within new moves) given_up)
      → rest (world_after (take 2 once.played)).machine ≤ within → given_up ≡ None
  once_drains together given_up sound once low = once.given_up_is ∙ by once.played once.statements_are once.are_played low
    where
      first : Statement
      first = start name args old

      by : (us : List Played) → map (λ (p : Played). p.statement) us ≡ at_once name args old k new_name new_args within new moves → Each IsPlayed us → rest (world_after (take 2 us)).machine ≤ within → given_up_in us ≡ None
      by [] e each few = absurd (cc e)
      by (x ∷ []) e each few = absurd (cc (tails_are x.statement (start name args old) [] (run k ∷ change new_name new_args new within moves ∷ []) e))
      by (x ∷ y ∷ us) e each few =
          let whole = change new_name new_args new within moves in
          let e2 = tails_are x.statement (start name args old) (y.statement ∷ map (λ (p : Played). p.statement) us) (run k ∷ whole ∷ []) e in
          let e3 = tails_are y.statement (run k) (map (λ (p : Played). p.statement) us) (whole ∷ []) e2 in
          let is_x = heads_are x.statement (start name args old) (y.statement ∷ map (λ (p : Played). p.statement) us) (run k ∷ whole ∷ []) e in
          let is_y = heads_are y.statement (run k) (map (λ (p : Played). p.statement) us) (whole ∷ []) e2 in
          let lines_x = (subst (λ s. Plays [] (world_after []) s x.lines x.world) is_x each.0).0 in
          let lines_y = (subst (λ s. Plays (lines_played (x ∷ [])) (world_after (x ∷ [])) s y.lines y.world) is_y each.1.0).are in
          let calm_x : list_any is_pending x.lines ≡ false = ap (list_any is_pending) lines_x ∙ no_pending_both (lines_of_events (start_of old)) (to.Commit ∷ []) (no_pending_events (start_of old)) refl in
          let calm : list_any is_pending (lines_played (x ∷ y ∷ [])) ≡ false = no_pending_both x.lines (y.lines ++ []) calm_x (no_pending_both y.lines [] (ap (list_any is_pending) lines_y) refl) in
          last us e3 (together within (x ∷ y ∷ []) us (subst AreSound (sym e) sound) each calm few (patient us e3))
        where
          patient : (vs : List Played) → map (λ (p : Played). p.statement) vs ≡ change new_name new_args new within moves ∷ [] → All (MayWait within) vs
          patient [] g = All-nil (MayWait within)
          patient (v ∷ vs) g =
              All-cons (MayWait within) v vs (subst (IsPatient within) (sym (heads_are v.statement (change new_name new_args new within moves) (map (λ (p : Played). p.statement) vs) [] g)) (omega arith))
              (none vs (tails_are v.statement (change new_name new_args new within moves) (map (λ (p : Played). p.statement) vs) [] g))
            where
              none : (vs : List Played) → map (λ (p : Played). p.statement) vs ≡ [] → All (MayWait within) vs
              none [] g = All-nil (MayWait within)
              none (v ∷ vs) g = absurd (cc g)

          last : (vs : List Played) → map (λ (p : Played). p.statement) vs ≡ change new_name new_args new within moves ∷ [] → list_any is_pending (lines_played vs) ≡ false → Rattle.change_parts.specs.Rolls.given_up_from 1 vs ≡ None
          last [] g calm = refl
          last (v ∷ []) g calm = ap (λ b. cond b (Some 1) None) (sym (ap (list_any is_pending) (append-nil v.lines)) ∙ calm)
          last (v ∷ u ∷ vs) g calm = absurd (cc (tails_are v.statement (change new_name new_args new within moves) (u.statement ∷ map (λ (p : Played). p.statement) vs) [] g))
