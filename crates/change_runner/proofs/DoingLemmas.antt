-- What a step adds, by what its calls of the engine did.
use Rattle.std.proofs.Common.{◌≡◌, ◌∙◌, ℕ, Bool, true, false, List, [], ◌∷◌, ◌++◌, map, refl, sym, ap}
use Rattle.std.specs.Prelude.{◌||◌}
use Rattle.std.proofs.lemmas.Bool.{both_ways}
use Rattle.change_plan_laws.specs.Committing.{made_in}
use Rattle.report_types.specs.declared.report.HistoryLine.TheVariants as to
use Rattle.change_board.specs.declared.board.Board.{Ghosts as BoardWords}
use Rattle.change_board.specs.Scans.{look_entry}
use Rattle.change_board.specs.Transcripts.{Item, said}
use Rattle.change_engine.specs.Calls.{HasFinished, HasRun, HasShown, HasSkipped, skip_items}
use Rattle.change_engine.specs.Engines.{IsIdle}
use Rattle.change_engine.specs.Finishing.{all_entries}
use Rattle.change_engine.specs.Passivating.{silent_items}
use Rattle.change_engine.specs.declared.engine.Engine.{Engine}
use Rattle.change_transcript_laws.proofs.ConfigLaws.{finish_config, run_config, said_config}
use Rattle.change_transcript_laws.proofs.HearingLaws.{quiet_commits_none}
use Rattle.change_transcript_laws.proofs.PendingLaws.{pending_both, quiet_none}
use Rattle.change_runner.specs.Doing.{Carried, is_given_up}
use Rattle.change_spec.specs.declared.steps.Replacement.{Replacement}
use Rattle.change_spec.specs.declared.steps.Step.TheVariants as steps
use Rattle.std.proofs.Math.Bool.{or-false}

pub kept : (t u : List Item) → is_given_up u ≡ false → is_given_up (t ++ u) ≡ is_given_up t
kept t u h = pending_both t u ∙ ap (λ b. is_given_up t || b) h ∙ or-false (is_given_up t)

module _ {B : Type 0} (W : BoardWords B) (e f : Engine B) where
  pub ran : (k ended : ℕ) → HasRun W e f k ended → f.graph ≡ e.graph → (t : List Item) (given : Bool) → IsIdle W e t → given ≡ is_given_up t → Carried W e f t (steps.Run k) given
  ran k ended x same t given idle flag =
      let es = map look_entry x.looks ++ all_entries x.scans in
      record {
        items = silent_items es ++ said (to.Run k ended) ∷ [];
        done = record { looks = x.looks; at_ports = x.at_ports t idle; scans = x.scans; are_scans = x.are_scans t idle; twice = λ is. x.twice is t idle; go_on = x.go_on; ends = x.ends; ended = ended; ended_is = x.ended_is; are = refl };
        told = quiet_commits_none es (to.Run k ended) refl;
        idle = x.goes t idle;
        flag = flag ∙ sym (kept t (silent_items es ++ said (to.Run k ended) ∷ []) (quiet_none es (to.Run k ended) refl));
        graph = λ _. same;
        made = λ _. ap made_in (run_config t x.looks x.scans k ended);
      }

  pub finished : (n rounds : ℕ) → HasFinished W e f n rounds → f.graph ≡ e.graph → (t : List Item) (given : Bool) → IsIdle W e t → given ≡ is_given_up t → Carried W e f t (steps.Finish n) given
  finished n rounds x same t given idle flag =
      let es = all_entries x.scans in
      record {
        items = silent_items es ++ said (to.Finish n rounds) ∷ [];
        done = record {
          scans = x.scans;
          few = x.few;
          are_scans = x.are_scans t idle;
          twice = λ is. x.twice is t idle;
          ends = x.ends;
          are = ap (λ r. silent_items es ++ said (to.Finish n r) ∷ []) x.rounds_are;
        };
        told = quiet_commits_none es (to.Finish n rounds) refl;
        idle = x.goes t idle;
        flag = flag ∙ sym (kept t (silent_items es ++ said (to.Finish n rounds) ∷ []) (quiet_none es (to.Finish n rounds) refl));
        graph = λ _. same;
        made = λ _. ap made_in (finish_config t x.scans n rounds);
      }

  pub shown : HasShown W e f → f.graph ≡ e.graph → (t : List Item) (given : Bool) → IsIdle W e t → given ≡ is_given_up t → Carried W e f t steps.Show given
  shown x same t given idle flag = record {
    items = said (to.Show e.graph) ∷ [];
    done = record { graph = e.graph; stands = idle.tells.graph; are = refl };
    told = refl;
    idle = x t idle;
    flag = flag ∙ sym (kept t (said (to.Show e.graph) ∷ []) refl);
    graph = λ _. same;
    made = λ _. ap made_in (said_config t (to.Show e.graph));
  }

  pub skipped : (c : Replacement) → HasSkipped W e f c.name c.args → (t : List Item) → IsIdle W e t → is_given_up t ≡ true → Carried W e f t (steps.Change c) true
  skipped c x t idle given = record {
    items = skip_items c.name c.args;
    done = (λ h. refl, λ h. absurd (both_ways (is_given_up t) h given));
    told = refl;
    idle = x t idle;
    flag = sym (kept t (skip_items c.name c.args) refl ∙ given);
    graph = λ h. absurd (both_ways true h refl);
    made = λ h. absurd (both_ways true h refl);
  }
