-- A start and a run, as items.
use Rattle.std.proofs.Common.{◌≡◌, ◌∙◌, ℕ, [], ◌∷◌, ◌++◌, map, refl, ap, subst}
use Rattle.change_board.specs.declared.board.Board.{Ghosts as BoardWords}
use Rattle.change_board.specs.Scans.{look_entry}
use Rattle.change_board.specs.Transcripts.{said}
use Rattle.change_engine.specs.Beginning.{start_items}
use Rattle.change_engine.specs.Calls.{HasRun, HasStarted}
use Rattle.change_engine.specs.Finishing.{all_entries}
use Rattle.change_engine.specs.Passivating.{silent_items}
use Rattle.change_engine.specs.declared.engine.Engine.{Engine}
use Rattle.change_spec.specs.declared.steps.Start.{Start}
use Rattle.change_plan_laws.specs.Committing.{made_in}
use Rattle.change_transcript_laws.specs.Pieces.{config_at}
use Rattle.change_transcript_laws.proofs.ConfigLaws.{run_config, start_config}
use Rattle.change_transcript_laws.proofs.RoomLaws.{start_makes}
use Rattle.quiesce_laws.specs.Steps.{change_all}
use Rattle.quiesce_core.specs.Live.{IsGraphOf}
use Rattle.quiesce_core.specs.State.{empty}
use Rattle.report_types.specs.declared.report.HistoryLine.TheVariants as to
use Rattle.step_runner.specs.RoundRolling.{HasBegun}

module _ {B : Type 0} (W : BoardWords B) (start : Start) (k : ℕ) where
  pub begun : (e f : Engine B) (ended : ℕ) → HasStarted W e start.name start.args start.graph → HasRun W e f k ended → f.graph ≡ e.graph → HasBegun W f start k
  begun e f ended s r same =
      let t = start_items start.name start.args s.deeds in
      let ran = silent_items (map look_entry r.looks ++ all_entries r.scans) ++ said (to.Run k ended) ∷ [] in
      record {
        begun = t;
        ran = ran;
        are_start = record { deeds = s.deeds; events_are = s.events_are; are = refl; stands = subst (λ g. IsGraphOf (config_at t) g) s.graph_is s.idle.tells.graph };
        are_run = record {
          looks = r.looks;
          at_ports = r.at_ports t s.idle;
          scans = r.scans;
          are_scans = r.are_scans t s.idle;
          twice = λ is. r.twice is t s.idle;
          go_on = r.go_on;
          ends = r.ends;
          ended = ended;
          ended_is = r.ended_is;
          are = refl;
        };
        idle = r.goes t s.idle;
        graph = same ∙ s.graph_is;
        made = ap made_in (run_config t r.looks r.scans k ended)
            ∙ ap made_in (start_config start.name start.args s.deeds ∙ ap (change_all empty.config) s.events_are) ∙ start_makes start.graph;
      }
