-- A board's records are those of runs, and all of them tell one configuration.
use Rattle.std.proofs.Common.{◌≡◌, ◌∙◌, List, sym, ap}
use Rattle.txn_records.specs.Entries.{config_of}
use Rattle.txn_records.specs.declared.entry.Entry.{Entry}
use Rattle.txn_records.specs.Records.{IsRecord, IsRecordCut}
use Rattle.quiesce_core.specs.State.{State}
use Rattle.node_turn_laws.specs.World.{World}
use Rattle.step_board.specs.Playing.{played}
use Rattle.step_board.specs.RunFacts.{config_here, cut_here, rounds_play}
use Rattle.step_board.specs.Standing.{StandsBehindRounds, StandsFor}

module _ {B : Type 0} (S : B → World → Type 0) where
  pub is_of_run : (b : B) (r : List Entry) → StandsFor S b r → IsRecord r
  is_of_run b r h = let p = rounds_play r h.rounds in record { moments = p.moments; is_of = p.is_of }

  pub is_of_run_cut : (b : B) (r : List Entry) → StandsBehindRounds S b r → IsRecordCut r
  is_of_run_cut b r h = cut_here r (played r) h.world (rounds_play r h.rounds) h.went_on

  module _ (machine : B → State) (machine_is : (b : B) (w : World) → S b w → w.machine ≡ machine b) where
    pub config_at : (b : B) (r : List Entry) → StandsFor S b r → config_of r ≡ (machine b).config
    config_at b r h = config_here r (played r) (rounds_play r h.rounds) ∙ ap (λ (s : State). s.config) (machine_is b (played r) h.shows)

    pub one_configuration : (b : B) (r q : List Entry) → StandsFor S b r → StandsFor S b q → config_of r ≡ config_of q
    one_configuration b r q h k = config_at b r h ∙ sym (config_at b q k)
