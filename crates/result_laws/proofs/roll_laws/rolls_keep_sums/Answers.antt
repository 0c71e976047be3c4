use Rattle.change_round_laws.specs.SoundStatements.{AreSound}
use Rattle.result_laws.specs.Banks.{AreBanks, IsBank}
use Rattle.result_laws.specs.Carrying.{AmountsBalance}
use Rattle.result_laws.proofs.RollingBanks.{stage_bank}
use Rattle.result_laws.proofs.Rolling.{in_roll, roll_has}
use Rattle.result_laws.proofs.roll_laws.rolls_keep_sums.Goals as goal

pub returns : goal.returns
returns c = record {
  sum = λ statements given_up sound banks.
      in_roll c.a_sound_script_has_a_report.ensures.exists c.reports_of_rounds_are_lawful.ensures.lawful AmountsBalance (λ s. AreSound s × AreBanks s)
      (λ s report l are. c.sums_are_kept_at_each_place.ensures.sum s report are.0 are.1 l) statements given_up sound (sound, banks);
  stages = λ name args old k new_name new_args within new moves ps old_graph new_graph are sound old_bank new_bank.
      roll_has IsBank old new moves old_bank (stage_bank old new moves old_graph new_graph old_bank new_bank) new_name new_args within name args k ps (c.no_link_is_lost.ensures old new moves ps old_graph new_graph are) sound;
}
