use Rattle.change_round_laws.specs.SoundStatements.{elaborates_by}
use Rattle.change_round_laws.proofs.StatementLaws.{sound_list}
use Rattle.change_round_laws.proofs.saying.sound_scripts_have_sound_statements.Goals as goal

pub returns : goal.returns
returns c = record { sound = λ elab graphs text script is statements says. sound_list (elaborates_by elab) graphs text script is statements says }
