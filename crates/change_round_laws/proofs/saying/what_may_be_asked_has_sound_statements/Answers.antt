use Rattle.change_round_laws.proofs.AskedLaws.{asked_are_sound}
use Rattle.change_round_laws.proofs.saying.what_may_be_asked_has_sound_statements.Goals as goal

pub returns : goal.returns
returns c = record { sound = asked_are_sound }
