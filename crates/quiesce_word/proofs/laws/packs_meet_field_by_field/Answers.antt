use Rattle.quiesce_word.proofs.PackLaws.{and_meets, or_meets, xor_meets}
use Rattle.quiesce_word.proofs.laws.packs_meet_field_by_field.Goals as goal

pub returns : goal.returns
returns c = record { by_xor = xor_meets; by_or = or_meets; by_and = and_meets }
