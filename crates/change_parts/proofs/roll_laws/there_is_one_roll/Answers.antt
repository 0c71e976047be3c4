use Rattle.change_parts.proofs.CourseLemmas.{one_roll}
use Rattle.change_parts.proofs.roll_laws.there_is_one_roll.Goals as goal

pub returns : goal.returns
returns c = one_roll
