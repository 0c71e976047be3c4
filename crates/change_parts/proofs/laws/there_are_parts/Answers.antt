use Rattle.change_parts.proofs.PartsThereLemmas.{parts_there}
use Rattle.change_parts.proofs.laws.there_are_parts.Goals as goal

pub returns : goal.returns
returns c = λ old new moves made old_graph new_graph new_sound can none. parts_there old new old_graph new_graph moves can.may_move new_sound.no_cycle (λ w. none w.0 w.1)
