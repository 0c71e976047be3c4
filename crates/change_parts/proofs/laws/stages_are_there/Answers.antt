use Rattle.change_parts.proofs.PartsThereLemmas.{after_there}
use Rattle.change_parts.proofs.laws.stages_are_there.Goals as goal

pub returns : goal.returns
returns c = λ old new moves made done left stage k old_graph new_graph new_sound can groups stage_is none.
    after_there old new old_graph new_graph moves can.may_move new_sound.no_cycle done left groups stage stage_is k none
