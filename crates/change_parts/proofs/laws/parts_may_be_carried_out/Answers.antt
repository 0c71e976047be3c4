use Rattle.std.proofs.lemmas.List.Elements.{All-contains}
use Rattle.config_graph.specs.Graph.{IsGraph}
use Rattle.change_parts.specs.declared.part.Part.{Part}
use Rattle.change_parts.proofs.RoomLaws.{parts_can_carry_out}
use Rattle.change_parts.proofs.laws.parts_may_be_carried_out.Goals as goal

pub returns : goal.returns
returns c = λ old new moves made ps old_graph new_graph old_sound new_sound can parts graphs.
    parts_can_carry_out old new old_graph new_graph old_sound new_sound moves made can ps parts (λ p held. All-contains (λ (q : Part). IsGraph q.next) ps p graphs held)
