use Rattle.config_graph.proofs.TextLaws.{same_from_text}
use Rattle.result_laws.proofs.PartTelling.{ends_tell, part_texts_tell, rolls_tell}
use Rattle.result_laws.proofs.telling_laws.texts_tell_parts.Goals as goal

pub returns : goal.returns
returns c = record {
  parts = part_texts_tell;
  rolls = rolls_tell;
  ends = λ a b ps qs given_up other left right u v low low' same. (ends_tell a b ps qs given_up other left right u v same low low').0;
  graphs = λ a b ps qs given_up other left right u v low low' sound sound' words words' same.
      same_from_text left right sound sound' words words' (ends_tell a b ps qs given_up other left right u v same low low').1;
}
