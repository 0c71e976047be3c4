use Rattle.change_script.proofs.TokenLemmas.{at_blank, sign_front, arrow_front, word_front}
use Rattle.change_script.proofs.laws.words_are_longest.Goals as goal

pub returns : goal.returns
returns c = record { blank = at_blank; sign = sign_front; arrow = arrow_front; word = word_front }
