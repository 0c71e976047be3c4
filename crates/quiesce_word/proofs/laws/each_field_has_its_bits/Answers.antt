use Rattle.quiesce_word.proofs.WordLaws.{fields_stand}
use Rattle.quiesce_word.proofs.laws.each_field_has_its_bits.Goals as goal

pub returns : goal.returns
returns c = record {
  value = λ w f. (fields_stand w f).value;
  serial = λ w f. (fields_stand w f).serial;
  provide = λ w f. (fields_stand w f).provide;
  slot = λ w f. (fields_stand w f).slot;
  consequent = λ w f. (fields_stand w f).consequent;
  phase = λ w f. (fields_stand w f).phase;
  closed = λ w f. (fields_stand w f).closed;
}
