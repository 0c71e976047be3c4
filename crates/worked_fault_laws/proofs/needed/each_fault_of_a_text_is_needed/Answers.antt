use Rattle.worked_fault_laws.proofs.TextRows as rows
use Rattle.worked_fault_laws.proofs.needed.each_fault_of_a_text_is_needed.Goals as goal

pub returns : goal.returns
returns c = record {
  each = rows.faults;
  own_star = rows.own_star;
  name_of_digits = rows.name_of_digits;
  half_sign = rows.half_sign;
  behind_token = rows.behind_token;
  behind_comment = rows.behind_comment;
}
