use Rattle.worked_fault_laws.proofs.TextRows as rows
use Rattle.worked_fault_laws.proofs.needed.each_refusal_of_tokens_is_needed.Goals as goal

pub returns : goal.returns
returns c = record {
  unexpected = rows.not_expected;
  unfinished = rows.not_ended;
  too_nested = rows.nested;
  without_braces = rows.nested_bodies;
  ranges = rows.nested_ranges;
  parentheses = rows.nested_parentheses;
  signs = rows.nested_signs;
}
