use Rattle.result_laws.proofs.WorkedScripts.{bank_is_apart, bank_is_banks, beside_changes, beside_is_rows, both_change_is_rows, fan_is_apart, line_is_apart, line_is_no_row, philosopher_is_no_table, row_is_apart, row_is_row, sink_is_lost, sink_is_lost_beside, table_is_table, texts_are, teller_is_no_bank, teller_is_not_apart}
use Rattle.result_laws.proofs.script_laws.scripts_are_told_from_others.Goals as goal

pub returns : goal.returns
returns c = record {
  flows = (line_is_apart, row_is_apart, bank_is_apart, fan_is_apart);
  table = table_is_table;
  row = row_is_row;
  beside = beside_is_rows;
  changed_beside = beside_changes;
  changed_both = both_change_is_rows;
  bank = bank_is_banks;
  texts = texts_are;
  no_flow = teller_is_not_apart;
  no_table = philosopher_is_no_table;
  no_row = line_is_no_row;
  sink = sink_is_lost;
  sink_beside = sink_is_lost_beside;
  no_bank = teller_is_no_bank;
}
