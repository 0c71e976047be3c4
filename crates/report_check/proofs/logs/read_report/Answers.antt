use Rattle.std.proofs.Common.{◌∙◌, sym, ap}
use Rattle.std.specs.Prelude.{option_map}
use Rattle.report_check.specs.Tables.{table_in}
use Rattle.report_check.proofs.OrderLemmas.{table_fits}
use Rattle.report_check.proofs.logs.read_report.Goals as goal

pub read_logs-requires : goal.read_logs-requires
read_logs-requires c = record { fits = table_fits c.items.result.now c.in-Some.table (sym (ap (option_map table_in) c.in-Some.is) ∙ c.in_ok-table.ensures) }
