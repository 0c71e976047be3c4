-- To be believed (definitions.md).
-- Whether a report can be one of this machine for a script: all that is asked of a lawful one, but for the numbers of
-- `run` lines, and of those of `finish` lines only that they keep to their limit.
use Rattle.std.specs.Prelude.{Bool, true, nat_le, List, IsTrue}
use Rattle.std.specs.List.{list_all}
use Rattle.report_types.specs.declared.report.HistoryLine.{HistoryLine}
use Rattle.report_types.specs.declared.report.HistoryLine.TheVariants as to
use Rattle.report_types.specs.declared.report.Report.{Report}
use Rattle.change_spec.specs.Lawful.{Lawful}
use Rattle.change_spec.specs.Statements.{Statement}

-- a `finish` made no more rounds than it might
abbrev pub keeps_to_limit : HistoryLine → Bool
keeps_to_limit (to.Finish n r) = nat_le r n
keeps_to_limit _ = true

pub record Consistent (statements : List Statement) (report : Report) : Type 0 where
  pub lawful : Lawful statements report
  pub few_rounds : IsTrue (list_all keeps_to_limit report.history)
