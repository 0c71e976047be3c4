-- To be believed (definitions.md).
-- What the report of a run must be, for what was to be done in it.
use Rattle.std.specs.Prelude.{List}
use Rattle.change_spec.specs.Lawful.{LawfulInRounds}
use Rattle.change_spec.specs.Serial.{Serial}
use Rattle.change_spec.specs.Statements.{Statement}
use Rattle.report_types.specs.declared.report.Report.{Report}

pub record IsReportOf (statements : List Statement) (report : Report) : Type 0 where
  -- it is the report that rounds of turns have
  pub serial : Serial statements report
  -- The history has the lines of each statement, in order, and those of the stop. The logs and the history are parts of
  -- one run of the change machine, by which all that is said is so: of the one that the rounds made.
  pub lawful : LawfulInRounds statements report serial
