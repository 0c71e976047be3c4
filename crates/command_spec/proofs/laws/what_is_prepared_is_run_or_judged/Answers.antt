use Rattle.std.proofs.Common.{[], Some}
use Rattle.command_spec.specs.Commands.{IsRunOf, judging}
use Rattle.command_spec.specs.Courses.{says}
use Rattle.command_spec.specs.Lines.{Progress}
use Rattle.command_spec.specs.Scripts.{prepares}
use Rattle.command_spec.proofs.CourseLaws.{stops}
use Rattle.command_spec.specs.Schedules.{IsReportBy, IsShownBy}
use Rattle.command_spec.proofs.Prepared.{check_refuses_nothing, run_refuses_nothing}
use Rattle.command_spec.proofs.RunLaws.{report_refused}
use Rattle.command_spec.proofs.laws.what_is_prepared_is_run_or_judged.Goals as goal

pub returns : goal.returns
returns c = record {
  refused = λ files name why on. (
    λ schedule. stops (Some files) (λ (p : Progress). says (IsRunOf (IsReportBy schedule) (IsShownBy schedule) p.statements)) (prepares name) [] why on,
    λ file. stops (Some files) (λ (p : Progress). judging file p.statements) (prepares name) [] why on,
  );
  run = λ files schedule name. run_refuses_nothing files name (IsReportBy schedule) (IsShownBy schedule);
  check = check_refuses_nothing;
  report = report_refused c.what_bytes_give_is_one.ensures.no_fault_beside;
}
