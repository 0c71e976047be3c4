use Rattle.command_spec.proofs.OneAnswer.{one_answer, one_change}
use Rattle.change_plan.proofs.PlanLaws.{one_plan}
use Rattle.std.specs.Prelude.{[]}
use Rattle.command_spec.proofs.ReportLemmas as reports
use Rattle.command_spec.proofs.Wanting.{never_both}
use Rattle.command_spec.proofs.laws.what_bytes_give_is_one.Goals as goal

pub returns : goal.returns
returns c = record {
  one_answer = one_answer;
  one_change = one_change c.there_is_one_list_of_parts.ensures c.there_is_one_roll.ensures;
  never_both = never_both;
  one_plan = λ old new. one_plan old new [];
  one_report = reports.one_report c.a_text_tells_its_report.ensures;
  no_fault_beside = reports.never_both c.one_report_or_one_fault.ensures.never_both;
}
