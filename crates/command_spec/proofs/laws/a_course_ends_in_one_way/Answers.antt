use Rattle.command_spec.specs.Commands.{course_of}
use Rattle.command_spec.specs.Outcomes.{SameShown}
use Rattle.command_spec.proofs.CourseLaws.{ends_alike}
use Rattle.command_spec.proofs.EachCommand.{Known, decided}
use Rattle.command_spec.proofs.laws.a_course_ends_in_one_way.Goals as goal

pub returns : goal.returns
returns c =
    let known : Known = record {
      graphs = c.a_graph_or_a_fault.ensures;
      plan_alone = c.a_plan_or_a_refusal.ensures.plan_alone;
      one_answer = c.what_bytes_give_is_one.ensures.one_answer;
      one_change = c.what_bytes_give_is_one.ensures.one_change;
      one_report = c.what_bytes_give_is_one.ensures.one_report;
      no_fault_beside = c.what_bytes_give_is_one.ensures.no_fault_beside;
    } in
    λ command files end other on also.
    ends_alike (SameShown command) files (course_of command) (decided known command) end other on also
