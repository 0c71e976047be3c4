use Rattle.command_answers.specs.Answers.{description}
use Rattle.std.proofs.Common.{refl}
use Rattle.command_spec.proofs.EachCommand.{Known, decided}
use Rattle.command_spec.proofs.RunLaws as runs
use Rattle.command_spec.proofs.laws.descriptions_are_refused_for_faults_that_hold.Goals as goal

pub returns : goal.returns
returns c =
    let known : Known = record {
      graphs = c.a_graph_or_a_fault.ensures;
      plan_alone = c.a_plan_or_a_refusal.ensures.plan_alone;
      one_answer = c.what_bytes_give_is_one.ensures.one_answer;
      one_change = c.what_bytes_give_is_one.ensures.one_change;
      one_report = c.what_bytes_give_is_one.ensures.one_report;
      no_fault_beside = c.what_bytes_give_is_one.ensures.no_fault_beside;
    } in
    record {
      only = runs.description_only;
      always = λ command r files a goes file words on. runs.must_refuse command r files a goes (decided known command) (description file words) refl on;
    }
