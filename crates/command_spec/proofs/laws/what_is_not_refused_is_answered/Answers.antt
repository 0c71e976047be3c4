use Rattle.std.proofs.Common.{[], refl}
use Rattle.command_answers.specs.declared.status.Status.TheVariants as status
use Rattle.command_words.specs.declared.words.Command.TheVariants as commands
use Rattle.config_graph.specs.GraphText.{graph_text}
use Rattle.command_spec.specs.Commands.{shown}
use Rattle.command_spec.specs.Courses.{came, here, leads_on, gives}
use Rattle.command_spec.proofs.EachCommand.{Known, decided}
use Rattle.command_spec.proofs.RunLaws as runs
use Rattle.command_spec.proofs.laws.what_is_not_refused_is_answered.Goals as goal

pub returns : goal.returns
returns c =
    let known : Known = record {
      graphs = c.a_graph_or_a_fault.ensures;
      plan_alone = c.a_plan_or_a_refusal.ensures.plan_alone;
      one_answer = c.what_bytes_give_is_one.ensures.one_answer;
      one_change = c.what_bytes_give_is_one.ensures.one_change;
      one_report = c.what_bytes_give_is_one.ensures.one_report;
      no_fault_beside = c.what_bytes_give_is_one.ensures.no_fault_beside;
    } in
    record {
      complete = runs.completes;
      every_answer = λ command r files a goes alone s on. runs.must_show command r files a goes (decided known command) alone s on;
      every_graph = λ file call r files a goes text graph told has.
          let s = shown status.Ok (graph_text graph) in
          runs.must_show (commands.Flat file call) r files a goes (decided known (commands.Flat file call)) refl s
          (leads_on text [] (came s) told (gives s [] (came s) (refl, (graph, has, refl)) here));
    }
