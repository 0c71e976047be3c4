use Rattle.command_spec.proofs.ReportLemmas.{are_sound, report_there}
use Rattle.command_spec.proofs.scripts.a_script_has_a_report.Goals as goal

pub returns : goal.returns
returns c =
    let graphs = c.a_graph_or_a_fault.ensures in
    record {
      sound = are_sound graphs c.one_graph.ensures;
      exists = λ files. report_there graphs c.one_graph.ensures files c.a_sound_script_has_a_report.ensures.exists c.reports_of_rounds_are_lawful.ensures.lawful;
    }
