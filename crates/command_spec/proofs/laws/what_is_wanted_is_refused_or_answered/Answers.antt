use Rattle.command_spec.proofs.TotalityLaws.{room_for, graphs_or_refusals, starts_or_refusals, refused_or_answered, some_shown}
use Rattle.command_spec.proofs.ReportLemmas.{one_or_fault}
use Rattle.command_spec.proofs.laws.what_is_wanted_is_refused_or_answered.Goals as goal

pub returns : goal.returns
returns c =
    let names = c.a_fault_or_none.ensures in
    let graphs = c.a_graph_or_a_fault.ensures in
    record {
      graphs = graphs_or_refusals names graphs;
      starts = starts_or_refusals names graphs;
      room = room_for;
      reports = one_or_fault c.one_report_or_one_fault.ensures.always_one;
      queries = refused_or_answered names graphs;
      changes = some_shown graphs c.there_are_parts.ensures c.there_is_a_roll.ensures;
    }
