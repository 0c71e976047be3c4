use Rattle.worked_fault_laws.proofs.PlanRows as rows
use Rattle.worked_fault_laws.proofs.PlanWays as ways
use Rattle.worked_fault_laws.proofs.needed.each_refusal_of_a_plan_is_needed.Goals as goal

pub returns : goal.returns
returns c = record {
  not_removed = rows.not_removed;
  source_stays = ways.source_stays;
  other_source = ways.other_source;
  not_created = rows.not_created;
  target_stays = ways.target_stays;
  other_target = ways.other_target;
  kinds_differ = rows.kinds_differ;
  moved_twice = rows.moved_twice;
  source_twice = ways.source_twice;
  target_twice = ways.target_twice;
  nodes_full = rows.nodes_full;
  ports_full = rows.ports_full;
}
