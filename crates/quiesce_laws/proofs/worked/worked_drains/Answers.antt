use Rattle.quiesce_laws.proofs.WorkedDrains as worked
use Rattle.quiesce_laws.proofs.worked.worked_drains.Goals as goal

pub returns : goal.returns
returns c = record {
  pair_allowed = worked.pair_allowed;
  pair_rests = worked.pair_rests;
  pair_counts = worked.pair_counts;
  missed_rests = worked.missed_rests;
  missed_counts = worked.missed_counts;
  chain_rests = worked.chain_rests;
  chain_counts = worked.chain_counts;
  call_counts = worked.call_counts;
  chain_part = worked.chain_part;
  call_part = worked.call_part;
  link_adds = worked.link_adds;
  replied_rests = worked.replied_rests;
}
