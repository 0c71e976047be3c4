use Rattle.merge_laws.proofs.MisleadingLemmas as worked
use Rattle.merge_laws.proofs.needing.each_guard_is_needed.Goals as goal

pub returns : goal.returns
returns c = record {
  all = worked.same_with_all;
  close_waits = worked.close_misleads;
  begin_waits = worked.begin_misleads;
  call_waits = worked.call_misleads;
  begin_is_apart = worked.begin_there_misleads;
  end_waits = worked.end_misleads;
  open_is_closed = worked.open_misleads;
  open_is_apart = worked.open_there_misleads;
}
