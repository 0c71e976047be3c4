use Rattle.quiesce_core.proofs.OperationLaws.{ask_by, begin_by, call_by, close_by, end_by, give_by, link_by, make_by, more_by, reopen_by, unlink_by}
use Rattle.quiesce_core.proofs.words.words_follow_operations.Goals as goal

pub returns : goal.returns
returns c = record {
  begin = begin_by;
  call = call_by;
  give = give_by;
  more_ = more_by;
  ask = ask_by;
  end = end_by;
  close = close_by;
  reopen = reopen_by;
  link = link_by;
  unlink = unlink_by;
  make = make_by;
}
