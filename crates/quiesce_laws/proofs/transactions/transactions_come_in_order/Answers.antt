use Rattle.quiesce_laws.proofs.OrderLaws.{begun_count, ended_count, in_order, whole_once}
use Rattle.quiesce_laws.proofs.transactions.transactions_come_in_order.Goals as goal

pub returns : goal.returns
returns c = record {
  begun = begun_count;
  taken = λ es p k run. (in_order es p k run).taken;
  given = λ es p k run. (in_order es p k run).given;
  ended = λ es p k run. (in_order es p k run).ended;
  ended_exactly = ended_count;
  once = whole_once;
  replied = λ es p k run. (in_order es p k run).told;
  asked = λ es p k run. (in_order es p k run).asked;
  heard = λ es p k run. (in_order es p k run).heard;
  all_asked = λ es p k run. (in_order es p k run).all_asked;
  all_heard = λ es p k run. (in_order es p k run).all_heard;
}
