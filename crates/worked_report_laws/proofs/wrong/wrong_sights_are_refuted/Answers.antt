use Rattle.worked_report_laws.proofs.WrongSightLemmas.{not_given_up_idly, not_given_up_late, not_seen_both_ways, not_seen_neither_way, not_seen_twice, not_stopped_twice, not_unseen}
use Rattle.worked_report_laws.proofs.wrong.wrong_sights_are_refuted.Goals as goal

pub returns : goal.returns
returns c = record {
  unseen = not_unseen;
  twice = not_seen_twice;
  idly = not_given_up_idly;
  late = not_given_up_late;
  both = not_seen_both_ways;
  neither = not_seen_neither_way;
  stopped = not_stopped_twice;
}
