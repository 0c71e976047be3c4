use Rattle.std.proofs.Common.{◌≡◌, arith}
use Rattle.worked_report_laws.proofs.WrongLineLemmas.{not_called_finished, not_given_up_early, not_shown_wrongly, not_unseen}
use Rattle.worked_report_laws.proofs.WrongLogLemmas.{not_altered, not_swapped}
use Rattle.worked_report_laws.proofs.WrongLookLemmas.{not_early, not_outdated}
use Rattle.worked_report_laws.proofs.WrongRunLemmas.{not_ended_idly}
use Rattle.worked_report_laws.proofs.WrongStateLemmas.{not_forgotten}
use Rattle.worked_report_laws.proofs.unlawful.wrong_reports_are_not_lawful.Goals as goal

pub returns : goal.returns
returns c = record {
  lines = λ l. not_unseen l.follows;
  logs = λ l. not_swapped l.members l.by_them.merge;
  run = λ l. not_altered l.members l.by_them.merge l.by_them.runs;
  states = λ l. not_forgotten l.members l.by_them.merge l.by_them.folds;
  drained = λ l. not_early l.members l.by_them.merge l.by_them.runs l.by_them.drained;
  stood = λ l. not_outdated l.members l.by_them.merge l.by_them.runs l.by_them.drained l.by_them.stood_open;
  shown = λ l. not_shown_wrongly l.members l.by_them.merge l.by_them.graphs;
  unfinished = λ l. not_called_finished l.members l.by_them.merge l.by_them.unfinished;
  status = λ l. let same : 0 ≡ 8 = l.by_them.status in omega (arith, same);
  ended = λ l. not_ended_idly l.lawful.members l.lawful.by_them.merge l.numbers.runs_end;
  rounds = λ l. not_given_up_early l.lawful.members l.lawful.by_them.merge l.numbers.finishes_end;
}
