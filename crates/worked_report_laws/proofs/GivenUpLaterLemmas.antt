-- The report of a change that is given up after rounds is lawful.
use Rattle.std.proofs.Common.{drop, take, refl}
use Rattle.report_types.specs.declared.report.HistoryLine.TheVariants as to
use Rattle.quiesce_core.specs.Reach.{has_no_cycle, reaches}
use Rattle.change_spec.specs.Found.{IsFound}
use Rattle.change_spec.specs.Lawful.{LawfulOnThreads}
use Rattle.change_spec.proofs.FoundLaws.{found_on_threads, none_open, open_then, stood_at}
use Rattle.worked_report_laws.specs.GivenUpLater.{history, members, report, script, stopped, tells}

is_found : IsFound script tells stopped members report
unfolding reaches has_no_cycle
is_found = record {
  follows = refl;
  history = refl;
  slots = refl;
  logs = refl;
  kinds = refl;
  lines_are = refl;
  runs = refl;
  lasts = refl;
  drained = refl;
  stood_open = open_then members (take 0 history) (drop 0 (take 20 history)) (to.Root 2 1) (drop 21 history) refl (stood_at members (take 20 history) 2 1 24 refl refl refl refl refl)
      (none_open members (take 21 history) (drop 21 history) refl);
  graphs = refl;
  unfinished = refl;
  status = refl;
}

pub lawful : LawfulOnThreads script report
lawful = found_on_threads script tells stopped members report is_found refl refl
