-- The report of a sum with a further message is lawful.
use Rattle.std.proofs.Common.{[], refl}
use Rattle.quiesce_core.specs.Reach.{has_no_cycle, reaches}
use Rattle.change_spec.specs.Found.{IsFound}
use Rattle.change_spec.specs.Lawful.{LawfulOnThreads}
use Rattle.change_spec.proofs.FoundLaws.{found_on_threads, none_open}
use Rattle.worked_report_laws.specs.Summed.{history, members, report, script, stopped, tells}

is_found : IsFound script tells stopped members report
unfolding reaches has_no_cycle
is_found = record {
  follows = refl;
  history = refl;
  slots = refl;
  logs = refl;
  kinds = refl;
  lines_are = refl;
  runs = refl;
  lasts = refl;
  drained = refl;
  stood_open = none_open members [] history refl;
  graphs = refl;
  unfinished = refl;
  status = refl;
}

pub lawful : LawfulOnThreads script report
lawful = found_on_threads script tells stopped members report is_found refl refl
