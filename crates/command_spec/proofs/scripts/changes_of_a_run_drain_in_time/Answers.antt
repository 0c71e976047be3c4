use Rattle.std.proofs.Common.{Some}
use Rattle.command_words.specs.BigFiles.{made_files, script_name}
use Rattle.command_spec.proofs.ReportLemmas.{drained}
use Rattle.command_spec.proofs.scripts.changes_of_a_run_drain_in_time.Goals as goal

pub returns : goal.returns
returns c =
    let drains = drained c.a_script_has_a_report.ensures.sound c.changes_drain_within_what_is_left.ensures.each in
    record {
      fetched = λ files name own taken t ran. drains files name own ran.was_run;
      made = λ lanes own taken t ran. drains (Some (made_files lanes)) script_name own ran.was_run;
    }
