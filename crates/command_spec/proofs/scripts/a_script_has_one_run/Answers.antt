use Rattle.command_words.specs.BigFiles.{made_files, script_name}
use Rattle.report_writing.specs.Reports.{report_text}
use Rattle.command_answers.specs.Summaries.{summary_text}
use Rattle.command_spec.proofs.OneRun.{one_check, one_run, one_statements}
use Rattle.command_spec.proofs.scripts.a_script_has_one_run.Goals as goal

pub returns : goal.returns
returns c = record {
  fetched = one_run report_text;
  made = λ lanes. one_run (summary_text lanes) (made_files lanes) script_name;
  checked = one_check c.what_bytes_give_is_one.ensures.one_report;
  statements = one_statements;
}
