use Rattle.std.proofs.Common.{List, ℕ}
use Rattle.report_types.specs.declared.script.Body.{Body}
use Rattle.result_laws.proofs.TellingReports.{tells_itself}
use Rattle.result_laws.proofs.TellingRuns.{ran_tells, stated}
use Rattle.result_laws.proofs.telling_laws.texts_tell_the_reports_of_runs.Goals as goal

pub returns : goal.returns
returns c =
    let spelled = c.fronts_as_spelled.ensures.meaning in
    let named = λ (bytes : List ℕ). (c.names_are_those_of_the_language.ensures bytes).0 in
    let meant = λ (line : List ℕ) (body : Body). (c.lines_mean_what_their_forms_say.ensures.means line body).0 in
    let words = c.paths_are_words.ensures.words in
    let paths = c.paths_of_nodes_are_paths.ensures in
    let tells = ran_tells spelled named meant words paths c.a_check_of_what_was_run_is_consistent.ensures.consistent in
    record {
      consistent = tells_itself;
      stated = stated spelled named meant words paths;
      told = λ schedule files name own ran. tells schedule files name own ran (c.numbers_of_runs_fit.ensures.fit schedule files name own ran);
      read = λ schedule files name own ran. c.a_written_report_is_read.ensures.read ran.report (tells schedule files name own ran (c.numbers_of_runs_fit.ensures.fit schedule files name own ran));
    }
