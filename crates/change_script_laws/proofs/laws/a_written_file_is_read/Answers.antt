use Rattle.std.proofs.Common.{ℕ, List}
use Rattle.change_script_laws.proofs.FileLemmas.{file_read}
use Rattle.change_script_laws.proofs.LineTextLemmas.{event_neat, start_neat}
use Rattle.change_script_laws.proofs.laws.a_written_file_is_read.Goals as goal

pub returns : goal.returns
returns c =
    let spelled = c.fronts_as_spelled.ensures.meaning in
    let named = λ (bytes : List ℕ). (c.names_are_those_of_the_language.ensures bytes).0 in
    file_read c.a_written_line_means_its_event.ensures (event_neat spelled named) c.a_written_start_means_its_start.ensures (start_neat spelled named)
