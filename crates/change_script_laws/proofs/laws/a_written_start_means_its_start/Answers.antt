use Rattle.change_script_laws.proofs.FileLemmas.{start_means}
use Rattle.change_script_laws.proofs.laws.a_written_start_means_its_start.Goals as goal

pub returns : goal.returns
returns c =
    let words = c.words_are_longest.ensures in
    start_means words.blank words.sign words.word c.a_written_statement_means_itself.ensures
