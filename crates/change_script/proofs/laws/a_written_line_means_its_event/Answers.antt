use Rattle.change_script.proofs.WritingLemmas.{written_means}
use Rattle.change_script.proofs.laws.a_written_line_means_its_event.Goals as goal

pub returns : goal.returns
returns c = written_means
