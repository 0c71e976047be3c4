use Rattle.change_transcript_laws.proofs.GraphLaws.{graphs}
use Rattle.change_transcript_laws.proofs.laws.graphs_are_those_described.Goals as goal

pub returns : goal.returns
returns c = record { graphs = λ alone statements t m ms x j is_of. graphs statements alone t m ms x j is_of }
