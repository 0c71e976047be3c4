use Rattle.elaborator.proofs.PathLemmas.{paths_one_word, paths_written}
use Rattle.elaborator.proofs.laws.paths_are_words.Goals as goal

pub returns-clause-bytes : goal.returns-clause-bytes
returns-clause-bytes c = paths_written

pub returns-clause-words : goal.returns-clause-words
returns-clause-words c = λ text tokens tree name arguments g parted unit elab.
    paths_one_word g.nodes (paths_written text tokens tree name arguments g parted unit elab)
