-- What an owner sees in the word of its port, which isn't idle.
use Rattle.std.specs.Prelude.{◌≡◌, true}
use Rattle.quiesce_word.specs.Phases.{is_answered, is_asked, is_in_more}
use Rattle.quiesce_word.specs.Words.{pack}
use Rattle.quiesce_word.specs.declared.word.Word.{Word}
use Rattle.node_gate.specs.declared.answers.SeeAnswer.{SeeAnswer}
use Rattle.node_gate.specs.declared.answers.SeeAnswer.TheVariants.{Answer, More, NotYet}

abbrev pub WordShows : Word → SeeAnswer → Type 0
WordShows w (Answer v) = (is_answered w.phase ≡ true) × (v ≡ w.value)
WordShows w (More v) = (is_in_more w.phase ≡ true) × (v ≡ w.value)
WordShows w (NotYet k) = (is_asked w.phase ≡ true) × (k ≡ pack w)
