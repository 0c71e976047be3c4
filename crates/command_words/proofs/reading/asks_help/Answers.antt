-- One word is compared.
use Rattle.std.proofs.Common.{codes, string_bytes}
use Rattle.command_words.proofs.Bodies.{only_word}
use Rattle.command_words.proofs.reading.asks_help.Goals as goal

pub returns-then-words-eq1 : goal.returns-then-words-eq1
returns-then-words-eq1 c =
    only_word string_bytes c.args.words.now c.index-words-0.result c.as_str.result.now (codes "--help") c.if-words-eq1.true c.index-words-0.is
    c.as_str.ensures.value c.eq.result c.eq.ensures
