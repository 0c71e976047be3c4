-- Words that say no change behind the file say none.
use Rattle.std.proofs.Common.{string_bytes, IfOk, subst}
use Rattle.std.specs.Prelude.{IfNone}
use Rattle.command_words.specs.SessionWords.{SaysChange}
use Rattle.command_words.specs.declared.sessions.SessionWords.{SessionWords}
use Rattle.command_words.proofs.Bodies.{first_word}
use Rattle.command_words.proofs.sessions.said_change.Goals as goal

pub returns-in-len1-up-clause-none : goal.returns-in-len1-up-clause-none
returns-in-len1-up-clause-none c =
    subst (λ ws. IfOk c.change_in.result (λ found. IfNone found ((asked : SessionWords) → SaysChange ws asked → ⊥)))
    (first_word string_bytes c.args.words.now c.file-item.result c.as_str.result.now c.in-len1-up.len_at_least c.file-item.is c.as_str.ensures.value)
    c.change_in.ensures.none
