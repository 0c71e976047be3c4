-- The words are the first and those behind it.
use Rattle.std.proofs.Common.{IfOk, string_bytes, subst}
use Rattle.command_words.specs.CommandLine.{IsFound, IsOther}
use Rattle.command_words.specs.declared.calls.Target.{Target}
use Rattle.command_words.proofs.Bodies.{first_word}
use Rattle.command_words.proofs.calls.read_other.Goals as goal

pub returns-in-len1-up : goal.returns-in-len1-up
returns-in-len1-up c =
    subst (λ ws. IfOk c.other_of.result (IsFound {A = Target} (λ to. IsOther ws to.other to.target)))
    (first_word string_bytes c.args.words.now c.file-item.result c.as_str.result.now c.in-len1-up.len_at_least c.file-item.is c.as_str.ensures.value)
    c.other_of.ensures
