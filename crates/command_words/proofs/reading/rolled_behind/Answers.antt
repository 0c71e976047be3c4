-- The words are the first and those behind it.
use Rattle.std.proofs.Common.{◌≡◌, ◌∷◌, IfOk, string_bytes, subst}
use Rattle.command_words.specs.CommandLine.{IsFound, IsRolled}
use Rattle.command_words.specs.declared.reading.Rolled.{Rolled}
use Rattle.command_words.proofs.Bodies.{first_word}
use Rattle.command_words.proofs.reading.rolled_behind.Goals as goal

pub returns-in-len1-up : goal.returns-in-len1-up
returns-in-len1-up c =
    subst (λ ws. IfOk c.rolled_change.result (IsFound {A = Rolled} (λ roll. (roll.change.file ≡ c.args.file.now) × IsRolled roll.run roll.within roll.change (c.args.run.now ∷ ws))))
    (first_word string_bytes c.args.words.now c.within-item.result c.as_str.result.now c.in-len1-up.len_at_least c.within-item.is c.as_str.ensures.value)
    c.rolled_change.ensures
