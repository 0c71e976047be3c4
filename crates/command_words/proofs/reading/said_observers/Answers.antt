-- An option and a number of observers.
use Rattle.std.proofs.Common.{string_bytes, ◌∙◌, sym}
use Rattle.base.proofs.BytesLaws.{same_bytes}
use Rattle.command_words.proofs.Refusals.{says_observers}
use Rattle.command_words.proofs.reading.said_observers.Goals as goal

pub returns-in-len2 : goal.returns-in-len2
returns-in-len2 c =
    says_observers string_bytes c.args.words.now c.option-item.result c.count-item.result _ _ c.in-len2.len_at_least c.in-len2.len_below c.option-item.is
    c.count-item.is
    (sym c.as_str.ensures.value ∙ same_bytes _ _ (sym c.eq.ensures ∙ c.if-eq.true))
    c.count_up_to.result
    (rw (sym c.as_str-in-len2.ensures.value) c.count_up_to.ensures)
