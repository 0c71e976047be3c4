-- To be believed (definitions.md).
-- The word of each command that takes others behind it.
use Rattle.std.specs.Prelude.{ℕ, List, codes}
use Rattle.command_words.specs.declared.keywords.Keyword.{Keyword}
use Rattle.command_words.specs.declared.keywords.Keyword.TheVariants as keywords

abbrev pub word_of : Keyword → List ℕ
word_of keywords.Flat = codes "flat"
word_of keywords.Plan = codes "plan"
word_of keywords.Parts = codes "parts"
word_of keywords.Roll = codes "roll"
word_of keywords.Apply = codes "apply"
word_of keywords.Replay = codes "replay"
word_of keywords.Step = codes "step"
word_of keywords.Live = codes "live"
word_of keywords.Check = codes "check"
word_of keywords.Big = codes "big"
word_of keywords.Upgrade = codes "upgrade"
