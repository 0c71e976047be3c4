-- What is left makes the best so far the best of all.
use Rattle.std.proofs.Common.{◌≡◌, None, drop}
use Rattle.command_words.specs.HelpTexts.{nearest_of}
use Rattle.command_words.proofs.help.nearest.Given as goal

abbrev pub invariant-loop-keyword : goal.invariant-loop-keyword
invariant-loop-keyword l = nearest_of l.word l.best (drop l.keyword-index l.keywords) ≡ nearest_of l.word None l.keywords
