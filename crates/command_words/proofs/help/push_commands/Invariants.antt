-- What is left completes the text.
use Rattle.std.proofs.Common.{◌≡◌, ◌++◌, drop}
use Rattle.std.specs.List.{flat_map}
use Rattle.command_words.specs.HelpTexts.{lines_of}
use Rattle.command_words.proofs.help.push_commands.Given as goal

abbrev pub invariant-loop-keyword : goal.invariant-loop-keyword
invariant-loop-keyword l = l.text.items ++ flat_map lines_of (drop l.keyword-index l.keywords) ≡ l.initial.text.items ++ flat_map lines_of l.keywords
