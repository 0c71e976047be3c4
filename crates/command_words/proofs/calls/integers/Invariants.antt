-- What is left has to be integers exactly where all words have to be, and completes the values.
use Rattle.std.proofs.Common.{◌≡◌, ◌++◌, map, drop, string_bytes}
use Rattle.std.specs.List.{AllByRecursion}
use Rattle.command_words.specs.CommandLine.{IsInteger, integer_of}
use Rattle.command_words.proofs.calls.integers.Given as goal

abbrev pub invariant-loop-word : goal.invariant-loop-word
invariant-loop-word l = record {
  needed : AllByRecursion IsInteger (map string_bytes l.words) → AllByRecursion IsInteger (map string_bytes (drop l.word-index l.words));
  enough : AllByRecursion IsInteger (map string_bytes (drop l.word-index l.words)) → AllByRecursion IsInteger (map string_bytes l.words);
  values : l.values.items ++ map integer_of (map string_bytes (drop l.word-index l.words)) ≡ map integer_of (map string_bytes l.words);
}
