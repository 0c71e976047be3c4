use Rattle.std.proofs.Common.{◌≡◌, ◌++◌, true, map, drop}
use Rattle.std.specs.List.{list_all}
use Rattle.change_script.specs.Numbers.{is_integer, integer, integer_fits}
use Rattle.change_script.proofs.arguments.integer_values.Given as goal

-- What is left is in range, and completes the values.
abbrev pub invariant-loop-word : goal.invariant-loop-word
invariant-loop-word l = record {
  all : list_all is_integer (map (λ word. word.now) (drop l.word-index l.words)) ≡ true;
  fits : list_all integer_fits (map (λ word. word.now) (drop l.word-index l.words)) ≡ true;
  values : l.values.items ++ map integer (map (λ word. word.now) (drop l.word-index l.words)) ≡ map integer (map (λ word. word.now) l.words);
}
