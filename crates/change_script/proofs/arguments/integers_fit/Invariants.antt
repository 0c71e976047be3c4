use Rattle.std.proofs.Common.{◌≡◌, true, map, drop}
use Rattle.std.specs.List.{list_all}
use Rattle.change_script.specs.Numbers.{is_integer, integer_fits}
use Rattle.change_script.proofs.arguments.integers_fit.Given as goal

-- What is left has to be in range exactly where all words have to be.
abbrev pub invariant-loop-word : goal.invariant-loop-word
invariant-loop-word l = record {
  all : list_all is_integer (map (λ word. word.now) (drop l.word-index l.words)) ≡ true;
  fits : list_all integer_fits (map (λ word. word.now) (drop l.word-index l.words)) ≡ list_all integer_fits (map (λ word. word.now) l.words);
}
