use Rattle.std.proofs.Common.{◌∙◌, sym}
use Rattle.std.proofs.lemmas.List.Folds.{list_all-map}
use Rattle.change_script.specs.Numbers.{is_integer}
use Rattle.change_script.proofs.arguments.are_integers.Goals as goal

pub returns : goal.returns
returns c = c.each_is_integer.ensures ∙ sym (list_all-map is_integer (λ word. word.now) c.args.words.now)
