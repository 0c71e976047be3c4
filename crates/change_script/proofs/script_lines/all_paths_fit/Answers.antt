use Rattle.std.proofs.Common.{◌∙◌, sym}
use Rattle.std.proofs.lemmas.List.Folds.{list_all-map}
use Rattle.change_script.specs.ScriptLines.{paths_fit}
use Rattle.change_script.specs.ScriptWords.{ends_of}
use Rattle.change_script.proofs.script_lines.all_paths_fit.Goals as goal

pub returns : goal.returns
returns c = c.each_of_paths_fits.ensures ∙ sym (list_all-map paths_fit ends_of c.args.moves.now)
