use Rattle.std.proofs.Common.{◌∙◌, sym}
use Rattle.std.proofs.lemmas.List.Folds.{list_all-map}
use Rattle.change_script.specs.ScriptForms.{are_paths}
use Rattle.change_script.specs.ScriptWords.{ends_of}
use Rattle.change_script.proofs.script_lines.all_are_paths.Goals as goal

pub returns : goal.returns
returns c = c.each_is_of_paths.ensures ∙ sym (list_all-map are_paths ends_of c.args.moves.now)
