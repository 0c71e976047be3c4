use Rattle.std.proofs.Common.{ap, sym, map, ◌∙◌}
use Rattle.change_script.specs.ScriptForms.{are_right}
use Rattle.change_script.specs.ScriptWords.{ends_of, words_of}
use Rattle.change_script.proofs.ScriptLineLemmas.{within_right}
use Rattle.change_script.proofs.script_lines.keep_limits.Goals as goal

pub number_fits-requires-then-integers_fit : goal.number_fits-requires-then-integers_fit
number_fits-requires-then-integers_fit c =
    within_right c.in-Change.name.now (map (λ arg. arg.now) c.in-Change.args.items) c.in-Change.within.now (map ends_of c.in-Change.moves.items)
    (ap (λ words. are_right (words_of words)) (sym c.in-Change.is) ∙ c.requires)
