-- Where one of the words ends, nothing more is in common.
use Rattle.std.proofs.Common.{◌≡◌, ◌+◌, ◌∙◌, ℕ, List, [], ◌∷◌, drop, refl, sym, ap, add-zero}
use Rattle.std.proofs.Math.ListN.{drop_of_length-le}
use Rattle.command_words.specs.HelpTexts.{in_common}
use Rattle.command_words.proofs.help.in_common.Goals as goal

none_in_common : (xs : List ℕ) → in_common xs [] ≡ 0
none_in_common [] = refl
none_in_common (x ∷ xs) = refl

pub returns-else-count-other : goal.returns-else-count-other
returns-else-count-other c =
    let n = c.loop-count.count in
    sym (add-zero n) ∙ ap (λ k. n + k) (sym (none_in_common (drop n c.args.one.now)))
    ∙ ap (λ ys. n + in_common (drop n c.args.one.now) ys) (sym (drop_of_length-le c.args.other.now c.if-count-other.false)) ∙ c.loop-count.invariant
