use Rattle.std.proofs.Common.{◌≡◌, ◌+◌, option_map, drop}
use Rattle.darwin_lexer.specs.Fronts as fronts
use Rattle.darwin_lexer.proofs.front.through_close.Given as goal

-- the end is as far from this byte as from the front, but for the bytes passed
abbrev pub invariant-loop-i : goal.invariant-loop-i
invariant-loop-i l = fronts.through_close l.text ≡ option_map (λ n. l.i + n) (fronts.through_close (drop l.i l.text))
