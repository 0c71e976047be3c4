use Rattle.std.proofs.Common.{◌++◌, map, ap, ◌∙◌}
use Rattle.std.proofs.lemmas.List.{take_all}
use Rattle.change_engine.specs.Draining.{root_line}
use Rattle.change_engine.proofs.draining.push_roots.Goals as goal

pub returns-clause-lines : goal.returns-clause-lines
returns-clause-lines c = c.loop-root.invariant.lines ∙ ap (λ xs. c.args.history.now.items ++ map root_line xs) (take_all c.loop-root.root-index c.args.left.now c.loop-root-test.false)
