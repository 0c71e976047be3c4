use Rattle.std.proofs.Common.{◌∙◌, sym}
use Rattle.change_runner.proofs.ChangeLemmas.{carried}
use Rattle.change_runner.proofs.running.replace_and_tell.Goals as goal

pub replace-requires : goal.replace-requires
replace-requires g c =
    let h = c.requires.here in
    (h.0, h.1, h.3 h.2)

pub returns-then-is_some-clause-carried : goal.returns-then-is_some-clause-carried
returns-then-is_some-clause-carried g c = λ t idle none ready.
    carried g.B.Board c.args.engine.now c.replace.new.engine c.args.change t none c.in_ok-left.left _ (sym c.is_some.ensures ∙ c.if-is_some.true) (c.in_ok-left.ensures t idle (ready none))

pub returns-clause-carried : goal.returns-clause-carried
returns-clause-carried g c = λ t idle none ready.
    carried g.B.Board c.args.engine.now c.replace.new.engine c.args.change t none c.in_ok-left.left _ (sym c.is_some.ensures ∙ c.if-is_some.false) (c.in_ok-left.ensures t idle (ready none))
