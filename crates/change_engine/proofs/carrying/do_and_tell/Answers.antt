use Rattle.std.proofs.Common.{◌≡◌, ◌++◌, cond, ap, ◌∙◌}
use Rattle.change_engine.proofs.CarryingLemmas.{carries}
use Rattle.change_engine.proofs.carrying.do_and_tell.Goals as goal

pub returns : goal.returns
returns g c =
    let h = c.args.history.now.items in
    let ls = c.args.lines.now.items in
    let grown : c.append.new.self.items ≡ h ++ ls = c.append.ensures.items ∙ ap (λ b. cond b (h ++ ls) h) (c.append.ensures.succeeds c.requires.place) in
    λ head tail is. carries g.B.Board c.args.board.now c.do_steps.new.board h c.append.new.self.items head tail c.args.events.items c.do_steps.ensures
    (grown ∙ ap (λ zs. h ++ zs) is)
