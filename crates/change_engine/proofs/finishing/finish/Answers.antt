use Rattle.change_engine.proofs.Breaking.{saw_alone}
use Rattle.change_engine.proofs.Scanning.{all_quiet, finished}
use Rattle.base.proofs.AnswerLaws.{if_err}
use Rattle.change_engine.proofs.finishing.finish.Goals as goal

pub returns-clause-ok : goal.returns-clause-ok
returns-clause-ok g c =
    finished g.B.Board c.args.board.now c.make_scans.new.board c.args.history.now.items c.push.new.self.items c.args.n c.in_ok-rounds.rounds
    c.in_ok-rounds.ensures.ok c.in_ok-push.ensures.items

pub returns-in_err-push-clause-err : goal.returns-in_err-push-clause-err
returns-in_err-push-clause-err g c =
    let x = c.in_ok-rounds.ensures.ok in
    if_err (saw_alone g.B.Board c.args.board.now c.make_scans.new.board _ (all_quiet x.scans) x.adds) c.from_residual-in_err-push.result
