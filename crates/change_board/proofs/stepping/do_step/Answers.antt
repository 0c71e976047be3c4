use Rattle.std.proofs.Common.{[], ◌∷◌, sym, subst}
use Rattle.quiesce_core.specs.declared.event.Event.TheVariants.{Close, Reopen, Link, Unlink, Remove}
use Rattle.change_board.specs.Doing.{DoesEvents}
use Rattle.change_board.proofs.DeedLemmas.{does_one}
use Rattle.change_board.proofs.stepping.do_step.Goals as goal

pub returns-in-Close-clause-board : goal.returns-in-Close-clause-board
returns-in-Close-clause-board g c =
    let W = g.B.Board in
    subst (λ e. DoesEvents W c.args.board.now c.close.new.self (e ∷ [])) (sym c.in-Close.is) (does_one W c.args.board.now c.close.new.self (Close c.in-Close.port) c.close.ensures.board)

pub returns-in-Reopen-clause-board : goal.returns-in-Reopen-clause-board
returns-in-Reopen-clause-board g c =
    let W = g.B.Board in
    subst (λ e. DoesEvents W c.args.board.now c.reopen.new.self (e ∷ [])) (sym c.in-Reopen.is) (does_one W c.args.board.now c.reopen.new.self (Reopen c.in-Reopen.port) c.reopen.ensures.board)

pub returns-in-Unlink-clause-board : goal.returns-in-Unlink-clause-board
returns-in-Unlink-clause-board g c =
    let W = g.B.Board in
    subst (λ e. DoesEvents W c.args.board.now c.unlink.new.self (e ∷ [])) (sym c.in-Unlink.is) (does_one W c.args.board.now c.unlink.new.self (Unlink c.in-Unlink.port) c.unlink.ensures.board)

pub returns-in-Link-clause-board : goal.returns-in-Link-clause-board
returns-in-Link-clause-board g c =
    let W = g.B.Board in
    subst (λ e. DoesEvents W c.args.board.now c.link.new.self (e ∷ [])) (sym c.in-Link.is) (does_one W c.args.board.now c.link.new.self (Link c.in-Link.port c.in-Link.node c.in-Link.provide) c.link.ensures.board)

pub returns-in-Remove-clause-board : goal.returns-in-Remove-clause-board
returns-in-Remove-clause-board g c =
    let W = g.B.Board in
    subst (λ e. DoesEvents W c.args.board.now c.remove.new.self (e ∷ [])) (sym c.in-Remove.is) (does_one W c.args.board.now c.remove.new.self (Remove c.in-Remove.node) c.remove.ensures.board)
