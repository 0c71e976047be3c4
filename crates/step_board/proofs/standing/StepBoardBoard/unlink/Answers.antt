use Rattle.std.proofs.Common.{refl}
use Rattle.quiesce_core.specs.declared.event.Event.TheVariants as event
use Rattle.step_board.proofs.StandingLemmas.{allowed_here, did_adds}
use Rattle.step_board.proofs.standing.StepBoardBoard.unlink.Goals as goal

pub unlink-requires : goal.unlink-requires
unlink-requires g c = allowed_here g.N.Nodes.shows g.N.Nodes.machine g.met.N.Nodes.machine_is c.args.self.now.nodes (event.Unlink c.args.port) c.requires.may

pub returns-clause-board : goal.returns-clause-board
returns-clause-board g c =
    did_adds g.N.Nodes.shows g.N.Nodes.machine g.met.N.Nodes.machine_is c.args.self.now.nodes c.unlink.new.self (event.Unlink c.args.port) refl c.requires.may c.unlink.ensures.shows
