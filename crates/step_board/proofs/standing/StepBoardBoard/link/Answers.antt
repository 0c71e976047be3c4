use Rattle.std.proofs.Common.{refl}
use Rattle.quiesce_core.specs.declared.event.Event.TheVariants as event
use Rattle.step_board.proofs.StandingLemmas.{allowed_here, did_adds}
use Rattle.step_board.proofs.standing.StepBoardBoard.link.Goals as goal

pub link-requires : goal.link-requires
link-requires g c = allowed_here g.N.Nodes.shows g.N.Nodes.machine g.met.N.Nodes.machine_is c.args.self.now.nodes (event.Link c.args.port c.args.node c.args.provide) c.requires.may

pub returns-clause-board : goal.returns-clause-board
returns-clause-board g c =
    did_adds g.N.Nodes.shows g.N.Nodes.machine g.met.N.Nodes.machine_is c.args.self.now.nodes c.link.new.self (event.Link c.args.port c.args.node c.args.provide) refl c.requires.may c.link.ensures.shows
