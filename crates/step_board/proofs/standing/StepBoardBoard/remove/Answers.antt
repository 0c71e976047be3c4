use Rattle.std.proofs.Common.{refl}
use Rattle.quiesce_core.specs.declared.event.Event.TheVariants as event
use Rattle.step_board.proofs.StandingLemmas.{allowed_here, did_adds}
use Rattle.step_board.proofs.standing.StepBoardBoard.remove.Goals as goal

pub remove-requires : goal.remove-requires
remove-requires g c = allowed_here g.N.Nodes.shows g.N.Nodes.machine g.met.N.Nodes.machine_is c.args.self.now.nodes (event.Remove c.args.slot) c.requires.may

pub returns-clause-board : goal.returns-clause-board
returns-clause-board g c =
    did_adds g.N.Nodes.shows g.N.Nodes.machine g.met.N.Nodes.machine_is c.args.self.now.nodes c.remove.new.self (event.Remove c.args.slot) refl c.requires.may c.remove.ensures.shows
