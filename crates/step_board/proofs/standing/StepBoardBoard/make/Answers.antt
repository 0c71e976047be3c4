use Rattle.std.proofs.Common.{[]}
use Rattle.step_board.proofs.StandingLemmas.{made_adds, make_here}
use Rattle.step_board.proofs.standing.StepBoardBoard.make.Goals as goal

pub make-requires-clause-may : goal.make-requires-clause-may
make-requires-clause-may g c = make_here g.N.Nodes.shows g.N.Nodes.machine g.met.N.Nodes.machine_is c.args.self.now.nodes c.args.node c.args.from c.requires.may

pub returns-clause-board : goal.returns-clause-board
returns-clause-board g c =
    record {
      sights = [];
      adds = made_adds g.N.Nodes.shows g.N.Nodes.machine g.met.N.Nodes.machine_is c.args.self.now.nodes c.make.new.self c.args.node c.args.from c.requires.may c.make.ensures.shows;
    }
