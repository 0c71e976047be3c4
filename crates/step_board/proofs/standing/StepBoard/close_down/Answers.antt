use Rattle.step_board.specs.Playing.{played}
use Rattle.step_board.proofs.StandingLemmas.{parts_of}
use Rattle.step_board.proofs.standing.StepBoard.close_down.Goals as goal

pub returns-clause-merge : goal.returns-clause-merge
returns-clause-merge g c = parts_of g.N.Nodes.shows c.args.self.nodes (g.N.Nodes.logs c.args.self.nodes) (g.met.N.Nodes.logs_are c.args.self.nodes)

pub returns-clause-rounds : goal.returns-clause-rounds
returns-clause-rounds g c = λ r h. record { rounds = h.rounds; logs_are = g.met.N.Nodes.logs_are c.args.self.nodes (played r) h.shows }
