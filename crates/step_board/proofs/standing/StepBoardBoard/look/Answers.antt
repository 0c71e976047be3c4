use Rattle.std.proofs.Common.{◌<◌, ◌∙◌, length, ap, subst}
use Rattle.txn_records.specs.Looks.{look_of}
use Rattle.quiesce_core.specs.Words.{word_of}
use Rattle.step_board.specs.Agreeing.{config_at}
use Rattle.step_board.proofs.StandingLemmas.{look_adds}
use Rattle.step_board.proofs.standing.StepBoardBoard.look.Goals as goal

pub word-requires : goal.word-requires
word-requires g c =
    let h = c.requires.made in
    subst (λ d. c.args.port < length d.gates) (config_at g.N.Nodes.shows g.N.Nodes.machine g.met.N.Nodes.machine_is c.args.self.now.nodes h.0 h.1) h.2

pub returns-clause-board : goal.returns-clause-board
returns-clause-board g c =
    record {
      word = word_of (g.N.Nodes.machine c.args.self.now.nodes) c.args.port;
      found = c.of.ensures ∙ ap look_of c.word.ensures;
      adds = look_adds g.N.Nodes.shows g.N.Nodes.machine g.met.N.Nodes.machine_is c.args.self.now.nodes c.args.port;
    }
