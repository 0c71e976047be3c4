use Rattle.change_script.specs.Tokens.{tokens}
use Rattle.change_script.proofs.MoveLemmas.{moves_go_on}
use Rattle.change_script.proofs.script_words.more_moves.Goals as goal

pub moves-preserved : goal.moves-preserved
moves-preserved c =
    moves_go_on (tokens c.args.line.now) (tokens c.moves.rest.now) (tokens c.in-Some.behind.now) (tokens c.in-Some-after_sign.behind.now) c.in-Some.ends c.moves.moves.items c.push.new.self.items
    c.in-Some.ensures.moved c.in-Some-after_sign.ensures.found c.in_ok-push.ensures.items c.moves.invariant
