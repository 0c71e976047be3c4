use Rattle.std.proofs.Common.{◌∙◌}
use Rattle.live_board.specs.Turning.{gave}
use Rattle.live_board.proofs.turning.give_turn.Goals as goal

pub returns : goal.returns
returns g c =
    gave c.in-Some.guest c.turn-turn.new.self c.in_ok-turn.field-0 c.in-Some.ensures.taken.0 c.in_ok-turn.ensures.turned c.in_ok-turn.ensures.hints c.has_moved.ensures (c.put.ensures ∙ c.in-Some.ensures.taken.1)
