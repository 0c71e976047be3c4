use Rattle.std.proofs.Common.{◌∙◌}
use Rattle.live_board.specs.Turning.{was_there}
use Rattle.live_board.proofs.seeing.see_node.Goals as goal

pub returns-clause-looked : goal.returns-clause-looked
returns-clause-looked g c = was_there c.in-Some.guest c.in-Some.ensures.taken.0 c.see_guest-done.ensures.done (c.put.ensures ∙ c.in-Some.ensures.taken.1)
