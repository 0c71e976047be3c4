use Rattle.std.proofs.Common.{◌∙◌, ap, map}
use Rattle.step_board.specs.Seen.{seen}
use Rattle.step_board.proofs.Showing.{shows_nowhere}
use Rattle.step_board.proofs.table.NodeTable.new.Goals as goal

pub returns : goal.returns
returns c = record {
  shows = shows_nowhere _ _ _ _ (ap (λ g. g.state) (c.new-2.ensures ∙ c.empty.ensures)) (ap (map (seen _)) c.new-3.ensures.items) c.new-4.ensures.items c.in_ok-hints.ensures.empty;
}
