use Rattle.std.proofs.Common.{refl}
use Rattle.step_board.specs.Table as table
use Rattle.step_board.proofs.TableLemmas.{no_heir}
use Rattle.step_board.proofs.tables.NodeTableNodes.numbers.Goals as goal

pub unreachable-requires : goal.unreachable-requires
unreachable-requires c = no_heir (table.machine c.args.self.now).config c.args.slot c.requires.kept (c.in-None.ensures.handed.0 refl)
