use Rattle.std.proofs.Math.Logic.{∥∥₁_map}
use Rattle.std.proofs.Common.{refl}
use Rattle.step_board.specs.Table as table
use Rattle.step_board.proofs.TableLemmas.{no_heir_of_live}
use Rattle.step_board.proofs.tables.NodeTableNodes.is_done.Goals as goal

pub unreachable-requires : goal.unreachable-requires
unreachable-requires c =
    no_heir_of_live (table.machine c.args.self.now) c.args.slot c.requires.live (∥∥₁_map c.requires.some (λ h. (h.0, h.1.reached, h.1.machine))) (c.in-None.ensures.handed.0 refl)
