use Rattle.std.proofs.Common.{◌≡◌, ◌++◌, List, length}
use Rattle.change_board.specs.Transcripts.{Item}
use Rattle.change_engine.specs.Engines.{IsIdle}
use Rattle.change_plan_laws.specs.Committing.{made_in}
use Rattle.change_parts.specs.Carrying.{CanCarryOutAll}
use Rattle.change_transcript_laws.specs.Pieces.{config_at}
use Rattle.step_runner.proofs.RollLemmas.{Progress}
use Rattle.step_runner.proofs.rolling.roll.Given as goal

abbrev pub invariant-loop-part : goal.invariant-loop-part
invariant-loop-part g l =
    (goal.iterator-loop-part g).can_next l.part-iterator
    × (goal.iterator-loop-part g).is_finite l.part-iterator
    × ((t : List Item) → IsIdle g.B.Board l.fn.engine t → CanCarryOutAll l.fn.engine.graph (made_in (config_at t)) l.fn.parts.items
    → Progress g.B.Board l.fn.engine l.fn.name l.fn.args.items l.fn.rounds t l.yielded l.part-iterator.rest.items l.engine)
    × (l.yielded ++ l.part-iterator.rest.items ≡ l.fn.parts.items)
    × (l.number ≡ length l.yielded)
