use Rattle.std.proofs.Common.{◌≡◌, ◌++◌, List}
use Rattle.txn_records.specs.declared.entry.Entry.{Entry}
use Rattle.change_board.specs.Doing.{DoesEvents}
use Rattle.change_board.specs.Steps.{HasRoomForAll, MayDoAll}
use Rattle.change_board.proofs.stepping.do_steps.Given as goal

abbrev pub invariant-loop-event : goal.invariant-loop-event
invariant-loop-event g l =
    (goal.iterator-loop-event g).can_next l.event-iterator ×
    (goal.iterator-loop-event g).is_finite l.event-iterator ×
    DoesEvents g.B.Board l.fn.board l.board l.yielded ×
    ((r : List Entry) × g.B.Board.stands_for l.board r × MayDoAll r l.event-iterator.rest.items) ×
    (l.yielded ++ l.event-iterator.rest.items ≡ l.fn.events.items) ×
    HasRoomForAll (g.B.Board.room l.board) l.event-iterator.rest.items
