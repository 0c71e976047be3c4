-- Events of a change, done on a board one after the other.
use Rattle.std.specs.Prelude.{◌≡◌, List}
use Rattle.quiesce_core.specs.declared.event.Event.{Event}
use Rattle.txn_records.specs.Records.{Adds}
use Rattle.change_board.specs.declared.board.Board.{Ghosts as BoardWords}
use Rattle.change_board.specs.Steps.{Deed, entries_of, events_of}

-- these events were done, one after the other, with the sights that came with them
pub record DoesEvents {B : Type 0} (words : BoardWords B) (old new : B) (events : List Event) : Type 0 where
  pub deeds : List Deed
  pub events_are : events_of deeds ≡ events
  pub adds : Adds words.stands_for old new (entries_of deeds)
