-- To be believed (definitions.md).
-- Events of a change that are done on a board and told in the history.
use Rattle.std.specs.Prelude.{◌≡◌, List, ◌∷◌, ◌++◌, map, flat_map}
use Rattle.std.specs.Option.{option_map_or}
use Rattle.change_spec.specs.Members.{line_of}
use Rattle.report_types.specs.declared.report.HistoryLine.{HistoryLine}
use Rattle.quiesce_core.specs.declared.event.Event.{Event}
use Rattle.txn_records.specs.declared.entry.Entry.TheVariants.{Did}
use Rattle.change_board.specs.declared.board.Board.{Ghosts as BoardWords}
use Rattle.change_board.specs.Sights.{Sight, sight_entry}
use Rattle.change_board.specs.Steps.{Deed, events_of}
use Rattle.change_board.specs.Transcripts.{Item, silent, told, said}
use Rattle.change_engine.specs.Growing.{Grew, Telling}

-- an event with its line, if it has one
abbrev pub event_item : Event → Item
event_item e = option_map_or (told (Did e)) (line_of e) (silent (Did e))

abbrev pub sight_item : Sight → Item
sight_item s = silent (sight_entry s)

abbrev pub deed_items : Deed → List Item
deed_items d = event_item d.event ∷ map sight_item d.sights

-- These events were done and told, in order, behind some lines that are no events and before others.
pub record CarriesOut {B : Type 0} (words : BoardWords B) (old new : Telling B) (head : List HistoryLine) (events : List Event)
    (tail : List HistoryLine) : Type 0 where
  pub deeds : List Deed
  pub events_are : events_of deeds ≡ events
  pub grew : Grew words old new (map said head ++ flat_map deed_items deeds ++ map said tail)
