-- Transcripts of a board of one thread: the worlds behind their items.
use Rattle.std.specs.Prelude.{List, ◌++◌}
use Rattle.change_board.specs.Transcripts.{Item, entries, lines}
use Rattle.change_spec.specs.Serial.{Plays, StopsAt}
use Rattle.change_spec.specs.Statements.{Statement}
use Rattle.step_board.specs.Playing.{HasWholeRounds, played}
use Rattle.node_turn_laws.specs.World.{World}

-- the world behind these items
abbrev pub world_behind : List Item → World
world_behind t = played (entries t)

-- nodes took turns in whole rounds alone
abbrev pub AreByRounds : List Item → Type 0
AreByRounds t = HasWholeRounds (entries t)

-- rounds make these items of the statement, behind these
abbrev pub IsPlayedBehind : List Item → Statement → List Item → Type 0
IsPlayedBehind before s t = Plays (lines before) (world_behind before) s (lines t) (world_behind (before ++ t))

-- and those of the stop
abbrev pub StopsBehind : List Item → List Item → Type 0
StopsBehind before t = StopsAt (world_behind before) (lines t) (world_behind (before ++ t))
