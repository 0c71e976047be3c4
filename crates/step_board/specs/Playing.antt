-- How a board of one thread plays a record: an event of the change is done, and at the mark of a scan each live node
-- takes its turn, in the order of slots.
use Rattle.std.specs.Prelude.{◌≡◌, true, List, None, fold}
use Rattle.base.specs.Each.{Each}
use Rattle.txn_records.specs.declared.entry.Entry.{Entry}
use Rattle.txn_records.specs.declared.entry.Entry.TheVariants.{Did, Looked, Sighted, Scanned}
use Rattle.quiesce_core.specs.Doers.{is_of_change}
use Rattle.quiesce_core.specs.Rules.{denial}
use Rattle.quiesce_core.specs.Runs.{done_by}
use Rattle.quiesce_core.specs.Words.{word_of}
use Rattle.node_turn_laws.specs.Round.{round}
use Rattle.node_turn_laws.specs.World.{World, nowhere, with_event}

abbrev pub play : World → Entry → World
play w (Did e) = with_event w e
play w (Looked p v) = w
play w (Sighted n es) = w
play w (Scanned begins moved) = (round begins w).world

-- the world behind a record, from where nothing is made
abbrev pub played : List Entry → World
played r = fold play nowhere r

-- what an entry says is so in the world in which it is played
abbrev pub IsSoIn : World → Entry → Type 0
IsSoIn w (Did e) = (is_of_change e ≡ true) × (denial w.machine e ≡ None)
IsSoIn w (Looked p v) = v ≡ word_of w.machine p
IsSoIn w (Sighted n es) = es ≡ done_by n w.events
IsSoIn w (Scanned begins moved) = moved ≡ (round begins w).moved

-- each entry of a record says what is so: nodes took turns in whole rounds alone, at the marks of scans
abbrev pub IsSoAt : List Entry → Entry → Type 0
IsSoAt before x = IsSoIn (played before) x

abbrev pub HasWholeRounds : List Entry → Type 0
HasWholeRounds r = Each IsSoAt r
