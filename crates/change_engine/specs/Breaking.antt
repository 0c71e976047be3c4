-- How calls break off for want of memory: a run behind looks and scans alone; a wait in a scan, behind closes, looks
-- and rounds that left roots. What was closed stays closed.
use Rattle.std.specs.Prelude.{◌≡◌, ◌⊎◌, ◌<◌, ℕ, List, [], ◌++◌, length, IsTrue}
use Rattle.quiesce_laws.specs.Lists.{In}
use Rattle.quiesce_core.specs.Runs.{state_after}
use Rattle.quiesce_core.specs.State.{Configuration, gate}
use Rattle.txn_records.specs.Entries.{events_in}
use Rattle.txn_records.specs.declared.entry.Entry.{Entry}
use Rattle.txn_records.specs.Records.{IsRecordCut}
use Rattle.txn_records.specs.Records as records
use Rattle.change_board.specs.declared.board.Board.{Ghosts as BoardWords}
use Rattle.change_board.specs.Transcripts.{entries, lines}
use Rattle.change_engine.specs.Growing.{Telling}
use Rattle.change_engine.specs.Passivating.{IsPassivation, Passivation, left_after, passivation_items}
use Rattle.change_engine.specs.Stopping.{stop_items}

-- No event of the change was done: the board stands for what was seen, looks, sights and the marks of scans, or a
-- call of it broke off behind that. So the configuration is as it was.
pub record BrokeInRun {B : Type 0} (words : BoardWords B) (old new : B) : Type 0 where
  pub seen : List Entry
  pub none_done : events_in seen ≡ []
  pub stands : (r : List Entry) → words.stands_for old r → words.stands_for new (r ++ seen) ⊎ words.broke_off new (r ++ seen)

-- a call broke off, behind all that is recorded and told
pub record BrokeInScan {B : Type 0} (words : BoardWords B) (old new : Telling B) : Type 0 where
  pub broke : (r : List Entry) → words.stands_for old.board r → words.broke_off new.board r
  pub told_none : new.history ≡ old.history

-- the call was one of a passivation's scans: rounds were to make still, and each look so far left roots
pub record BrokeInRound {B : Type 0} (words : BoardWords B) (old new : Telling B) (ports : List ℕ) (within : ℕ) : Type 0 where
  pub how : Passivation
  pub is_passivation : IsPassivation ports within how
  pub fewer : length how.rounds < within
  pub some_left : left_after how.first how.rounds ≡ [] → ⊥
  pub broke : (r : List Entry) → words.stands_for old.board r → words.broke_off new.board (r ++ entries (passivation_items ports how))
  pub told_all : new.history ≡ old.history ++ lines (passivation_items ports how)

-- A stop had begun: what it did and told, behind its line, is a passivation of these ports and no more. The board
-- stands for it, or a call of it broke off behind it.
pub record BrokeInStop {B : Type 0} (words : BoardWords B) (old new : Telling B) (ports : List ℕ) (within : ℕ) : Type 0 where
  pub how : Passivation
  pub is_passivation : IsPassivation ports within how
  pub stands : (r : List Entry) → words.stands_for old.board r
      → words.stands_for new.board (r ++ entries (passivation_items ports how))
      ⊎ words.broke_off new.board (r ++ entries (passivation_items ports how))
  pub told_all : new.history ≡ old.history ++ lines (stop_items ports how)

-- the port's gate is closed behind all that was done until a call broke off on a board with this record
abbrev pub IsClosedStill : List Entry → ℕ → Type 0
IsClosedStill r p =
    (w : IsRecordCut r) → IsTrue (gate (state_after (records.events w.moments ++ w.later)).config p).closed

-- a port that was closed by now: one of these, or one whose gate was closed before
abbrev pub IsClosedOr : List ℕ → Configuration → ℕ → Type 0
IsClosedOr ports c p = In ports p ⊎ IsTrue (gate c p).closed
