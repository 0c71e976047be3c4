-- What a wait leaves where it is given up: roots.
use Rattle.std.specs.Prelude.{◌≡◌, ℕ, false, List, IsTrue}
use Rattle.quiesce_laws.specs.Lists.{In}
use Rattle.quiesce_word.specs.Words.{has_root, unpack}
use Rattle.txn_records.specs.declared.entry.Entry.{Entry}
use Rattle.txn_records.specs.Looks.{serial_of}
use Rattle.txn_records.specs.Notes.{is_noted}
use Rattle.change_board.specs.Scans.{Found}
use Rattle.change_engine.specs.declared.passivating.LeftRoot.{LeftRoot}

-- one that is left, by these looks: its port was closed and isn't noted as drained, and a look there loaded a word
-- with a root of that serial
pub record IsRootLeft (closed : List ℕ) (looks : List Found) (r : List Entry) (x : LeftRoot) : Type 0 where
  pub is_closed : In closed x.port
  pub not_noted : is_noted r x.port ≡ false
  pub word : ℕ
  pub look : In looks (record { port = x.port; word = word })
  pub root : IsTrue (has_root (unpack word))
  pub serial : serial_of word ≡ x.serial
