-- A look at a port on a board.
use Rattle.std.specs.Prelude.{◌≡◌, ℕ, List, [], ◌∷◌}
use Rattle.txn_records.specs.declared.looking.Look.{Look}
use Rattle.txn_records.specs.declared.entry.Entry.{Entry}
use Rattle.txn_records.specs.declared.entry.Entry.TheVariants.{Looked}
use Rattle.txn_records.specs.Looks.{look_of}
use Rattle.txn_records.specs.Records.{Adds}

-- the entry keeps the word that the look loaded
pub record AddsLook {B : Type 0} (S : B → List Entry → Type 0) (old new : B) (port : ℕ) (look : Look) : Type 0 where
  pub word : ℕ
  pub found : look ≡ look_of word
  pub adds : Adds S old new (Looked port word ∷ [])
