-- Ways: where members lead that come one after the other.
use Rattle.std.specs.Prelude.{◌≡◌, ◌<◌, ◌≤◌, ◌↔◌, ℕ, Bool, true, false, List, fold, IsTrue}
use Rattle.merge_laws.specs.Guarded.{Left, can_go, go, left, may_go}

pub record LeadsOn (x y : Left) : Type 0 where
  pub way : List ℕ
  pub can : can_go x way ≡ true
  pub to : fold go x way ≡ y

abbrev pub GoesOnNoMore : Left → Type 0
GoesOnNoMore x = (c : ℕ) → may_go x c ≡ false

-- the history and so many logs were tried once: a member came, or none of them may
pub record IsSwept (old : Left) (came : Bool) (new : Left) (logs : ℕ) : Type 0 where
  pub leads : LeadsOn old new
  pub fewer : came ≡ true → left new < left old
  pub no_more : came ≡ false → (c : ℕ) → c ≤ logs → may_go new c ≡ false

-- each chain was tried once: a member came, or none may
pub record IsPassed (old : Left) (came : Bool) (new : Left) : Type 0 where
  pub leads : LeadsOn old new
  pub fewer : came ≡ true → left new < left old
  pub no_more : came ≡ false → GoesOnNoMore new

-- some way from there goes on no more, and this says whether nothing is left behind it
pub record IsDecidedBy (x : Left) (ended : Bool) : Type 0 where
  pub way : List ℕ
  pub can : can_go x way ≡ true
  pub no_more : GoesOnNoMore (fold go x way)
  pub ends : IsTrue ended ↔ (left (fold go x way) ≡ 0)
