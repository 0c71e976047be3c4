-- To be believed (definitions.md).
-- How a change waits for its ports to drain, and what it tells where some don't.
use Rattle.std.specs.Prelude.{◌≡◌, ◌⊎◌, ⊤, ℕ, List, [], ◌∷◌, ◌++◌, map, length}
use Rattle.report_types.specs.declared.report.HistoryLine.{HistoryLine}
use Rattle.report_types.specs.declared.report.HistoryLine.TheVariants as to
use Rattle.change_board.specs.declared.board.Board.{Ghosts as BoardWords}
use Rattle.change_board.specs.Transcripts.{Item, said}
use Rattle.change_engine.specs.Growing.{Grew, Telling}
use Rattle.change_engine.specs.Passivating.{IsPassivation, Passivation, left_after, passivation_items}
use Rattle.change_engine.specs.declared.draining.PassError.{PassError}
use Rattle.change_engine.specs.declared.draining.PassError.TheVariants.{NoMemory, Pending}
use Rattle.change_engine.specs.declared.passivating.LeftRoot.{LeftRoot}

abbrev pub root_line : LeftRoot → HistoryLine
root_line x = to.Root x.port x.serial

abbrev pub root_item : LeftRoot → Item
root_item x = said (root_line x)

-- the rounds that were made and the roots that are left
abbrev pub pending_items : ℕ → List LeftRoot → List Item
pending_items within left = said (to.Pending within) ∷ map root_item left

-- they are told where some are left
abbrev pub left_lines : ℕ → List LeftRoot → List HistoryLine
left_lines within [] = []
left_lines within (x ∷ left) = to.Pending within ∷ map root_line (x ∷ left)

-- a passivation, and what was told of the roots that it left
pub record Waits {B : Type 0} (words : BoardWords B) (old new : Telling B) (ports : List ℕ) (within : ℕ) (left : List LeftRoot)
    : Type 0 where
  pub how : Passivation
  pub is_passivation : IsPassivation ports within how
  pub left_is : left ≡ left_after how.first how.rounds
  pub ends : (left ≡ []) ⊎ (length how.rounds ≡ within)
  pub grew : Grew words old new (passivation_items ports how ++ map said (left_lines within left))

-- what holds after a refusal, by what it says
abbrev pub WherePending : (ℕ → List LeftRoot → Type 0) → PassError → Type 0
WherePending P (Pending rounds left) = P rounds left
WherePending P NoMemory = ⊤

abbrev pub WhereNoMemory : Type 0 → PassError → Type 0
WhereNoMemory P (Pending rounds left) = ⊤
WhereNoMemory P NoMemory = P
