-- The parts of a change, carried out one after the other.
use Rattle.std.specs.Prelude.{◌≡◌, ◌+◌, ⊤, ℕ, ℤ, List, ◌++◌, map, flat_map, length, slice_get, Some, take, false}
use Rattle.std.specs.List.{list_any}
use Rattle.base.specs.Each.{Each}
use Rattle.change_spec.specs.Members.{is_pending}
use Rattle.change_spec.specs.declared.steps.Replacement.{Replacement}
use Rattle.change_board.specs.declared.board.Board.{Ghosts as BoardWords}
use Rattle.change_board.specs.Transcripts.{Item, lines}
use Rattle.change_engine.specs.Engines.{IsIdle}
use Rattle.change_engine.specs.declared.engine.Engine.{Engine}
use Rattle.change_engine.specs.declared.passivating.LeftRoot.{LeftRoot}
use Rattle.change_parts.specs.Parts.{stage_after}
use Rattle.change_parts.specs.declared.part.Part.{Part}
use Rattle.change_runner.specs.Replacing.{HasGivenUp}
use Rattle.change_transcript_laws.specs.Pieces.{AreChangeItems}
use Rattle.step_runner.specs.declared.rolling.RollError.{RollError}
use Rattle.step_runner.specs.declared.rolling.RollError.TheVariants.{NoMemory, Pending}

-- the change that a part is
abbrev pub replacement : List ℕ → List ℤ → ℕ → Part → Replacement
replacement name args within p =
    record { name = name; args = args; graph = p.next; moves = p.moves; plan = p.plan; within = within }

-- what holds after a refusal that names a part and the roots that are left
abbrev pub WherePending : (ℕ → List LeftRoot → Type 0) → RollError → Type 0
WherePending P (Pending part left) = P part left
WherePending P NoMemory = ⊤

-- a part that was carried out, with its items
pub record Rolled : Type 0 where
  pub part : Part
  pub items : List Item

abbrev pub items_of : List Rolled → List Item
items_of rs = flat_map (λ (r : Rolled). r.items) rs

abbrev pub IsRolled : List ℕ → List ℤ → ℕ → List Item → List Rolled → Rolled → Type 0
IsRolled name args within t before r =
    AreChangeItems (t ++ items_of before) name args r.part.next within r.part.moves r.items
    × (list_any is_pending (lines r.items) ≡ false)

-- all of these parts were carried out, behind these items: the last stage stands
pub record HasRolled {B : Type 0} (words : BoardWords B) (old new : Engine B) (name : List ℕ) (args : List ℤ) (within : ℕ)
    (t : List Item) (ps : List Part) : Type 0 where
  pub pieces : List Rolled
  pub parts_are : map (λ (r : Rolled). r.part) pieces ≡ ps
  pub each : Each (IsRolled name args within t) pieces
  pub idle : IsIdle words new (t ++ items_of pieces)
  pub graph : new.graph ≡ stage_after old.graph ps (length ps)

-- Those before this part, counted from 1, were carried out, and it was given up with these roots left: the stage before
-- it stands.
pub record HasRolledUpTo {B : Type 0} (words : BoardWords B) (old new : Engine B) (name : List ℕ) (args : List ℤ)
    (within : ℕ) (t : List Item) (ps : List Part) (number : ℕ) (left : List LeftRoot) : Type 0 where
  pub count : ℕ
  pub number_is : number ≡ count + 1
  pub mid : Engine B
  pub before : HasRolled words old mid name args within t (take count ps)
  pub part : Part
  pub there : slice_get ps count ≡ Some part
  pub gave_up : HasGivenUp words mid new (t ++ items_of before.pieces) (replacement name args within part) left
  pub graph : new.graph ≡ stage_after old.graph ps count
