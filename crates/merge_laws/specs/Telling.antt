-- What a history tells of its closes, by its lines alone: of each closed port, before it is reopened.
use Rattle.std.specs.Prelude.{◌≡◌, ℕ, Bool, true, false, ◌==◌, List, ◌∷◌, ◌++◌}
use Rattle.std.specs.List.{list_any}
use Rattle.report_types.specs.declared.report.HistoryLine.{HistoryLine}
use Rattle.report_types.specs.declared.report.HistoryLine.TheVariants as to
use Rattle.merge_laws.specs.Guarded.{tells}

abbrev pub reopens_there : ℕ → HistoryLine → Bool
reopens_there p (to.Reopen q) = q == p
reopens_there p _ = false

-- behind a close, before the port is reopened, there is a line that tells its serial
pub record IsToldOf (p : ℕ) (r : List HistoryLine) : Type 0 where
  pub between : List HistoryLine
  pub line : HistoryLine
  pub later : List HistoryLine
  pub parts : r ≡ between ++ line ∷ later
  pub tells_it : tells p line ≡ true
  pub untold : list_any (tells p) between ≡ false
  pub shut : list_any (reopens_there p) between ≡ false

-- before a line that tells a root, and behind its close, the port isn't reopened, nor told of otherwise
pub record IsShutBy (p : ℕ) (c : List HistoryLine) : Type 0 where
  pub front : List HistoryLine
  pub between : List HistoryLine
  pub parts : c ≡ front ++ to.Close p ∷ between
  pub untold : list_any (tells p) between ≡ false
  pub shut : list_any (reopens_there p) between ≡ false

pub record IsTold (history : List HistoryLine) : Type 0 where
  pub closes : (p : ℕ) (c r : List HistoryLine) → history ≡ c ++ to.Close p ∷ r → IsToldOf p r
  pub roots : (p k : ℕ) (c r : List HistoryLine) → history ≡ c ++ to.Root p k ∷ r → IsShutBy p c
