-- To be believed (definitions.md).
-- A session over a reader and a sink, whose bytes may be known.
use Rattle.std.specs.Prelude.{◌≡◌, ◌<◌, ◌⊎◌, ℕ, true, false, List, [], ◌∷◌, ◌++◌, Option, IfSome, length, map, take}
use Rattle.base.specs.Count.{Rose}
use Rattle.cfg_io.specs.Sink.{with_bytes}
use Rattle.change_apply.specs.Applied.{Place, ending_of, heard}
use Rattle.change_apply.specs.Lines.{lines_of, said_by}
use Rattle.change_apply.specs.Sessions.{is_over}
use Rattle.change_apply.specs.declared.request.Request.{Request}
use Rattle.change_apply.specs.declared.said.Ending.{Ending}
use Rattle.change_apply.specs.declared.said.Ending.TheVariants as ending
use Rattle.change_apply.specs.declared.said.Said.TheVariants as says

abbrev pub Bytes : Type 0
Bytes = Option (List ℕ)

-- these are the first lines of what comes, and these are all
abbrev pub AreFirst : Bytes → List (List ℕ) → Type 0
AreFirst came lines = IfSome came (λ xs. (rest : List (List ℕ)) × (lines_of xs ≡ lines ++ rest))

abbrev pub AreAll : Bytes → List (List ℕ) → Type 0
AreAll came lines = IfSome came (λ xs. lines_of xs ≡ lines)

-- How far a session may come: lines were heard, the input was at its end behind them, or it couldn't be read on.
pub data Reached (r : Request) (came : Bytes) : Place → Type 0 where
  by_lines : (lines : List (List ℕ)) → AreFirst came lines → Reached r came (heard r (map said_by lines))
  by_end : (lines : List (List ℕ)) → AreAll came lines → Reached r came (heard r (map said_by lines ++ says.Over ∷ []))
  by_fault : (lines : List (List ℕ)) → AreFirst came lines → Reached r came (heard r (map said_by lines ++ says.Broken ∷ []))

-- it came so far and is over, and all that it wrote was taken
pub record HasEnded (r : Request) (came taken_before taken : Bytes) (e : Ending) : Type 0 where
  pub place : Place
  pub reached : Reached r came place
  pub over : is_over place.scene.phase ≡ true
  pub put : taken ≡ with_bytes taken_before place.text
  pub is : e ≡ ending_of place.answer

-- the sink failed: a front was taken of what is written there
pub record HasFailed (r : Request) (came taken_before taken : Bytes) : Type 0 where
  pub place : Place
  pub reached : Reached r came place
  pub front : ℕ
  pub some_left : front < length place.text
  pub put : taken ≡ with_bytes taken_before (take front place.text)

-- memory was wanted: it isn't over, and all was taken that was written so far
pub record HasStopped (r : Request) (came taken_before taken : Bytes) : Type 0 where
  pub place : Place
  pub reached : Reached r came place
  pub going : is_over place.scene.phase ≡ false
  pub put : taken ≡ with_bytes taken_before place.text

abbrev pub Ends : Request → Bytes → Bytes → Bytes → Ending → Type 0
Ends r came taken_before taken ending.NoMemory = (taken ≡ taken_before) ⊎ HasStopped r came taken_before taken
Ends r came taken_before taken ending.Unwritten = HasFailed r came taken_before taken
Ends r came taken_before taken e = HasEnded r came taken_before taken e

-- How often the sink failed, before and after: its count of faults rose exactly where that ended the session.
abbrev pub CountsFaults : ℕ → ℕ → Ending → Type 0
CountsFaults faults faults' ending.Unwritten = Rose faults faults'
CountsFaults faults faults' e = faults' ≡ faults
