-- The lines of a start and of a change, put together of what is read of them.
use Rattle.std.proofs.Common.{◌≡◌, ◌∙◌, ℕ, Bool, true, false, List, ◌∷◌, ◌++◌, append_assoc, map, refl, sym, ap, subst, inl, inr}
use Rattle.std.specs.Prelude.{◌⊎◌, ℤ}
use Rattle.std.proofs.lemmas.List.{append_cancel_left}
use Rattle.quiesce_core.specs.declared.event.Event.{Event}
use Rattle.report_types.specs.declared.report.HistoryLine.{HistoryLine}
use Rattle.report_types.specs.declared.report.HistoryLine.TheVariants as to
use Rattle.merge_laws.specs.Reading.{IsChangeSo, IsCommittedSo, IsGivenUpSo}
use Rattle.report_follows.specs.Fronts.{HasNoFront, LeadsTo}
use Rattle.report_follows.specs.Readers.{EndsSo, IsEndedSo}

-- lines that are given, in another writing
pub led_by : (P : List HistoryLine → Type 0) (these those old new : List HistoryLine) → these ≡ those → P those → LeadsTo (λ (ls : List HistoryLine). ls ≡ these) old new
    → LeadsTo (λ (ls : List HistoryLine). (ls ≡ those) × P ls) old new
led_by P these those old new same here x = record { front = x.front; is = (x.is ∙ same, subst P (sym (x.is ∙ same)) here); parts = x.parts }

pub read_by : (these those old new : List HistoryLine) → these ≡ those → LeadsTo (λ (ls : List HistoryLine). ls ≡ these) old new → LeadsTo (λ (ls : List HistoryLine). ls ≡ those) old new
read_by these those old new same x = record { front = x.front; is = x.is ∙ same; parts = x.parts }

pub none_by : (these those old : List HistoryLine) → these ≡ those → HasNoFront (λ (ls : List HistoryLine). ls ≡ these) old → HasNoFront (λ (ls : List HistoryLine). ls ≡ those) old
none_by these those old same none front rest is are = none front rest (is ∙ sym same) are

module _ (name : List ℕ) (args : List ℤ) (within : ℕ) (closed : List ℕ) (events : List Event) where
  abbrev pub opening : List HistoryLine
  opening = to.Change name args ∷ map to.Close closed

  pub ended : (given_up : Bool) (lines rest left : List HistoryLine) → LeadsTo (λ (ls : List HistoryLine). ls ≡ opening) lines rest → LeadsTo (EndsSo given_up within closed events) rest left
      → LeadsTo (IsEndedSo given_up name args within closed events) lines left
  ended given_up lines rest left x y = record {
    front = x.front ++ y.front;
    is = record { rest = y.front; are = ap (λ ls. ls ++ y.front) x.is; ends = y.is };
    parts = x.parts ∙ ap (λ ls. x.front ++ ls) y.parts ∙ sym (append_assoc x.front y.front left);
  }

  pub not_opened : (lines : List HistoryLine) → HasNoFront (λ (ls : List HistoryLine). ls ≡ opening) lines → HasNoFront (IsChangeSo name args within closed events) lines
  not_opened lines none front rest z are =
      none opening (z.rest ++ rest) refl (are ∙ ap (λ ls. ls ++ rest) z.are ∙ append_assoc opening z.rest rest)

  pub not_ended : (lines rest : List HistoryLine) → LeadsTo (λ (ls : List HistoryLine). ls ≡ opening) lines rest → HasNoFront (EndsSo false within closed events) rest → HasNoFront (EndsSo true within closed events) rest
      → HasNoFront (IsChangeSo name args within closed events) lines
  not_ended lines rest x uncommitted kept front left z are =
      by z.ends
      (append_cancel_left opening rest (z.rest ++ left)
      (ap (λ ls. ls ++ rest) (sym x.is) ∙ sym x.parts ∙ are ∙ ap (λ ls. ls ++ left) z.are ∙ append_assoc opening z.rest left))
    where
      by : IsCommittedSo within closed events z.rest ⊎ IsGivenUpSo within closed z.rest → rest ≡ z.rest ++ left → ⊥
      by (inl e) at = uncommitted z.rest left e at
      by (inr e) at = kept z.rest left e at
