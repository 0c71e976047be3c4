-- Laws of marks: where one is set, and which are set after one more is.
use Rattle.std.proofs.Common.{◌≡◌, ◌≢◌, ◌⊎◌, ◌↔◌, ◌∙◌, ◌<◌, ℕ, Bool, true, false, List, length, set, sym, subst, inl, inr, get_or-set_same, get_or-set_other}
use Rattle.std.specs.Prelude.{replicate}
use Rattle.std.proofs.Math.ListN.{get_or-eq_default}
use Rattle.std.proofs.Math.Logic.{⊎_elim}
use Rattle.std.proofs.lemmas.Bool.{cases_lt, false≢true}
use Rattle.std.proofs.lemmas.Bool.Decides.{eqb_tells}
use Rattle.std.proofs.lemmas.List.{get_or-replicate, length-replicate}
use Rattle.config_graph.specs.Marks.{IsMarked}

pub marked_within : (marks : List Bool) (i : ℕ) → IsMarked marks i → i < length marks
marked_within marks i h =
    elim (cases_lt i (length marks)) [
      | inl low ↦ low
      | inr high ↦ absurd (false≢true (sym (get_or-eq_default marks false high) ∙ h))
    ]

pub none_marked : (n i : ℕ) → ¬ IsMarked (replicate n false) i
none_marked n i h =
    let low : i < n = rw length-replicate at (marked_within (replicate n false) i h) in
    false≢true (sym (get_or-replicate n i false false low) ∙ h)

-- one more is set: it is marked, those before are, and no others
pub marked_here : (marks : List Bool) (n : ℕ) → n < length marks → IsMarked (set marks n true) n
marked_here marks n low = rw get_or-set_same

pub marked_kept : (marks : List Bool) (i n : ℕ) → IsMarked marks i → IsMarked (set marks n true) i
marked_kept marks i n h =
    elim (eqb_tells i n) [
      | inl same ↦
          let low : n < length marks = rw same.1 at (marked_within marks i h) in
          subst (IsMarked (set marks n true)) (sym same.1) (marked_here marks n low)
      | inr other ↦ let apart : i ≢ n = other.1 in rw get_or-set_other h
    ]

pub marked_only : (marks : List Bool) (i n : ℕ) → IsMarked (set marks n true) i → IsMarked marks i ⊎ (i ≡ n)
marked_only marks i n h =
    elim (eqb_tells i n) [
      | inl same ↦ inr same.1
      | inr other ↦ let apart : i ≢ n = other.1 in inl (rw get_or-set_other at h)
    ]

pub marked_more : (marks : List Bool) (n : ℕ) → n < length marks → (i : ℕ) → IsMarked (set marks n true) i ↔ (IsMarked marks i ⊎ (n ≡ i))
marked_more marks n low i = (to, ⊎_elim (marked_kept marks i n) here)
  where
    to : IsMarked (set marks n true) i → IsMarked marks i ⊎ (n ≡ i)
    to h =
        elim (marked_only marks i n h) [
          | inl before ↦ inl before
          | inr same ↦ inr (sym same)
        ]

    here : n ≡ i → IsMarked (set marks n true) i
    here same = subst (IsMarked (set marks n true)) same (marked_here marks n low)
