-- Inboxes that are all empty.
use Rattle.std.proofs.Common.{◌≡◌, ℕ, ◌≤◌, List, replicate, length, sym, get_or, subst}
use Rattle.std.proofs.Common.{inl, inr}
use Rattle.std.proofs.lemmas.Bool.{cases_lt}
use Rattle.std.proofs.lemmas.List.{get_or-replicate, get_or_past, length-replicate}
use Rattle.port_queue.specs.Plain.{Box, box_of, empty_box}

same_boxes : (n k : ℕ) → get_or (replicate n empty_box) k empty_box ≡ empty_box
same_boxes n k =
    elim (cases_lt k n) [
      | inl within ↦ get_or-replicate n k empty_box empty_box within
      | inr past ↦ get_or_past (replicate n empty_box) k empty_box (subst (λ m. m ≤ k) (sym (length-replicate n empty_box)) past)
    ]

pub empty_boxes : (boxes : List Box) (k n : ℕ) → boxes ≡ replicate n empty_box → box_of boxes k ≡ empty_box
empty_boxes boxes k n e = subst (λ (bs : List Box). get_or bs k empty_box ≡ empty_box) (sym e) (same_boxes n k)

pub number_of_boxes : (boxes : List Box) (n : ℕ) → boxes ≡ replicate n empty_box → length boxes ≡ n
number_of_boxes boxes n e = subst (λ (bs : List Box). length bs ≡ n) (sym e) (length-replicate n empty_box)
