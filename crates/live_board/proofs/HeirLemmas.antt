-- Which node took over the state of each, as nodes are made.
use Rattle.std.proofs.Common.{◌≡◌, ◌∙◌, ◌⊎◌, ℕ, ◌<◌, Bool, true, false, cond, List, [], ◌∷◌, ◌++◌, length, set, Option, Some, None, refl, sym, ap, subst, ⊎_elim, inl, inr, get_or, length-set, get_or-set_same, get_or-set_other}
use Rattle.std.specs.Prelude.{slice_get, is_none, is_some, position, ◌≢◌, ◌==◌}
use Rattle.std.specs.List.{list_any}
use Rattle.std.proofs.lemmas.Bool.{both_ways, cases_eq, eq-eqb, eqb-true}
use Rattle.std.proofs.lemmas.List.Quantifiers.{position-Some}
use Rattle.std.proofs.lemmas.Option.{same_Some, slice_get-get_or}
use Rattle.std.proofs.lemmas.Map.Keys.{any_passes_from_place}
use Rattle.base.proofs.FindLaws.{is_some-position}
use Rattle.base.proofs.OptionLaws.{map_or_at, map_or_true}
use Rattle.base.proofs.PlaceLaws.{slice_get-front, slice_get-last, slice_get-snoc}
use Rattle.quiesce_core.specs.Sources.{SourcesAreGone}
use Rattle.quiesce_core.specs.State.{Configuration, is_live, slot}
use Rattle.quiesce_core.specs.declared.state.Slot.{Slot}
use Rattle.change_board.specs.Collecting.{heir_of, took_over}
use Rattle.live_board.specs.Heirs.{AreHeirs, with_heir}
use Rattle.live_board.specs.Lengths.{length_at, noted}

none_some : {A : Type 0} (o : Option ℕ) (x : ℕ) → o ≡ None → o ≡ Some x → A
none_some o x a b = absurd (cc)

-- ---- what is noted

module _ (heirs : List (Option ℕ)) (k i : ℕ) where
  noted_other : (n : ℕ) → n ≢ k → length_at (noted heirs k i) n ≡ length_at heirs n
  noted_other n other = by (is_none (length_at heirs k))
    where
      by : (t : Bool) → length_at (cond t (set heirs k (Some i)) heirs) n ≡ length_at heirs n
      by true = get_or-set_other heirs k n (Some i) None other
      by false = refl

  noted_own : k < length heirs → (length_at (noted heirs k i) k ≡ Some i) ⊎ (length_at (noted heirs k i) k ≡ length_at heirs k)
  noted_own few = by (is_none (length_at heirs k))
    where
      by : (t : Bool) → (length_at (cond t (set heirs k (Some i)) heirs) k ≡ Some i) ⊎ (length_at (cond t (set heirs k (Some i)) heirs) k ≡ length_at heirs k)
      by true = inl (get_or-set_same heirs k (Some i) None few)
      by false = inr refl

  noted_some : k < length heirs → (j : ℕ) × (length_at (noted heirs k i) k ≡ Some j)
  noted_some few = by (length_at heirs k) refl
    where
      by : (o : Option ℕ) → length_at heirs k ≡ o → (j : ℕ) × (length_at (cond (is_none o) (set heirs k (Some i)) heirs) k ≡ Some j)
      by None is = (i, get_or-set_same heirs k (Some i) None few)
      by (Some j) is = (j, is)

  pub noted_length : length (noted heirs k i) ≡ length heirs
  noted_length = by (is_none (length_at heirs k))
    where
      by : (t : Bool) → length (cond t (set heirs k (Some i)) heirs) ≡ length heirs
      by true = length-set heirs k (Some i)
      by false = refl

pub with_heir_length : (heirs : List (Option ℕ)) (from : Option ℕ) (i : ℕ) → length (with_heir heirs from i) ≡ length heirs
with_heir_length heirs None i = refl
with_heir_length heirs (Some k) i = noted_length heirs k i

-- one more node is made
module _ (c d : Configuration) (new : Slot) (made : d.slots ≡ c.slots ++ new ∷ []) (heirs : List (Option ℕ)) (h : AreHeirs c heirs) where
  old_there : (n : ℕ) (m : Slot) → slot c n ≡ Some m → slot d n ≡ Some m
  old_there n m at = ap (λ xs. slice_get xs n) made ∙ slice_get-front c.slots (new ∷ []) n m at

  slot_of_new : slot d (length c.slots) ≡ Some new
  slot_of_new = ap (λ xs. slice_get xs (length c.slots)) made ∙ slice_get-last c.slots new

  cases : (n : ℕ) (m : Slot) → slot d n ≡ Some m → ((n < length c.slots) × (slot c n ≡ Some m)) ⊎ ((n ≡ length c.slots) × (new ≡ m))
  cases n m at = slice_get-snoc c.slots new m n (sym (ap (λ xs. slice_get xs n) made) ∙ at)

  abbrev was : (n j : ℕ) → length_at heirs n ≡ Some j → (m : Slot) × (slot d j ≡ Some m) × (m.from ≡ Some n)
  was n j at = let t = h.took n j at in (t.0, old_there j t.0 t.1, t.2)

  heirs_first : new.from ≡ None → AreHeirs d heirs
  heirs_first none_ = record {
    took = was;
    known = λ n j m at is. ⊎_elim
        (λ (old : (j < length c.slots) × (slot c j ≡ Some m)). h.known n j m old.1 is)
        (λ (last : (j ≡ length c.slots) × (new ≡ m)). none_some new.from n none_ (ap (λ (x : Slot). x.from) last.1 ∙ is))
        (cases j m at);
  }

  heirs_next : (k : ℕ) → new.from ≡ Some k → k < length heirs → AreHeirs d (noted heirs k (length c.slots))
  heirs_next k from few = record {
    took = λ n j at. ⊎_elim
        (λ (same : n ≡ k). ⊎_elim
        (λ (set_ : length_at (noted heirs k (length c.slots)) k ≡ Some (length c.slots)).
        let one : length c.slots ≡ j = same_Some (length c.slots) j (sym set_ ∙ ap (length_at (noted heirs k (length c.slots))) (sym same) ∙ at) in
        (new, subst (λ i. slot d i ≡ Some new) one slot_of_new, from ∙ ap Some (sym same)))
        (λ (kept : length_at (noted heirs k (length c.slots)) k ≡ length_at heirs k).
        was n j (ap (length_at heirs) same ∙ sym kept ∙ ap (length_at (noted heirs k (length c.slots))) (sym same) ∙ at))
        (noted_own heirs k (length c.slots) few))
        (λ (other : n ≢ k). was n j (sym (noted_other heirs k (length c.slots) n other) ∙ at))
        (cases_eq n k);
    known = λ n j m at is. ⊎_elim
        (λ (same : n ≡ k). let s = noted_some heirs k (length c.slots) few in (s.0, ap (length_at (noted heirs k (length c.slots))) same ∙ s.1))
        (λ (other : n ≢ k). ⊎_elim
        (λ (old : (j < length c.slots) × (slot c j ≡ Some m)). let s = h.known n j m old.1 is in (s.0, noted_other heirs k (length c.slots) n other ∙ s.1))
        (λ (last : (j ≡ length c.slots) × (new ≡ m)). absurd (other (same_Some n k (sym is ∙ ap (λ (x : Slot). x.from) (sym last.1) ∙ from))))
        (cases j m at))
        (cases_eq n k);
  }

  pub heirs_made : (from : Option ℕ) → new.from ≡ from → ((k : ℕ) → from ≡ Some k → k < length heirs) → AreHeirs d (with_heir heirs from (length c.slots))
  heirs_made None is few = heirs_first is
  heirs_made (Some k) is few = heirs_next k is (few k refl)

-- ---- which node it is

module _ (c : Configuration) (gone : SourcesAreGone c) (heirs : List (Option ℕ)) (h : AreHeirs c heirs) where
  found : (n j : ℕ) → heir_of c n ≡ Some j → (m : Slot) × (slot c j ≡ Some m) × (m.from ≡ Some n)
  found n j at = by c.slots refl
    where
      by : (xs : List Slot) → c.slots ≡ xs → (m : Slot) × (slot c j ≡ Some m) × (m.from ≡ Some n)
      by [] is = none_some (heir_of c n) j (ap (position (took_over n)) is) at
      by (d ∷ xs) is =
          let p = position-Some (took_over n) c.slots j d at in
          let m = get_or c.slots j d in
          let f = map_or_true (λ k. k == n) m.from p.1 in
          (m, slice_get-get_or c.slots j d p.0, f.1 ∙ ap Some (eqb-true f.0 n f.2))

  pub heir_is : (n : ℕ) → length_at heirs n ≡ heir_of c n
  heir_is n = by (length_at heirs n) refl
    where
      found_none : (n j : ℕ) (m : Slot) → slot c j ≡ Some m → m.from ≡ Some n → heir_of c n ≡ None → ⊥
      found_none n j m at is none_ =
          both_ways (list_any (took_over n) c.slots) (sym (is_some-position (took_over n) c.slots) ∙ ap is_some none_)
          (any_passes_from_place (took_over n) c.slots j m at (map_or_at (λ k. k == n) m.from false n is ∙ eq-eqb n n refl))

      some : (n j : ℕ) (m : Slot) → slot c j ≡ Some m → m.from ≡ Some n → (o : Option ℕ) → heir_of c n ≡ o → Some j ≡ o
      some n j m at is None there = absurd (found_none n j m at is there)
      some n j m at is (Some i) there = let f = found n i there in ap Some (gone.once j i n m f.0 at f.1 is f.2)

      none_ : (n : ℕ) → length_at heirs n ≡ None → (o : Option ℕ) → heir_of c n ≡ o → None ≡ o
      none_ n is None there = refl
      none_ n is (Some i) there = let f = found n i there in let k = h.known n i f.0 f.1 f.2 in none_some (length_at heirs n) k.0 is k.1

      by : (o : Option ℕ) → length_at heirs n ≡ o → o ≡ heir_of c n
      by None is = none_ n is (heir_of c n) refl
      by (Some j) is = let t = h.took n j is in some n j t.0 t.1 t.2 (heir_of c n) refl

  -- a live node's state no other took over
  pub live_end : (n : ℕ) → is_live c n ≡ true → length_at heirs n ≡ None
  live_end n live = by (length_at heirs n) refl
    where
      by : (o : Option ℕ) → length_at heirs n ≡ o → o ≡ None
      by None is = refl
      by (Some j) is =
          let t = h.took n j is in
          let g = gone.gone j n t.0 t.1 t.2 in
          absurd (both_ways (is_live c n) (map_or_at (λ (m : Slot). m.live) (slot c n) false g.old g.there ∙ g.removed) live)
