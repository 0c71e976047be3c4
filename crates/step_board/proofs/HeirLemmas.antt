-- Which node took over the state of each, slot by slot.
use Rattle.std.proofs.Common.{◌≡◌, ◌∙◌, ◌+◌, ◌<◌, ◌≤◌, ℕ, Bool, true, false, cond, List, [], ◌∷◌, ◌++◌, Option, Some, None, length, take, set, refl, sym, ap, arith, ⊎_elim, get_or, get_or-set_same, get_or-set_other}
use Rattle.std.specs.Prelude.{◌==◌, ◌&&◌, is_none, is_some, nat_lt, option_and_then, position, slice_index_or}
use Rattle.std.specs.List.{position_or_len}
use Rattle.std.specs.Option.{option_map_or}
use Rattle.std.proofs.Math.Bool.{and-false}
use Rattle.std.proofs.lemmas.Bool.{cases_eq, eq-eqb, ne_eqb, cases_Bool, le-ltb, lt-ltb}
use Rattle.std.proofs.lemmas.List.{length-append, length-set, length-take, take_all, take_more}
use Rattle.std.proofs.lemmas.List.Folds.{position_or_len_push}
use Rattle.std.proofs.lemmas.Option.{get_or_from_slice_get, same_Some, slice_get-get_or, slice_get_within}
use Rattle.base.proofs.PlaceLaws.{slice_get-there}
use Rattle.change_board.specs.Collecting.{heir_of, took_over}
use Rattle.quiesce_core.specs.State.{Configuration, slot}
use Rattle.quiesce_core.specs.declared.state.Slot.{Slot}
use Rattle.step_board.specs.Heirs.{AreHeirs, heir_below, with_heir}

if_some : {A : Type 0} (o : Option A) → cond (is_some o) o None ≡ o
if_some None = refl
if_some (Some x) = refl

-- the first place that passes, with one element more
abbrev place_in : ℕ → ℕ → Option ℕ
place_in n l = cond (nat_lt n l) (Some n) None

place_within : (n l : ℕ) → n < l → place_in n l ≡ Some n
place_within n l h = ap (λ b. cond b (Some n) None) (lt-ltb n l h)

place_past : (n l : ℕ) → l ≤ n → place_in n l ≡ None
place_past n l h = ap (λ b. cond b (Some n) None) (le-ltb n l h)

module _ {A : Type 0} (p : A → Bool) where
  place_below : (xs : List A) → position_or_len p xs ≤ length xs
  place_below [] = omega arith
  place_below (x ∷ xs) = ⊎_elim (λ (e : p x ≡ true). rw e (omega arith)) (λ (e : p x ≡ false). rw e (omega (arith, place_below xs))) (cases_Bool (p x))

  module _ (xs : List A) (y : A) where
    abbrev at : ℕ
    at = position_or_len p xs

    abbrev l : ℕ
    l = length xs

    abbrev at_more : Bool → Bool → ℕ
    at_more past passes = cond past (l + cond passes 0 1) at

    more_is : position p (xs ++ y ∷ []) ≡ place_in (at_more (at == l) (p y)) (l + 1)
    more_is = ap (λ n. place_in n (length (xs ++ y ∷ []))) (position_or_len_push p xs y) ∙ ap (place_in (at_more (at == l) (p y))) (length-append xs (y ∷ []))

    at_end : at ≡ l → (b : Bool) → place_in (at_more true b) (l + 1) ≡ cond (is_some (place_in at l)) (place_in at l) (cond b (Some l) None)
    at_end e true = place_within (l + 0) (l + 1) (omega arith) ∙ ap (λ n. Some n) (omega arith) ∙ sym (ap (λ (o : Option ℕ). cond (is_some o) o (Some l)) (place_past at l (omega (arith, e))))
    at_end e false = place_past (l + 1) (l + 1) (omega arith) ∙ sym (ap (λ (o : Option ℕ). cond (is_some o) o None) (place_past at l (omega (arith, e))))

    before_end : at < l → (b : Bool) → place_in (at_more false b) (l + 1) ≡ cond (is_some (place_in at l)) (place_in at l) (cond b (Some l) None)
    before_end h b = place_within at (l + 1) (omega (arith, h)) ∙ sym (ap (λ (o : Option ℕ). cond (is_some o) o (cond b (Some l) None)) (place_within at l h))

    pub position_more : position p (xs ++ y ∷ []) ≡ cond (is_some (position p xs)) (position p xs) (cond (p y) (Some l) None)
    position_more = more_is ∙ ⊎_elim
        (λ (e : at ≡ l). ap (λ b. place_in (at_more b (p y)) (l + 1)) (eq-eqb at l e) ∙ at_end e (p y))
        (λ (ne : at ≡ l → ⊥). ap (λ b. place_in (at_more b (p y)) (l + 1)) (ne_eqb at l ne) ∙ before_end (omega (arith, ne, place_below xs)) (p y))
        (cases_eq at l)

-- the node in slot i is m
below_more : (c : Configuration) (i : ℕ) (m : Slot) → slot c i ≡ Some m → (k : ℕ) → heir_below c (i + 1) k ≡ cond (is_some (heir_below c i k)) (heir_below c i k) (cond (took_over k m) (Some i) None)
below_more c i m there k =
    ap (position (took_over k)) (take_more c.slots i m within)
    ∙ position_more (took_over k) (take i c.slots) (get_or c.slots i m)
    ∙ ap (λ (x : Slot). cond (is_some (heir_below c i k)) (heir_below c i k) (cond (took_over k x) (Some (length (take i c.slots))) None)) (get_or_from_slice_get c.slots i m m there)
    ∙ ap (λ n. cond (is_some (heir_below c i k)) (heir_below c i k) (cond (took_over k m) (Some n) None)) (length-take i c.slots ∙ omega (arith, within))
  where
    within : i < length c.slots
    within = slice_get_within c.slots i m there

module _ (heirs : List (Option ℕ)) (i : ℕ) where
  abbrev after : ℕ → Bool → List (Option ℕ)
  after j b = cond b (set heirs j (Some i)) heirs

  abbrev test : ℕ → Option ℕ → Bool
  test j o = nat_lt j (length heirs) && is_none o

  mine : (k : ℕ) → k < length heirs → (o : Option ℕ) → slice_index_or heirs k None ≡ o → slice_index_or (after k (test k (slice_index_or heirs k None))) k None ≡ cond (is_some o) o (Some i)
  mine k within None e =
      ap (λ b. slice_index_or (after k b) k None) (ap (test k) e ∙ ap (λ b. b && true) (lt-ltb k (length heirs) within)) ∙ get_or-set_same heirs k (Some i) None within
  mine k within (Some x) e = ap (λ b. slice_index_or (after k b) k None) (ap (test k) e ∙ and-false (nat_lt k (length heirs))) ∙ e

  others : (j k : ℕ) → (j ≡ k → ⊥) → (b : Bool) → slice_index_or (after j b) k None ≡ slice_index_or heirs k None
  others j k ne true = get_or-set_other heirs j k (Some i) None (λ same. ne (sym same))
  others j k ne false = refl

  -- what stands at a place once the node in slot i is noted
  noted_at : (source : Option ℕ) (k : ℕ) → k < length heirs
      → slice_index_or (with_heir heirs source i) k None
      ≡ cond (is_some (slice_index_or heirs k None)) (slice_index_or heirs k None) (cond (option_map_or (λ f. f == k) source false) (Some i) None)
  noted_at None k within = sym (if_some (slice_index_or heirs k None))
  noted_at (Some j) k within = ⊎_elim
      (λ (same : j ≡ k).
      ap (λ n. slice_index_or (after n (test n (slice_index_or heirs n None))) k None) same
      ∙ mine k within (slice_index_or heirs k None) refl
      ∙ ap (λ b. cond (is_some (slice_index_or heirs k None)) (slice_index_or heirs k None) (cond b (Some i) None)) (sym (eq-eqb j k same)))
      (λ (ne : j ≡ k → ⊥).
      others j k ne (test j (slice_index_or heirs j None))
      ∙ sym (if_some (slice_index_or heirs k None))
      ∙ ap (λ b. cond (is_some (slice_index_or heirs k None)) (slice_index_or heirs k None) (cond b (Some i) None)) (sym (ne_eqb j k ne)))
      (cases_eq j k)

  length_noted : (source : Option ℕ) → length (with_heir heirs source i) ≡ length heirs
  length_noted None = refl
  length_noted (Some j) = by (test j (slice_index_or heirs j None))
    where
      by : (b : Bool) → length (after j b) ≡ length heirs
      by true = length-set heirs j (Some i)
      by false = refl

pub heirs_next : (c : Configuration) (i : ℕ) (heirs : List (Option ℕ)) (source : Option ℕ) → AreHeirs c i heirs → i < length c.slots
    → source ≡ option_and_then (λ (m : Slot). m.from) (slot c i) → AreHeirs c (i + 1) (with_heir heirs source i)
heirs_next c i heirs source h within is =
    let m = slice_get-there c.slots i within in
    let from : source ≡ m.0.from = is ∙ ap (option_and_then (λ (x : Slot). x.from)) m.1 in
    record {
      one_a_node = length_noted heirs i source ∙ h.one_a_node;
      heirs_are = λ k below.
          noted_at heirs i source k (omega (arith, below, h.one_a_node))
          ∙ ap (λ o. cond (is_some o) o (cond (option_map_or (λ f. f == k) source false) (Some i) None)) (h.heirs_are k below)
          ∙ ap (λ (o : Option ℕ). cond (is_some (heir_below c i k)) (heir_below c i k) (cond (option_map_or (λ f. f == k) o false) (Some i) None)) from
          ∙ sym (below_more c i m.0 m.1 k);
    }

pub heirs_all : (c : Configuration) (i : ℕ) (heirs : List (Option ℕ)) → i ≡ length c.slots → AreHeirs c i heirs → (k : ℕ) → k < length c.slots → slice_index_or heirs k None ≡ heir_of c k
heirs_all c i heirs is h k below = h.heirs_are k below ∙ ap (position (took_over k)) (take_all i c.slots (omega (arith, is)))

-- what stands at a place of the whole list
pub heir_there : (c : Configuration) (heirs : List (Option ℕ)) (k : ℕ) (o : Option ℕ) → AreHeirs c (length c.slots) heirs → k < length c.slots → o ≡ slice_index_or heirs k o → o ≡ heir_of c k
heir_there c heirs k o h below is =
    let within : k < length heirs = omega (arith, below, h.one_a_node) in
    is ∙ same_Some (slice_index_or heirs k o) (slice_index_or heirs k None) (sym (slice_get-get_or heirs k o within) ∙ slice_get-get_or heirs k None within)
    ∙ heirs_all c (length c.slots) heirs refl h k below
