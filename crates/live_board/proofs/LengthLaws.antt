-- The lengths of what was seen, as more is seen.
use Rattle.std.proofs.Common.{◌≡◌, ◌∙◌, ℕ, zero, suc, ◌+◌, ◌<◌, Bool, true, false, cond, List, [], ◌∷◌, ◌++◌, append_assoc, length, map, set, Option, Some, None, refl, sym, ap, subst, ⊎_elim, arith, length-set, get_or-set_same, get_or-set_other}
use Rattle.std.specs.Prelude.{◌==◌, find, is_none, option_map, slice_index_or, take}
use Rattle.std.proofs.lemmas.Bool.{cases_eq, eq-eqb, ne_eqb}
use Rattle.change_board.specs.Sights.{Sight, seen_in}
use Rattle.quiesce_core.specs.declared.event.Event.{Event}
use Rattle.live_board.specs.Lengths.{AreLengths, length_at, length_in, noted}
use Rattle.base.proofs.OptionLaws.{None-from_map}

abbrev at_slot : ℕ → Sight → Bool
at_slot n s = s.slot == n

-- what comes first is found
pub seen_first : (a b : List Sight) (n : ℕ) (es : List Event) → seen_in a n ≡ Some es → seen_in (a ++ b) n ≡ Some es
seen_first [] b n es at = absurd (cc)
seen_first (s ∷ a) b n es at = by (seen_first a b n es) (at_slot n s) at
  where
    by : (seen_in a n ≡ Some es → seen_in (a ++ b) n ≡ Some es) → (t : Bool) → option_map (λ (x : Sight). x.events) (cond t (Some s) (find (at_slot n) a)) ≡ Some es
        → option_map (λ (x : Sight). x.events) (cond t (Some s) (find (at_slot n) (a ++ b))) ≡ Some es
    by rest true h = h
    by rest false h = rest h

pub seen_next : (a b : List Sight) (n : ℕ) → seen_in a n ≡ None → seen_in (a ++ b) n ≡ seen_in b n
seen_next [] b n at = refl
seen_next (s ∷ a) b n at = by (seen_next a b n) (at_slot n s) at
  where
    by : (seen_in a n ≡ None → seen_in (a ++ b) n ≡ seen_in b n) → (t : Bool) → option_map (λ (x : Sight). x.events) (cond t (Some s) (find (at_slot n) a)) ≡ None
        → option_map (λ (x : Sight). x.events) (cond t (Some s) (find (at_slot n) (a ++ b))) ≡ seen_in b n
    by rest true h = absurd (cc)
    by rest false h = rest h

one_seen : (s : Sight) (n : ℕ) → seen_in (s ∷ []) n ≡ cond (at_slot n s) (Some s.events) None
one_seen s n = by (at_slot n s)
  where
    by : (t : Bool) → option_map (λ (x : Sight). x.events) (cond t (Some s) None) ≡ cond t (Some s.events) None
    by true = refl
    by false = refl

some_not_none : {A B : Type 0} (x : A) → Some x ≡ None → B
some_not_none x h = absurd (cc)

-- one more sight
pub lengths_noted : (before : List Sight) (lengths : List (Option ℕ)) (s : Sight) → AreLengths before lengths → AreLengths (before ++ s ∷ []) (noted lengths s.slot (length s.events))
lengths_noted before lengths s h = by (length_at lengths s.slot) refl
  where
    at_old : (n : ℕ) → n < length lengths → (o : Option ℕ) → length_at lengths n ≡ o → ((o ≡ None) → length_at lengths n ≡ length_in (before ++ s ∷ []) n) → length_at lengths n ≡ length_in (before ++ s ∷ []) n
    at_old n few None is none_ = none_ refl
    at_old n few (Some k) is none_ = seen (seen_in before n) refl
      where
        seen : (o : Option (List Event)) → seen_in before n ≡ o → length_at lengths n ≡ length_in (before ++ s ∷ []) n
        seen None at = some_not_none k (sym is ∙ h n few ∙ ap (option_map length) at)
        seen (Some es) at = h n few ∙ ap (option_map length) (at ∙ sym (seen_first before (s ∷ []) n es at))

    unseen : (n : ℕ) → n < length lengths → length_at lengths n ≡ None → length_in (before ++ s ∷ []) n ≡ option_map length (cond (at_slot n s) (Some s.events) None)
    unseen n few is = ap (option_map length) (seen_next before (s ∷ []) n (None-from_map length (seen_in before n) (sym (h n few) ∙ is)) ∙ one_seen s n)

    by : (o : Option ℕ) → length_at lengths s.slot ≡ o → AreLengths (before ++ s ∷ []) (cond (is_none o) (set lengths s.slot (Some (length s.events))) lengths)
    by (Some k) is n few = at_old n few (length_at lengths n) refl (λ none_. ⊎_elim
        (λ (same : s.slot ≡ n). some_not_none k (sym is ∙ ap (length_at lengths) same ∙ none_))
        (λ (other : s.slot ≡ n → ⊥). none_ ∙ sym (unseen n few none_ ∙ ap (λ t. option_map length (cond t (Some s.events) None)) (ne_eqb s.slot n other)))
        (cases_eq s.slot n))
    by None is n few' =
        let few : n < length lengths = omega (arith, few', length-set lengths s.slot (Some (length s.events))) in
        ⊎_elim
        (λ (same : s.slot ≡ n).
        let none_ : length_at lengths n ≡ None = ap (length_at lengths) (sym same) ∙ is in
        ap (λ i. length_at (set lengths s.slot (Some (length s.events))) i) (sym same)
        ∙ get_or-set_same lengths s.slot (Some (length s.events)) None (subst (λ i. i < length lengths) (sym same) few)
        ∙ sym (unseen n few none_ ∙ ap (λ t. option_map length (cond t (Some s.events) None)) (eq-eqb s.slot n same)))
        (λ (other : s.slot ≡ n → ⊥).
        get_or-set_other lengths s.slot n (Some (length s.events)) None (λ e. other (sym e))
        ∙ at_old n few (length_at lengths n) refl (λ none_. none_ ∙ sym (unseen n few none_ ∙ ap (λ t. option_map length (cond t (Some s.events) None)) (ne_eqb s.slot n other))))
        (cases_eq s.slot n)

pub noted_count : (lengths : List (Option ℕ)) (n k : ℕ) → length (noted lengths n k) ≡ length lengths
noted_count lengths n k = by (is_none (length_at lengths n))
  where
    by : (t : Bool) → length (cond t (set lengths n (Some k)) lengths) ≡ length lengths
    by true = length-set lengths n (Some k)
    by false = refl

grown : {A : Type 0} (f : A → Sight) (xs : List A) (k : ℕ) (x : A) → k < length xs → x ≡ slice_index_or xs k x → map f (take (suc k) xs) ≡ map f (take k xs) ++ f x ∷ []
grown f [] k x few at = absurd (omega arith)
grown f (y ∷ ys) zero x few at = ap (λ z. f z ∷ []) (sym at)
grown f (y ∷ ys) (suc k) x few at = ap (λ zs. f y ∷ zs) (grown f ys k x (omega arith) at)

-- one more of a list
pub lengths_more : {A : Type 0} (f : A → Sight) (xs : List A) (k : ℕ) (x : A) (before : List Sight) (lengths lengths' : List (Option ℕ)) → k < length xs → x ≡ slice_index_or xs k x
    → lengths' ≡ noted lengths (f x).slot (length (f x).events) → AreLengths (before ++ map f (take k xs)) lengths → AreLengths (before ++ map f (take (k + 1) xs)) lengths'
lengths_more f xs k x before lengths lengths' few at is h =
    let next : k + 1 ≡ suc k = omega arith in
    subst (AreLengths (before ++ map f (take (k + 1) xs))) (sym is)
    (subst (λ ss. AreLengths ss (noted lengths (f x).slot (length (f x).events)))
    (append_assoc before (map f (take k xs)) (f x ∷ []) ∙ ap (λ ss. before ++ ss) (sym (ap (λ i. map f (take i xs)) next ∙ grown f xs k x few at)))
    (lengths_noted (before ++ map f (take k xs)) lengths (f x) h))
