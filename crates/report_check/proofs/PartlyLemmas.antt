-- A partial function along a list: where it has no value once, it has none behind.
use Rattle.std.proofs.Common.{◌≡◌, ◌∙◌, ℕ, zero, suc, ◌<◌, Bool, false, cond, List, [], ◌∷◌, take, length, get_or, Option, Some, None, refl, ap}
use Rattle.std.specs.Prelude.{fold, option_and_then, slice_get}
use Rattle.std.proofs.lemmas.Option.{none-some, same_Some, slice_get_read}

module _ {A B : Type 0} (f : A → B → Option A) where
  abbrev next : Option A → B → Option A
  next o x = option_and_then (λ (a : A). f a x) o

  pub none_stays : (xs : List B) → fold next None xs ≡ None
  none_stays [] = refl
  none_stays (x ∷ xs) = none_stays xs

  pub stops : (o : Option A) (xs : List B) (i : ℕ) (a : A) (x : B) → fold next o (take i xs) ≡ Some a → slice_get xs i ≡ Some x → f a x ≡ None → fold next o xs ≡ None
  stops o [] i a x so at gone = absurd (none-some x at)
  stops o (y ∷ ys) zero a x so at gone = ap (λ q. fold next q ys) (ap (λ q. next q y) so ∙ ap (f a) (same_Some y x at) ∙ gone) ∙ none_stays ys
  stops o (y ∷ ys) (suc i) a x so at gone = stops (next o y) ys i a x so at gone

  -- the same for the loop that goes through the list; and where a test says whether there is a value
  pub stops_here : (o : Option A) (xs : List B) (i : ℕ) (x : B) (a : A) → i < length xs → x ≡ get_or xs i x → fold next o (take i xs) ≡ Some a → f a x ≡ None → fold next o xs ≡ None
  stops_here o xs i x a low is so gone = stops o xs i a x so (slice_get_read xs (length xs) i x refl low is) gone

  pub stops_at :
      (o : Option A) (xs : List B) (i : ℕ) (x : B) (a b : A) (t : Bool) → i < length xs → x ≡ get_or xs i x → fold next o (take i xs) ≡ Some a → f a x ≡ cond t (Some b) None → t ≡ false
      → fold next o xs ≡ None
  stops_at o xs i x a b t low is so then no_more = stops_here o xs i x a low is so (then ∙ ap (λ c. cond c (Some b) None) no_more)
