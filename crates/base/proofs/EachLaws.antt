-- What holds at each place of a list, as the list grows at its end and as it is looked at in parts.
use Rattle.std.proofs.Common.{◌≡◌, ◌∙◌, ◌↔◌, List, [], ◌∷◌, ◌++◌, Option, Some, None, refl, ap, sym, subst, filter_map}
use Rattle.std.specs.List.{cons_option}
use Rattle.std.proofs.lemmas.List.{append_assoc, append-nil}
use Rattle.std.proofs.lemmas.List.Elements.{filter_map-append}
use Rattle.base.specs.Each.{Each, EachAfter}

-- each place of a list that is put together is one of the first part or one of the second
pub each_parts : {A : Type 0} (P : List A → A → Type 0) (before xs ys : List A) → EachAfter P before (xs ++ ys) → EachAfter P before xs × EachAfter P (before ++ xs) ys
each_parts P before [] ys each = (tt, subst (λ zs. EachAfter P zs ys) (sym (append-nil before)) each)
each_parts P before (x ∷ xs) ys each =
    let parts = each_parts P (before ++ x ∷ []) xs ys each.1 in
    ((each.0, parts.0), subst (λ zs. EachAfter P zs ys) (append_assoc before (x ∷ []) xs) parts.1)

pub each_joined : {A : Type 0} (P : List A → A → Type 0) (before xs ys : List A) → EachAfter P before xs → EachAfter P (before ++ xs) ys → EachAfter P before (xs ++ ys)
each_joined P before [] ys first second = subst (λ zs. EachAfter P zs ys) (append-nil before) second
each_joined P before (x ∷ xs) ys first second =
    (first.0, each_joined P (before ++ x ∷ []) xs ys first.1 (subst (λ zs. EachAfter P zs ys) (sym (append_assoc before (x ∷ []) xs)) second))

-- a list with one member more
pub each_pushed : {A : Type 0} (P : List A → A → Type 0) (xs : List A) (x : A) → Each P (xs ++ x ∷ []) ↔ (Each P xs × P xs x)
each_pushed P xs x = (
  λ each. let parts = each_parts P [] xs (x ∷ []) each in (parts.0, parts.1.0),
  λ both. each_joined P [] xs (x ∷ []) both.0 (both.1, tt),
)

-- the member at a place, after those before it
pub each_at : {A : Type 0} (P : List A → A → Type 0) (before after : List A) (x : A) → Each P (before ++ x ∷ after) → P before x
each_at P before after x each = (each_parts P [] before (x ∷ after) each).1.0

-- what follows at each place holds at each place
pub each_weaker : {A : Type 0} (P Q : List A → A → Type 0) (before xs : List A) → ((ys : List A) (x : A) → P ys x → Q ys x) → EachAfter P before xs → EachAfter Q before xs
each_weaker P Q before [] follows each = tt
each_weaker P Q before (x ∷ xs) follows each = (follows before x each.0, each_weaker P Q (before ++ x ∷ []) xs follows each.1)

-- the values of a partial function on a list, with one member more
pub filter_map_pushed : {A B : Type 0} (f : A → Option B) (xs : List A) (x : A) (o : Option B) → f x ≡ o → filter_map f (xs ++ x ∷ []) ≡ filter_map f xs ++ cons_option o []
filter_map_pushed f xs x o is = filter_map-append f xs (x ∷ []) ∙ ap (λ (v : Option _). filter_map f xs ++ cons_option v []) is

-- what holds at each place of a list is carried to the values of a partial function on it: each value is told by the member that it
-- is of, together with the members before it
pub each_carried :
    {A B : Type 0} (f : A → Option B) (P : List A → A → Type 0) (Q : List B → B → Type 0)
    → ((ys : List A) (x : A) (y : B) → f x ≡ Some y → P ys x → Q (filter_map f ys) y)
    → (before xs : List A) → EachAfter P before xs → EachAfter Q (filter_map f before) (filter_map f xs)
each_carried f P Q carries before [] each = tt
each_carried {A} {B} f P Q carries before (x ∷ xs) each = by (f x) refl (each_carried f P Q carries (before ++ x ∷ []) xs each.1)
  where
    by : (o : Option B) → f x ≡ o → EachAfter Q (filter_map f (before ++ x ∷ [])) (filter_map f xs) → EachAfter Q (filter_map f before) (cons_option o (filter_map f xs))
    by None is rest =
        subst (λ zs. EachAfter Q zs (filter_map f xs)) (filter_map_pushed f before x None is ∙ append-nil (filter_map f before)) rest
    by (Some y) is rest =
        (carries before x y is each.0, subst (λ zs. EachAfter Q zs (filter_map f xs)) (filter_map_pushed f before x (Some y) is) rest)

-- what is shown at each place holds at each place
pub each_if : {A : Type 0} (P : List A → A → Type 0) (before xs : List A) → ((ys zs : List A) (x : A) → xs ≡ ys ++ x ∷ zs → P (before ++ ys) x) → EachAfter P before xs
each_if P before [] h = tt
each_if P before (x ∷ xs) h = (
  subst (λ ys. P ys x) (append-nil before) (h [] xs x refl),
  each_if P (before ++ x ∷ []) xs (λ ys zs y e. subst (λ us. P us y) (sym (append_assoc before (x ∷ []) ys)) (h (x ∷ ys) zs y (ap (λ us. x ∷ us) e))),
)
