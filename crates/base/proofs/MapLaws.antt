-- Lists through a map.
use Rattle.std.proofs.Common.{◌≡◌, ℕ, ◌+◌, ◌-◌, ◌<◌, suc, Bool, false, cond, List, [], ◌∷◌, ◌++◌, length, map, take, drop, get_or, position, Option, Some, None, slice_get, refl, ap, sym, ◌∙◌, arith, All, replicate, filter_map, ◌≤◌, ◌≢◌, zero, set, option_map, true, append_assoc}
use Rattle.std.specs.List.{list_any, prefix_len, filter, cons_option, count_by, list_all}
use Rattle.std.proofs.lemmas.List.{length-map, length-append, take_at, map-append, take_more, take-append-drop, drop_more, map_more, append-nil, drop_all}
use Rattle.std.proofs.lemmas.Option.{get_or_from_slice_get, slice_get_within, slice_get-map}
use Rattle.std.proofs.lemmas.List.Elements.{All-cons}
use Rattle.std.proofs.lemmas.List.Sums.{sum_by-append}
use Rattle.std.proofs.lemmas.Bool.{and_parts}
use Rattle.std.specs.Prelude.{slice_set}

pub list_any-map : {A B : Type 0} (p : B → Bool) (f : A → B) (xs : List A) → list_any p (map f xs) ≡ list_any (λ x. p (f x)) xs
list_any-map p f [] = refl
list_any-map p f (x ∷ xs) = simp (list_any-map p f xs)

pub prefix_len-map : {A B : Type 0} (p : B → Bool) (f : A → B) (xs : List A) → prefix_len p (map f xs) ≡ prefix_len (λ x. p (f x)) xs
prefix_len-map p f [] = refl
prefix_len-map p f (x ∷ xs) = simp (prefix_len-map p f xs)

pub position-map : {A B : Type 0} (p : B → Bool) (f : A → B) (xs : List A) → position p (map f xs) ≡ position (λ x. p (f x)) xs
position-map p f xs = simp (prefix_len-map, length-map)

pub map-map : {A B C : Type 0} (g : B → C) (f : A → B) (xs : List A) → map g (map f xs) ≡ map (λ x. g (f x)) xs
map-map g f [] = refl
map-map g f (x ∷ xs) = ap (λ ys. g (f x) ∷ ys) (map-map g f xs)

-- the part of a list up to an element and with it, through a map
pub map-take_more : {A B : Type 0} (f : A → B) (xs : List A) (i : ℕ) (x : A) → i < length xs → x ≡ get_or xs i x → map f (take (i + 1) xs) ≡ map f (take i xs) ++ f x ∷ []
map-take_more f xs i x within is =
    ap (map f) (take_more xs i x within) ∙ map-append f (take i xs) (get_or xs i x ∷ []) ∙ ap (λ y. map f (take i xs) ++ f y ∷ []) (sym is)

-- a list as what stands before an element, the element, and the rest, through a map
pub map_parted : {A B : Type 0} (f : A → B) (xs : List A) (i : ℕ) (x : A) → i < length xs → x ≡ get_or xs i x → map f xs ≡ map f (take i xs) ++ f x ∷ map f (drop (i + 1) xs)
map_parted f xs i x within is =
    ap (map f) (sym (take-append-drop i xs)) ∙ map-append f (take i xs) (drop i xs) ∙ ap (λ ys. map f (take i xs) ++ map f ys) (drop_more xs i x within ∙ ap (λ y. y ∷ drop (i + 1) xs) (sym is))

-- a list without what was put at its end
pub take_pushed : {A : Type 0} (xs : List A) (x : A) → take (length (xs ++ x ∷ []) - 1) (xs ++ x ∷ []) ≡ xs
take_pushed xs x = take_at xs (x ∷ []) (length (xs ++ x ∷ []) - 1) (omega (arith, length-append xs (x ∷ [])))

-- a map after a write at one place, where elsewhere the two functions agree
pub map_same : {A B : Type 0} (f g : A → B) (xs : List A) → ((k : ℕ) (a : A) → slice_get xs k ≡ Some a → f a ≡ g a) → map f xs ≡ map g xs
map_same f g [] h = refl
map_same f g (x ∷ xs) h = λ i. h 0 x refl i ∷ map_same f g xs (λ k a e. h (suc k) a e) i

pub map_constant : {A B : Type 0} (xs : List A) (n : ℕ) (b : B) → n ≡ length xs → replicate n b ≡ map (λ (_ : A). b) xs
map_constant [] n b h = ap (λ m. replicate m b) h
map_constant (x ∷ xs) n b h = ap (λ m. replicate m b) h ∙ ap (λ t. b ∷ t) (map_constant xs (length xs) b refl)

pub filter_map_same : {A B : Type 0} (f g : A → Option B) (xs : List A) → ((k : ℕ) (a : A) → slice_get xs k ≡ Some a → f a ≡ g a) → filter_map f xs ≡ filter_map g xs
filter_map_same f g [] h = refl
filter_map_same f g (x ∷ xs) h =
    λ i. cons_option (h 0 x refl i) (filter_map_same f g xs (λ k a e. h (suc k) a e) i)

-- what each of the links that f gives has, the list of them has
pub All-filter_map : {A B : Type 0} (f : A → Option B) (P : B → Type 0) (xs : List A) → ((k : ℕ) (a : A) (b : B) → slice_get xs k ≡ Some a → f a ≡ Some b → P b) → All P (filter_map f xs)
All-filter_map f P [] h = λ k d low. absurd (omega arith)
All-filter_map {B = B} f P (x ∷ xs) h = by (f x) refl (All-filter_map f P xs (λ k a b e. h (suc k) a b e))
  where
    by : (o : Option B) → f x ≡ o → All P (filter_map f xs) → All P (cons_option o (filter_map f xs))
    by None e rest = rest
    by (Some b) e rest = All-cons P b (filter_map f xs) (h 0 x b refl e) rest

-- ---- lengths

pub length-filter_map : {A B : Type 0} (f : A → Option B) (xs : List A) → length (filter_map f xs) ≤ length xs
length-filter_map f [] = omega arith
length-filter_map {B = B} f (x ∷ xs) = one (f x) (length-filter_map f xs)
  where
    one : (o : Option B) → length (filter_map f xs) ≤ length xs → length (cons_option o (filter_map f xs)) ≤ length (x ∷ xs)
    one None few = omega (arith, few)
    one (Some y) few = omega (arith, few)

-- what was made of the members so far, and of one more
pub mapped_more : {A B : Type 0} (f : A → B) (xs : List A) (i : ℕ) (x : A) (old new : List B) (y : B) → slice_get xs i ≡ Some x → old ≡ map f (take i xs) → y ≡ f x → new ≡ old ++ y ∷ [] → new ≡ map f (take (i + 1) xs)
mapped_more f xs i x old new y at so_far is grown =
    grown ∙ ap (λ zs. zs ++ y ∷ []) so_far ∙ ap (λ z. map f (take i xs) ++ z ∷ []) (is ∙ ap f (sym (get_or_from_slice_get xs i x x at)))
    ∙ sym (map_more f xs i x (slice_get_within xs i x at))

pub count_by-append : {A : Type 0} (p : A → Bool) (xs ys : List A) → count_by p (xs ++ ys) ≡ count_by p xs + count_by p ys
count_by-append p xs ys = sum_by-append (λ y. cond (p y) 1 0) xs ys

pub filter-none : {A : Type 0} (p : A → Bool) (xs : List A) → ((x : A) → p x ≡ false) → filter p xs ≡ []
filter-none p [] h = refl
filter-none p (x ∷ xs) h = rw (h x) (filter-none p xs h)

pub none_mapped : {A B : Type 0} (f : A → B) (xs : List A) → map f xs ≡ [] → xs ≡ []
none_mapped f [] is = refl
none_mapped f (x ∷ xs) is = absurd (cc is)

pub set-map_at : {A B : Type 0} (f g : A → B) (xs : List A) (q : ℕ) (v : B) → ((a : A) → slice_get xs q ≡ Some a → v ≡ g a) → ((k : ℕ) (a : A) → slice_get xs k ≡ Some a → k ≢ q → f a ≡ g a) → set (map f xs) q v ≡ map g xs
set-map_at f g [] q v here others = refl
set-map_at f g (x ∷ xs) zero v here others =
    λ i. here x refl i ∷ map_same f g xs (λ k a e. others (suc k) a e (λ s. absurd (omega (arith, s)))) i
set-map_at f g (x ∷ xs) (suc q) v here others =
    λ i. others 0 x refl (λ s. absurd (omega (arith, s))) i ∷ set-map_at f g xs q v here (λ k a e ne. others (suc k) a e (λ s. ne (omega (arith, s)))) i

-- what a table by port, or by provision, has at a number
pub table_read : {A B : Type 0} (f : A → B) (xs : List A) (table : List B) (q : ℕ) (a : A) (b : B) → table ≡ map f xs → slice_get xs q ≡ Some a → b ≡ get_or table q b → b ≡ f a
table_read f xs table q a b table_is at_q b_is =
    let at_table : slice_get table q ≡ Some (f a) =
    ap (λ t. slice_get t q) table_is ∙ slice_get-map f xs q ∙ ap (option_map f) at_q in
    b_is ∙ get_or_from_slice_get table q (f a) b at_table

pub filter_map-Some : {A B : Type 0} (f : A → Option B) (x : A) (xs : List A) (y : B) → Some y ≡ f x → filter_map f (x ∷ xs) ≡ y ∷ filter_map f xs
filter_map-Some f x xs y is = rw (← is)

pub filter_map-None : {A B : Type 0} (f : A → Option B) (x : A) (xs : List A) → None ≡ f x → filter_map f (x ∷ xs) ≡ filter_map f xs
filter_map-None f x xs is = rw (← is)

-- a test that all pass which are left
pub left_pass : {A B : Type 0} (p : B → Bool) (f : A → B) (xs : List A) (i : ℕ) (d : A) → i < length xs → list_all p (map f (drop i xs)) ≡ true → (p (f (get_or xs i d)) ≡ true) × (list_all p (map f (drop (i + 1) xs)) ≡ true)
left_pass p f xs i d within pass =
    and_parts (p (f (get_or xs i d))) (list_all p (map f (drop (i + 1) xs))) (sym (ap (λ ys. list_all p (map f ys)) (drop_more xs i d within)) ∙ pass)

-- what completes a list that grows by the image of each element
pub left_more : {A B C : Type 0} (g : B → C) (f : A → B) (xs : List A) (i : ℕ) (d : A) (made all : List C) → i < length xs → made ++ map g (map f (drop i xs)) ≡ all → (made ++ g (f (get_or xs i d)) ∷ []) ++ map g (map f (drop (i + 1) xs)) ≡ all
left_more g f xs i d made all within is =
    rw append_assoc (sym (ap (λ ys. made ++ map g (map f ys)) (drop_more xs i d within)) ∙ is)

pub left_none : {A B C : Type 0} (g : B → C) (f : A → B) (xs : List A) (i : ℕ) (made all : List C) → length xs ≤ i → made ++ map g (map f (drop i xs)) ≡ all → made ≡ all
left_none g f xs i made all past is =
    sym (append-nil made) ∙ ap (λ ys. made ++ map g (map f ys)) (sym (drop_all i xs past)) ∙ is

-- what sets a gate's target leaves its owner
pub set_same : {A B : Type 0} (f : A → B) (xs : List A) (i : ℕ) (y d : A) → f y ≡ f (get_or xs i d) → map f (slice_set xs i y) ≡ map f xs
set_same f [] i y d h = refl
set_same f (x ∷ xs) zero y d h = ap (λ z. z ∷ map f xs) h
set_same f (x ∷ xs) (suc i) y d h = ap (λ zs. f x ∷ zs) (set_same f xs i y d h)

pub map_picked : {A C : Type 0} (h : A → C) (f : ℕ → Option A) (xs : List ℕ) → map h (filter_map f xs) ≡ filter_map (λ x. option_map h (f x)) xs
map_picked h f [] = refl
map_picked h f (x ∷ xs) = by (f x) (map_picked h f xs)
  where
    by : (o : Option _) → map h (filter_map f xs) ≡ filter_map (λ x. option_map h (f x)) xs → map h (cons_option o (filter_map f xs)) ≡ cons_option (option_map h o) (filter_map (λ x. option_map h (f x)) xs)
    by None rest = rest
    by (Some y) rest = ap (λ ys. h y ∷ ys) rest

pub none_in_front : {A : Type 0} (xs ys : List A) → xs ++ ys ≡ [] → xs ≡ []
none_in_front [] ys h = refl
none_in_front (x ∷ xs) ys h = cc

pub map_set : {A B : Type 0} (f : A → B) (xs : List A) (i : ℕ) (x : A) → map f (set xs i x) ≡ set (map f xs) i (f x)
map_set f [] i x = refl
map_set f (y ∷ xs) zero x = refl
map_set f (y ∷ xs) (suc i) x = ap (λ l. f y ∷ l) (map_set f xs i x)

pub picked_mapped : {A B C : Type 0} (f : B → Option C) (g : A → B) (xs : List A) → filter_map f (map g xs) ≡ filter_map (λ x. f (g x)) xs
picked_mapped f g [] = refl
picked_mapped f g (x ∷ xs) = ap (cons_option (f (g x))) (picked_mapped f g xs)
