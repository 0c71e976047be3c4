-- What a list and a reordering of it have in common.
use Rattle.std.proofs.Common.{◌≡◌, Bool, true, false, ◌&&◌, ◌||◌, ◌∙◌, ℕ, suc, length, List, [], ◌∷◌, ◌++◌, map, Option, Some, None, refl, ap, sym, subst, arith, inl, inr}
use Rattle.std.specs.List.{list_all, list_any, Contains, flat_map, filter_map, sum_by}
use Rattle.std.specs.Option.{option_to_list}
use Rattle.std.proofs.lemmas.List.Sums.{sum_by-cons}
use Rattle.elaborator_laws.specs.Reordering.{Reordered, no_elements, kept, swapped, through}
use Rattle.elaborator_laws.proofs.Finding.{Both, neither, both_there}
use Rattle.base.proofs.ContainsLaws.{Contains-cons_cases, Contains-flat_map, Contains-from_flat_map, Contains-from_map, Contains-here, Contains-map, Contains-nil, Contains-there}

pub reordered-sym : {A : Type 0} (R : A → A → Type 0) → ((x y : A) → R x y → R y x) → (xs ys : List A) → Reordered R xs ys → Reordered R ys xs
reordered-sym R turn _ _ no_elements = no_elements
reordered-sym R turn _ _ (kept x y xs ys same rest) = kept y x ys xs (turn x y same) (reordered-sym R turn xs ys rest)
reordered-sym R turn _ _ (swapped x y x' y' xs ys same same' rest) = swapped y' x' y x ys xs (turn y y' same') (turn x x' same) (reordered-sym R turn xs ys rest)
reordered-sym R turn _ _ (through xs ys zs first then_) = through zs ys xs (reordered-sym R turn ys zs then_) (reordered-sym R turn xs ys first)

pub reordered-same : {A : Type 0} (R : A → A → Type 0) → ((x : A) → R x x) → (xs : List A) → Reordered R xs xs
reordered-same R alone [] = no_elements
reordered-same R alone (x ∷ xs) = kept x x xs xs (alone x) (reordered-same R alone xs)

pub reordered-is : {A : Type 0} (R : A → A → Type 0) → ((x : A) → R x x) → (xs ys : List A) → xs ≡ ys → Reordered R xs ys
reordered-is R alone xs ys is = subst (λ zs. Reordered R xs zs) is (reordered-same R alone xs)

pub reordered-append :
    {A : Type 0} (R : A → A → Type 0) → ((x : A) → R x x) → (xs xs' ys ys' : List A) → Reordered R xs xs' → Reordered R ys ys' → Reordered R (xs ++ ys) (xs' ++ ys')
reordered-append R alone _ _ ys ys' no_elements later = later
reordered-append R alone _ _ ys ys' (kept x y xs xs' same rest) later = kept x y (xs ++ ys) (xs' ++ ys') same (reordered-append R alone xs xs' ys ys' rest later)
reordered-append R alone _ _ ys ys' (swapped x y x' y' xs xs' same same' rest) later =
    swapped x y x' y' (xs ++ ys) (xs' ++ ys') same same' (reordered-append R alone xs xs' ys ys' rest later)
reordered-append R alone _ _ ys ys' (through xs ws zs first then_) later =
    through (xs ++ ys) (ws ++ ys') (zs ++ ys') (reordered-append R alone xs ws ys ys' first later) (reordered-append R alone ws zs ys' ys' then_ (reordered-same R alone ys'))

-- an element behind others
moved_back : {A : Type 0} (R : A → A → Type 0) → ((x : A) → R x x) → (x : A) (ys zs : List A) → Reordered R (x ∷ ys ++ zs) (ys ++ x ∷ zs)
moved_back R alone x [] zs = reordered-same R alone (x ∷ zs)
moved_back R alone x (y ∷ ys) zs =
    through (x ∷ y ∷ ys ++ zs) (y ∷ x ∷ ys ++ zs) (y ∷ ys ++ x ∷ zs)
    (swapped x y x y (ys ++ zs) (ys ++ zs) (alone x) (alone y) (reordered-same R alone (ys ++ zs)))
    (kept y y (x ∷ ys ++ zs) (ys ++ x ∷ zs) (alone y) (moved_back R alone x ys zs))

-- the first of two parts behind the second
pub swapped_parts : {A : Type 0} (R : A → A → Type 0) → ((x : A) → R x x) → (xs ys zs : List A) → Reordered R (xs ++ (ys ++ zs)) (ys ++ (xs ++ zs))
swapped_parts R alone [] ys zs = reordered-same R alone (ys ++ zs)
swapped_parts R alone (x ∷ xs) ys zs =
    through (x ∷ (xs ++ (ys ++ zs))) (x ∷ (ys ++ (xs ++ zs))) (ys ++ (x ∷ (xs ++ zs)))
    (kept x x (xs ++ (ys ++ zs)) (ys ++ (xs ++ zs)) (alone x) (swapped_parts R alone xs ys zs))
    (moved_back R alone x ys (xs ++ zs))

-- two parts for their likes, the other first
pub swapped_likes :
    {A : Type 0} (R : A → A → Type 0) → ((x : A) → R x x) → (xs ys zs xs' ys' zs' : List A) → Reordered R xs xs' → Reordered R ys ys' → Reordered R zs zs'
    → Reordered R (xs ++ (ys ++ zs)) (ys' ++ (xs' ++ zs'))
swapped_likes R alone xs ys zs xs' ys' zs' first second rest =
    through (xs ++ (ys ++ zs)) (ys ++ (xs ++ zs)) (ys' ++ (xs' ++ zs')) (swapped_parts R alone xs ys zs)
    (reordered-append R alone ys ys' (xs ++ zs) (xs' ++ zs') second (reordered-append R alone xs xs' zs zs' first rest))

pub reordered-map :
    {A B : Type 0} (R : A → A → Type 0) (S : B → B → Type 0) (f : A → B) → ((x y : A) → R x y → S (f x) (f y)) → (xs ys : List A)
    → Reordered R xs ys → Reordered S (map f xs) (map f ys)
reordered-map R S f turn _ _ no_elements = no_elements
reordered-map R S f turn _ _ (kept x y xs ys same rest) = kept (f x) (f y) (map f xs) (map f ys) (turn x y same) (reordered-map R S f turn xs ys rest)
reordered-map R S f turn _ _ (swapped x y x' y' xs ys same same' rest) =
    swapped (f x) (f y) (f x') (f y') (map f xs) (map f ys) (turn x x' same) (turn y y' same') (reordered-map R S f turn xs ys rest)
reordered-map R S f turn _ _ (through xs ys zs first then_) =
    through (map f xs) (map f ys) (map f zs) (reordered-map R S f turn xs ys first) (reordered-map R S f turn ys zs then_)

pub reordered-flat_map :
    {A B : Type 0} (R : A → A → Type 0) (S : B → B → Type 0) → ((b : B) → S b b) → (f g : A → List B)
    → ((x y : A) → R x y → Reordered S (f x) (g y)) → ((x y : A) → R x y → Reordered S (g x) (g y)) → (xs ys : List A)
    → Reordered R xs ys → Reordered S (flat_map f xs) (flat_map g ys)
reordered-flat_map R S alone f g over onward _ _ no_elements = no_elements
reordered-flat_map R S alone f g over onward _ _ (kept x y xs ys same rest) =
    reordered-append S alone (f x) (g y) (flat_map f xs) (flat_map g ys) (over x y same) (reordered-flat_map R S alone f g over onward xs ys rest)
reordered-flat_map R S alone f g over onward _ _ (swapped x y x' y' xs ys same same' rest) =
    swapped_likes S alone (f x) (f y) (flat_map f xs) (g x') (g y') (flat_map g ys) (over x x' same) (over y y' same')
    (reordered-flat_map R S alone f g over onward xs ys rest)
reordered-flat_map R S alone f g over onward _ _ (through xs ys zs first then_) =
    through (flat_map f xs) (flat_map g ys) (flat_map g zs) (reordered-flat_map R S alone f g over onward xs ys first)
    (reordered-flat_map R S alone g g onward onward ys zs then_)

-- the same of each element of one list
pub reordered-each :
    {A B : Type 0} (S : B → B → Type 0) → ((b : B) → S b b) → (f g : A → List B) → ((x : A) → Reordered S (f x) (g x)) → (xs : List A)
    → Reordered S (flat_map f xs) (flat_map g xs)
reordered-each S alone f g over [] = no_elements
reordered-each S alone f g over (x ∷ xs) = reordered-append S alone (f x) (g x) (flat_map f xs) (flat_map g xs) (over x) (reordered-each S alone f g over xs)

listed_step : {A B : Type 0} (f : A → Option B) (x : A) (xs : List A) (o : Option B) → f x ≡ o → flat_map (λ x. option_to_list (f x)) xs ≡ filter_map f xs → flat_map (λ x. option_to_list (f x)) (x ∷ xs) ≡ filter_map f (x ∷ xs)
listed_step f x xs None is rest = rw is rest
listed_step f x xs (Some y) is rest = rw is (ap (λ ys. y ∷ ys) rest)

listed : {A B : Type 0} (f : A → Option B) (xs : List A) → flat_map (λ x. option_to_list (f x)) xs ≡ filter_map f xs
listed f [] = refl
listed f (x ∷ xs) = listed_step f x xs (f x) refl (listed f xs)

options : {B : Type 0} (S : B → B → Type 0) → (o q : Option B) → Both S o q → Reordered S (option_to_list o) (option_to_list q)
options S _ _ neither = no_elements
options S _ _ (both_there x y same) = kept x y [] [] same no_elements

pub reordered-filter_map :
    {A B : Type 0} (R : A → A → Type 0) (S : B → B → Type 0) → ((b : B) → S b b) → (f g : A → Option B)
    → ((x y : A) → R x y → Both S (f x) (g y)) → ((x y : A) → R x y → Both S (g x) (g y)) → (xs ys : List A)
    → Reordered R xs ys → Reordered S (filter_map f xs) (filter_map g ys)
reordered-filter_map R S alone f g over onward xs ys same =
    subst (λ bs. Reordered S bs (filter_map g ys)) (listed f xs)
    (subst (λ bs. Reordered S (flat_map (λ x. option_to_list (f x)) xs) bs) (listed g ys)
    (reordered-flat_map R S alone (λ x. option_to_list (f x)) (λ x. option_to_list (g x))
    (λ x y is. options S (f x) (g y) (over x y is)) (λ x y is. options S (g x) (g y) (onward x y is)) xs ys same))

pub length-same : {A : Type 0} (R : A → A → Type 0) (xs ys : List A) → Reordered R xs ys → length xs ≡ length ys
length-same R _ _ no_elements = refl
length-same R _ _ (kept x y xs ys same rest) = ap (λ n. suc n) (length-same R xs ys rest)
length-same R _ _ (swapped x y x' y' xs ys same same' rest) = ap (λ n. suc (suc n)) (length-same R xs ys rest)
length-same R _ _ (through xs ys zs first then_) = length-same R xs ys first ∙ length-same R ys zs then_

pub sum-same : {A : Type 0} (R : A → A → Type 0) (f : A → ℕ) → ((x y : A) → R x y → f x ≡ f y) → (xs ys : List A) → Reordered R xs ys → sum_by f xs ≡ sum_by f ys
sum-same R f fits _ _ no_elements = refl
sum-same R f fits _ _ (kept x y xs ys same rest) = omega (arith, sum_by-cons f x xs, sum_by-cons f y ys, fits x y same, sum-same R f fits xs ys rest)
sum-same R f fits _ _ (swapped x y x' y' xs ys same same' rest) =
    omega (
      arith,
      sum_by-cons f x (y ∷ xs),
      sum_by-cons f y xs,
      sum_by-cons f y' (x' ∷ ys),
      sum_by-cons f x' ys,
      fits x x' same,
      fits y y' same',
      sum-same R f fits xs ys rest,
    )
sum-same R f fits _ _ (through xs ys zs first then_) = sum-same R f fits xs ys first ∙ sum-same R f fits ys zs then_

-- each element has its like in the other list
pub like_in :
    {A : Type 0} (R : A → A → Type 0) → ((x y z : A) → R x y → R y z → R x z) → (xs ys : List A) (x : A) → Reordered R xs ys → Contains xs x
    → (y : A) × Contains ys y × R x y
like_in R follow _ _ z no_elements there = absurd (Contains-nil z there)
like_in R follow _ _ z (kept x y xs ys same rest) there =
    elim (Contains-cons_cases x xs z there) [
      | inl first ↦ (y, Contains-here y ys, subst (λ w. R w y) (sym first) same)
      | inr later ↦ let w = like_in R follow xs ys z rest later in (w.0, Contains-there y w.0 ys w.1, w.2)
    ]
like_in R follow _ _ z (swapped x y x' y' xs ys same same' rest) there =
    elim (Contains-cons_cases x (y ∷ xs) z there) [
      | inl first ↦ (x', Contains-there y' x' (x' ∷ ys) (Contains-here x' ys), subst (λ w. R w x') (sym first) same)
      | inr more ↦
          elim (Contains-cons_cases y xs z more) [
            | inl second ↦ (y', Contains-here y' (x' ∷ ys), subst (λ w. R w y') (sym second) same')
            | inr later ↦ let w = like_in R follow xs ys z rest later in (w.0, Contains-there y' w.0 (x' ∷ ys) (Contains-there x' w.0 ys w.1), w.2)
          ]
    ]
like_in R follow _ _ z (through xs ys zs first then_) there =
    let w = like_in R follow xs ys z first there in
    let v = like_in R follow ys zs w.0 then_ w.1 in
    (v.0, v.1, follow z w.0 v.0 w.2 v.2)

-- what comes of an element comes, up to what m keeps, of its like
pub comes_of :
    {A B C : Type 0} (R : A → A → Type 0) → ((x y z : A) → R x y → R y z → R x z) → (m : B → C) (f g : A → List B)
    → ((x y : A) → R x y → map m (f x) ≡ map m (g y)) → (xs ys : List A) (b : B) → Reordered R xs ys → Contains (flat_map f xs) b
    → (b' : B) × Contains (flat_map g ys) b' × (m b ≡ m b')
comes_of R follow m f g fits xs ys b same there =
    let from = Contains-from_flat_map f xs b there in
    let like = like_in R follow xs ys from.0 same from.1 in
    let kept_ = subst (λ cs. Contains cs (m b)) (fits from.0 like.0 like.2) (Contains-map m (f from.0) b from.2) in
    let w = Contains-from_map m (g like.0) (m b) kept_ in
    (w.0, Contains-flat_map g ys like.0 w.0 like.1 w.1, w.2)

and_swapped : (a b c : Bool) → (a && (b && c)) ≡ (b && (a && c))
and_swapped true true c = refl
and_swapped true false c = refl
and_swapped false true c = refl
and_swapped false false c = refl

or_swapped : (a b c : Bool) → (a || (b || c)) ≡ (b || (a || c))
or_swapped true true c = refl
or_swapped true false c = refl
or_swapped false true c = refl
or_swapped false false c = refl

-- what a test says of all, or of some, it says in each order
pub all-same : {A : Type 0} (R : A → A → Type 0) (p : A → Bool) → ((x y : A) → R x y → p x ≡ p y) → (xs ys : List A) → Reordered R xs ys → list_all p xs ≡ list_all p ys
all-same R p fits _ _ no_elements = refl
all-same R p fits _ _ (kept x y xs ys same rest) = rw (fits x y same, all-same R p fits xs ys rest) refl
all-same R p fits _ _ (swapped x y x' y' xs ys same same' rest) =
    rw (fits x x' same, fits y y' same', all-same R p fits xs ys rest) (and_swapped (p x') (p y') (list_all p ys))
all-same R p fits _ _ (through xs ys zs first then_) = all-same R p fits xs ys first ∙ all-same R p fits ys zs then_

pub any-same : {A : Type 0} (R : A → A → Type 0) (p : A → Bool) → ((x y : A) → R x y → p x ≡ p y) → (xs ys : List A) → Reordered R xs ys → list_any p xs ≡ list_any p ys
any-same R p fits _ _ no_elements = refl
any-same R p fits _ _ (kept x y xs ys same rest) = rw (fits x y same, any-same R p fits xs ys rest) refl
any-same R p fits _ _ (swapped x y x' y' xs ys same same' rest) =
    rw (fits x x' same, fits y y' same', any-same R p fits xs ys rest) (or_swapped (p x') (p y') (list_any p ys))
any-same R p fits _ _ (through xs ys zs first then_) = any-same R p fits xs ys first ∙ any-same R p fits ys zs then_
