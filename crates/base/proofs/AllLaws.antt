-- What each of a list has, told along the list, as the list is put together, mapped and written to.
use Rattle.std.proofs.Common.{◌≡◌, ℕ, zero, suc, List, [], ◌∷◌, ◌++◌, map, Option, Some, None, subst, set}
use Rattle.std.specs.Prelude.{All, IfSome, filter_map, slice_get, Contains}
use Rattle.std.specs.List.{AllByRecursion, cons_option}
use Rattle.std.proofs.lemmas.List.Elements.{All-head, All-tail}
use Rattle.base.proofs.ContainsLaws.{Contains-here, Contains-there}

-- ---- lists

pub all_split : {A : Type 0} (P : A → Type 0) (xs ys : List A) → AllByRecursion P (xs ++ ys) → AllByRecursion P xs × AllByRecursion P ys
all_split P [] ys all = (tt, all)
all_split P (x ∷ xs) ys all = let parts = all_split P xs ys all.1 in ((all.0, parts.0), parts.1)

pub all_mapped : {A B : Type 0} (P : B → Type 0) (f : A → B) (xs : List A) → ((x : A) → P (f x)) → AllByRecursion P (map f xs)
all_mapped P f [] has = tt
all_mapped P f (x ∷ xs) has = (has x, all_mapped P f xs has)

pub all_onto : {A B : Type 0} (P : B → Type 0) (f : A → B) (xs : List A) → AllByRecursion (λ x. P (f x)) xs → AllByRecursion P (map f xs)
all_onto P f [] all = tt
all_onto P f (x ∷ xs) all = (all.0, all_onto P f xs all.1)

pub all_of_map : {A B : Type 0} (P : B → Type 0) (f : A → B) (xs : List A) → AllByRecursion P (map f xs) → AllByRecursion (λ x. P (f x)) xs
all_of_map P f [] all = tt
all_of_map P f (x ∷ xs) all = (all.0, all_of_map P f xs all.1)

pub all_chosen : {A B : Type 0} (P : B → Type 0) (f : A → Option B) (xs : List A) → ((x : A) → IfSome (f x) P) → AllByRecursion P (filter_map f xs)
all_chosen P f [] has = tt
all_chosen {A} {B} P f (x ∷ xs) has = by (f x) (has x) (all_chosen P f xs has)
  where
    by : (o : Option B) → IfSome o P → AllByRecursion P (filter_map f xs) → AllByRecursion P (cons_option o (filter_map f xs))
    by None h rest = rest
    by (Some y) h rest = (h, rest)

pub all_at : {A : Type 0} (P : A → Type 0) (xs : List A) (i : ℕ) (x : A) → AllByRecursion P xs → slice_get xs i ≡ Some x → P x
all_at P [] i x all at = absurd (cc at)
all_at P (y ∷ xs) zero x all at = subst P (cc at) all.0
all_at P (y ∷ xs) (suc i) x all at = all_at P xs i x all.1 at

pub all_follow : {A : Type 0} (P Q : A → Type 0) → ((x : A) → P x → Q x) → (xs : List A) → AllByRecursion P xs → AllByRecursion Q xs
all_follow P Q follows [] all = tt
all_follow P Q follows (x ∷ xs) all = (follows x all.0, all_follow P Q follows xs all.1)

pub all_by_recursion : {A : Type 0} (P : A → Type 0) (xs : List A) → All P xs → AllByRecursion P xs
all_by_recursion P [] all = tt
all_by_recursion P (x ∷ xs) all = (All-head P x xs all, all_by_recursion P xs (All-tail P x xs all))

pub all_put : {A : Type 0} (P : A → Type 0) (xs : List A) (k : ℕ) (x : A) → AllByRecursion P xs → P x → AllByRecursion P (set xs k x)
all_put P [] k x all has = tt
all_put P (y ∷ xs) zero x all has = (has, all.1)
all_put P (y ∷ xs) (suc k) x all has = (all.0, all_put P xs k x all.1 has)

pub all_contained : {A : Type 0} (P : A → Type 0) (xs : List A) → ((x : A) → Contains xs x → P x) → AllByRecursion P xs
all_contained P [] has = tt
all_contained P (x ∷ xs) has = (has x (Contains-here x xs), all_contained P xs (λ y there. has y (Contains-there x y xs there)))
