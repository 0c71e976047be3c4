-- What options hold that are made of others.
use Rattle.std.proofs.Common.{◌≡◌, Bool, true, false, not, Option, Some, None, option_map, is_some, is_none, refl, sym, ap, IfSome, subst, ℕ, eqb, cond}
use Rattle.std.specs.Option.{option_and_then, option_map_or, option_eq}
use Rattle.std.proofs.lemmas.Bool.{false≢true, true≢false, eqb-true, eq-eqb}
use Rattle.std.proofs.lemmas.Option.{none-some, same_Some}
use Rattle.std.specs.Prelude.{IfNone}

pub is_none-is_some : {A : Type 0} (o : Option A) → is_none o ≡ not (is_some o)
is_none-is_some None = refl
is_none-is_some (Some x) = refl

pub None-from_is_some : {A : Type 0} (o : Option A) → is_some o ≡ false → o ≡ None
None-from_is_some None h = refl
None-from_is_some (Some x) h = absurd (true≢false h)

-- ---- options

pub option_map_some : {A B : Type 0} (f : A → B) (o : Option A) (y : B) → option_map f o ≡ Some y → (x : A) × (o ≡ Some x) × (f x ≡ y)
option_map_some f None y e = absurd (none-some y e)
option_map_some f (Some x) y e = (x, refl, same_Some (f x) y e)

-- a test of a value is passed where the value is there and passes
pub map_or_true : {A : Type 0} (f : A → Bool) (o : Option A) → option_map_or f o false ≡ true → (x : A) × (o ≡ Some x) × (f x ≡ true)
map_or_true f None h = absurd (false≢true h)
map_or_true f (Some x) h = (x, refl, h)

pub map_or_at : {A B : Type 0} (f : A → B) (o : Option A) (d : B) (x : A) → o ≡ Some x → option_map_or f o d ≡ f x
map_or_at f o d x e = ap (λ v. option_map_or f v d) e

-- a value that is made of two others is there where both are
pub made_of_two : {A B C : Type 0} (g : A → B → C) (o : Option A) (q : Option B) (y : C) → option_and_then (λ x. option_map (g x) q) o ≡ Some y → (x : A) × (b : B) × (o ≡ Some x) × (q ≡ Some b) × (g x b ≡ y)
made_of_two g None q y e = absurd (none-some y e)
made_of_two g (Some x) None y e = absurd (none-some y e)
made_of_two g (Some x) (Some b) y e = (x, b, refl, refl, same_Some (g x b) y e)

-- the same, where the second is found by the first
pub made_of_found : {A B C : Type 0} (g : A → B → C) (h : A → Option B) (o : Option A) (y : C) → option_and_then (λ x. option_map (g x) (h x)) o ≡ Some y → (x : A) × (b : B) × (o ≡ Some x) × (h x ≡ Some b) × (g x b ≡ y)
made_of_found g h None y e = absurd (none-some y e)
made_of_found g h (Some x) y e = let w = option_map_some (g x) (h x) y e in (x, w.0, refl, w.1, w.2)

pub None-from_is_none : {A : Type 0} (o : Option A) → is_none o ≡ true → o ≡ None
None-from_is_none None h = refl
None-from_is_none (Some x) h = absurd (false≢true h)

pub Some-from_is_some : {A : Type 0} (o : Option A) → is_some o ≡ true → (x : A) × (o ≡ Some x)
Some-from_is_some None h = absurd (false≢true h)
Some-from_is_some (Some x) h = (x, refl)

pub None-from_map : {A B : Type 0} (f : A → B) (o : Option A) → option_map f o ≡ None → o ≡ None
None-from_map f None h = refl
None-from_map f (Some x) h = absurd (none-some (f x) (sym h))

-- a value that is made of another is there where that is
pub made_of_one : {A B : Type 0} (f : A → Option B) (o : Option A) (y : B) → option_and_then f o ≡ Some y → (x : A) × (o ≡ Some x) × (f x ≡ Some y)
made_of_one f None y h = absurd (none-some y h)
made_of_one f (Some x) y h = (x, refl, h)

pub is_some-map : {A B : Type 0} (f : A → B) (o : Option A) → is_some (option_map f o) ≡ is_some o
is_some-map f None = refl
is_some-map f (Some x) = refl

-- a condition on the value in an option, as a callee asks for it
pub ForSome-from_IfSome : {A : Type 0} (o : Option A) (P Q : A → Type 0) → IfSome o P → ((x : A) → P x → Q x) → (x : A) → o ≡ Some x → Q x
ForSome-from_IfSome None P Q h f x e = cc
ForSome-from_IfSome (Some y) P Q h f x e = let same : y ≡ x = cc in f x (subst P same h)

-- two optional numbers that are equal as the code tells it
pub same_option : (a b : Option ℕ) → option_eq eqb a b ≡ true → a ≡ b
same_option None None e = refl
same_option None (Some b) e = cc
same_option (Some a) None e = cc
same_option (Some a) (Some b) e = ap Some (eqb-true a b e)

pub same_option_back : (a b : Option ℕ) → a ≡ b → option_eq eqb a b ≡ true
same_option_back a b e = subst (λ o. option_eq eqb a o ≡ true) e (itself a)
  where
    itself : (o : Option ℕ) → option_eq eqb o o ≡ true
    itself None = refl
    itself (Some n) = eq-eqb n n refl

pub unless_some : {A : Type 0} (b : Bool) (o : Option A) (y : A) → cond b None o ≡ Some y → (b ≡ false) × (o ≡ Some y)
unless_some true o y e = let never : ⊥ = cc in absurd never
unless_some false o y e = (refl, e)

pub when_some : {A : Type 0} (b : Bool) (o : Option A) (y : A) → cond b o None ≡ Some y → (b ≡ true) × (o ≡ Some y)
when_some true o y e = (refl, e)
when_some false o y e = let never : ⊥ = cc in absurd never

-- what follows of what is found, and of finding nothing
pub some_so : {A : Type 0} (P Q : A → Type 0) → ((a : A) → P a → Q a) → (o : Option A) → IfSome o P → IfSome o Q
some_so P Q f None h = h
some_so P Q f (Some a) h = f a h

pub none_so : {A : Type 0} (P R Q : Type 0) → (P → R → Q) → (o : Option A) → IfNone o P → IfNone o R → IfNone o Q
none_so P R Q f None h k = f h k
none_so P R Q f (Some a) h k = h
