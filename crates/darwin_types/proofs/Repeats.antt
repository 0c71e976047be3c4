-- Names that stand twice in a list of names.
use Rattle.std.proofs.Common.{◌≡◌, ℕ, ◌+◌, Bool, true, false, cond, List, [], ◌∷◌, ◌++◌, bytes_eq, nat_le, refl, ap, sym, subst, ◌∙◌, arith}
use Rattle.std.specs.List.{Contains, count_by}
use Rattle.std.proofs.lemmas.Bool.{le-leb, lt-leb, leb-false, leb-true}
use Rattle.std.proofs.lemmas.Map.Views.{Contains-from_any}
use Rattle.darwin_parser.specs.Tree.{Name}
use Rattle.darwin_types.specs.Scope.{has}
use Rattle.darwin_types.specs.Faults.{is_repeated}
use Rattle.base.proofs.BytesLaws.{bytes_eq_self, same_bytes}
use Rattle.base.proofs.MapLaws.{count_by-append}
use Rattle.base.proofs.ListLaws.{count_by-cons, count_by-none, count_by-one, count_by-some}

push_step : (b : Bool) (n m : ℕ) → m ≡ n + cond b 1 0 → nat_le 2 n ≡ false → (b ≡ true → n ≡ 0) → nat_le 2 m ≡ false
push_step true n m e h k = lt-leb 2 m (omega (arith, k refl))
push_step false n m e h k = lt-leb 2 m (omega (arith, leb-false 2 n h))

-- a list in which no name stands twice stays so with a name that it lacks
pub is_repeated-push : (xs : List Name) (y : Name) → ((x : Name) → is_repeated xs x ≡ false) → has xs y ≡ false → (x : Name) → is_repeated (xs ++ y ∷ []) x ≡ false
is_repeated-push xs y once absent x =
    push_step (bytes_eq x y) (count_by (bytes_eq x) xs) (count_by (bytes_eq x) (xs ++ y ∷ [])) (count_by-append (bytes_eq x) xs (y ∷ []) ∙ ap (λ n. count_by (bytes_eq x) xs + n) (count_by-one (bytes_eq x) y)) (once x) (λ e. count_by-none (bytes_eq x) xs (subst (λ z. has xs z ≡ false) (sym (same_bytes x y e)) absent))

-- a name that stands before itself stands twice
pub is_repeated-there : (xs ys : List Name) (y : Name) → has xs y ≡ true → is_repeated (xs ++ y ∷ ys) y ≡ true
is_repeated-there xs ys y there =
    let before = count_by-some (bytes_eq y) xs there in
    let itself = ap {B = ℕ} (λ b. cond b 1 0) (bytes_eq_self y) in
    let parted = count_by-append (bytes_eq y) xs (y ∷ ys) in
    let first = count_by-cons (bytes_eq y) y ys in
    le-leb 2 (count_by (bytes_eq y) (xs ++ y ∷ ys)) (omega (arith, before, itself, parted, first))

-- a name that stands twice stands there
pub repeated_there : (xs : List Name) (x : Name) → is_repeated xs x ≡ true → Contains xs x
repeated_there xs x h = Contains-from_any same_bytes x xs (some_there (has xs x) refl)
  where
    some_there : (b : Bool) → has xs x ≡ b → has xs x ≡ true
    some_there true e = e
    some_there false e = absurd (omega (arith, count_by-none (bytes_eq x) xs e, leb-true 2 (count_by (bytes_eq x) xs) h))
