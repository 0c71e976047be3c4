-- Texts that are equal, by their bytes.
use Rattle.std.proofs.Common.{◌≡◌, ℕ, Bool, true, false, cond, List, [], ◌∷◌, ◌++◌, bytes_eq, refl, ap, sym, subst, ◌∙◌, ◌≢◌, Some, is_some, inl, inr, ◌<◌, length, get_or}
use Rattle.std.specs.List.{Contains}
use Rattle.std.proofs.lemmas.Bool.{true≢false}
use Rattle.std.proofs.lemmas.Slice.Eq.{bytes_eq-Decides}
use Rattle.std.specs.Map.{lookup}
use Rattle.std.specs.Option.{option_or}
use Rattle.std.specs.Ordering.{nat_cmp, is_eq, is_lt, ordering_reverse}
use Rattle.std.specs.Cmp.Lexicographic.{slice_cmp, nat_list_cmp_total}
use Rattle.std.specs.declared.cmp.Ordering.{Ordering}
use Rattle.std.specs.declared.cmp.Ordering.TheVariants.{Less, Equal, Greater}
use Rattle.std.proofs.lemmas.Map.Text.{is_eq-slice_cmp}
use Rattle.std.proofs.lemmas.List.{ext_get_or}
use Rattle.std.specs.Prelude.{slice_get}
use Rattle.std.proofs.lemmas.Option.{get_or_from_slice_get}
use Rattle.base.proofs.ContainsLaws.{Contains-cons_cases, Contains-nil}
use Rattle.base.proofs.FindLaws.{found_any, kept_any}

pub bytes_eq_self : (x : List ℕ) → bytes_eq x x ≡ true
bytes_eq_self x = (bytes_eq-Decides x x).1 refl

pub same_bytes : (x y : List ℕ) → bytes_eq x y ≡ true → x ≡ y
same_bytes x y h = (bytes_eq-Decides x y).0 h

pub different_bytes : (x y : List ℕ) → bytes_eq x y ≡ false → x ≢ y
different_bytes x y h e = absurd (true≢false (sym (bytes_eq_self x) ∙ ap (bytes_eq x) e ∙ h))

-- a pair with the name is found, or one before it
pub is_some-lookup_from : (ps : List (List ℕ × List ℕ)) (x k : List ℕ) → Contains ps (x, k) → is_some (lookup (bytes_eq x) ps) ≡ true
is_some-lookup_from [] x k h = absurd (Contains-nil (x, k) h)
is_some-lookup_from (p ∷ ps) x k h =
    elim (Contains-cons_cases p ps (x, k) h) [
      | inl e ↦ found_any (bytes_eq x p.0) p.1 (lookup (bytes_eq x) ps) (subst (λ q. bytes_eq x q.0 ≡ true) e (bytes_eq_self x))
      | inr r ↦ kept_any (bytes_eq x p.0) p.1 (lookup (bytes_eq x) ps) (is_some-lookup_from ps x k r)
    ]

pub lookup-append : {K X : Type 0} (test : K → Bool) (xs ys : List (K × X)) → lookup test (xs ++ ys) ≡ option_or (lookup test xs) (lookup test ys)
lookup-append test [] ys = refl
lookup-append {K} {X} test (x ∷ xs) ys =
    elim (test x.0) as (λ b. cond b (Some x.1) (lookup test (xs ++ ys)) ≡ option_or (cond b (Some x.1) (lookup test xs)) (lookup test ys))
    [ true ↦ refl | false ↦ lookup-append test xs ys ]

-- texts that stand at one place in the order of bytes
pub equal_bytes : (p q : List ℕ) → slice_cmp nat_cmp p q ≡ Equal → p ≡ q
equal_bytes p q e = (bytes_eq-Decides p q).0 (sym (is_eq-slice_cmp p q) ∙ ap is_eq e)

-- of two texts that differ, one is before the other
pub before_the_other : (p q : List ℕ) (o : Ordering) → slice_cmp nat_cmp q p ≡ o → is_lt o ≡ false → (p ≡ q → ⊥) → slice_cmp nat_cmp p q ≡ Less
before_the_other p q Less is not_less other = absurd (true≢false not_less)
before_the_other p q Equal is not_less other = absurd (other (sym (equal_bytes q p is)))
before_the_other p q Greater is not_less other = nat_list_cmp_total.antisymm p q ∙ ap ordering_reverse is

pub alike : (xs ys : List ℕ) → length xs ≡ length ys → ((k : ℕ) → k < length xs → get_or xs k 0 ≡ get_or ys k 0) → true ≡ bytes_eq xs ys
alike xs ys long same = sym ((bytes_eq-Decides xs ys).1 (ext_get_or 0 xs ys long same))

pub unlike : (xs ys : List ℕ) (k n : ℕ) → slice_get xs k ≡ Some n → (n ≡ get_or ys k 0 → ⊥) → false ≡ bytes_eq xs ys
unlike xs ys k n at other = by (bytes_eq xs ys) refl
  where
    by : (b : Bool) → bytes_eq xs ys ≡ b → false ≡ b
    by false is = refl
    by true is = absurd (other (sym (get_or_from_slice_get xs k n 0 at) ∙ ap (λ zs. get_or zs k 0) ((bytes_eq-Decides xs ys).0 is)))
