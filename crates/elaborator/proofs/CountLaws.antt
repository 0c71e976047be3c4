-- The count: that of different instances is a sum over the list of all, in which none stands twice where no path is made twice.
use Rattle.std.proofs.Common.{◌≡◌, ◌∙◌, ◌⊎◌, inl, inr, ℕ, zero, suc, ◌+◌, ◌<◌, ◌≤◌, List, [], ◌∷◌, ◌++◌, Option, Some, None, sum_by, refl, sym, ap, subst, arith}
use Rattle.std.specs.List.{Contains, flat_map, filter_map, cons_option, slice_get}
use Rattle.std.proofs.lemmas.Option.{none-some}
use Rattle.std.proofs.lemmas.List.Sums.{sum_by-append, sum_by-cons}
use Rattle.std.proofs.lemmas.List.Elements.{Contains-append_left, Contains-append_right, Contains-append_cases}
use Rattle.darwin_parser.specs.Tree.{Tree}
use Rattle.elaborator.specs.Instances.{Instance, children_in, instance_of, path_of, made_in, levels, instances, count_in, total, Inst}
use Rattle.elaborator.specs.Instances.Inst.{at_top, below}
use Rattle.elaborator.specs.Faults.{Twice, CountsMore}
use Rattle.elaborator.proofs.TwiceLaws.{twice_there, twice_places}
use Rattle.elaborator.proofs.SpreadLemmas.{levels-suc, levels-zero}
use Rattle.elaborator.proofs.InstanceLaws.{IsSingle, instances-listed, its_path, next_depths, path_made, twice_cases, twice-filter_map, twice_front}
use Rattle.base.proofs.ContainsLaws.{Contains-cons_cases, Contains-from_filter_map, Contains-from_flat_map, Contains-here, Contains-nil, Contains-one, Contains-there, at_some_place}
use Rattle.base.proofs.PlaceLaws.{split_at}

-- ---- lists in which no element stands twice

not_twice_nil : {A : Type 0} (z : A) → ¬ Twice [] z
not_twice_nil z two = let w = twice_places [] z two in none-some z w.3

-- the sum over different elements of a list is at most that over the list
sum-within :
    {A : Type 0} (f : A → ℕ) (xs ys : List A) → ((x : A) → ¬ Twice xs x) → ((x : A) → Contains xs x → Contains ys x) → sum_by f xs ≤ sum_by f ys
sum-within f [] ys once each = omega arith
sum-within f (x ∷ xs) ys once each =
    let at = at_some_place ys x (each x (Contains-here x xs)) in
    let w = split_at ys at.0 x at.1 in
    let front = w.0 in
    let behind = w.1 in
    let rest = sum-within f xs (front ++ behind) (λ y two. once y (twice_there x xs y two)) (λ y has.
    elim (Contains-append_cases front (x ∷ behind) y (subst (λ zs. Contains zs y) w.2 (each y (Contains-there x y xs has)))) [
      | inl before ↦ Contains-append_left front behind y before
      | inr later ↦
          elim (Contains-cons_cases x behind y later) [
            | inl same ↦ absurd (once x (twice_front x xs (subst (Contains xs) same has)))
            | inr after ↦ Contains-append_right front behind y after
          ]
    ]) in
    omega (arith, rest, sum_by-cons f x xs, ap (sum_by f) w.2, sum_by-append f front (x ∷ behind), sum_by-cons f x behind, sum_by-append f front behind)

twice-append :
    {A : Type 0} (xs ys : List A) (z : A) → Twice (xs ++ ys) z → Twice xs z ⊎ Twice ys z ⊎ (Contains xs z × Contains ys z)
twice-append [] ys z two = inr (inl two)
twice-append (x ∷ xs) ys z two =
    elim (twice_cases x (xs ++ ys) z two) [
      | inl first ↦
          elim (Contains-append_cases xs ys z first.1) [
            | inl here ↦ inl (subst (λ v. Twice (v ∷ xs) z) (sym first.0) (twice_front z xs here))
            | inr later ↦ inr (inr (subst (λ v. Contains (v ∷ xs) z) (sym first.0) (Contains-here z xs), later))
          ]
      | inr more ↦
          elim (twice-append xs ys z more) [
            | inl here ↦ inl (twice_there x xs z here)
            | inr (inl later) ↦ inr (inl later)
            | inr (inr both) ↦ inr (inr (Contains-there x z xs both.0, both.1))
          ]
    ]

-- h finds this at two places
abbrev FoundTwice : {A B : Type 0} → (A → Option B) → List A → B → Type 0
FoundTwice {A = A} h xs y =
    (a : ℕ) × (b : ℕ) × (x : A) × (z : A) × (a < b) × (slice_get xs a ≡ Some x) × (slice_get xs b ≡ Some z) × (h x ≡ Some y) × (h z ≡ Some y)

found_later : {A B : Type 0} (h : A → Option B) (x : A) (xs : List A) (y : B) → FoundTwice h xs y → FoundTwice h (x ∷ xs) y
found_later h x xs y w = (suc w.0, suc w.1, w.2, w.3, omega (arith, w.4), w.5, w.6, w.7, w.8)

twice_found : {A B : Type 0} (h : A → Option B) (xs : List A) (y : B) → Twice (filter_map h xs) y → FoundTwice h xs y
twice_found h [] y two = absurd (not_twice_nil y two)
twice_found {B = B} h (x ∷ xs) y two = by (h x) refl (twice_found h xs y) two
  where
    by : (o : Option B) → h x ≡ o → (Twice (filter_map h xs) y → FoundTwice h xs y) → Twice (cons_option o (filter_map h xs)) y → FoundTwice h (x ∷ xs) y
    by None is more again = found_later h x xs y (more again)
    by (Some v) is more again =
        elim (twice_cases v (filter_map h xs) y again) [
          | inl first ↦
              let w = Contains-from_filter_map h xs y first.1 in
              let place = at_some_place xs w.0 w.1 in
              (0, suc place.0, x, w.0, omega arith, refl, place.1, is ∙ ap Some first.0, w.2)
          | inr rest ↦ found_later h x xs y (more rest)
        ]

-- ---- the list of all instances

-- no entries of one instance make one instance twice
made-once : (tree : Tree) (top a : Instance) → IsSingle tree top → Inst tree top a → (j : Instance) → ¬ Twice (made_in tree a) j
made-once tree top a single inst j two =
    let w = twice_found (instance_of tree a) (children_in a) j two in
    single.once a j.path inst
    (twice-filter_map (path_of tree a) (children_in a) w.0 w.1 w.2 w.3 j.path w.4 w.5 w.6 (its_path tree a j w.2 w.7) (its_path tree a j w.3 w.8))

-- nor those of different instances
level-once :
    (tree : Tree) (top : Instance) → IsSingle tree top → (is : List Instance) → ((i : Instance) → Contains is i → Inst tree top i)
    → ((i : Instance) → ¬ Twice is i) → (j : Instance) → ¬ Twice (flat_map (made_in tree) is) j
level-once tree top single [] each once j two = not_twice_nil j two
level-once tree top single (i ∷ is) each once j two =
    elim (twice-append (made_in tree i) (flat_map (made_in tree) is) j two) [
      | inl here ↦ made-once tree top i single (each i (Contains-here i is)) j here
      | inr (inl later) ↦
          level-once tree top single is (λ x has. each x (Contains-there i x is has)) (λ x again. once x (twice_there i is x again)) j later
      | inr (inr both) ↦
          let from = Contains-from_flat_map (made_in tree) is j both.1 in
          single.apart i from.0 j.path (each i (Contains-here i is)) (each from.0 (Contains-there i from.0 is from.1))
          (λ same. once i (twice_front i is (subst (Contains is) (sym same) from.1))) (path_made tree i j both.0) (path_made tree from.0 j from.2)
    ]

levels-deep :
    (tree : Tree) (n : ℕ) (is : List Instance) → ((i : Instance) → Contains is i → i.depth + n ≡ 33) → (i : Instance) → Contains (levels tree n is) i
    → 33 ≤ i.depth + n
levels-deep tree zero is depths i has = omega (arith, depths i (subst (λ js. Contains js i) (levels-zero tree is) has))
levels-deep tree (suc n) is depths i has =
    elim (Contains-append_cases is (levels tree n (flat_map (made_in tree) is)) i (subst (λ js. Contains js i) (levels-suc tree n is) has)) [
      | inl here ↦ omega (arith, depths i here)
      | inr deeper ↦ omega (arith, levels-deep tree n (flat_map (made_in tree) is) (next_depths tree n is depths) i deeper)
    ]

levels-once :
    (tree : Tree) (top : Instance) → IsSingle tree top → (n : ℕ) (is : List Instance) → ((i : Instance) → Contains is i → i.depth + n ≡ 33)
    → ((i : Instance) → Contains is i → Inst tree top i) → ((i : Instance) → ¬ Twice is i) → (i : Instance) → ¬ Twice (levels tree n is) i
levels-once tree top single zero is depths each once i two = once i (subst (λ js. Twice js i) (levels-zero tree is) two)
levels-once tree top single (suc n) is depths each once i two =
    let next = flat_map (made_in tree) is in
    let below_is : (j : Instance) → Contains next j → Inst tree top j =
    λ j has. let from = Contains-from_flat_map (made_in tree) is j has in below from.0 j (each from.0 from.1) from.2 in
    elim (twice-append is (levels tree n next) i (subst (λ js. Twice js i) (levels-suc tree n is) two)) [
      | inl here ↦ once i here
      | inr (inl deeper) ↦ levels-once tree top single n next (next_depths tree n is depths) below_is (level-once tree top single is each once) i deeper
      | inr (inr both) ↦ omega (arith, depths i both.0, levels-deep tree n next (next_depths tree n is depths) i both.1)
    ]

-- where no path is made twice, no instance stands twice in the list
pub instances-once : (tree : Tree) (top : Instance) → IsSingle tree top → top.depth ≡ 0 → (i : Instance) → ¬ Twice (instances tree top) i
instances-once tree top single shallow =
    levels-once tree top single 33 (top ∷ []) (λ i has. ap (λ (x : Instance). x.depth + 33) (Contains-one top i has) ∙ ap (λ n. n + 33) shallow)
    (λ i has. subst (Inst tree top) (sym (Contains-one top i has)) at_top) not_twice_one
  where
    not_twice_one : (i : Instance) → ¬ Twice (top ∷ []) i
    not_twice_one i two =
        elim (twice_cases top [] i two) [
          | inl first ↦ Contains-nil i first.1
          | inr more ↦ not_twice_nil i more
        ]

-- ---- the count

-- what different instances count for is at most the sum
pub counted-within : (tree : Tree) (top : Instance) (limit : ℕ) → top.depth ≡ 0 → CountsMore tree top limit → limit < total tree top
counted-within tree top limit shallow more =
    let sum = sum-within count_in more.counted (instances tree top) more.once (λ i has. (instances-listed tree top i shallow).0 (more.each i has)) in
    omega (arith, more.above, sum)

-- and the sum is that of different ones, where no path is made twice
pub counted-all : (tree : Tree) (top : Instance) (limit : ℕ) → IsSingle tree top → top.depth ≡ 0 → limit < total tree top → CountsMore tree top limit
counted-all tree top limit single shallow above =
    record { counted = instances tree top; once = instances-once tree top single shallow; each = λ i. (instances-listed tree top i shallow).1; above = above }
