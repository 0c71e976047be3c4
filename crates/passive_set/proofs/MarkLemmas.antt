-- Lemmas on marks and on the list of those that are set.
use Rattle.std.proofs.Common.{◌≡◌, ◌⊎◌, ◌↔◌, ℕ, ◌+◌, ◌<◌, ◌≤◌, Bool, true, false, cond, List, [], ◌∷◌, ◌++◌, length, take, set, get_or, sym, ◌∙◌, ap, inl, arith, filter, All, Contains}
use Rattle.std.specs.List.{range_with_len}
use Rattle.std.specs.List.Sorted.{IsStrictlyIncreasing}
use Rattle.std.proofs.Math.Logic.{⊎_elim, ⊎_map}
use Rattle.std.proofs.lemmas.List.Elements.{All-contains, Contains-get_or, filter-append, filter_passes}
use Rattle.std.proofs.lemmas.List.FromFn.{get_or-range_with_len, length-range_with_len}
use Rattle.std.proofs.lemmas.List.Kept.{IsStrictlyIncreasing-filter}
use Rattle.config_graph.specs.Marks.{IsMarked}
use Rattle.config_graph.proofs.MarkLaws.{marked_more, marked_within}
use Rattle.base.proofs.ContainsLaws.{Contains-filter, Contains_more}
use Rattle.base.proofs.RisingLaws.{places_more}

-- equivalences, one after another, the other way round, and side by side
module _ {A B : Type 0} where
  pub back : (A ↔ B) → B ↔ A
  back f = (f.1, f.0)

  pub and_then : {C : Type 0} → (A ↔ B) → (B ↔ C) → A ↔ C
  and_then f g = (λ a. g.0 (f.0 a), λ c. f.1 (g.1 c))

  pub either : {C D : Type 0} → (A ↔ C) → (B ↔ D) → (A ⊎ B) ↔ (C ⊎ D)
  either f g = (⊎_map f.0 g.0, ⊎_map f.1 g.1)

  pub or_never : ¬ B → A ↔ (A ⊎ B)
  or_never never = (λ a. inl a, ⊎_elim (λ a. a) (λ b. absurd (never b)))

pub as_it_is : {A : Type 0} → A ↔ A
as_it_is = (λ a. a, λ a. a)

pub turned : {A : Type 0} {x y : A} → (x ≡ y) ↔ (y ≡ x)
turned = (λ same. sym same, λ same. sym same)

-- the marks of the nodes as far as one place more
pub marks_more : (nodes : List ℕ) (marks : List Bool) (i n d : ℕ) → i < length nodes → n ≡ get_or nodes i d → n < length marks → ((k : ℕ) → IsMarked marks k ↔ Contains (take i nodes) k) → (k : ℕ) → IsMarked (set marks n true) k ↔ Contains (take (i + 1) nodes) k
marks_more nodes marks i n d low n_is within so_far k =
    and_then (marked_more marks n within k) (and_then (either (so_far k) (λ same. sym n_is ∙ same, λ same. n_is ∙ same)) (back (Contains_more nodes i d low k)))

-- the first nodes whose marks are set
abbrev pub marked_in : List Bool → ℕ → List ℕ
marked_in marks n = filter (λ i. get_or marks i false) (range_with_len 0 n)

pub marked_in_more : (marks : List Bool) (n : ℕ) → marked_in marks (n + 1) ≡ marked_in marks n ++ cond (get_or marks n false) (n ∷ []) []
marked_in_more marks n =
    let p : ℕ → Bool = λ i. get_or marks i false in
    ap (filter p) (places_more n) ∙ filter-append p (range_with_len 0 n) (n ∷ [])

pub Contains-marked_in : (marks : List Bool) (n : ℕ) → length marks ≤ n → (i : ℕ) → Contains (marked_in marks n) i ↔ IsMarked marks i
Contains-marked_in marks n all i = (to, from)
  where
    to : Contains (marked_in marks n) i → IsMarked marks i
    to h = All-contains (λ k. get_or marks k false ≡ true) (marked_in marks n) i (filter_passes (λ k. get_or marks k false) (range_with_len 0 n)) h

    from : IsMarked marks i → Contains (marked_in marks n) i
    from h =
        let low : i < n = omega (arith, all, marked_within marks i h) in
        let long : i < length (range_with_len 0 n) = rw length-range_with_len low in
        let here : get_or (range_with_len 0 n) i i ≡ i = get_or-range_with_len 0 n i i low ∙ omega arith in
        Contains-filter (λ k. get_or marks k false) (range_with_len 0 n) i (i, long, here) h

pub marked_in-rising : (marks : List Bool) (n : ℕ) → IsStrictlyIncreasing (marked_in marks n)
marked_in-rising marks n = IsStrictlyIncreasing-filter (λ i. get_or marks i false) (range_with_len 0 n) (λ k h.
    let long : k + 1 < n = rw length-range_with_len at h in
    rw (get_or-range_with_len 0 n k 0 (omega arith), get_or-range_with_len 0 n (k + 1) 0 long) (omega arith))

-- the numbers that marks list stand among the marks
pub marked_below : (marks : List Bool) (listed : List ℕ) → ((i : ℕ) → Contains listed i ↔ IsMarked marks i) → All (λ i. i < length marks) listed
marked_below marks listed are =
    λ k d low. marked_within marks (get_or listed k d) ((are (get_or listed k d)).0 (Contains-get_or listed k d low))
