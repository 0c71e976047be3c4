-- Tests of lines by their places, as facts of the lists: which lines there are at the front, and how many.
use Rattle.std.proofs.Common.{◌≡◌, ◌∙◌, ◌+◌, Bool, true, false, ◌&&◌, List, [], ◌∷◌, ◌++◌, append_assoc, map, length, drop, Option, Some, None, refl, sym, ap, arith}
use Rattle.std.specs.Prelude.{is_some, slice_get}
use Rattle.std.specs.List.{list_all, prefix_len, range_with_len}
use Rattle.std.proofs.lemmas.Bool.{and_from, and_parts, both_ways}
use Rattle.std.proofs.lemmas.List.{append-nil, length_push}
use Rattle.std.proofs.lemmas.Option.{slice_get_past}
use Rattle.base.proofs.MapLaws.{prefix_len-map}
use Rattle.base.proofs.PlaceLaws.{own_place}
use Rattle.report_types.specs.declared.report.HistoryLine.{HistoryLine}
use Rattle.report_follows.specs.Testing.{both, drained_in, drained_port, is_drained_at, is_root_at, root_port, roots_in}

-- what is computed at each place is what is computed of each element
places : {A C : Type 0} (h : Option A → C) (ys xs : List A) → map (λ k. h (slice_get (ys ++ xs) k)) (range_with_len (length ys) (length xs)) ≡ map (λ x. h (Some x)) xs
places h ys [] = refl
places h ys (x ∷ xs) =
    let rest = places h (ys ++ x ∷ []) xs in
    let more_ : map (λ k. h (slice_get (ys ++ x ∷ xs) k)) (range_with_len (length ys + 1) (length xs)) ≡ map (λ y. h (Some y)) xs =
    ap (λ n. map (λ k. h (slice_get (ys ++ x ∷ xs) k)) (range_with_len n (length xs))) (sym (length_push ys x))
    ∙ ap (λ zs. map (λ k. h (slice_get zs k)) (range_with_len (length (ys ++ x ∷ [])) (length xs))) (sym (append_assoc ys (x ∷ []) xs))
    ∙ rest in
    (λ i. h (own_place ys xs x i) ∷ more_ i)

-- ---- two lists, place by place

abbrev pub begins : {A B : Type 0} → (A → B → Bool) → List A → List B → Bool
begins t xs [] = true
begins t [] (y ∷ ys) = false
begins t (x ∷ xs) (y ∷ ys) = t x y && begins t xs ys

both_none : {A B : Type 0} (t : A → B → Bool) (o : Option B) → both t None o ≡ false
both_none t None = refl
both_none t (Some b) = refl

pairs : {A B : Type 0} (t : A → B → Bool) (fs xs : List A) (bs ys : List B) → length fs ≡ length bs
    → list_all (λ k. both t (slice_get (fs ++ xs) k) (slice_get (bs ++ ys) k)) (range_with_len (length bs) (length ys)) ≡ begins t xs ys
pairs t fs xs bs [] same = refl
pairs t fs [] bs (y ∷ ys) same =
    let past : slice_get (fs ++ []) (length bs) ≡ None = slice_get_past (fs ++ []) (length bs) (omega (arith, ap (λ (zs : List _). length zs) (append-nil fs), same)) in
    ap (λ o. both t o (slice_get (bs ++ y ∷ ys) (length bs)) && list_all (λ k. both t (slice_get (fs ++ []) k) (slice_get (bs ++ y ∷ ys) k)) (range_with_len (length bs + 1) (length ys))) past
    ∙ ap (λ b. b && list_all (λ k. both t (slice_get (fs ++ []) k) (slice_get (bs ++ y ∷ ys) k)) (range_with_len (length bs + 1) (length ys))) (both_none t (slice_get (bs ++ y ∷ ys) (length bs)))
pairs t fs (x ∷ xs) bs (y ∷ ys) same =
    let rest = pairs t (fs ++ x ∷ []) xs (bs ++ y ∷ []) ys (length_push fs x ∙ ap (λ n. n + 1) same ∙ sym (length_push bs y)) in
    let first : slice_get (fs ++ x ∷ xs) (length bs) ≡ Some x = ap (slice_get (fs ++ x ∷ xs)) (sym same) ∙ own_place fs xs x in
    let more_ : list_all (λ k. both t (slice_get (fs ++ x ∷ xs) k) (slice_get (bs ++ y ∷ ys) k)) (range_with_len (length bs + 1) (length ys)) ≡ begins t xs ys =
    ap (λ n. list_all (λ k. both t (slice_get (fs ++ x ∷ xs) k) (slice_get (bs ++ y ∷ ys) k)) (range_with_len n (length ys))) (sym (length_push bs y))
    ∙ ap (λ zs. list_all (λ k. both t (slice_get zs k) (slice_get (bs ++ y ∷ ys) k)) (range_with_len (length (bs ++ y ∷ [])) (length ys))) (sym (append_assoc fs (x ∷ []) xs))
    ∙ ap (λ zs. list_all (λ k. both t (slice_get ((fs ++ x ∷ []) ++ xs) k) (slice_get zs k)) (range_with_len (length (bs ++ y ∷ [])) (length ys))) (sym (append_assoc bs (y ∷ []) ys))
    ∙ rest in
    (λ i. both t (first i) (own_place bs ys y i) && more_ i)

pub in_pairs : {A B : Type 0} (t : A → B → Bool) (xs : List A) (ys : List B) → list_all (λ k. both t (slice_get xs k) (slice_get ys k)) (range_with_len 0 (length ys)) ≡ begins t xs ys
in_pairs t xs ys = pairs t [] xs [] ys refl

-- where the test tells what each must be, the list begins so
pub begins_with : {A B : Type 0} (t : A → B → Bool) (g : B → A) → ((x : A) (y : B) → t x y ≡ true → x ≡ g y) → (xs : List A) (ys : List B) → begins t xs ys ≡ true
    → xs ≡ map g ys ++ drop (length ys) xs
begins_with t g tells xs [] h = refl
begins_with t g tells [] (y ∷ ys) h = absurd (both_ways false refl h)
begins_with t g tells (x ∷ xs) (y ∷ ys) h =
    let w = and_parts (t x y) (begins t xs ys) h in (λ i. tells x y w.0 i ∷ begins_with t g tells xs ys w.1 i)

-- and a list that begins so passes
pub starts_so : {A B : Type 0} (t : A → B → Bool) (g : B → A) (fit : B → Bool) → ((y : B) → fit y ≡ true → t (g y) y ≡ true) → (ys : List B) (rest : List A) → list_all fit ys ≡ true
    → begins t (map g ys ++ rest) ys ≡ true
starts_so t g fit passes [] rest h = refl
starts_so t g fit passes (y ∷ ys) rest h =
    let w = and_parts (fit y) (list_all fit ys) h in and_from (t (g y) y) (begins t (map g ys ++ rest) ys) (passes y w.0) (starts_so t g fit passes ys rest w.1)

-- ---- fronts of lines

abbrev pub is_drained_line : HistoryLine → Bool
is_drained_line l = is_some (drained_port (Some l))

abbrev pub is_root_line : HistoryLine → Bool
is_root_line l = is_some (root_port (Some l))

pub drained_front : (lines : List HistoryLine) → drained_in lines ≡ prefix_len is_drained_line lines
drained_front lines =
    sym (prefix_len-map (λ b. b) (is_drained_at lines) (range_with_len 0 (length lines)))
    ∙ ap (prefix_len (λ b. b)) (places (λ o. is_some (drained_port o)) [] lines)
    ∙ prefix_len-map (λ b. b) is_drained_line lines

pub root_front : (lines : List HistoryLine) → roots_in lines ≡ prefix_len is_root_line lines
root_front lines =
    sym (prefix_len-map (λ b. b) (is_root_at lines) (range_with_len 0 (length lines)))
    ∙ ap (prefix_len (λ b. b)) (places (λ o. is_some (root_port o)) [] lines)
    ∙ prefix_len-map (λ b. b) is_root_line lines
