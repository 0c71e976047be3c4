-- Up to where a close is left before the line of a root, led on by one line.
use Rattle.std.proofs.Common.{◌≡◌, ◌∙◌, ◌⊎◌, ℕ, ◌+◌, ◌<◌, ◌≤◌, Bool, true, false, cond, ◌&&◌, ◌||◌, List, [], ◌∷◌, ◌++◌, length, get_or, take, drop, Some, refl, sym, ap, ap₂, subst, ⊎_elim, inl, inr, arith}
use Rattle.std.specs.Prelude.{◌==◌, nat_lt}
use Rattle.std.specs.List.{list_any}
use Rattle.std.specs.Option.{option_map_or}
use Rattle.std.proofs.lemmas.Bool.{and_parts, both_ways, cases_Bool, cases_lt, false_from_ne_true, lt-ltb, ltb-true, or_cases, or_left, or_right}
use Rattle.std.proofs.lemmas.List.{drop-append-le, drop_all, length-append, length-take-le, take_more}
use Rattle.std.proofs.lemmas.List.Folds.{list_any-append}
use Rattle.std.proofs.Math.Bool.{and-true, and-false, or-false}
use Rattle.report_types.specs.declared.report.HistoryLine.{HistoryLine}
use Rattle.report_types.specs.declared.report.HistoryLine.TheVariants as to
use Rattle.change_spec.specs.Members.{is_close}
use Rattle.merge_laws.specs.Guarded.{closes_before, is_root_line}
use Rattle.report_check.specs.Ahead.{AreNoted, Updated, bound_of}
use Rattle.report_check.specs.declared.closes.Root.{Root}

regrouped : (c r one b more_ : Bool) → (c && (r || (one || false))) || (b || (more_ && one)) ≡ ((c && r) || b) || ((c || more_) && one)
regrouped true true one b more_ = refl
regrouped true false true true more_ = refl
regrouped true false true false more_ = refl
regrouped true false false true more_ = refl
regrouped true false false false true = refl
regrouped true false false false false = refl
regrouped false r one true more_ = refl
regrouped false r one false more_ = refl

closes_behind : (p k : ℕ) (xs : List HistoryLine) (l : HistoryLine)
    → closes_before p k (xs ++ l ∷ []) ≡ closes_before p k xs || (list_any is_close xs && is_root_line p k l)
closes_behind p k [] l = ap (λ b. b || false) (and-false (is_close l))
closes_behind p k (x ∷ xs) l =
    ap₂ (λ a b. (is_close x && a) || b) (list_any-append (is_root_line p k) xs (l ∷ [])) (closes_behind p k xs l)
    ∙ regrouped (is_close x) (list_any (is_root_line p k) xs) (is_root_line p k l) (closes_before p k xs) (list_any is_close xs)

-- where a close is left before the line of a root, one is left
closes_then : (p k : ℕ) (xs : List HistoryLine) → closes_before p k xs ≡ true → list_any is_close xs ≡ true
closes_then p k [] h = h
closes_then p k (x ∷ xs) h =
    ⊎_elim
    (λ (here : is_close x && list_any (is_root_line p k) xs ≡ true). or_left (is_close x) (list_any is_close xs) (and_parts (is_close x) (list_any (is_root_line p k) xs) here).0)
    (λ (later : closes_before p k xs ≡ true). or_right (is_close x) (list_any is_close xs) (closes_then p k xs later))
    (or_cases (is_close x && list_any (is_root_line p k) xs) (closes_before p k xs) h)

-- the same from a place on
data At (ls : List HistoryLine) (l : HistoryLine) (place : ℕ) : Type 0 where
  within : place ≤ length ls → drop place (ls ++ l ∷ []) ≡ drop place ls ++ l ∷ [] → At ls l place
  beyond : length ls < place → drop place (ls ++ l ∷ []) ≡ [] → drop place ls ≡ [] → At ls l place

split_place : (ls : List HistoryLine) (l : HistoryLine) (place : ℕ) → At ls l place
split_place ls l place =
    ⊎_elim
    (λ (gt : length ls < place).
    let all : length (ls ++ l ∷ []) ≤ place = simp length-append (omega arith) in
    let some : length ls ≤ place = omega arith in
    beyond gt (drop_all place (ls ++ l ∷ []) all) (drop_all place ls some))
    (λ (le : place ≤ length ls). within le (drop-append-le place ls (l ∷ []) le))
    (cases_lt (length ls) place)

roots_at : (p k place : ℕ) (ls : List HistoryLine) (l : HistoryLine)
    → closes_before p k (drop place (ls ++ l ∷ [])) ≡ closes_before p k (drop place ls) || (list_any is_close (drop place ls) && is_root_line p k l)
roots_at p k place ls l = by (split_place ls l place)
  where
    by : At ls l place → closes_before p k (drop place (ls ++ l ∷ [])) ≡ closes_before p k (drop place ls) || (list_any is_close (drop place ls) && is_root_line p k l)
    by (within le e) = ap (closes_before p k) e ∙ closes_behind p k (drop place ls) l
    by (beyond gt e f) = ap (closes_before p k) e ∙ sym (ap (λ xs. closes_before p k xs || (list_any is_close xs && is_root_line p k l)) f)

closes_at : (place : ℕ) (ls : List HistoryLine) (l : HistoryLine)
    → list_any is_close (drop place (ls ++ l ∷ [])) ≡ list_any is_close (drop place ls) || (nat_lt place (length ls + 1) && is_close l)
closes_at place ls l = by (split_place ls l place)
  where
    by : At ls l place → list_any is_close (drop place (ls ++ l ∷ [])) ≡ list_any is_close (drop place ls) || (nat_lt place (length ls + 1) && is_close l)
    by (within le e) =
        ap (list_any is_close) e ∙ list_any-append is_close (drop place ls) (l ∷ [])
        ∙ ap (λ b. list_any is_close (drop place ls) || b) (or-false (is_close l) ∙ sym (ap (λ b. b && is_close l) (lt-ltb place (length ls + 1) (omega arith))))
    by (beyond gt e f) =
        ap (list_any is_close) e
        ∙ sym (ap₂ (λ xs b. list_any is_close xs || (b && is_close l)) f (false_from_ne_true (nat_lt place (length ls + 1)) (λ t. let low = ltb-true place (length ls + 1) t in omega arith)))

-- ---- one line is noted

-- a close
pub close_noted : (bounds : List (Root × ℕ)) (bound q : ℕ) (ls : List HistoryLine) → AreNoted bounds bound ls
    → AreNoted bounds (length ls + 1) (ls ++ to.Close q ∷ [])
close_noted bounds bound q ls w =
    record {
      closes = λ place. closes_at place ls (to.Close q) ∙ only place (cases_Bool (list_any is_close (drop place ls)));
      roots = λ p k place.
          roots_at p k place ls (to.Close q) ∙ ap (λ b. closes_before p k (drop place ls) || b) (and-false (list_any is_close (drop place ls)))
          ∙ or-false (closes_before p k (drop place ls)) ∙ w.roots p k place;
    }
  where
    -- where a close is left there is a line
    low : (place : ℕ) → list_any is_close (drop place ls) ≡ true → nat_lt place (length ls + 1) ≡ true
    low place t =
        ⊎_elim
        (λ (gt : length ls < place).
        let some : length ls ≤ place = omega arith in
        absurd (both_ways false refl (sym (ap (list_any is_close) (drop_all place ls some)) ∙ t)))
        (λ (le : place ≤ length ls). lt-ltb place (length ls + 1) (omega arith))
        (cases_lt (length ls) place)

    only : (place : ℕ) → (list_any is_close (drop place ls) ≡ true) ⊎ (list_any is_close (drop place ls) ≡ false)
        → list_any is_close (drop place ls) || (nat_lt place (length ls + 1) && true) ≡ nat_lt place (length ls + 1)
    only place (inl t) = ap (λ b. b || (nat_lt place (length ls + 1) && true)) t ∙ sym (low place t)
    only place (inr f) = ap (λ b. b || (nat_lt place (length ls + 1) && true)) f ∙ and-true (nat_lt place (length ls + 1))

-- a line that tells a root
pub root_noted : (bounds bounds' : List (Root × ℕ)) (bound q j : ℕ) (ls : List HistoryLine) → AreNoted bounds bound ls
    → Updated bounds bounds' (record { port = q; serial = j }) bound → AreNoted bounds' bound (ls ++ to.Root q j ∷ [])
root_noted bounds bounds' bound q j ls w put =
    record {
      closes = λ place.
          closes_at place ls (to.Root q j) ∙ ap (λ b. list_any is_close (drop place ls) || b) (and-false (nat_lt place (length ls + 1)))
          ∙ or-false (list_any is_close (drop place ls)) ∙ w.closes place;
      roots = λ p k place. roots_at p k place ls (to.Root q j) ∙ is p k place (cases_Bool (q == p && j == k));
    }
  where
    Left : ℕ → ℕ → ℕ → Bool
    Left p k place = closes_before p k (drop place ls) || (list_any is_close (drop place ls) && (q == p && j == k))

    new_bound : (p k : ℕ) (b : Bool) → (q == p && j == k) ≡ b
        → bound_of bounds' (record { port = p; serial = k }) ≡ cond b (Some bound) (bound_of bounds (record { port = p; serial = k }))
    new_bound p k b e = put (record { port = p; serial = k }) ∙ ap (λ x. cond x (Some bound) (bound_of bounds (record { port = p; serial = k }))) e

    taken : (b c : Bool) → (b ≡ true → c ≡ true) → b || (c && true) ≡ c
    taken true c h = sym (h refl)
    taken false c h = and-true c

    is : (p k place : ℕ) → ((q == p && j == k) ≡ true) ⊎ ((q == p && j == k) ≡ false)
        → closes_before p k (drop place ls) || (list_any is_close (drop place ls) && (q == p && j == k))
        ≡ option_map_or (nat_lt place) (bound_of bounds' (record { port = p; serial = k })) false
    is p k place (inl t) =
        ap (λ b. closes_before p k (drop place ls) || (list_any is_close (drop place ls) && b)) t
        ∙ taken (closes_before p k (drop place ls)) (list_any is_close (drop place ls)) (closes_then p k (drop place ls))
        ∙ w.closes place ∙ sym (ap (λ o. option_map_or (nat_lt place) o false) (new_bound p k true t))
    is p k place (inr f) =
        ap (λ b. closes_before p k (drop place ls) || (list_any is_close (drop place ls) && b)) f
        ∙ ap (λ b. closes_before p k (drop place ls) || b) (and-false (list_any is_close (drop place ls)))
        ∙ or-false (closes_before p k (drop place ls)) ∙ w.roots p k place
        ∙ sym (ap (λ o. option_map_or (nat_lt place) o false) (new_bound p k false f))

-- any other line
pub other_noted : (bounds : List (Root × ℕ)) (bound : ℕ) (ls : List HistoryLine) (l : HistoryLine) → AreNoted bounds bound ls
    → is_close l ≡ false → ((p k : ℕ) → is_root_line p k l ≡ false) → AreNoted bounds bound (ls ++ l ∷ [])
other_noted bounds bound ls l w no_close no_root =
    record {
      closes = λ place.
          closes_at place ls l ∙ ap (λ b. list_any is_close (drop place ls) || (nat_lt place (length ls + 1) && b)) no_close
          ∙ ap (λ b. list_any is_close (drop place ls) || b) (and-false (nat_lt place (length ls + 1)))
          ∙ or-false (list_any is_close (drop place ls)) ∙ w.closes place;
      roots = λ p k place.
          roots_at p k place ls l ∙ ap (λ b. closes_before p k (drop place ls) || (list_any is_close (drop place ls) && b)) (no_root p k)
          ∙ ap (λ b. closes_before p k (drop place ls) || b) (and-false (list_any is_close (drop place ls)))
          ∙ or-false (closes_before p k (drop place ls)) ∙ w.roots p k place;
    }

-- ---- the same by places

more_lines : (h : List HistoryLine) (i : ℕ) (l : HistoryLine) → i < length h → l ≡ get_or h i l → take (i + 1) h ≡ take i h ++ l ∷ []
more_lines h i l low is = take_more h i l low ∙ ap (λ x. take i h ++ x ∷ []) (sym is)

pub close_at : (bounds : List (Root × ℕ)) (bound q i : ℕ) (h : List HistoryLine) (l : HistoryLine) → i < length h → l ≡ get_or h i l → l ≡ to.Close q
    → AreNoted bounds bound (take i h) → AreNoted bounds (i + 1) (take (i + 1) h)
close_at bounds bound q i h l low is close w =
    let long : length (take i h) ≡ i = length-take-le i h (omega arith) in
    let lines : take (i + 1) h ≡ take i h ++ to.Close q ∷ [] = more_lines h i l low is ∙ ap (λ x. take i h ++ x ∷ []) close in
    subst (λ ls. AreNoted bounds (i + 1) ls) (sym lines)
    (subst (λ n. AreNoted bounds (n + 1) (take i h ++ to.Close q ∷ [])) long (close_noted bounds bound q (take i h) w))

pub root_at : (bounds bounds' : List (Root × ℕ)) (bound q j i : ℕ) (h : List HistoryLine) (l : HistoryLine) → i < length h → l ≡ get_or h i l → l ≡ to.Root q j
    → AreNoted bounds bound (take i h) → Updated bounds bounds' (record { port = q; serial = j }) bound → AreNoted bounds' bound (take (i + 1) h)
root_at bounds bounds' bound q j i h l low is root w put =
    let lines : take (i + 1) h ≡ take i h ++ to.Root q j ∷ [] = more_lines h i l low is ∙ ap (λ x. take i h ++ x ∷ []) root in
    subst (λ ls. AreNoted bounds' bound ls) (sym lines) (root_noted bounds bounds' bound q j (take i h) w put)

not_close : (l : HistoryLine) → ((q : ℕ) → l ≡ to.Close q → ⊥) → is_close l ≡ false
not_close (to.Close q) no_ = absurd (no_ q refl)
not_close _ no_ = refl

not_root : (l : HistoryLine) → ((q j : ℕ) → l ≡ to.Root q j → ⊥) → (p k : ℕ) → is_root_line p k l ≡ false
not_root (to.Root q j) no_ p k = absurd (no_ q j refl)
not_root _ no_ p k = refl

pub other_at : (bounds : List (Root × ℕ)) (bound i : ℕ) (h : List HistoryLine) (l : HistoryLine) → i < length h → l ≡ get_or h i l
    → ((q : ℕ) → l ≡ to.Close q → ⊥) → ((q j : ℕ) → l ≡ to.Root q j → ⊥) → AreNoted bounds bound (take i h) → AreNoted bounds bound (take (i + 1) h)
other_at bounds bound i h l low is no_close no_root w =
    subst (λ ls. AreNoted bounds bound ls) (sym (more_lines h i l low is)) (other_noted bounds bound (take i h) l w (not_close l no_close) (not_root l no_root))
