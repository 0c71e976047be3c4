-- Lines of a text one by one: what a line says, whatever stands at its ends.
use Rattle.std.proofs.Common.{◌≡◌, ◌≢◌, reverse, ℕ, suc, ◌+◌, ◌-◌, ◌≤◌, ◌==◌, ◌&&◌, Bool, true, false, not, if◌then◌else◌, inl, inr, List, [], ◌∷◌, ◌++◌, take, drop, length, arith, refl, sym, ap, ◌∙◌, append-nil}
use Rattle.std.specs.List.{list_all, prefix_len, suffix_len}
use Rattle.std.proofs.lemmas.Bool.{cond-true, cond-false, and_parts, cases_Bool, not-true}
use Rattle.std.proofs.lemmas.Bool.Decides.{nat_tests}
use Rattle.std.proofs.lemmas.Grind.{common_steps}
use Rattle.std.proofs.lemmas.List.{length-append, length-reverse, reverse-append}
use Rattle.std.proofs.lemmas.List.Folds.{list_all-append}
use Rattle.std.proofs.lemmas.List.Splits.{slice_split_at, slice_split_none}
use Rattle.std.proofs.lemmas.List.Sums.{AllPass-from_list_all, suffix_len-le-length}
use Rattle.change_script.specs.Lines.{Line, is_margin, is_statement, lines, statements_from, statements_of, trimmed, without_left_margin, without_right_margin}
use Rattle.change_script_laws.specs.FileTexts.{are_margins, is_one_line, said}
use Rattle.base.proofs.FindLaws.{all_front}

-- ---- a line and the lines behind it

line_first : (line rest : List ℕ) → is_one_line line ≡ true → lines (line ++ (10 ∷ rest)) ≡ line ∷ lines rest
line_first line rest one =
    let all = AllPass-from_list_all (λ b. not (b == 10)) line one in
    slice_split_at (λ b. b == 10) line 10 rest (λ k d low. not-true _ (all k d low)) refl

line_last : (line : List ℕ) → is_one_line line ≡ true → lines line ≡ line ∷ []
line_last line one =
    let all = AllPass-from_list_all (λ b. not (b == 10)) line one in
    slice_split_none (λ b. b == 10) line (λ k d low. not-true _ (all k d low))

first_or_none : (b : Bool) (first : Line) (rest : List Line) → (if b then first ∷ rest else rest) ≡ (if b then first ∷ [] else []) ++ rest
first_or_none true first rest = refl
first_or_none false first rest = refl

pub line_said : (number : ℕ) (line rest : List ℕ) → is_one_line line ≡ true → statements_from number (line ++ (10 ∷ rest)) ≡ said number line ++ statements_from (number + 1) rest
line_said number line rest one =
    ap (statements_of number) (line_first line rest one)
    ∙ first_or_none (is_statement (trimmed line)) (record { number = number; bytes = trimmed line }) (statements_from (number + 1) rest)

pub last_said : (number : ℕ) (line : List ℕ) → is_one_line line ≡ true → statements_from number line ≡ said number line
last_said number line one = ap (statements_of number) (line_last line one)

all_turned : (p : ℕ → Bool) (xs : List ℕ) → list_all p xs ≡ true → list_all p (reverse xs) ≡ true
all_turned p [] all = refl
all_turned p (x ∷ xs) all =
    let both = and_parts (p x) (list_all p xs) all in
    ap (list_all p) (reverse-append (x ∷ []) xs) ∙ list_all-append p (reverse xs) (x ∷ []) ∙ ap (λ b. b && list_all p (x ∷ [])) (all_turned p xs both.1) ∙ ap (λ b. b && true) both.0

stops : (p : ℕ → Bool) (xs : List ℕ) (b : ℕ) → p b ≡ false → prefix_len p (xs ++ (b ∷ [])) ≤ length xs
stops p [] b fails = let e : prefix_len p (b ∷ []) ≡ 0 = cond-false _ _ _ fails in omega arith
stops p (x ∷ xs) b fails =
    let rest = stops p xs b fails in
    elim (cases_Bool (p x)) [
      | inl holds ↦ let e : prefix_len p (x ∷ (xs ++ (b ∷ []))) ≡ 1 + prefix_len p (xs ++ (b ∷ [])) = cond-true _ _ _ holds in omega arith
      | inr none ↦ let e : prefix_len p (x ∷ (xs ++ (b ∷ []))) ≡ 0 = cond-false _ _ _ none in omega arith
    ]

-- margins behind are passed over
right_passed : (xs right : List ℕ) → are_margins right ≡ true → without_right_margin (xs ++ right) ≡ without_right_margin xs
right_passed xs right all =
    let turned : suffix_len is_margin (xs ++ right) ≡ length right + suffix_len is_margin xs =
    ap (prefix_len is_margin) (reverse-append xs right) ∙ all_front is_margin (reverse right) (reverse xs) (all_turned is_margin right all)
    ∙ ap (λ n. n + suffix_len is_margin xs) (length-reverse right) in
    let within = suffix_len-le-length is_margin xs in
    let whole = length-append xs right in
    let kept : length (xs ++ right) - suffix_len is_margin (xs ++ right) ≡ length xs - suffix_len is_margin xs = omega arith in
    ap (λ n. take n (xs ++ right)) kept ∙ (let front : take (length xs - suffix_len is_margin xs) (xs ++ right) ≡ take (length xs - suffix_len is_margin xs) xs = grind (arith, common_steps) in front)

pub drop_one_more : (k x : ℕ) (xs : List ℕ) → drop (1 + k) (x ∷ xs) ≡ drop k xs
drop_one_more k x xs = let e : 1 + k ≡ suc k = omega arith in ap (λ n. drop n (x ∷ xs)) e

left_step : (x : ℕ) (xs : List ℕ) → is_margin x ≡ true → without_left_margin (x ∷ xs) ≡ without_left_margin xs
left_step x xs holds = ap (λ n. drop n (x ∷ xs)) (cond-true _ _ _ holds) ∙ drop_one_more (prefix_len is_margin xs) x xs

left_kept : (x : ℕ) (xs : List ℕ) → is_margin x ≡ false → without_left_margin (x ∷ xs) ≡ x ∷ xs
left_kept x xs fails = ap (λ n. drop n (x ∷ xs)) (cond-false _ _ _ fails)

left_passed : (left xs : List ℕ) → are_margins left ≡ true → without_left_margin (left ++ xs) ≡ without_left_margin xs
left_passed [] xs all = refl
left_passed (b ∷ left) xs all = let both = and_parts (is_margin b) (are_margins left) all in left_step b (left ++ xs) both.0 ∙ left_passed left xs both.1

blank_trimmed : (blanks : List ℕ) → are_margins blanks ≡ true → trimmed blanks ≡ []
blank_trimmed blanks all = ap trimmed (sym (append-nil blanks)) ∙ ap without_right_margin (left_passed blanks [] all)

ends_trimmed : (xs right : List ℕ) → are_margins right ≡ true → trimmed (xs ++ right) ≡ trimmed xs
ends_trimmed [] right all = blank_trimmed right all
ends_trimmed (x ∷ xs) right all =
    elim (cases_Bool (is_margin x)) [
      | inl holds ↦ ap without_right_margin (left_step x (xs ++ right) holds) ∙ ends_trimmed xs right all ∙ sym (ap without_right_margin (left_step x xs holds))
      | inr fails ↦ ap without_right_margin (left_kept x (xs ++ right) fails) ∙ right_passed (x ∷ xs) right all ∙ sym (ap without_right_margin (left_kept x xs fails))
    ]

margins_trimmed : (left line right : List ℕ) → are_margins left ≡ true → are_margins right ≡ true → trimmed (left ++ (line ++ right)) ≡ trimmed line
margins_trimmed left line right before behind = ap without_right_margin (left_passed left (line ++ right) before) ∙ ends_trimmed line right behind

abbrev said_of : ℕ → List ℕ → List Line
said_of number bytes = if is_statement bytes then (record { number = number; bytes = bytes } ∷ []) else []

pub margins_said : (number : ℕ) (left line right : List ℕ) → are_margins left ≡ true → are_margins right ≡ true → said number (left ++ (line ++ right)) ≡ said number line
margins_said number left line right before behind = ap (said_of number) (margins_trimmed left line right before behind)

pub blank_said : (number : ℕ) (blanks : List ℕ) → are_margins blanks ≡ true → said number blanks ≡ []
blank_said number blanks all = ap (said_of number) (blank_trimmed blanks all)

-- A byte that is none at the front stays there.
front_kept : (x : ℕ) (xs : List ℕ) → is_margin x ≡ false → without_right_margin (x ∷ xs) ≡ x ∷ take (length xs - suffix_len is_margin (x ∷ xs)) xs
front_kept x xs fails =
    let turned : suffix_len is_margin (x ∷ xs) ≡ prefix_len is_margin (reverse xs ++ (x ∷ [])) = ap (prefix_len is_margin) (reverse-append (x ∷ []) xs) in
    let low = stops is_margin (reverse xs) x fails in
    let all = length-reverse xs in
    let kept : length (x ∷ xs) - suffix_len is_margin (x ∷ xs) ≡ suc (length xs - suffix_len is_margin (x ∷ xs)) = omega arith in
    ap (λ n. take n (x ∷ xs)) kept

pub comment_said : (number : ℕ) (left rest : List ℕ) → are_margins left ≡ true → said number (left ++ (35 ∷ rest)) ≡ []
comment_said number left rest all =
    ap (said_of number) (ap without_right_margin (left_passed left (35 ∷ rest) all ∙ left_kept 35 rest refl) ∙ front_kept 35 rest refl)

-- the last byte stays where it is none
back_kept : (front : List ℕ) (last : ℕ) → is_margin last ≡ false → without_right_margin (front ++ (last ∷ [])) ≡ front ++ (last ∷ [])
back_kept front last fails =
    let line : List ℕ = front ++ (last ∷ []) in
    let none : suffix_len is_margin line ≡ 0 = ap (prefix_len is_margin) (reverse-append front (last ∷ [])) ∙ cond-false _ _ _ fails in
    ap (λ n. take (length line - n) line) none ∙ (let whole : take (length line - 0) line ≡ line = grind (arith, common_steps) in whole)

-- a line that has neither at its ends is trimmed to itself
kept : (first last : ℕ) (more front : List ℕ) → first ∷ more ≡ front ++ (last ∷ []) → is_margin first ≡ false → is_margin last ≡ false → trimmed (first ∷ more) ≡ first ∷ more
kept first last more front same fails none =
    ap without_right_margin (left_kept first more fails) ∙ ap without_right_margin same ∙ back_kept front last none ∙ sym same

no_comment : (first : ℕ) (more : List ℕ) → first ≢ 35 → is_statement (first ∷ more) ≡ true
no_comment first more other = grind (arith, nat_tests)

pub itself_said : (number first last : ℕ) (more front : List ℕ) → first ∷ more ≡ front ++ (last ∷ []) → is_margin first ≡ false → is_margin last ≡ false → first ≢ 35
    → said number (first ∷ more) ≡ record { number = number; bytes = first ∷ more } ∷ []
itself_said number first last more front same fails none other =
    ap (said_of number) (kept first last more front same fails none) ∙ cond-true _ _ _ (no_comment first more other)
