-- A line of a script has at most one form, and means what its form says.
use Rattle.std.proofs.Common.{◌≡◌, ℕ, inl, inr, Bool, true, false, not, ◌&&◌, ◌||◌, nat_eq, List, [], ◌∷◌, ◌++◌, drop, Option, Some, None, Ok, Err, codes, refl, sym, ap, subst, ◌∙◌}
use Rattle.std.specs.Prelude.{◌↔◌}
use Rattle.std.specs.List.{list_all, prefix_len, starts_with}
use Rattle.std.proofs.lemmas.Bool.{cond-true, cond-false, and_parts, cases_Bool, not-true}
use Rattle.std.proofs.lemmas.Bool.Decides.{Decides-eqb}
use Rattle.std.proofs.lemmas.Slice.Eq.{starts_is}
use Rattle.report_types.specs.declared.script.Body.{Body}
use Rattle.change_script.specs.declared.error.LineFault.TheVariants.{Bad, Big}
use Rattle.change_script.specs.Tokens.{word, is_blank, is_sign, is_arrow, begins_blank, begins_word, tokens}
use Rattle.change_script.specs.ScriptWords.{Words, file, start, run, change, finish, show, stop, is_blankless, without_blanks, name_behind, file_in, words_or_file, words_in_tokens, words_in}
use Rattle.change_script.specs.ScriptForms.{UsesFile, IsSpelledBy, IsSpelled, are_right, HasForm}
use Rattle.change_script.specs.ScriptLines.{keep_limits, body_of, meaning_of, meaning, LineMeans, IsTooBig}
use Rattle.change_script.proofs.TokenLemmas.{drop_one_more, word_front}
use Rattle.change_script.proofs.ScriptWordLemmas.{tested, tokens_found, tokens_read}

-- Blanks in front of a name are passed over.
blank_skipped : (b : ℕ) (bs : List ℕ) → is_blank b ≡ true → without_blanks (b ∷ bs) ≡ without_blanks bs
blank_skipped b bs holds = ap (λ n. drop n (b ∷ bs)) (cond-true _ _ _ holds) ∙ drop_one_more (prefix_len is_blank bs) b bs

none_skipped : (bs : List ℕ) → begins_blank bs ≡ false → without_blanks bs ≡ bs
none_skipped [] fails = refl
none_skipped (b ∷ bs) fails = ap (λ n. drop n (b ∷ bs)) (cond-false _ _ _ fails)

begins_no_blank : (name : List ℕ) → is_blankless name ≡ true → begins_blank name ≡ false
begins_no_blank [] h = cc
begins_no_blank (b ∷ bs) h = not-true (is_blank b) (and_parts (not (is_blank b)) (list_all (λ byte. not (is_blank byte)) bs) h).0

all_skipped : (blanks name : List ℕ) → list_all is_blank blanks ≡ true → is_blankless name ≡ true → without_blanks (blanks ++ name) ≡ name
all_skipped [] name all none = none_skipped name (begins_no_blank name none)
all_skipped (b ∷ bs) name all none =
    let both = and_parts (is_blank b) (list_all is_blank bs) all in
    blank_skipped b (bs ++ name) both.0 ∙ all_skipped bs name both.1 none

record Blanks (text : List ℕ) : Type 0 where
  blank : ℕ
  blanks : List ℕ
  all : list_all is_blank (blank ∷ blanks) ≡ true
  is : text ≡ (blank ∷ blanks) ++ without_blanks text

further_blank : (b : ℕ) (bs : List ℕ) → is_blank b ≡ true → Blanks bs → Blanks (b ∷ bs)
further_blank b bs holds more = record {
  blank = b;
  blanks = more.blank ∷ more.blanks;
  all = ap (λ x. x && list_all is_blank (more.blank ∷ more.blanks)) holds ∙ more.all;
  is = ap (λ xs. b ∷ xs) (more.is ∙ ap (λ n. (more.blank ∷ more.blanks) ++ n) (sym (blank_skipped b bs holds)));
}

blanks_of : (text : List ℕ) → begins_blank text ≡ true → Blanks text
blanks_of [] holds = cc
blanks_of (b ∷ bs) holds =
    elim (cases_Bool (begins_blank bs)) [
      | inl more ↦ further_blank b bs holds (blanks_of bs more)
      | inr last ↦ record { blank = b; blanks = []; all = ap (λ x. x && true) holds; is = ap (λ xs. b ∷ xs) (sym (blank_skipped b bs holds ∙ none_skipped bs last)) }
    ]

-- A `use` line is told by its bytes.
file_found : (line name : List ℕ) → file_in line ≡ Some name → UsesFile line name
file_found line name e =
    let uses = tested (starts_with nat_eq line (codes "use")) (name_behind (drop 3 line)) name e in
    let rest : List ℕ = drop 3 line in
    let named = tested (begins_blank rest && is_blankless (without_blanks rest)) (Some (without_blanks rest)) name uses.1 in
    let both = and_parts (begins_blank rest) (is_blankless (without_blanks rest)) named.0 in
    let same : without_blanks rest ≡ name = let h = named.1 in cc in
    let front = (starts_is Decides-eqb line (codes "use") (starts_with nat_eq line (codes "use")) refl).0 uses.0 in
    let b = blanks_of rest both.0 in
    (b.blank, b.blanks, b.all, ap is_blankless (sym same) ∙ both.1, front ∙ ap (λ xs. codes "use" ++ xs) (b.is ∙ ap (λ n. (b.blank ∷ b.blanks) ++ n) same))

file_read : (line name : List ℕ) → UsesFile line name → file_in line ≡ Some name
file_read line name is =
    let text : List ℕ = (is.0 ∷ is.1) ++ name in
    let begins : begins_blank text ≡ true = (and_parts (is_blank is.0) (list_all is_blank is.1) is.2).0 in
    let skipped : without_blanks text ≡ name = all_skipped (is.0 ∷ is.1) name is.2 is.3 in
    ap file_in is.4 ∙ cond-true _ _ _ (ap (λ x. x && is_blankless (without_blanks text)) begins ∙ ap is_blankless skipped ∙ is.3) ∙ ap Some skipped

no_word_byte : (b : ℕ) (bs : List ℕ) → is_blank b ≡ true → begins_word (b ∷ bs) ≡ false
no_word_byte b bs holds = ap (λ blank. not (blank || is_sign b) && not (is_arrow b bs)) holds

-- No other form begins with `use`.
use_has_no_tokens : (line name : List ℕ) (words : Words) → UsesFile line name → IsSpelledBy (tokens line) words → ⊥
use_has_no_tokens line name words is spelled =
    let rest : List ℕ = (is.0 ∷ is.1) ++ name in
    let blank = (and_parts (is_blank is.0) (list_all is_blank is.1) is.2).0 in
    let first : tokens line ≡ word (codes "use") ∷ tokens rest = ap tokens is.4 ∙ word_front 117 (115 ∷ 101 ∷ []) rest refl (no_word_byte is.0 (is.1 ++ name) blank) in
    let none : None ≡ Some words = ap words_in_tokens (sym first) ∙ tokens_read (tokens line) words spelled in
    cc

no_file : (line : List ℕ) (words : Words) (o : Option (List ℕ)) → file_in line ≡ o → IsSpelledBy (tokens line) words → words_or_file o (tokens line) ≡ Some words
no_file line words None is spelled = tokens_read (tokens line) words spelled
no_file line words (Some name) is spelled = absurd (use_has_no_tokens line name words (file_found line name is) spelled)

-- The words of a line are found.
spelled_read : (line : List ℕ) (words : Words) → IsSpelled line words → words_in line ≡ Some words
spelled_read line (file name) is = ap (λ o. words_or_file o (tokens line)) (file_read line name is)
spelled_read line (start name args) is = no_file line (start name args) (file_in line) refl is
spelled_read line (run count) is = no_file line (run count) (file_in line) refl is
spelled_read line (change name args within moves) is = no_file line (change name args within moves) (file_in line) refl is
spelled_read line (finish within) is = no_file line (finish within) (file_in line) refl is
spelled_read line show is = no_file line show (file_in line) refl is
spelled_read line stop is = no_file line stop (file_in line) refl is

spelled_by : (line : List ℕ) (words : Words) → IsSpelledBy (tokens line) words → IsSpelled line words
spelled_by line (file name) is = absurd is
spelled_by line (start name args) is = is
spelled_by line (run count) is = is
spelled_by line (change name args within moves) is = is
spelled_by line (finish within) is = is
spelled_by line show is = is
spelled_by line stop is = is

spelled_with : (line : List ℕ) (words : Words) (o : Option (List ℕ)) → file_in line ≡ o → words_or_file o (tokens line) ≡ Some words → IsSpelled line words
spelled_with line words None is e = spelled_by line words (tokens_found (tokens line) words e)
spelled_with line words (Some name) is e = let same : file name ≡ words = cc in subst (IsSpelled line) same (file_found line name is)

-- What is found are words of the line.
spelled_found : (line : List ℕ) (words : Words) → words_in line ≡ Some words → IsSpelled line words
spelled_found line words e = spelled_with line words (file_in line) refl e

pub one_form : (line : List ℕ) (words others : Words) → HasForm line words → HasForm line others → words ≡ others
one_form line words others has have = let e : Some words ≡ Some others = sym (spelled_read line words has.0) ∙ spelled_read line others have.0 in cc

-- the meaning of a line that has a form
within_limits : (line : List ℕ) (words : Words) → HasForm line words → keep_limits words ≡ true → meaning line ≡ Ok (body_of words)
within_limits line words has keeps = ap meaning_of (spelled_read line words has.0) ∙ cond-true _ _ _ has.1 ∙ cond-true _ _ _ keeps

beyond_limits : (line : List ℕ) (words : Words) → HasForm line words → keep_limits words ≡ false → meaning line ≡ Err Big
beyond_limits line words has fails = ap meaning_of (spelled_read line words has.0) ∙ cond-true _ _ _ has.1 ∙ cond-false _ _ _ fails

-- Either a line has a form, and keeps the limits or not, or it has none.
data Judged (line : List ℕ) : Type 0 where
  right : (words : Words) → HasForm line words → keep_limits words ≡ true → meaning line ≡ Ok (body_of words) → Judged line
  big : (words : Words) → HasForm line words → keep_limits words ≡ false → meaning line ≡ Err Big → Judged line
  none : ((words : Words) → HasForm line words → ⊥) → meaning line ≡ Err Bad → Judged line

no_form : (line : List ℕ) → words_in line ≡ None → (words : Words) → HasForm line words → ⊥
no_form line is words has = let e : None ≡ Some words = sym is ∙ spelled_read line words has.0 in cc

wrong_form : (line : List ℕ) (found : Words) → words_in line ≡ Some found → are_right found ≡ false → (words : Words) → HasForm line words → ⊥
wrong_form line found is wrong words has =
    let same : Some found ≡ Some words = sym is ∙ spelled_read line words has.0 in
    let it : found ≡ words = cc in
    let e : false ≡ true = sym wrong ∙ ap are_right it ∙ has.1 in
    cc

judge_right : (line : List ℕ) (words : Words) → HasForm line words → (keeps : Bool) → keep_limits words ≡ keeps → Judged line
judge_right line words has true is = right words has is (within_limits line words has is)
judge_right line words has false is = big words has is (beyond_limits line words has is)

judge_words : (line : List ℕ) (words : Words) → words_in line ≡ Some words → (are : Bool) → are_right words ≡ are → Judged line
judge_words line words is true are = judge_right line words (spelled_found line words is, are) (keep_limits words) refl
judge_words line words is false wrong = none (wrong_form line words is wrong) (ap meaning_of is ∙ cond-false _ _ _ wrong)

judge_with : (line : List ℕ) (o : Option Words) → words_in line ≡ o → Judged line
judge_with line None is = none (no_form line is) (ap meaning_of is)
judge_with line (Some words) is = judge_words line words is (are_right words) refl

judge : (line : List ℕ) → Judged line
judge line = judge_with line (words_in line) refl

meant_by : (line : List ℕ) (body : Body) → Judged line → meaning line ≡ Ok body → LineMeans line body
meant_by line body (right words has keeps is) e = let same : Ok (body_of words) ≡ Ok body = sym is ∙ e in (words, has, keeps, let it : body_of words ≡ body = cc in sym it)
meant_by line body (big words has fails is) e = let same : Err Big ≡ Ok body = sym is ∙ e in cc
meant_by line body (none never is) e = let same : Err Bad ≡ Ok body = sym is ∙ e in cc

pub means : (line : List ℕ) (body : Body) → (meaning line ≡ Ok body) ↔ LineMeans line body
means line body = (meant_by line body (judge line), λ m. within_limits line m.0 m.1 m.2 ∙ ap Ok (sym m.3))

big_by : (line : List ℕ) → Judged line → meaning line ≡ Err Big → IsTooBig line
big_by line (right words has keeps is) e = let same : Ok (body_of words) ≡ Err Big = sym is ∙ e in cc
big_by line (big words has fails is) e = (words, has, fails)
big_by line (none never is) e = let same : Err Bad ≡ Err Big = sym is ∙ e in cc

pub too_big : (line : List ℕ) → (meaning line ≡ Err Big) ↔ IsTooBig line
too_big line = (big_by line (judge line), λ b. beyond_limits line b.0 b.1 b.2)

bad_by : (line : List ℕ) → Judged line → meaning line ≡ Err Bad → (words : Words) → HasForm line words → ⊥
bad_by line (right words has keeps is) e = let same : Ok (body_of words) ≡ Err Bad = sym is ∙ e in cc
bad_by line (big words has fails is) e = let same : Err Big ≡ Err Bad = sym is ∙ e in cc
bad_by line (none never is) e = never

is_bad_by : (line : List ℕ) → Judged line → ((words : Words) → HasForm line words → ⊥) → meaning line ≡ Err Bad
is_bad_by line (right words has keeps is) never = absurd (never words has)
is_bad_by line (big words has fails is) never = absurd (never words has)
is_bad_by line (none found is) never = is

pub bad : (line : List ℕ) → (meaning line ≡ Err Bad) ↔ ((words : Words) → HasForm line words → ⊥)
bad line = (bad_by line (judge line), is_bad_by line (judge line))
