-- A path whose segments are names of the language, with an index in brackets or without one, is a path of scripts.
use Rattle.std.proofs.Common.{◌≡◌, ◌⊎◌, ◌<◌, ◌^◌, ◌-◌, ◌+◌, ◌==◌, ◌&&◌, ℕ, suc, ℤ, pos, Bool, true, false, not, nat_le, inl, inr, List, [], ◌∷◌, ◌++◌, Option, Some, None, take, drop, length, codes, decimal, refl, sym, ap, subst, ◌∙◌, arith}
use Rattle.std.specs.List.{list_all, onto_first, slice_index}
use Rattle.std.specs.Char.{is_ascii_digit}
use Rattle.std.specs.Str.Parse.{AllDigits, IsNumeral}
use Rattle.std.proofs.lemmas.Bool.{and_parts, cases_Bool, and_from, not-true, or_right}
use Rattle.std.proofs.lemmas.Bool.Decides.{nat_tests}
use Rattle.std.proofs.lemmas.Fmt.{decimal_is_IsNumeral}
use Rattle.std.proofs.Math.Seq.{drop-append_seam, get_or-append_seam, take-append_seam}
use Rattle.std.proofs.lemmas.List.{append_assoc, length-append}
use Rattle.std.proofs.lemmas.List.Folds.{list_all-append}
use Rattle.std.proofs.lemmas.List.Splits.{length-slice_split, slice_split-cons_no, slice_split-cons_yes, slice_split_none}
use Rattle.std.proofs.lemmas.List.Sums.{AllPass-from_list_all}
use Rattle.darwin_lexer.specs.Keywords.{continues_name}
use Rattle.darwin_walk.specs.Instance.{Segment}
use Rattle.elaborator.specs.PathBytes.{is_path_byte}
use Rattle.elaborator.specs.Paths.{Path, index_bytes, segment_bytes, within}
use Rattle.change_script.specs.Numbers.{is_number, number_fits}
use Rattle.change_script.specs.Paths.{segments, name_len, name_part, index_part, index_number, ends_index, is_name, is_index, index_fits, is_segment, segment_fits, is_path, path_fits}
use Rattle.change_script.specs.Tokens.{begins_word, is_arrow, is_word, is_word_byte}
use Rattle.change_script_laws.proofs.LineTextLemmas.{digit_ascii}
use Rattle.base.proofs.FindLaws.{all_front}

-- ---- bytes of a word

path_byte_is_inner : (b : ℕ) → is_path_byte b ≡ true → (is_word_byte b ≡ true) × ((b == 62) ≡ false)
path_byte_is_inner b h = (grind (arith, nat_tests), grind (arith, nat_tests))

no_head : (b : ℕ) (bytes : List ℕ) → list_all is_path_byte bytes ≡ true → is_arrow b bytes ≡ false
no_head b [] all = refl
no_head b (next ∷ bytes) all =
    let here = path_byte_is_inner next (and_parts (is_path_byte next) (list_all is_path_byte bytes) all).0 in
    ap (λ x. (b == 45) && x) here.1 ∙ and_false (b == 45)
  where
    and_false : (x : Bool) → x && false ≡ false
    and_false true = refl
    and_false false = refl

pub path_bytes_word : (bytes : List ℕ) → list_all is_path_byte bytes ≡ true → is_word bytes ≡ true
path_bytes_word [] all = refl
path_bytes_word (b ∷ bytes) all =
    let both = and_parts (is_path_byte b) (list_all is_path_byte bytes) all in
    let begins : begins_word (b ∷ bytes) ≡ true = ap (λ x. x && not (is_arrow b bytes)) (path_byte_is_inner b both.0).0 ∙ ap not (no_head b bytes both.1) in
    and_from (begins_word (b ∷ bytes)) (is_word bytes) begins (path_bytes_word bytes both.1)

-- ---- the parts of a path

-- neither a full stop nor an opening bracket
abbrev is_plain : List ℕ → Bool
is_plain bytes = list_all (λ b. not (b == 46) && not (b == 91)) bytes

no_stop : (bytes : List ℕ) → list_all (λ b. not (b == 46)) bytes ≡ true → segments bytes ≡ bytes ∷ []
no_stop bytes all = slice_split_none (λ b. b == 46) bytes (λ k d low. not-true _ (AllPass-from_list_all (λ b. not (b == 46)) bytes all k d low))

onto_joined : (x : ℕ) (parts others : List (List ℕ)) → 0 < length parts → onto_first x (parts ++ others) ≡ onto_first x parts ++ others
onto_joined x [] others some = absurd (omega arith)
onto_joined x (part ∷ parts) others some = refl

parts_joined : (xs ys : List ℕ) → segments (xs ++ (46 ∷ ys)) ≡ segments xs ++ segments ys
parts_joined [] ys = refl
parts_joined (x ∷ xs) ys =
    let p : ℕ → Bool = λ b. b == 46 in
    elim (cases_Bool (x == 46)) [
      | inl holds ↦ slice_split-cons_yes p x (xs ++ (46 ∷ ys)) holds ∙ ap (λ parts. [] ∷ parts) (parts_joined xs ys) ∙ sym (ap (λ parts. parts ++ segments ys) (slice_split-cons_yes p x xs holds))
      | inr fails ↦
          let some : 0 < length (segments xs) = omega (arith, length-slice_split p xs) in
          slice_split-cons_no p x (xs ++ (46 ∷ ys)) fails ∙ ap (onto_first x) (parts_joined xs ys) ∙ onto_joined x (segments xs) (segments ys) some
          ∙ sym (ap (λ parts. parts ++ segments ys) (slice_split-cons_no p x xs fails))
    ]

-- ---- an index in brackets

abbrev bracketed : ℕ → List ℕ
bracketed n = 91 ∷ (decimal n ++ (93 ∷ []))

record IsBracketed (n : ℕ) : Type 0 where
  is : is_index (bracketed n) ≡ true
  fits : index_fits (bracketed n) ≡ true
  no_stops : list_all (λ b. not (b == 46)) (bracketed n) ≡ true

digits_ascii : (bytes : List ℕ) → AllDigits 10 bytes → (list_all is_ascii_digit bytes ≡ true) × (list_all (λ b. not (b == 46)) bytes ≡ true)
digits_ascii [] all = (refl, refl)
digits_ascii (b ∷ bytes) all =
    let here = digit_ascii b all.0 in
    let rest = digits_ascii bytes all.1 in
    (and_from (is_ascii_digit b) (list_all is_ascii_digit bytes) here.0 rest.0, and_from (not (b == 46)) (list_all (λ b. not (b == 46)) bytes) here.1 rest.1)

numeral_number : (bytes : List ℕ) → IsNumeral 10 bytes → is_number bytes ≡ true
numeral_number [] h = let none : ⊥ = omega (arith, h.0) in absurd none
numeral_number (b ∷ bytes) h = (digits_ascii (b ∷ bytes) h.1).0

index_of : (n : ℕ) → n < 2 ^ 32 → IsBracketed n
index_of n small =
    let numeral = decimal_is_IsNumeral n (omega arith) in
    let d : List ℕ = decimal n in
    let all : List ℕ = bracketed n in
    let len : length all ≡ suc (length d + 1) = ap suc (length-append d (93 ∷ [])) in
    let inner : index_number all ≡ d =
    let count : length all - 2 ≡ length d = omega arith in
    ap (λ k. take k (d ++ (93 ∷ []))) count ∙ take-append_seam d (93 ∷ []) in
    let last : slice_index all (length all - 1) ≡ 93 =
    let place : length all - 1 ≡ suc (length d) = omega arith in
    ap (slice_index all) place ∙ get_or-append_seam d 93 [] 0 in
    record {
      is = and_from (ends_index all) (is_number (index_number all)) (ap (λ b. b == 93) last) (ap is_number inner ∙ numeral_number d numeral.0);
      fits = or_right (not (is_number (index_number all))) (number_fits (index_number all)) (ap number_fits inner ∙ ap (λ v. nat_le v 4294967295) numeral.1 ∙ (let low : nat_le n 4294967295 ≡ true = grind (arith, nat_tests) in low));
      no_stops = list_all-append (λ b. not (b == 46)) d (93 ∷ []) ∙ ap (λ x. x && true) (digits_ascii d numeral.0.1).1;
    }

-- ---- a segment

-- an index that brackets can have
abbrev pub IsIndex : Option ℤ → Type 0
IsIndex None = Unit {0}
IsIndex (Some (pos n)) = n < 2 ^ 32
IsIndex (Some _) = ⊥

-- what may stand behind the name: nothing, or what begins with a bracket
data Behind : List ℕ → Type 0 where
  nothing : Behind []
  a_bracket : (rest : List ℕ) → Behind (91 ∷ rest)

plain_named : (bytes : List ℕ) → is_plain bytes ≡ true → list_all (λ b. not (b == 91)) bytes ≡ true
plain_named [] all = refl
plain_named (b ∷ bytes) all =
    let both = and_parts (not (b == 46) && not (b == 91)) (is_plain bytes) all in
    and_from (not (b == 91)) (list_all (λ b. not (b == 91)) bytes) (and_parts (not (b == 46)) (not (b == 91)) both.0).1 (plain_named bytes both.1)

plain_stops : (bytes : List ℕ) → is_plain bytes ≡ true → list_all (λ b. not (b == 46)) bytes ≡ true
plain_stops [] all = refl
plain_stops (b ∷ bytes) all =
    let both = and_parts (not (b == 46) && not (b == 91)) (is_plain bytes) all in
    and_from (not (b == 46)) (list_all (λ b. not (b == 46)) bytes) (and_parts (not (b == 46)) (not (b == 91)) both.0).0 (plain_stops bytes both.1)

name_ends : (name index : List ℕ) → is_plain name ≡ true → Behind index → name_len (name ++ index) ≡ length name
name_ends name _ plain nothing = all_front (λ b. not (b == 91)) name [] (plain_named name plain) ∙ (let e : length name + 0 ≡ length name = omega arith in e)
name_ends name _ plain (a_bracket rest) = all_front (λ b. not (b == 91)) name (91 ∷ rest) (plain_named name plain) ∙ (let e : length name + 0 ≡ length name = omega arith in e)

-- the bytes of a segment, by its name and what stands behind
record Parted (bytes : List ℕ) : Type 0 where
  is : is_segment bytes ≡ true
  fits : segment_fits bytes ≡ true
  no_stops : list_all (λ b. not (b == 46)) bytes ≡ true

parted : (name index : List ℕ) → is_name name ≡ true → is_plain name ≡ true → Behind index → is_index index ≡ true → index_fits index ≡ true → list_all (λ b. not (b == 46)) index ≡ true → Parted (name ++ index)
parted name index named plain behind is fits stops =
    let len = name_ends name index plain behind in
    let first : name_part (name ++ index) ≡ name = ap (λ k. take k (name ++ index)) len ∙ take-append_seam name index in
    let second : index_part (name ++ index) ≡ index = ap (λ k. drop k (name ++ index)) len ∙ drop-append_seam name index in
    record {
      is = and_from (is_name (name_part (name ++ index))) (is_index (index_part (name ++ index))) (ap is_name first ∙ named) (ap is_index second ∙ is);
      fits = ap index_fits second ∙ fits;
      no_stops = list_all-append (λ b. not (b == 46)) name index ∙ and_from (list_all (λ b. not (b == 46)) name) (list_all (λ b. not (b == 46)) index) (plain_stops name plain) stops;
    }

segment_parted : (s : Segment) → is_name s.name ≡ true → is_plain s.name ≡ true → IsIndex s.index → Parted (segment_bytes s)
segment_parted s named plain index = by s.index index
  where
    by : (o : Option ℤ) → IsIndex o → Parted (s.name ++ index_bytes o)
    by None index = parted s.name [] named plain nothing refl refl refl
    by (Some (pos n)) index = let i = index_of n index in parted s.name (bracketed n) named plain (a_bracket (decimal n ++ (93 ∷ []))) i.is i.fits i.no_stops
    by (Some _) index = absurd index

-- ---- a path

pub record IsGood (path : List ℕ) : Type 0 where
  pub is : is_path path ≡ true
  pub fits : path_fits path ≡ true

one_segment : (bytes : List ℕ) → Parted bytes → IsGood bytes
one_segment bytes p = record {
  is = ap (list_all is_segment) (no_stop bytes p.no_stops) ∙ ap (λ b. b && true) p.is;
  fits = ap (list_all segment_fits) (no_stop bytes p.no_stops) ∙ ap (λ b. b && true) p.fits;
}

one_more : (path bytes : List ℕ) → IsGood path → Parted bytes → IsGood (path ++ (46 ∷ bytes))
one_more path bytes before p =
    let last = one_segment bytes p in
    let parts = parts_joined path bytes in
    record {
      is = ap (list_all is_segment) parts ∙ list_all-append is_segment (segments path) (segments bytes) ∙ and_from (is_path path) (is_path bytes) before.is last.is;
      fits = ap (list_all segment_fits) parts ∙ list_all-append segment_fits (segments path) (segments bytes) ∙ and_from (path_fits path) (path_fits bytes) before.fits last.fits;
    }

pub within_good : (path : Path) (s : Segment) → ((path ≡ []) ⊎ IsGood path) → is_name s.name ≡ true → is_plain s.name ≡ true → IsIndex s.index → IsGood (within path s)
within_good [] s before named plain index = one_segment (segment_bytes s) (segment_parted s named plain index)
within_good (b ∷ path) s (inl none) named plain index = cc
within_good (b ∷ path) s (inr before) named plain index =
    subst IsGood (sym (append_assoc (b ∷ path) (codes ".") (segment_bytes s))) (one_more (b ∷ path) (segment_bytes s) before (segment_parted s named plain index))

continues_plain : (b : ℕ) → continues_name b ≡ true → not (b == 46) && not (b == 91) ≡ true
continues_plain b h = grind (arith, nat_tests)

pub name_plain : (bytes : List ℕ) → list_all continues_name bytes ≡ true → is_plain bytes ≡ true
name_plain [] all = refl
name_plain (b ∷ bytes) all =
    let both = and_parts (continues_name b) (list_all continues_name bytes) all in
    and_from (not (b == 46) && not (b == 91)) (is_plain bytes) (continues_plain b both.0) (name_plain bytes both.1)
