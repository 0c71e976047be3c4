-- What stands at the front of a text is what its spelling says, and can't be longer.
use Rattle.std.proofs.Common.{◌≡◌, ℕ, zero, suc, ◌+◌, ◌-◌, ◌<◌, ◌≤◌, ◌⊎◌, inl, inr, ⊎_elim, Bool, true, false, eqb, not, ◌||◌, nat_eq, nat_le, Option, Some, None, option_map, IfSome, List, [], ◌∷◌, ◌++◌, length, get_or, take, drop, refl, sym, ap, subst, ◌∙◌, arith, codes, lit<, lit≤}
use Rattle.std.specs.List.{starts_with, prefix_len, find, AllPass, AllByRecursion, list_all}
use Rattle.std.specs.Str.{bytes_eq}
use Rattle.std.specs.Char.{is_ascii_digit}
use Rattle.std.specs.Str.Parse.{digits_value}
use Rattle.std.proofs.lemmas.Bool.{cond_both, false≢true}
use Rattle.std.proofs.lemmas.Bool.Decides.{nat_tests, Decides-eqb}
use Rattle.std.proofs.lemmas.List.{get_or-take, drop-drop, drop_all, length-take-le, take-append-drop}
use Rattle.std.proofs.lemmas.List.Sums.{prefix_len-le-length, prefix_len_passes, prefix_len_stops, AllPass-from_list_all}
use Rattle.std.proofs.lemmas.Slice.Eq.{starts_is, bytes_eq-Decides}
use Rattle.std.proofs.Math.Seq.{take-append_seam}
use Rattle.darwin_lexer.specs.declared.token.Keyword.{Keyword}
use Rattle.darwin_lexer.specs.declared.token.Keyword.TheVariants as words
use Rattle.darwin_lexer.specs.declared.token.Sign.{Sign}
use Rattle.darwin_lexer.specs.declared.token.Sign.TheVariants as variants
use Rattle.darwin_lexer.specs.declared.token.TokenKind.{TokenKind}
use Rattle.darwin_lexer.specs.declared.token.TokenKind.TheVariants as kinds
use Rattle.darwin_lexer.specs.Keywords.{begins_name, continues_name, is_blank, keyword_bytes, keywords, keyword_of, kind_or_name, word_kind, sign_at, sign_bytes, signs, two_byte_signs, one_byte_signs}
use Rattle.darwin_lexer.specs.declared.front.Front.TheVariants.{Gap, Broken}
use Rattle.darwin_lexer.specs.declared.front.LexicalFault.TheVariants.{OpenComment}
use Rattle.darwin_lexer.specs.Fronts.{through_close, closed_or_open, block_comment, name, number, sign, sign_or_bad, front_of}
use Rattle.darwin_lexer.proofs.FrontLemmas.{prefix_within, find_passes, starts_long}
use Rattle.darwin_lexer.specs.Spelling.{Spells, KeepsLimit, IsLongest, opens_line_comment, opens_block_comment, closes_at, IsLineComment, IsBlockComment, NeverCloses, Means}
use Rattle.base.proofs.NumberLaws.{at_most, above}
use Rattle.base.proofs.FindLaws.{found_has, find_front, find_fails}

-- every keyword and sign is in its table

keyword_fails : (test : Keyword → Bool) (keyword : Keyword) → AllByRecursion (λ k. test k ≡ false) keywords → test keyword ≡ false
keyword_fails test words.Component all = assumption
keyword_fails test _ all = assumption

sign_fails : (test : Sign → Bool) (sign : Sign) → AllByRecursion (λ s. test s ≡ false) signs → test sign ≡ false
sign_fails test variants.OpenBrace all = assumption
sign_fails test _ all = assumption

-- A sign has one byte, or stands among those of two.
short_or_fails : (test : Sign → Bool) (sign : Sign) → AllByRecursion (λ s. test s ≡ false) two_byte_signs → (length (sign_bytes sign) ≤ 1) ⊎ (test sign ≡ false)
short_or_fails test variants.DotDot all = inr all.0
short_or_fails test variants.DashDash all = inr all.1.0
short_or_fails test variants.LessEq all = inr all.1.1.0
short_or_fails test variants.GreaterEq all = inr all.1.1.1.0
short_or_fails test variants.EqEq all = inr all.1.1.1.1.0
short_or_fails test variants.NotEq all = inr all.1.1.1.1.1.0
short_or_fails test _ all = inl (lit≤ tt)

pub sign_length : (sign : Sign) → (0 < length (sign_bytes sign)) × (length (sign_bytes sign) ≤ 2)
sign_length variants.OpenBrace = (lit< tt, lit≤ tt)
sign_length _ = (lit< tt, lit≤ tt)

-- No name, word or number begins as a sign does.
sign_begins : (sign : Sign) → (begins_name (get_or (sign_bytes sign) 0 0) ≡ false) × (is_ascii_digit (get_or (sign_bytes sign) 0 0) ≡ false)
sign_begins variants.OpenBrace = (refl, refl)
sign_begins _ = (refl, refl)

keyword_letters : (keyword : Keyword) → (begins_name (get_or (keyword_bytes keyword) 0 0) ≡ true) × (list_all continues_name (keyword_bytes keyword) ≡ true)
keyword_letters words.Component = (refl, refl)
keyword_letters _ = (refl, refl)

keyword_short : (keyword : Keyword) → length (keyword_bytes keyword) ≤ 9
keyword_short words.Component = lit≤ tt
keyword_short _ = lit≤ tt

pub digit_is_no_letter : (byte : ℕ) → begins_name byte ≡ true → is_ascii_digit byte ≡ true → ⊥
digit_is_no_letter byte letter digit = grind (arith, nat_tests)

-- what a token's bytes are like: letters, digits or a sign

abbrev pub Letters : List ℕ → Type 0
Letters bytes = (begins_name (get_or bytes 0 0) ≡ true) × AllPass continues_name bytes

abbrev pub Digits : List ℕ → Type 0
Digits bytes = (0 < length bytes) × AllPass is_ascii_digit bytes

abbrev pub Signed : List ℕ → Type 0
Signed bytes = (sign : Sign) × (bytes ≡ sign_bytes sign)

pub spelled_as : (kind : TokenKind) (bytes : List ℕ) → Spells kind bytes → Letters bytes ⊎ (Digits bytes ⊎ Signed bytes)
spelled_as kinds.Name bytes is = inl (is.begins, is.goes_on)
spelled_as (kinds.Number value) bytes is = inr (inl (is.some, is.digits))
spelled_as (kinds.Word keyword) bytes is = inl (subst Letters (sym is) ((keyword_letters keyword).0, AllPass-from_list_all continues_name (keyword_bytes keyword) (keyword_letters keyword).1))
spelled_as (kinds.Sign sign) bytes is = inr (inr (sign, is))

pub letters_first : (n : ℕ) (text : List ℕ) → Letters (take n text) → begins_name (get_or text 0 0) ≡ true
letters_first zero text is = absurd (false≢true is.0)
letters_first (suc n) [] is = is.0
letters_first (suc n) (byte ∷ text) is = is.0

pub digits_first : (n : ℕ) (text : List ℕ) → Digits (take n text) → is_ascii_digit (get_or text 0 0) ≡ true
digits_first zero text is = absurd (omega (arith, is.0))
digits_first (suc n) [] is = absurd (omega (arith, is.0))
digits_first (suc n) (byte ∷ text) is = is.1 0 0 is.0

pub sign_first : (n : ℕ) (text : List ℕ) (sign : Sign) → take n text ≡ sign_bytes sign → get_or text 0 0 ≡ get_or (sign_bytes sign) 0 0
sign_first zero text sign is = absurd (omega (arith, ap length is, (sign_length sign).0))
sign_first (suc n) [] sign is = absurd (omega (arith, ap length is, (sign_length sign).0))
sign_first (suc n) (byte ∷ text) sign is = ap (λ l. get_or l 0 0) is

-- runs of bytes that pass a test

pub run_passes : (test : ℕ → Bool) (text : List ℕ) (n : ℕ) → n ≤ prefix_len test text → AllPass test (take n text)
run_passes test text n short k d within =
    let some : n ≤ length text = omega (arith, prefix_len-le-length test text) in
    let below : k < n = omega (arith, length-take-le n text some) in
    ap test (get_or-take n text k d below) ∙ prefix_len_passes test text k d (omega arith)

run_over : (test : ℕ → Bool) (text : List ℕ) (more : ℕ) → prefix_len test text < more → more ≤ length text → AllPass test (take more text) → ⊥
run_over test text more longer within all =
    let n : ℕ = prefix_len test text in
    let here = all n 0 (omega (arith, length-take-le more text within)) in
    let there = prefix_len_stops test text 0 (omega arith) in
    false≢true (sym there ∙ sym (ap test (get_or-take more text n 0 longer)) ∙ here)

-- words

abbrev is_word : List ℕ → Keyword → Bool
is_word word keyword = bytes_eq (keyword_bytes keyword) word

pub found_is : (word : List ℕ) (keyword : Keyword) → keyword_of word ≡ Some keyword → word ≡ keyword_bytes keyword
found_is word keyword is = sym ((bytes_eq-Decides (keyword_bytes keyword) word).0 (subst (λ o. IfSome o (λ k. is_word word k ≡ true)) is (find_passes (is_word word) keywords)))

-- Letters spell the keyword that has them, or else a name.
pub word_spelled : (word : List ℕ) → Letters word → Spells (word_kind word) word
word_spelled word letters = go (keyword_of word) refl
  where
    go : (found : Option Keyword) → keyword_of word ≡ found → Spells (kind_or_name found) word
    go None is = record {
      begins = letters.0;
      goes_on = letters.1;
      own = λ keyword same. false≢true (sym (keyword_fails (is_word word) keyword (find_fails (is_word word) keywords is)) ∙ (bytes_eq-Decides (keyword_bytes keyword) word).1 (sym same));
    }
    go (Some keyword) is = found_is word keyword is

word_keeps : (found : Option Keyword) (n : ℕ) → n ≤ 64 → KeepsLimit (kind_or_name found) n
word_keeps None n short = short
word_keeps (Some keyword) n short = tt

word_longest : (text : List ℕ) (other : TokenKind) (more : ℕ) → begins_name (get_or text 0 0) ≡ true → prefix_len continues_name text < more → more ≤ length text → Spells other (take more text) → ⊥
word_longest text other more begins longer within is = ⊎_elim
    (λ letters. run_over continues_name text more longer within letters.1)
    (λ others. ⊎_elim
    (λ digits. digit_is_no_letter (get_or text 0 0) begins (digits_first more text digits))
    (λ signed. false≢true (sym (sign_begins signed.0).0 ∙ sym (ap begins_name (sign_first more text signed.0 signed.1)) ∙ begins))
    others)
    (spelled_as other (take more text) is)

name_means : (first : ℕ) (rest : List ℕ) → begins_name first ≡ true → opens_line_comment (first ∷ rest) ≡ false → opens_block_comment (first ∷ rest) ≡ false → Means (first ∷ rest) (name (first ∷ rest))
name_means first rest begins no_line no_block =
    let text : List ℕ = first ∷ rest in
    let n : ℕ = prefix_len continues_name text in
    let within = prefix_within continues_name first rest (ap (λ b. b || is_ascii_digit first) begins) in
    let letters : Letters (take n text) = (ap begins_name (get_or-take n text 0 0 within.0) ∙ begins, run_passes continues_name text n (omega arith)) in
    let longest : (kind : TokenKind) → Spells kind (take n text) → IsLongest text kind n =
    λ kind spelled. record {
      no_line_comment = no_line;
      no_block_comment = no_block;
      within = within.1;
      spelled = spelled;
      longest = λ other more longer fits is. word_longest text other more begins longer fits is;
    } in
    cond_both (nat_le n 64) _ _ (Means text)
    (λ short. (longest _ (word_spelled (take n text) letters), word_keeps (keyword_of (take n text)) n (at_most n 64 short)))
    (λ long. record {
      n = n;
      token = longest kinds.Name (record {
        begins = letters.0;
        goes_on = letters.1;
        own = λ keyword same. omega (arith, ap length same, keyword_short keyword, length-take-le n text within.1, above n 64 long);
      });
      long = above n 64 long;
    })

-- numbers

number_longest : (text : List ℕ) (other : TokenKind) (more : ℕ) → is_ascii_digit (get_or text 0 0) ≡ true → prefix_len is_ascii_digit text < more → more ≤ length text → Spells other (take more text) → ⊥
number_longest text other more digit longer within is = ⊎_elim
    (λ letters. digit_is_no_letter (get_or text 0 0) (letters_first more text letters) digit)
    (λ others. ⊎_elim
    (λ digits. run_over is_ascii_digit text more longer within digits.1)
    (λ signed. false≢true (sym (sign_begins signed.0).1 ∙ sym (ap is_ascii_digit (sign_first more text signed.0 signed.1)) ∙ digit))
    others)
    (spelled_as other (take more text) is)

number_means : (first : ℕ) (rest : List ℕ) → is_ascii_digit first ≡ true → opens_line_comment (first ∷ rest) ≡ false → opens_block_comment (first ∷ rest) ≡ false → Means (first ∷ rest) (number (first ∷ rest))
number_means first rest digit no_line no_block =
    let text : List ℕ = first ∷ rest in
    let n : ℕ = prefix_len is_ascii_digit text in
    let value : ℕ = digits_value 10 (take n text) in
    let within = prefix_within is_ascii_digit first rest digit in
    let token : IsLongest text (kinds.Number value) n =
    record {
      no_line_comment = no_line;
      no_block_comment = no_block;
      within = within.1;
      spelled = record { some = omega (arith, length-take-le n text within.1, within.0); digits = run_passes is_ascii_digit text n (omega arith); written = refl };
      longest = λ other more longer fits is. number_longest text other more digit longer fits is;
    } in
    cond_both (nat_le value 2147483647) _ _ (Means text)
    (λ small. (token, at_most value 2147483647 small))
    (λ great. record { value = value; n = n; token = token; big = above value 2147483647 great })

-- signs

abbrev fits : List ℕ → Sign → Bool
fits text sign = starts_with nat_eq text (sign_bytes sign)

-- Where a text begins with no letter and no digit, a token there is a sign.
only_sign : (text : List ℕ) (kind : TokenKind) (n : ℕ) → begins_name (get_or text 0 0) ≡ false → is_ascii_digit (get_or text 0 0) ≡ false → Spells kind (take n text) → Signed (take n text)
only_sign text kind n no_letter no_digit is = ⊎_elim
    (λ letters. absurd (false≢true (sym no_letter ∙ letters_first n text letters)))
    (λ others. ⊎_elim (λ digits. absurd (false≢true (sym no_digit ∙ digits_first n text digits))) (λ signed. signed) others)
    (spelled_as kind (take n text) is)

sign_starts : (text : List ℕ) (n : ℕ) (sign : Sign) → take n text ≡ sign_bytes sign → fits text sign ≡ true
sign_starts text n sign is = (starts_is Decides-eqb text (sign_bytes sign) _ refl).1 (drop n text) (sym (take-append-drop n text) ∙ ap (λ l. l ++ drop n text) is)

-- The sign that is found is as long as any that fits.
sign_longest : (text : List ℕ) (sign other : Sign) → sign_at text ≡ Some sign → fits text other ≡ true → length (sign_bytes other) ≤ length (sign_bytes sign)
sign_longest text sign other found begins = go (find (fits text) two_byte_signs) refl
  where
    go : (two : Option Sign) → find (fits text) two_byte_signs ≡ two → length (sign_bytes other) ≤ length (sign_bytes sign)
    go None is = ⊎_elim
        (λ short. omega (arith, short, (sign_length sign).0))
        (λ fails. absurd (false≢true (sym fails ∙ begins)))
        (short_or_fails (fits text) other (find_fails (fits text) two_byte_signs is))
    go (Some two) is =
        let first : find (fits text) signs ≡ Some two = find_front (fits text) two_byte_signs one_byte_signs two is in
        let same : two ≡ sign = cc in
        let long : 2 ≤ length (sign_bytes two) = subst (λ o. IfSome o (λ s. 2 ≤ length (sign_bytes s))) is (found_has (λ s. 2 ≤ length (sign_bytes s)) (fits text) two_byte_signs (lit≤ tt, (lit≤ tt, (lit≤ tt, (lit≤ tt, (lit≤ tt, (lit≤ tt, tt))))))) in
        omega (arith, (sign_length other).1, ap (λ s. length (sign_bytes s)) same)

sign_means : (text : List ℕ) → 0 < length text → is_blank (get_or text 0 0) ≡ false → opens_line_comment text ≡ false → opens_block_comment text ≡ false → begins_name (get_or text 0 0) ≡ false → is_ascii_digit (get_or text 0 0) ≡ false → Means text (sign text)
sign_means text some no_blank no_line no_block no_letter no_digit = go (sign_at text) refl
  where
    go : (found : Option Sign) → sign_at text ≡ found → Means text (sign_or_bad found)
    go None is = record {
      some = some;
      no_blank = no_blank;
      no_line_comment = no_line;
      no_block_comment = no_block;
      no_token = λ kind n within spelled.
          let signed = only_sign text kind n no_letter no_digit spelled in
          let fails = sign_fails (fits text) signed.0 (find_fails (fits text) signs is) in
          false≢true (sym fails ∙ sign_starts text n signed.0 signed.1);
    }
    go (Some found) is =
        let begins : fits text found ≡ true = subst (λ o. IfSome o (λ s. fits text s ≡ true)) is (find_passes (fits text) signs) in (
          record {
            no_line_comment = no_line;
            no_block_comment = no_block;
            within = starts_long text (sign_bytes found) begins;
            spelled = ap (λ l. take (length (sign_bytes found)) l) ((starts_is Decides-eqb text (sign_bytes found) _ refl).0 begins) ∙ take-append_seam (sign_bytes found) (drop (length (sign_bytes found)) text);
            longest = λ other more longer within spelled.
                let signed = only_sign text other more no_letter no_digit spelled in
                let most = sign_longest text found signed.0 is (sign_starts text more signed.0 signed.1) in
                omega (arith, most, ap length signed.1, length-take-le more text within);
          },
          tt,
        )

-- comments

is_line_feed : (byte : ℕ) → not (eqb byte 10) ≡ false → byte ≡ 10
is_line_feed byte stops = grind (arith, nat_tests)

pub line_is : (text : List ℕ) → opens_line_comment text ≡ true → IsLineComment text (prefix_len (λ byte. not (eqb byte 10)) text)
line_is text opens =
    let test : ℕ → Bool = λ byte. not (eqb byte 10) in
    record { within = prefix_len-le-length test text; opens = opens; one_line = run_passes test text (prefix_len test text) (omega arith); to_its_end = λ shorter. is_line_feed (get_or text (prefix_len test text) 0) (prefix_len_stops test text 0 shorter) }

-- where the first `*/` of a text ends, if it has one
abbrev Closes : List ℕ → Option ℕ → Type 0
Closes text None = (offset : ℕ) → closes_at text offset ≡ false
Closes text (Some n) = (2 ≤ n) × (closes_at text (n - 2) ≡ true) × ((offset : ℕ) → offset + 2 < n → closes_at text offset ≡ false)

closes_next : (byte : ℕ) (text : List ℕ) (o : Option ℕ) → closes_at (byte ∷ text) 0 ≡ false → Closes text o → Closes (byte ∷ text) (option_map suc o)
closes_next byte text None here later = λ offset. go offset
  where
    go : (offset : ℕ) → closes_at (byte ∷ text) offset ≡ false
    go zero = here
    go (suc offset) = later offset
closes_next byte text (Some n) here later =
    let next : suc (n - 2) ≡ suc n - 2 = omega (arith, later.0) in
    (omega (arith, later.0), subst (λ k. closes_at (byte ∷ text) k ≡ true) next later.1, go)
  where
    go : (offset : ℕ) → offset + 2 < suc n → closes_at (byte ∷ text) offset ≡ false
    go zero short = here
    go (suc offset) short = later.2 offset (omega arith)

close_means : (text : List ℕ) → Closes text (through_close text)
close_means [] = λ offset. ap (λ l. starts_with nat_eq l (codes "*/")) (drop_all offset [] (omega arith))
close_means (byte ∷ text) = cond_both (starts_with nat_eq (byte ∷ text) (codes "*/")) _ _ (Closes (byte ∷ text))
    (λ begins. (lit≤ tt, begins, λ offset short. absurd (omega arith)))
    (λ later. closes_next byte text (through_close text) later (close_means text))

shifted : (text : List ℕ) (offset : ℕ) → closes_at (drop 2 text) offset ≡ closes_at text (2 + offset)
shifted text offset = ap (λ l. starts_with nat_eq l (codes "*/")) (drop-drop offset 2 text)

never_is : (text : List ℕ) → opens_block_comment text ≡ true → Closes (drop 2 text) None → NeverCloses text
never_is text opens never = record {
  opens = opens;
  never = λ offset behind.
      let there : 2 + (offset - 2) ≡ offset = omega arith in
      subst (λ k. closes_at text k ≡ false) there (sym (shifted text (offset - 2)) ∙ never (offset - 2));
}

block_is : (text : List ℕ) (n : ℕ) → opens_block_comment text ≡ true → Closes (drop 2 text) (Some n) → IsBlockComment text (2 + n)
block_is text n opens closes = record {
  opens = opens;
  after = omega (arith, closes.0);
  closes = let there : 2 + (n - 2) ≡ 2 + n - 2 = omega (arith, closes.0) in subst (λ k. closes_at text k ≡ true) there (sym (shifted text (n - 2)) ∙ closes.1);
  first = λ offset behind short.
      let there : 2 + (offset - 2) ≡ offset = omega arith in
      subst (λ k. closes_at text k ≡ false) there (sym (shifted text (offset - 2)) ∙ closes.2 (offset - 2) (omega arith));
}

-- A text that begins with `/*` is such a comment, or is open.
pub block_or_open : (text : List ℕ) → opens_block_comment text ≡ true → ((n : ℕ) × IsBlockComment text n × (block_comment text ≡ Gap n)) ⊎ (NeverCloses text × (block_comment text ≡ Broken OpenComment))
block_or_open text opens = go (through_close (drop 2 text)) refl (close_means (drop 2 text))
  where
    go : (o : Option ℕ) → through_close (drop 2 text) ≡ o → Closes (drop 2 text) (through_close (drop 2 text)) → ((n : ℕ) × IsBlockComment text n × (block_comment text ≡ Gap n)) ⊎ (NeverCloses text × (block_comment text ≡ Broken OpenComment))
    go None is closes = inr (never_is text opens (subst (Closes (drop 2 text)) is closes), ap closed_or_open is)
    go (Some n) is closes = inl (2 + n, block_is text n opens (subst (Closes (drop 2 text)) is closes), ap closed_or_open is)

block_means : (text : List ℕ) → opens_block_comment text ≡ true → Means text (block_comment text)
block_means text opens = ⊎_elim
    (λ closed. subst (Means text) (sym closed.2) (inr (inr closed.1)))
    (λ open_one. subst (Means text) (sym open_one.1) open_one.0)
    (block_or_open text opens)

pub front_means : (text : List ℕ) → Means text (front_of text)
front_means [] = refl
front_means (first ∷ rest) =
    let text : List ℕ = first ∷ rest in
    cond_both (is_blank first) _ _ (Means text) (λ blank. inl (refl, blank))
    (λ no_blank. cond_both (opens_line_comment text) _ _ (Means text) (λ opens. inr (inl (line_is text opens)))
    (λ no_line. cond_both (opens_block_comment text) _ _ (Means text) (block_means text)
    (λ no_block. cond_both (begins_name first) _ _ (Means text) (λ begins. name_means first rest begins no_line no_block)
    (λ no_letter. cond_both (is_ascii_digit first) _ _ (Means text) (λ digit. number_means first rest digit no_line no_block)
    (λ no_digit. sign_means text (omega arith) no_blank no_line no_block no_letter no_digit)))))
