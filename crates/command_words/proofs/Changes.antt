-- The words of a change tell its components, and their files.
use Rattle.std.proofs.Common.{◌≡◌, ◌∙◌, ◌+◌, ℕ, Bool, true, false, cond, List, [], ◌∷◌, ◌||◌, ◌&&◌, ◌==◌, nat_eq, nat_le, if◌then◌else◌, Option, None, Some, codes, drop, take, length, refl, sym, ap, subst, arith}
use Rattle.std.specs.Char.{is_ascii_digit}
use Rattle.std.specs.List.{list_all, prefix_len, starts_with}
use Rattle.std.specs.Str.Parse.{digits_value}
use Rattle.std.proofs.lemmas.Bool.{and_from, and_parts, false≢true}
use Rattle.std.proofs.lemmas.Bool.Decides.{nat_tests}
use Rattle.darwin_lexer.specs.Fronts.{block_comment, closed_or_open, line_comment, name, number, sign, sign_or_bad, through_close}
use Rattle.darwin_lexer.specs.Keywords.{begins_name, continues_name, is_blank, sign_at, word_kind}
use Rattle.darwin_lexer.specs.Naming.{IsName}
use Rattle.darwin_lexer.specs.declared.front.Front.TheVariants.{Gap, Lexeme, Broken}
use Rattle.darwin_lexer.specs.declared.front.LexicalFault.TheVariants as faults
use Rattle.darwin_lexer.specs.declared.token.Sign.{Sign}
use Rattle.darwin_lexer.specs.declared.token.TokenKind.{TokenKind}
use Rattle.darwin_lexer.specs.declared.token.TokenKind.TheVariants as kinds
use Rattle.command_words.specs.declared.words.Change.{Change}
use Rattle.command_words.specs.declared.words.TopCall.{TopCall}
use Rattle.command_words.specs.CommandLine.{IsCall, IsChange, IsOther, IsTarget, is_file_name}
use Rattle.command_words.proofs.Asking.{head_is, call_has_parts, one_call, one_parting}

mark_is_no_letter : (byte : ℕ) → continues_name byte ≡ true → ((byte == 46) || (byte == 47)) ≡ false
mark_is_no_letter byte letter = grind (arith, nat_tests)

letters_hold_no_mark : (word : List ℕ) → list_all continues_name word ≡ true → is_file_name word ≡ false
letters_hold_no_mark [] all = refl
letters_hold_no_mark (byte ∷ bytes) all =
    let both = and_parts (continues_name byte) (list_all continues_name bytes) all in
    ap (λ b. b || is_file_name bytes) (mark_is_no_letter byte both.0) ∙ letters_hold_no_mark bytes both.1

-- ---- a name is letters, digits and `_`

letters_up_to : (word : List ℕ) → prefix_len continues_name word ≡ length word → list_all continues_name word ≡ true
letters_up_to [] is = refl
letters_up_to (byte ∷ bytes) is = by (continues_name byte) refl is (letters_up_to bytes)
  where
    by : (b : Bool) → continues_name byte ≡ b → cond b (1 + prefix_len continues_name bytes) 0 ≡ length (byte ∷ bytes)
        → (prefix_len continues_name bytes ≡ length bytes → list_all continues_name bytes ≡ true) → (continues_name byte && list_all continues_name bytes) ≡ true
    by true letter same again = and_from (continues_name byte) (list_all continues_name bytes) letter (again (omega (arith, same)))
    by false other same again = absurd (omega (arith, same))

no_number_named : (b : Bool) (value n m : ℕ) → (if b then Lexeme (kinds.Number value) n else Broken faults.BigNumber) ≡ Lexeme kinds.Name m → ⊥
no_number_named true value n m is = absurd (cc is)
no_number_named false value n m is = absurd (cc is)

whole_name : (b : Bool) (kind : TokenKind) (n m : ℕ) → (if b then Lexeme kind n else Broken faults.LongName) ≡ Lexeme kinds.Name m → n ≡ m
whole_name true kind n m is = cc is
whole_name false kind n m is = absurd (cc is)

-- no name of a component names a file
named_front :
    (text : List ℕ) (a b c d e : Bool)
    → (if a then Gap 1 else (if b then line_comment text else (if c then block_comment text else (if d then name text else (if e then number text else sign text)))))
    ≡ Lexeme kinds.Name (length text) → is_file_name text ≡ false
named_front text true b c d e is = absurd (cc is)
named_front text false true c d e is = absurd (cc is)
named_front text false false true d e is = by (through_close (drop 2 text)) is
  where
    by : (o : Option ℕ) → closed_or_open o ≡ Lexeme kinds.Name (length text) → is_file_name text ≡ false
    by None same = absurd (cc same)
    by (Some m) same = absurd (cc same)
named_front text false false false true e is =
    let n = prefix_len continues_name text in
    letters_hold_no_mark text (letters_up_to text (whole_name (nat_le n 64) (word_kind (take n text)) n (length text) is))
named_front text false false false false true is =
    let n = prefix_len is_ascii_digit text in
    absurd (no_number_named (nat_le (digits_value 10 (take n text)) 2147483647) (digits_value 10 (take n text)) n (length text) is)
named_front text false false false false false is = by (sign_at text) is
  where
    by : (o : Option Sign) → sign_or_bad o ≡ Lexeme kinds.Name (length text) → is_file_name text ≡ false
    by None same = absurd (cc same)
    by (Some sign_) same = absurd (cc same)

names_no_file : (word : List ℕ) → IsName word → is_file_name word ≡ false
names_no_file [] is = refl
names_no_file (byte ∷ bytes) is =
    let text : List ℕ = byte ∷ bytes in
    named_front text (is_blank byte) (starts_with nat_eq text (codes "//")) (starts_with nat_eq text (codes "/*")) (begins_name byte) (is_ascii_digit byte) is

two_files_apart : (words : List (List ℕ)) (t u : TopCall) (other : Option (List ℕ)) → IsCall words t → IsOther words other u → ⊥
two_files_apart [] t u other x never = never
two_files_apart (word ∷ words) t u other x y =
    let name = subst IsName (sym (head_is word t.top words x.0 x.1)) x.2 in
    false≢true (sym (names_no_file word name) ∙ y.0)

one_other :
    (words : List (List ℕ)) (a b : Option (List ℕ)) (t u : TopCall) → IsTarget words a t → IsTarget words b u → (a ≡ b) × (t ≡ u)
one_other words None None t u x y = (refl, one_call words words t u x y refl)
one_other words None (Some other) t u x y = absurd (two_files_apart words t u (Some other) x y)
one_other words (Some other) None t u x y = absurd (two_files_apart words u t (Some other) y x)
one_other [] (Some other) (Some another) t u x y = absurd x
one_other (word ∷ words) (Some other) (Some another) t u x y = (x.1 ∙ sym y.1, one_call words words t u x.2 y.2 refl)

-- the words behind a file tell the change of it
pub one_change : (words : List (List ℕ)) (c d : Change) → c.file ≡ d.file → IsChange words c → IsChange words d → c ≡ d
one_change words c d file x y =
    let split = one_parting x.0 y.0 x.1 y.1 (call_has_parts x.0 c.call x.3) (call_has_parts y.0 d.call y.3) (sym x.2 ∙ y.2) in
    let call = one_call x.0 y.0 c.call d.call x.3 y.3 split.0 in
    let to = one_other y.1 c.other d.other c.target d.target (subst (λ ws. IsTarget ws c.other c.target) split.1 x.4) y.4 in
    λ i. record { file = file i; call = call i; other = to.0 i; target = to.1 i }
