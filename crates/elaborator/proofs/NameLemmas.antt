-- The names among the tokens of a text: each is written in letters, digits and `_`.
use Rattle.std.proofs.Common.{◌≡◌, ◌∙◌, ℕ, suc, ◌+◌, Bool, true, false, nat_le, nat_eq, cond, List, [], ◌∷◌, take, drop, Option, Some, None, refl, ap, sym, subst, inl, inr, arith, codes}
use Rattle.std.specs.List.{AllPass, prefix_len, starts_with}
use Rattle.std.specs.Char.{is_ascii_digit}
use Rattle.std.specs.Str.Parse.{digits_value}
use Rattle.std.proofs.lemmas.List.Elements.{All-cons}
use Rattle.base.proofs.ContainsLaws.{Contains-nil, Contains-cons_cases}
use Rattle.darwin_lexer.specs.declared.token.Sign.{Sign}
use Rattle.darwin_lexer.specs.declared.token.Token.{Token}
use Rattle.darwin_lexer.specs.declared.token.TokenKind.{TokenKind}
use Rattle.darwin_lexer.specs.declared.token.TokenKind.TheVariants as kinds
use Rattle.darwin_lexer.specs.declared.front.Front.TheVariants.{Gap, Lexeme, Broken}
use Rattle.darwin_lexer.specs.declared.front.LexicalFault.TheVariants.{BigNumber, LongName}
use Rattle.darwin_lexer.specs.Keywords.{is_blank, begins_name, continues_name, word_kind, sign_at}
use Rattle.darwin_lexer.specs.Fronts.{front_of, line_comment, through_close, closed_or_open, block_comment, name, number, sign_or_bad, sign}
use Rattle.darwin_lexer.specs.Tokens.{bytes_of, token_at, Tokenizes, ended, gap, token}
use Rattle.elaborator.proofs.NameLaws.{AreSpelled}
use Rattle.darwin_parser.specs.Tree.{Name}

-- ---- tokens

-- written in letters, digits and `_`
abbrev pub IsNameText : Name → Type 0
IsNameText bytes = AllPass continues_name bytes

run_of : (text : List ℕ) → IsNameText (take (prefix_len continues_name text) text)
run_of [] = λ k d low. absurd (omega arith)
run_of (x ∷ xs) = by (continues_name x) refl (run_of xs)
  where
    by : (b : Bool) → continues_name x ≡ b → IsNameText (take (prefix_len continues_name xs) xs) → IsNameText (take (cond b (1 + prefix_len continues_name xs) 0) (x ∷ xs))
    by true passes later =
        let next : suc (prefix_len continues_name xs) ≡ 1 + prefix_len continues_name xs = omega arith in
        subst (λ m. IsNameText (take m (x ∷ xs))) next (All-cons (λ y. continues_name y ≡ true) x (take (prefix_len continues_name xs) xs) passes later)
    by false passes later = λ k d low. absurd (omega arith)

no_close : (o : Option ℕ) (n : ℕ) → closed_or_open o ≡ Lexeme kinds.Name n → ⊥
no_close None n e = cc
no_close (Some m) n e = cc

no_number : (b : Bool) (value m n : ℕ) → cond b (Lexeme (kinds.Number value) m) (Broken BigNumber) ≡ Lexeme kinds.Name n → ⊥
no_number true value m n e = cc
no_number false value m n e = cc

no_sign : (o : Option Sign) (n : ℕ) → sign_or_bad o ≡ Lexeme kinds.Name n → ⊥
no_sign None n e = cc
no_sign (Some s) n e = cc

named_run : (text : List ℕ) (n m : ℕ) (kind : TokenKind) (b : Bool) → IsNameText (take m text) → cond b (Lexeme kind m) (Broken LongName) ≡ Lexeme kinds.Name n → IsNameText (take n text)
named_run text n m kind true run e = let same : m ≡ n = cc in subst (λ k. IsNameText (take k text)) same run
named_run text n m kind false run e = absurd (let none : ⊥ = cc in none)

-- where a name stands at the front, by the tests of the front
named_front :
    (text : List ℕ) (n : ℕ) (blank line block begins digit : Bool)
    → cond blank (Gap 1) (cond line (line_comment text) (cond block (block_comment text) (cond begins (name text) (cond digit (number text) (sign text))))) ≡ Lexeme kinds.Name n
    → IsNameText (take n text)
named_front text n true line block begins digit e = absurd (let none : ⊥ = cc in none)
named_front text n false true block begins digit e = absurd (let none : ⊥ = cc in none)
named_front text n false false true begins digit e = absurd (no_close (through_close (drop 2 text)) n e)
named_front text n false false false true digit e =
    let run : ℕ = prefix_len continues_name text in
    named_run text n run (word_kind (take run text)) (nat_le run 64) (run_of text) e
named_front text n false false false false true e =
    let run : ℕ = prefix_len is_ascii_digit text in
    absurd (no_number (nat_le (digits_value 10 (take run text)) 2147483647) (digits_value 10 (take run text)) run n e)
named_front text n false false false false false e = absurd (no_sign (sign_at text) n e)

-- the name at the front of a text
name_of_front : (text : List ℕ) (n : ℕ) → front_of text ≡ Lexeme kinds.Name n → IsNameText (take n text)
name_of_front [] n is = absurd (let none : ⊥ = cc in none)
name_of_front (first ∷ rest) n is =
    named_front (first ∷ rest) n (is_blank first) (starts_with nat_eq (first ∷ rest) (codes "//")) (starts_with nat_eq (first ∷ rest) (codes "/*")) (begins_name first) (is_ascii_digit first) is

module _ (text : List ℕ) where
  span_of : (offset n : ℕ) (kind : TokenKind) → bytes_of text (token_at text offset kind n) ≡ take n (drop offset text)
  span_of offset n kind = ap (λ m. take m (drop offset text)) (omega arith)

  token_spelled : (offset n : ℕ) (kind : TokenKind) (t : Token) → front_of (drop offset text) ≡ Lexeme kind n → t ≡ token_at text offset kind n → t.kind ≡ kinds.Name → IsNameText (bytes_of text t)
  token_spelled offset n kind t is same named =
      let kind_is : kind ≡ kinds.Name = sym (ap (λ (u : Token). u.kind) same) ∙ named in
      let here = name_of_front (drop offset text) n (is ∙ ap (λ k. Lexeme k n) kind_is) in
      subst (λ u. IsNameText (bytes_of text u)) (sym same) (subst IsNameText (sym (span_of offset n kind)) here)

  pub tokens_spelled : (from to : ℕ) (tokens : List Token) → Tokenizes text from to tokens → AreSpelled IsNameText text tokens
  tokens_spelled _ _ _ (ended from) t there named = absurd (Contains-nil t there)
  tokens_spelled _ _ _ (gap from n to tokens is rest) t there named = tokens_spelled (from + n) to tokens rest t there named
  tokens_spelled _ _ _ (token from n to kind tokens is rest) t there named =
      elim (Contains-cons_cases (token_at text from kind n) tokens t there) [
        | inl same ↦ token_spelled from n kind t is same named
        | inr later ↦ tokens_spelled (from + n) to tokens rest t later named
      ]
