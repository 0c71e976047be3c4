-- The first of the parts of a text, and the parts behind it.
use Rattle.std.proofs.Common.{◌≡◌, ℕ, ◌+◌, true, List, ◌∷◌, sym, ap, ◌∙◌}
use Rattle.std.proofs.lemmas.Bool.{cond-true}
use Rattle.change_script.specs.Lines.{Line, is_statement, statements_of, trimmed}

-- A line that says something is the first of the lines that do.
pub statement_first : (number : ℕ) (line bytes : List ℕ) (more : List (List ℕ)) → bytes ≡ trimmed line → is_statement bytes ≡ true
    → statements_of number (line ∷ more) ≡ record { number = number; bytes = bytes } ∷ statements_of (number + 1) more
statement_first number line bytes more is says =
    let of : List ℕ → Line = λ b. record { number = number; bytes = b } in
    let holds : is_statement (trimmed line) ≡ true = ap is_statement (sym is) ∙ says in
    cond-true _ _ _ holds ∙ ap (λ b. of b ∷ statements_of (number + 1) more) (sym is)
