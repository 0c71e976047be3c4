-- The moves of a line, read from its front.
use Rattle.std.proofs.Common.{◌≡◌, ℕ, List, [], ◌∷◌, ◌++◌, map, Option, Some, None, option_map, refl, sym, ap, append_assoc, ◌∙◌}
use Rattle.std.proofs.lemmas.List.{map-append}
use Rattle.change_script.specs.declared.script_words.MoveWords.{MoveWords}
use Rattle.change_script.specs.Tokens.{ScriptToken, word, comma, arrow}
use Rattle.change_script.specs.ScriptWords.{Ends, ends_of, first_move, more_moves}

-- Behind a move and a comma, what is left has the moves behind this one.
abbrev found_at : Ends → List ScriptToken → Option (Ends × List ScriptToken)
found_at ends rest = Some (ends, rest)

abbrev pair : Ends → List ScriptToken → Ends × List ScriptToken
pair ends rest = (ends, rest)

same_pair : (a b : Ends) (s t : List ScriptToken) → found_at a s ≡ found_at b t → (a ≡ b) × (s ≡ t)
same_pair a b s t e = let pairs : pair a s ≡ pair b t = cc in (ap (λ (p : Ends × List ScriptToken). p.0) pairs, ap (λ (p : Ends × List ScriptToken). p.1) pairs)

further_at : (from to : List ℕ) (behind rest : List ScriptToken) (ends : Ends) → found_at ends (comma ∷ rest) ≡ found_at (record { from = from; to = to }) behind
    → more_moves (word from ∷ arrow ∷ word to ∷ behind) ≡ option_map (λ more. ends ∷ more) (more_moves rest)
further_at from to behind rest ends e =
    let moved : Ends = record { from = from; to = to } in
    let same = same_pair ends moved (comma ∷ rest) behind e in
    ap (λ ts. more_moves (word from ∷ arrow ∷ word to ∷ ts)) (sym same.1) ∙ ap (λ (x : Ends). option_map (λ more. x ∷ more) (more_moves rest)) (sym same.0)

further : (ts rest : List ScriptToken) (ends : Ends) → found_at ends (comma ∷ rest) ≡ first_move ts → more_moves ts ≡ option_map (λ more. ends ∷ more) (more_moves rest)
further (word from ∷ arrow ∷ word to ∷ behind) rest ends e = further_at from to behind rest ends e
further _ rest ends e = cc

pushed : (before : List MoveWords) (moved : MoveWords) (found : Option (List Ends))
    → option_map (λ more. map ends_of (before ++ moved ∷ []) ++ more) found ≡ option_map (λ more. map ends_of before ++ more) (option_map (λ more. ends_of moved ∷ more) found)
pushed before moved None = refl
pushed before moved (Some more) = ap (λ ms. Some (ms ++ more)) (map-append ends_of before (moved ∷ [])) ∙ ap Some (append_assoc (map ends_of before) (ends_of moved ∷ []) more)

pub moves_go_on : (all ts behind rest : List ScriptToken) (moved : MoveWords) (before now : List MoveWords) → found_at (ends_of moved) behind ≡ first_move ts → behind ≡ comma ∷ rest
    → now ≡ before ++ moved ∷ [] → option_map (λ more. map ends_of before ++ more) (more_moves ts) ≡ more_moves all → option_map (λ more. map ends_of now ++ more) (more_moves rest) ≡ more_moves all
moves_go_on all ts behind rest moved before now found comma_is pushes kept =
    ap (λ ms. option_map (λ more. map ends_of ms ++ more) (more_moves rest)) pushes ∙ pushed before moved (more_moves rest)
    ∙ ap (option_map (λ more. map ends_of before ++ more)) (sym (further ts rest (ends_of moved) (ap (found_at (ends_of moved)) (sym comma_is) ∙ found))) ∙ kept
