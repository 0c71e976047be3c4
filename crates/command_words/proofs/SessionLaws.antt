-- Words that ask for a session ask for no command, and for one session at most.
use Rattle.std.proofs.Common.{◌≡◌, ◌∙◌, ℕ, List, [], ◌∷◌, Some, None, codes, sym, ap, subst}
use Rattle.command_words.specs.CommandLine.{Asks, for_deed, for_help, for_version}
use Rattle.command_words.specs.Keywords.{word_of}
use Rattle.command_words.specs.SessionWords.{AsksToApply, SaysChange, SaysSession}
use Rattle.command_words.specs.declared.keywords.Keyword.TheVariants as keywords
use Rattle.command_words.specs.declared.sessions.SessionWords.{SessionWords}
use Rattle.command_words.specs.declared.words.Command.{Command}
use Rattle.command_words.proofs.Asking.{head_is, tail_is}
use Rattle.command_words.proofs.Changes.{one_change}
use Rattle.command_words.proofs.WordsLaws.{named_none, no_deed, no_keyword, no_keyword_asks, one_keyword}

-- a number alone is no session
no_session : (body : List (List ℕ)) (word : List ℕ) (asked : SessionWords) → body ≡ word ∷ [] → SaysSession body asked → ⊥
no_session body word asked is says = (subst (λ ws. SaysSession ws asked) is says).2

pub no_command : (words : List (List ℕ)) (c : Command) → Asks words c → (asked : SessionWords) → AsksToApply words asked → ⊥
no_command [] c x asked y = absurd y
no_command (word ∷ body) _ (for_help None x) asked y =
    no_keyword_asks (word ∷ body) keywords.Apply body (ap (λ w. w ∷ body) y.0) x
no_command (word ∷ body) _ (for_help (Some own) x) asked y =
    no_session body (codes "--help") asked (tail_is word (word_of own) body (codes "--help" ∷ []) x) y.1
no_command (word ∷ body) _ (for_version is) asked y =
    no_keyword keywords.Apply (codes "--version") (sym (head_is word (codes "--version") body [] is) ∙ y.0) named_none.3
no_command (word ∷ body) _ (for_deed own words c is other has) asked y =
    no_deed own c (one_keyword own keywords.Apply (sym (head_is word (word_of own) body words is) ∙ y.0)) has.0

one_body : (words : List (List ℕ)) (s t : SessionWords) → SaysChange words s → SaysChange words t → s.change ≡ t.change
one_body [] s t x y = absurd x
one_body (file ∷ parts) s t x y = one_change parts s.change t.change (x.1 ∙ sym y.1) x.2 y.2

one_said : (words : List (List ℕ)) (s t : SessionWords) → SaysSession words s → SaysSession words t → s ≡ t
one_said [] s t x y = absurd x
one_said (count ∷ words) s t x y =
    let within = x.1 ∙ sym y.1 in
    let change = one_body words s t x.2 y.2 in
    λ i. record { within = within i; change = change i }

pub one_session : (words : List (List ℕ)) (s t : SessionWords) → AsksToApply words s → AsksToApply words t → s ≡ t
one_session [] s t x y = absurd x
one_session (word ∷ words) s t x y = one_said words s t x.1 y.1
