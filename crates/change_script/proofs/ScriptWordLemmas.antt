-- The words that a line of tokens has are those that spell it.
use Rattle.std.proofs.Common.{◌≡◌, ℕ, inl, inr, Bool, true, false, List, [], ◌∷◌, ◌++◌, Option, Some, None, option_map, codes, bytes_eq, if◌then◌else◌, refl, sym, ap, subst, append-nil, ◌∙◌}
use Rattle.base.proofs.BytesLaws.{same_bytes}
use Rattle.base.proofs.FindLaws.{find_passes}
use Rattle.change_script.specs.declared.script_words.ScriptVerb.{ScriptVerb}
use Rattle.change_script.specs.declared.script_words.ScriptVerb.TheVariants as verbs
use Rattle.change_script.specs.Tokens.{ScriptToken, word, opened, closed, comma, arrow}
use Rattle.change_script.specs.Arguments.{more_arguments, arguments, at_end}
use Rattle.change_script.specs.ScriptWords.{Ends, Words, file, start, run, change, finish, show, stop, script_verb_bytes, script_verb_named, script_verbs, optional_arguments, within_at, more_moves, moves_in, start_with, start_words, one_word, within_and_moves, change_within, change_with, change_head, change_of, where_empty, words_behind, words_behind_named, words_in_tokens}
use Rattle.change_script.specs.ScriptForms.{argument_tokens, AreArguments, move_tokens, moving_tokens, IsSpelledBy}

abbrev Found : Type 0
Found = List (List ℕ) × List ScriptToken

-- what an option that is mapped was
pub mapped : {A B : Type 0} (f : A → B) (o : Option A) (b : B) → option_map f o ≡ Some b → (a : A) × (o ≡ Some a) × (b ≡ f a)
mapped f None b e = cc
mapped f (Some a) b e = (a, refl, let same : f a ≡ b = cc in sym same)

-- a test that had to hold
pub tested : {A : Type 0} (test : Bool) (o : Option A) (a : A) → (if test then o else None) ≡ Some a → (test ≡ true) × (o ≡ Some a)
tested true o a e = (refl, e)
tested false o a e = cc

-- Arguments that are found are those of the tokens.
record MoreArguments (ts : List ScriptToken) (found : Found) : Type 0 where
  first : List ℕ
  more : List (List ℕ)
  args : found.0 ≡ first ∷ more
  spelled : ts ≡ argument_tokens (first ∷ more) ++ found.1

more_found : (first : List ℕ) (rest : List ScriptToken) (found inner : Found) → MoreArguments rest inner → found ≡ (first ∷ inner.0, inner.1) → MoreArguments (word first ∷ comma ∷ rest) found
more_found first rest found inner m is = record {
  first = first;
  more = m.first ∷ m.more;
  args = ap (λ (f : Found). f.0) is ∙ ap (λ args. first ∷ args) m.args;
  spelled = ap (λ ts. word first ∷ comma ∷ ts) m.spelled ∙ ap (λ (f : Found). word first ∷ comma ∷ (argument_tokens (m.first ∷ m.more) ++ f.1)) (sym is);
}

more_arguments_found : (ts : List ScriptToken) (found : Found) → more_arguments ts ≡ Some found → MoreArguments ts found
more_arguments_found (word first ∷ closed ∷ rest) found e =
    let is : (first ∷ [], rest) ≡ found = cc in
    record { first = first; more = []; args = ap (λ (f : Found). f.0) (sym is); spelled = ap (λ (f : Found). word first ∷ closed ∷ f.1) is }
more_arguments_found (word first ∷ comma ∷ rest) found e =
    let inner = mapped (λ (f : Found). (first ∷ f.0, f.1)) (more_arguments rest) found e in
    more_found first rest found inner.0 (more_arguments_found rest inner.0 inner.1) inner.2
more_arguments_found _ found e = cc

arguments_found : (ts : List ScriptToken) (found : Found) → arguments ts ≡ Some found → ts ≡ argument_tokens found.0 ++ found.1
arguments_found (closed ∷ rest) found e = let is : ([], rest) ≡ found = cc in ap (λ (f : Found). argument_tokens f.0 ++ f.1) is
arguments_found [] found e = cc
arguments_found (word first ∷ rest) found e = let m = more_arguments_found (word first ∷ rest) found e in m.spelled ∙ ap (λ args. argument_tokens args ++ found.1) (sym m.args)
arguments_found (opened ∷ rest) found e = cc
arguments_found (comma ∷ rest) found e = cc
arguments_found (arrow ∷ rest) found e = cc

more_arguments_read : (first : List ℕ) (more : List (List ℕ)) (rest : List ScriptToken) → more_arguments (argument_tokens (first ∷ more) ++ rest) ≡ Some (first ∷ more, rest)
more_arguments_read first [] rest = refl
more_arguments_read first (next ∷ more) rest = ap (option_map (λ (f : Found). (first ∷ f.0, f.1))) (more_arguments_read next more rest)

arguments_read : (args : List (List ℕ)) (rest : List ScriptToken) → arguments (argument_tokens args ++ rest) ≡ Some (args, rest)
arguments_read [] rest = refl
arguments_read (first ∷ []) rest = refl
arguments_read (first ∷ next ∷ more) rest = more_arguments_read first (next ∷ more) rest

record OptionalArguments (ts : List ScriptToken) (found : Found) : Type 0 where
  given : List ScriptToken
  are : AreArguments found.0 given
  spelled : ts ≡ given ++ found.1

no_arguments : (ts : List ScriptToken) (found : Found) → ([], ts) ≡ found → OptionalArguments ts found
no_arguments ts found is = record { given = []; are = inl (ap (λ (f : Found). f.0) (sym is), refl); spelled = ap (λ (f : Found). f.1) is }

optional_found : (ts : List ScriptToken) (found : Found) → optional_arguments ts ≡ Some found → OptionalArguments ts found
optional_found (opened ∷ rest) found e = record { given = opened ∷ argument_tokens found.0; are = inr refl; spelled = ap (λ ts. opened ∷ ts) (arguments_found rest found e) }
optional_found [] found e = no_arguments [] found cc
optional_found (word bytes ∷ rest) found e = no_arguments (word bytes ∷ rest) found cc
optional_found (closed ∷ rest) found e = no_arguments (closed ∷ rest) found cc
optional_found (comma ∷ rest) found e = no_arguments (comma ∷ rest) found cc
optional_found (arrow ∷ rest) found e = no_arguments (arrow ∷ rest) found cc

-- what may stand behind arguments: nothing, or a word
pub data Behind : List ScriptToken → Type 0 where
  nothing : Behind []
  a_word : (bytes : List ℕ) (rest : List ScriptToken) → Behind (word bytes ∷ rest)

nothing_given : (ts : List ScriptToken) → Behind ts → optional_arguments ts ≡ Some ([], ts)
nothing_given ts nothing = refl
nothing_given ts (a_word bytes rest) = refl

optional_read : (args : List (List ℕ)) (given rest : List ScriptToken) → AreArguments args given → Behind rest → optional_arguments (given ++ rest) ≡ Some (args, rest)
optional_read args given rest (inl (none, empty)) behind =
    ap (λ g. optional_arguments (g ++ rest)) empty ∙ nothing_given rest behind ∙ ap (λ a. Some (a, rest)) (sym none)
optional_read args given rest (inr is) behind = ap (λ g. optional_arguments (g ++ rest)) is ∙ arguments_read args rest

-- Moves.
record MoreMoves (ts : List ScriptToken) (moves : List Ends) : Type 0 where
  first : Ends
  more : List Ends
  are : moves ≡ first ∷ more
  spelled : ts ≡ move_tokens first more

further_move : (first : Ends) (rest : List ScriptToken) (moves inner : List Ends) → MoreMoves rest inner → moves ≡ first ∷ inner
    → MoreMoves (word first.from ∷ arrow ∷ word first.to ∷ comma ∷ rest) moves
further_move first rest moves inner m is = record {
  first = first;
  more = m.first ∷ m.more;
  are = is ∙ ap (λ more. first ∷ more) m.are;
  spelled = ap (λ ts. word first.from ∷ arrow ∷ word first.to ∷ comma ∷ ts) m.spelled;
}

more_moves_found : (ts : List ScriptToken) (moves : List Ends) → more_moves ts ≡ Some moves → MoreMoves ts moves
more_moves_found (word from ∷ arrow ∷ word to ∷ []) moves e =
    let is : record { from = from; to = to } ∷ [] ≡ moves = cc in
    record { first = record { from = from; to = to }; more = []; are = sym is; spelled = refl }
more_moves_found (word from ∷ arrow ∷ word to ∷ comma ∷ rest) moves e =
    let first : Ends = record { from = from; to = to } in
    let inner = mapped (λ more. first ∷ more) (more_moves rest) moves e in
    further_move first rest moves inner.0 (more_moves_found rest inner.0 inner.1) inner.2
more_moves_found _ moves e = cc

more_moves_read : (first : Ends) (more : List Ends) → more_moves (move_tokens first more) ≡ Some (first ∷ more)
more_moves_read first [] = refl
more_moves_read first (next ∷ more) = ap (option_map (λ more. first ∷ more)) (more_moves_read next more)

moving_found : (ts : List ScriptToken) (moves : List Ends) → moves_in ts ≡ Some moves → ts ≡ moving_tokens moves
moving_found [] moves e = let is : [] ≡ moves = cc in ap moving_tokens is
moving_found (word adverb ∷ rest) moves e =
    let both = tested (bytes_eq adverb (codes "moving")) (more_moves rest) moves e in
    let m = more_moves_found rest moves both.1 in
    ap (λ w. word w ∷ rest) (same_bytes adverb (codes "moving") both.0) ∙ ap (λ ts. word (codes "moving") ∷ ts) m.spelled ∙ ap moving_tokens (sym m.are)
moving_found (opened ∷ rest) moves e = cc
moving_found (closed ∷ rest) moves e = cc
moving_found (comma ∷ rest) moves e = cc
moving_found (arrow ∷ rest) moves e = cc

moving_read : (moves : List Ends) → moves_in (moving_tokens moves) ≡ Some moves
moving_read [] = refl
moving_read (first ∷ more) = more_moves_read first more

within_found : (ts : List ScriptToken) (found : List ℕ × List ScriptToken) → within_at ts ≡ Some found → ts ≡ word (codes "within") ∷ word found.0 ∷ found.1
within_found (word preposition ∷ word count ∷ rest) found e =
    let both = tested (bytes_eq preposition (codes "within")) (Some (count, rest)) found e in
    let is : (count, rest) ≡ found = let h = both.1 in cc in
    ap (λ w. word w ∷ word count ∷ rest) (same_bytes preposition (codes "within") both.0) ∙ ap (λ (f : List ℕ × List ScriptToken). word (codes "within") ∷ word f.0 ∷ f.1) is
within_found _ found e = cc

head_found : (ts : List ScriptToken) (found : List ℕ × List ScriptToken) → change_head ts ≡ Some found → ts ≡ word (codes "to") ∷ word found.0 ∷ found.1
head_found (word preposition ∷ word name ∷ rest) found e =
    let both = tested (bytes_eq preposition (codes "to")) (Some (name, rest)) found e in
    let is : (name, rest) ≡ found = let h = both.1 in cc in
    ap (λ w. word w ∷ word name ∷ rest) (same_bytes preposition (codes "to") both.0) ∙ ap (λ (f : List ℕ × List ScriptToken). word (codes "to") ∷ word f.0 ∷ f.1) is
head_found _ found e = cc

ended : {A : Type 0} (o : Option (A × List ScriptToken)) (a : A) → at_end o ≡ Some a → o ≡ Some (a, [])
ended None a e = cc
ended (Some (found, [])) a e = let is : found ≡ a = cc in ap (λ x. Some (x, [])) is
ended (Some (found, t ∷ ts)) a e = cc

one_found : (ts : List ScriptToken) (count : List ℕ) → one_word ts ≡ Some count → ts ≡ word count ∷ []
one_found (word bytes ∷ []) count e = let is : bytes ≡ count = cc in ap (λ w. word w ∷ []) is
one_found _ count e = cc

empty_found : (words found : Words) (ts : List ScriptToken) → where_empty words ts ≡ Some found → (ts ≡ []) × (found ≡ words)
empty_found words found [] e = let is : words ≡ found = cc in (refl, sym is)
empty_found words found (t ∷ ts) e = cc

verb_found : (name : List ℕ) (verb : ScriptVerb) → script_verb_named name ≡ Some verb → name ≡ script_verb_bytes verb
verb_found name verb e = sym (same_bytes (script_verb_bytes verb) name (find_passes (λ v. bytes_eq (script_verb_bytes v) name) script_verbs verb e))

-- Statements: the words found behind a verb spell the line.
start_found : (ts : List ScriptToken) (words : Words) → start_words ts ≡ Some words → IsSpelledBy (word (codes "start") ∷ ts) words
start_found (word name ∷ rest) words e =
    let args = mapped (λ args. start name args) (at_end (optional_arguments rest)) words e in
    let o = optional_found rest (args.0, []) (ended (optional_arguments rest) args.0 args.1) in
    let whole : o.given ++ [] ≡ o.given = append-nil o.given in
    subst (IsSpelledBy (word (codes "start") ∷ word name ∷ rest)) (sym args.2) (o.given, o.are, ap (λ ts. word (codes "start") ∷ word name ∷ ts) (o.spelled ∙ whole))
start_found _ words e = cc

tail_with : (ts : List ScriptToken) (o : Option (List ℕ × List ScriptToken)) (pair : List ℕ × List Ends) → within_at ts ≡ o → within_and_moves o ≡ Some pair → ts ≡ word (codes "within") ∷ word pair.0 ∷ moving_tokens pair.1
tail_with ts None pair at e = cc
tail_with ts (Some (count, behind)) pair at e =
    let inner = mapped (λ (moves : List Ends). (count, moves)) (moves_in behind) pair e in
    within_found ts (count, behind) at ∙ ap (λ rest. word (codes "within") ∷ word count ∷ rest) (moving_found behind inner.0 inner.1)
    ∙ ap (λ (p : List ℕ × List Ends). word (codes "within") ∷ word p.0 ∷ moving_tokens p.1) (sym inner.2)

change_rest : (name : List ℕ) (ts rest : List ScriptToken) (args : List (List ℕ)) (words : Words) → optional_arguments ts ≡ Some (args, rest) → change_within name args (within_at rest) ≡ Some words
    → IsSpelledBy (word (codes "change") ∷ word (codes "to") ∷ word name ∷ ts) words
change_rest name ts rest args words given e =
    let pair = mapped (λ found. change name args found.0 found.1) (within_and_moves (within_at rest)) words e in
    let o = optional_found ts (args, rest) given in
    let tail = tail_with rest (within_at rest) pair.0 refl pair.1 in
    subst (IsSpelledBy (word (codes "change") ∷ word (codes "to") ∷ word name ∷ ts)) (sym pair.2)
    (o.given, o.are, ap (λ ts. word (codes "change") ∷ word (codes "to") ∷ word name ∷ ts) (o.spelled ∙ ap (λ behind. o.given ++ behind) tail))

change_given : (name : List ℕ) (ts : List ScriptToken) (o : Option Found) (words : Words) → optional_arguments ts ≡ o → change_with name o ≡ Some words
    → IsSpelledBy (word (codes "change") ∷ word (codes "to") ∷ word name ∷ ts) words
change_given name ts None words given e = cc
change_given name ts (Some (args, rest)) words given e = change_rest name ts rest args words given e

change_at : (ts : List ScriptToken) (o : Option (List ℕ × List ScriptToken)) (words : Words) → change_head ts ≡ o → change_of o ≡ Some words → IsSpelledBy (word (codes "change") ∷ ts) words
change_at ts None words head e = cc
change_at ts (Some (name, rest)) words head e =
    subst (λ ts. IsSpelledBy (word (codes "change") ∷ ts) words) (sym (head_found ts (name, rest) head)) (change_given name rest (optional_arguments rest) words refl e)

run_found : (ts : List ScriptToken) (words : Words) → option_map (λ count. run count) (one_word ts) ≡ Some words → IsSpelledBy (word (codes "run") ∷ ts) words
run_found ts words e =
    let count = mapped (λ count. run count) (one_word ts) words e in
    subst (IsSpelledBy (word (codes "run") ∷ ts)) (sym count.2) (ap (λ ts. word (codes "run") ∷ ts) (one_found ts count.0 count.1))

finish_found : (ts : List ScriptToken) (words : Words) → option_map (λ count. finish count) (at_end (within_at ts)) ≡ Some words → IsSpelledBy (word (codes "finish") ∷ ts) words
finish_found ts words e =
    let count = mapped (λ count. finish count) (at_end (within_at ts)) words e in
    subst (IsSpelledBy (word (codes "finish") ∷ ts)) (sym count.2) (ap (λ ts. word (codes "finish") ∷ ts) (within_found ts (count.0, []) (ended (within_at ts) count.0 count.1)))

behind_found : (verb : ScriptVerb) (ts : List ScriptToken) (words : Words) → words_behind verb ts ≡ Some words → IsSpelledBy (word (script_verb_bytes verb) ∷ ts) words
behind_found verbs.Start ts words e = start_found ts words e
behind_found verbs.Run ts words e = run_found ts words e
behind_found verbs.Change ts words e = change_at ts (change_head ts) words refl e
behind_found verbs.Finish ts words e = finish_found ts words e
behind_found verbs.Show ts words e = let both = empty_found show words ts e in subst (IsSpelledBy (word (codes "show") ∷ ts)) (sym both.1) (ap (λ ts. word (codes "show") ∷ ts) both.0)
behind_found verbs.Stop ts words e = let both = empty_found stop words ts e in subst (IsSpelledBy (word (codes "end") ∷ ts)) (sym both.1) (ap (λ ts. word (codes "end") ∷ ts) both.0)

named_found : (name : List ℕ) (rest : List ScriptToken) (o : Option ScriptVerb) (words : Words) → script_verb_named name ≡ o → words_behind_named o rest ≡ Some words → IsSpelledBy (word name ∷ rest) words
named_found name rest None words is e = cc
named_found name rest (Some verb) words is e = subst (λ n. IsSpelledBy (word n ∷ rest) words) (sym (verb_found name verb is)) (behind_found verb rest words e)

-- The words that are found spell the tokens.
pub tokens_found : (ts : List ScriptToken) (words : Words) → words_in_tokens ts ≡ Some words → IsSpelledBy ts words
tokens_found (word name ∷ rest) words e = named_found name rest (script_verb_named name) words refl e
tokens_found _ words e = cc

start_read : (name : List ℕ) (args : List (List ℕ)) (given : List ScriptToken) → AreArguments args given → words_in_tokens (word (codes "start") ∷ word name ∷ given) ≡ Some (start name args)
start_read name args given are =
    ap (λ ts. start_with name (at_end (optional_arguments ts))) (sym (append-nil given)) ∙ ap (λ o. start_with name (at_end o)) (optional_read args given [] are nothing)

change_read : (name : List ℕ) (args : List (List ℕ)) (within : List ℕ) (moves : List Ends) (given : List ScriptToken) → AreArguments args given
    → words_in_tokens (word (codes "change") ∷ word (codes "to") ∷ word name ∷ (given ++ (word (codes "within") ∷ word within ∷ moving_tokens moves))) ≡ Some (change name args within moves)
change_read name args within moves given are =
    let tail : List ScriptToken = word (codes "within") ∷ word within ∷ moving_tokens moves in
    ap (change_with name) (optional_read args given tail are (a_word (codes "within") (word within ∷ moving_tokens moves)))
    ∙ ap (λ found. option_map (λ (p : List ℕ × List Ends). change name args p.0 p.1) (option_map (λ moves. (within, moves)) found)) (moving_read moves)

-- The words that spell the tokens are found.
pub tokens_read : (ts : List ScriptToken) (words : Words) → IsSpelledBy ts words → words_in_tokens ts ≡ Some words
tokens_read ts (file name) is = absurd is
tokens_read ts (start name args) is = ap words_in_tokens is.2 ∙ start_read name args is.0 is.1
tokens_read ts (run count) is = ap words_in_tokens is
tokens_read ts (change name args within moves) is = ap words_in_tokens is.2 ∙ change_read name args within moves is.0 is.1
tokens_read ts (finish within) is = ap words_in_tokens is
tokens_read ts show is = ap words_in_tokens is
tokens_read ts stop is = ap words_in_tokens is
