-- To be believed (definitions.md).
-- The forms of the lines of a script. A line has a form where its words are those of the form, in this order.
use Rattle.std.specs.Prelude.{◌≡◌, ◌⊎◌, ℕ, Bool, true, ◌&&◌, List, [], ◌∷◌, ◌++◌, codes}
use Rattle.std.specs.List.{list_all}
use Rattle.std.specs.Str.{is_utf8}
use Rattle.change_script.specs.Tokens.{ScriptToken, word, opened, closed, comma, arrow, is_blank, tokens}
use Rattle.change_script.specs.Numbers.{is_integer, is_number}
use Rattle.change_script.specs.Paths.{is_name, is_path}
use Rattle.change_script.specs.ScriptWords.{Ends, Words, file, start, run, change, finish, show, stop, is_blankless}

-- INT {, INT} and the closing parenthesis, which may stand alone
abbrev pub argument_tokens : List (List ℕ) → List ScriptToken
argument_tokens [] = closed ∷ []
argument_tokens (last ∷ []) = word last ∷ closed ∷ []
argument_tokens (first ∷ next ∷ more) = word first ∷ comma ∷ argument_tokens (next ∷ more)

-- nothing, or the arguments in parentheses
abbrev pub AreArguments : List (List ℕ) → List ScriptToken → Type 0
AreArguments args ts = ((args ≡ []) × (ts ≡ [])) ⊎ (ts ≡ opened ∷ argument_tokens args)

-- PATH -> PATH {, PATH -> PATH}
abbrev pub move_tokens : Ends → List Ends → List ScriptToken
move_tokens first [] = word first.from ∷ arrow ∷ word first.to ∷ []
move_tokens first (next ∷ more) = word first.from ∷ arrow ∷ word first.to ∷ comma ∷ move_tokens next more

-- nothing, or `moving` and one move or more
abbrev pub moving_tokens : List Ends → List ScriptToken
moving_tokens [] = []
moving_tokens (first ∷ more) = word (codes "moving") ∷ move_tokens first more

-- `use`, a blank or more, and then the name, which may have signs in it
abbrev pub UsesFile : List ℕ → List ℕ → Type 0
UsesFile line name =
    (blank : ℕ) × (blanks : List ℕ) × (list_all is_blank (blank ∷ blanks) ≡ true) × (is_blankless name ≡ true) × (line ≡ codes "use" ++ ((blank ∷ blanks) ++ name))

-- the tokens of a line with these words, but for `use`
abbrev pub IsSpelledBy : List ScriptToken → Words → Type 0
IsSpelledBy ts (file name) = ⊥
IsSpelledBy ts (start name args) = (given : List ScriptToken) × AreArguments args given × (ts ≡ word (codes "start") ∷ word name ∷ given)
IsSpelledBy ts (run count) = ts ≡ word (codes "run") ∷ word count ∷ []
IsSpelledBy ts (change name args within moves) =
    (given : List ScriptToken) × AreArguments args given
    × (ts ≡ word (codes "change") ∷ word (codes "to") ∷ word name ∷ (given ++ (word (codes "within") ∷ word within ∷ moving_tokens moves)))
IsSpelledBy ts (finish within) = ts ≡ word (codes "finish") ∷ word (codes "within") ∷ word within ∷ []
IsSpelledBy ts show = ts ≡ word (codes "show") ∷ []
IsSpelledBy ts stop = ts ≡ word (codes "end") ∷ []

-- The words of the line are these.
abbrev pub IsSpelled : List ℕ → Words → Type 0
IsSpelled line (file name) = UsesFile line name
IsSpelled line words = IsSpelledBy (tokens line) words

-- Names are names of the language, arguments integers, numbers numbers and paths paths, and the name of a file is
-- UTF-8.
abbrev pub are_paths : Ends → Bool
are_paths moved = is_path moved.from && is_path moved.to

abbrev pub are_right : Words → Bool
are_right (file name) = is_utf8 name
are_right (start name args) = is_name name && list_all is_integer args
are_right (run count) = is_number count
are_right (change name args within moves) = is_name name && list_all is_integer args && is_number within && list_all are_paths moves
are_right (finish within) = is_number within
are_right show = true
are_right stop = true

abbrev pub HasForm : List ℕ → Words → Type 0
HasForm line words = IsSpelled line words × (are_right words ≡ true)
