-- To be believed (definitions.md).
-- The words of a line of a script, by the form that the line has.
use Rattle.std.specs.Prelude.{ℕ, Bool, false, not, nat_eq, ◌&&◌, if◌then◌else◌, List, [], ◌∷◌, map, drop, codes, bytes_eq, find, Option, Some, None, option_map}
use Rattle.std.specs.List.{list_all, prefix_len, starts_with}
use Rattle.change_script.specs.declared.script_words.ScriptVerb.{ScriptVerb}
use Rattle.change_script.specs.declared.script_words.ScriptVerb.TheVariants as verbs
use Rattle.change_script.specs.declared.script_words.MoveWords.{MoveWords}
use Rattle.change_script.specs.declared.script_words.StatementWords.{StatementWords}
use Rattle.change_script.specs.declared.script_words.StatementWords.TheVariants as code
use Rattle.change_script.specs.Tokens.{ScriptToken, word, opened, comma, arrow, begins_blank, is_blank, tokens}
use Rattle.change_script.specs.Arguments.{arguments, at_end}

-- PATH -> PATH
pub record Ends : Type 0 where
  pub from : List ℕ
  pub to : List ℕ

-- what stands at the places of NUM, FILE, C and the arguments
pub data Words : Type 0 where
  file : (name : List ℕ) → Words
  start : (name : List ℕ) (args : List (List ℕ)) → Words
  run : (count : List ℕ) → Words
  change : (name : List ℕ) (args : List (List ℕ)) (within : List ℕ) (moves : List Ends) → Words
  finish : (within : List ℕ) → Words
  show : Words
  stop : Words

-- the words that the code found, wherever their bytes lie
abbrev pub ends_of : MoveWords → Ends
ends_of moved = record { from = moved.from.now; to = moved.to.now }

abbrev pub words_of : StatementWords → Words
words_of (code.File name) = file name.now
words_of (code.Start name args) = start name.now (map (λ arg. arg.now) args.items)
words_of (code.Run count) = run count.now
words_of (code.Change name args within moves) = change name.now (map (λ arg. arg.now) args.items) within.now (map ends_of moves.items)
words_of (code.Finish within) = finish within.now
words_of code.Show = show
words_of code.Stop = stop

-- the first word of each line but `use`
abbrev pub script_verb_bytes : ScriptVerb → List ℕ
script_verb_bytes verbs.Start = codes "start"
script_verb_bytes verbs.Run = codes "run"
script_verb_bytes verbs.Change = codes "change"
script_verb_bytes verbs.Finish = codes "finish"
script_verb_bytes verbs.Show = codes "show"
script_verb_bytes verbs.Stop = codes "end"

abbrev pub script_verbs : List ScriptVerb
script_verbs = verbs.Start ∷ verbs.Run ∷ verbs.Change ∷ verbs.Finish ∷ verbs.Show ∷ verbs.Stop ∷ []

abbrev pub script_verb_named : List ℕ → Option ScriptVerb
script_verb_named name = find (λ verb. bytes_eq (script_verb_bytes verb) name) script_verbs

-- no parentheses, or the arguments in them, and what stands behind
abbrev pub optional_arguments : List ScriptToken → Option (List (List ℕ) × List ScriptToken)
optional_arguments (opened ∷ rest) = arguments rest
optional_arguments tokens = Some ([], tokens)

-- the word behind `within`, and what stands behind it
abbrev pub within_at : List ScriptToken → Option (List ℕ × List ScriptToken)
within_at (word preposition ∷ word count ∷ rest) = if bytes_eq preposition (codes "within") then Some (count, rest) else None
within_at _ = None

-- PATH -> PATH {, PATH -> PATH}
abbrev pub more_moves : List ScriptToken → Option (List Ends)
more_moves (word from ∷ arrow ∷ word to ∷ []) = Some (record { from = from; to = to } ∷ [])
more_moves (word from ∷ arrow ∷ word to ∷ comma ∷ rest) = option_map (λ moves. record { from = from; to = to } ∷ moves) (more_moves rest)
more_moves _ = None

-- PATH -> PATH, and what stands behind
abbrev pub first_move : List ScriptToken → Option (Ends × List ScriptToken)
first_move (word from ∷ arrow ∷ word to ∷ rest) = Some (record { from = from; to = to }, rest)
first_move _ = None

-- nothing, or `moving` and moves
abbrev pub moves_in : List ScriptToken → Option (List Ends)
moves_in [] = Some []
moves_in (word adverb ∷ rest) = if bytes_eq adverb (codes "moving") then more_moves rest else None
moves_in _ = None

abbrev pub start_with : List ℕ → Option (List (List ℕ)) → Option Words
start_with name args = option_map (λ words. start name words) args

-- C [args]
abbrev pub start_words : List ScriptToken → Option Words
start_words (word name ∷ rest) = start_with name (at_end (optional_arguments rest))
start_words _ = None

-- NUM
abbrev pub one_word : List ScriptToken → Option (List ℕ)
one_word (word count ∷ []) = Some count
one_word _ = None

-- the word behind `within` and the moves behind it
abbrev pub within_and_moves : Option (List ℕ × List ScriptToken) → Option (List ℕ × List Ends)
within_and_moves None = None
within_and_moves (Some (count, rest)) = option_map (λ moves. (count, moves)) (moves_in rest)

abbrev pub change_within : List ℕ → List (List ℕ) → Option (List ℕ × List ScriptToken) → Option Words
change_within name args within = option_map (λ found. change name args found.0 found.1) (within_and_moves within)

abbrev pub change_with : List ℕ → Option (List (List ℕ) × List ScriptToken) → Option Words
change_with name None = None
change_with name (Some (args, rest)) = change_within name args (within_at rest)

-- `to` C, and what stands behind
abbrev pub change_head : List ScriptToken → Option (List ℕ × List ScriptToken)
change_head (word preposition ∷ word name ∷ rest) = if bytes_eq preposition (codes "to") then Some (name, rest) else None
change_head _ = None

abbrev pub change_of : Option (List ℕ × List ScriptToken) → Option Words
change_of None = None
change_of (Some (name, rest)) = change_with name (optional_arguments rest)

-- `to` C [args] `within` NUM [`moving` moves]
abbrev pub change_words : List ScriptToken → Option Words
change_words tokens = change_of (change_head tokens)

abbrev pub where_empty : Words → List ScriptToken → Option Words
where_empty words [] = Some words
where_empty words (token ∷ rest) = None

-- what stands behind a verb
abbrev pub words_behind : ScriptVerb → List ScriptToken → Option Words
words_behind verbs.Start tokens = start_words tokens
words_behind verbs.Run tokens = option_map (λ count. run count) (one_word tokens)
words_behind verbs.Change tokens = change_words tokens
words_behind verbs.Finish tokens = option_map (λ count. finish count) (at_end (within_at tokens))
words_behind verbs.Show tokens = where_empty show tokens
words_behind verbs.Stop tokens = where_empty stop tokens

abbrev pub words_behind_named : Option ScriptVerb → List ScriptToken → Option Words
words_behind_named None tokens = None
words_behind_named (Some verb) tokens = words_behind verb tokens

abbrev pub words_in_tokens : List ScriptToken → Option Words
words_in_tokens (word name ∷ rest) = words_behind_named (script_verb_named name) rest
words_in_tokens _ = None

-- one byte or more, and no blank
abbrev pub is_blankless : List ℕ → Bool
is_blankless [] = false
is_blankless (byte ∷ bytes) = list_all (λ byte. not (is_blank byte)) (byte ∷ bytes)

abbrev pub without_blanks : List ℕ → List ℕ
without_blanks text = drop (prefix_len is_blank text) text

-- what stands behind a blank or more, where it is one piece without a blank
abbrev pub name_behind : List ℕ → Option (List ℕ)
name_behind text = if begins_blank text && is_blankless (without_blanks text) then Some (without_blanks text) else None

-- FILE of a `use` line
abbrev pub file_in : List ℕ → Option (List ℕ)
file_in line = if starts_with nat_eq line (codes "use") then name_behind (drop 3 line) else None

abbrev pub words_or_file : Option (List ℕ) → List ScriptToken → Option Words
words_or_file None tokens = words_in_tokens tokens
words_or_file (Some name) tokens = Some (file name)

-- The words of a line, where it has a form: a `use` line is told by its bytes, since FILE may have signs in it, and
-- the others by their tokens.
abbrev pub words_in : List ℕ → Option Words
words_in line = words_or_file (file_in line) (tokens line)
