-- To be believed (definitions.md).
-- The arguments of a component: integers, parted by commas, in parentheses.
use Rattle.std.specs.Prelude.{ℕ, ℤ, if◌then◌else◌, List, [], ◌∷◌, map, Option, Some, None, option_map}
use Rattle.std.specs.List.{list_all}
use Rattle.change_script.specs.Tokens.{ScriptToken, word, closed, comma}
use Rattle.change_script.specs.Numbers.{integer, integer_fits}

-- INT {, INT} and the closing parenthesis: the words, and what stands behind
abbrev pub more_arguments : List ScriptToken → Option (List (List ℕ) × List ScriptToken)
more_arguments (word first ∷ closed ∷ rest) = Some (first ∷ [], rest)
more_arguments (word first ∷ comma ∷ rest) = option_map (λ found. (first ∷ found.0, found.1)) (more_arguments rest)
more_arguments _ = None

-- the same, or the closing parenthesis alone
abbrev pub arguments : List ScriptToken → Option (List (List ℕ) × List ScriptToken)
arguments (closed ∷ rest) = Some ([], rest)
arguments tokens = more_arguments tokens

-- what was found, where nothing stands behind
abbrev pub at_end : {A : Type 0} → Option (A × List ScriptToken) → Option A
at_end None = None
at_end (Some (found, [])) = Some found
at_end (Some (found, token ∷ rest)) = None

-- the values of integers, where each is in range
abbrev pub integers : List (List ℕ) → Option (List ℤ)
integers words = if list_all integer_fits words then Some (map integer words) else None
