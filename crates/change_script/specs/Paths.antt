-- To be believed (definitions.md).
-- Words that are names of the language, and words that are paths of nodes.
use Rattle.std.specs.Prelude.{ℕ, Bool, true, false, not, ◌==◌, ◌&&◌, ◌||◌, ◌-◌, List, [], ◌∷◌, take, drop, length, slice_index, if◌then◌else◌, Result, Ok, Err}
use Rattle.std.specs.List.{list_all, slice_split, prefix_len}
use Rattle.darwin_lexer.specs.declared.front.Front.{Front}
use Rattle.darwin_lexer.specs.declared.front.Front.TheVariants.{Lexeme}
use Rattle.darwin_lexer.specs.declared.token.TokenKind.{TokenKind}
use Rattle.darwin_lexer.specs.declared.token.TokenKind.TheVariants.{Name}
use Rattle.darwin_lexer.specs.Fronts.{front_of}
use Rattle.change_script.specs.Numbers.{is_number, number_fits}
use Rattle.change_script.specs.declared.error.LineFault.{LineFault}
use Rattle.change_script.specs.declared.error.LineFault.TheVariants.{Bad, Big}

abbrev pub is_name_kind : TokenKind → Bool
is_name_kind Name = true
is_name_kind _ = false

-- a name of the language, and so no keyword, with all of this many bytes
abbrev pub is_whole_name : ℕ → Front → Bool
is_whole_name n (Lexeme kind m) = is_name_kind kind && (m == n)
is_whole_name n _ = false

-- the whole word is a name of the language
abbrev pub is_name : List ℕ → Bool
is_name word = is_whole_name (length word) (front_of word)

-- Segments are parted by `.`.
abbrev pub segments : List ℕ → List (List ℕ)
segments path = slice_split (λ byte. byte == 46) path

-- a segment up to its first `[`, and from there on
abbrev pub name_len : List ℕ → ℕ
name_len segment = prefix_len (λ byte. not (byte == 91)) segment

abbrev pub name_part : List ℕ → List ℕ
name_part segment = take (name_len segment) segment

abbrev pub index_part : List ℕ → List ℕ
index_part segment = drop (name_len segment) segment

-- the bytes between the first and the last of an index, which are `[` and `]`
abbrev pub index_number : List ℕ → List ℕ
index_number index = take (length index - 2) (drop 1 index)

abbrev pub ends_index : List ℕ → Bool
ends_index index = slice_index index (length index - 1) == 93

-- nothing, or a number between `[` and `]`
abbrev pub is_index : List ℕ → Bool
is_index [] = true
is_index (open_bracket ∷ rest) = ends_index (open_bracket ∷ rest) && is_number (index_number (open_bracket ∷ rest))

-- Where an index is a number, it is at most 4,294,967,295.
abbrev pub index_fits : List ℕ → Bool
index_fits index = not (is_number (index_number index)) || number_fits (index_number index)

-- NAME or NAME[NUM]
abbrev pub is_segment : List ℕ → Bool
is_segment segment = is_name (name_part segment) && is_index (index_part segment)

abbrev pub segment_fits : List ℕ → Bool
segment_fits segment = index_fits (index_part segment)

-- one segment or more
abbrev pub is_path : List ℕ → Bool
is_path path = list_all is_segment (segments path)

-- Each index is at most 4,294,967,295.
abbrev pub path_fits : List ℕ → Bool
path_fits path = list_all segment_fits (segments path)

-- what is wrong with a path, or nothing
abbrev pub path_in : List ℕ → Result (Unit {0}) LineFault
path_in path = if is_path path then (if path_fits path then Ok tt else Err Big) else Err Bad
