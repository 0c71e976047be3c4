-- To be believed (definitions.md).
-- The tokens of a line: its words and its signs.
use Rattle.std.specs.Prelude.{ℕ, suc, Bool, true, false, not, ◌==◌, ◌||◌, ◌&&◌, if◌then◌else◌, List, [], ◌∷◌}

-- A word, or one of the signs `(`, `)`, `,` and `->`.
pub data ScriptToken : Type 0 where
  word : (bytes : List ℕ) → ScriptToken
  opened : ScriptToken
  closed : ScriptToken
  comma : ScriptToken
  arrow : ScriptToken

-- space and tab, which part words
abbrev pub is_blank : ℕ → Bool
is_blank byte = (byte == 32) || (byte == 9)

-- the bytes that are a sign by themselves
abbrev pub is_sign : ℕ → Bool
is_sign byte = (byte == 40) || (byte == 41) || (byte == 44)

-- the token of such a byte
abbrev pub sign : ℕ → ScriptToken
sign byte = if byte == 40 then opened else (if byte == 41 then closed else comma)

abbrev pub begins_blank : List ℕ → Bool
begins_blank [] = false
begins_blank (byte ∷ bytes) = is_blank byte

-- a byte that is no blank and no sign
abbrev pub is_word_byte : ℕ → Bool
is_word_byte byte = not (is_blank byte || is_sign byte)

-- `->` with this byte before these
abbrev pub is_arrow : ℕ → List ℕ → Bool
is_arrow byte [] = false
is_arrow byte (next ∷ bytes) = (byte == 45) && (next == 62)

abbrev pub begins_arrow : List ℕ → Bool
begins_arrow [] = false
begins_arrow (byte ∷ bytes) = is_arrow byte bytes

abbrev pub begins_word : List ℕ → Bool
begins_word [] = false
begins_word (byte ∷ bytes) = is_word_byte byte && not (is_arrow byte bytes)

-- how many bytes the word at the front has: those up to the first blank or sign
abbrev pub word_len : List ℕ → ℕ
word_len [] = 0
word_len (byte ∷ bytes) = if begins_word (byte ∷ bytes) then suc (word_len bytes) else 0

-- all bytes are those of one word
abbrev pub is_word : List ℕ → Bool
is_word [] = true
is_word (byte ∷ bytes) = begins_word (byte ∷ bytes) && is_word bytes

-- the tokens with this byte before them: it is the first of their first word where the word goes on with it, and else
-- a word by itself
abbrev pub onto_word : ℕ → Bool → List ScriptToken → List ScriptToken
onto_word byte true (word bytes ∷ tokens) = word (byte ∷ bytes) ∷ tokens
onto_word byte goes_on tokens = word (byte ∷ []) ∷ tokens

-- The same of a text whose first byte is passed over where it is the second of an arrow.
abbrev pub tokens_behind : Bool → List ℕ → List ScriptToken
tokens_behind passes [] = []
tokens_behind true (byte ∷ bytes) = tokens_behind false bytes
tokens_behind false (byte ∷ bytes) =
    if is_blank byte then tokens_behind false bytes
    else (if is_sign byte then (sign byte ∷ tokens_behind false bytes)
    else (if is_arrow byte bytes then (arrow ∷ tokens_behind true bytes)
    else onto_word byte (begins_word bytes) (tokens_behind false bytes)))

-- Words are parted by blanks and signs, and a word has all the bytes between.
abbrev pub tokens : List ℕ → List ScriptToken
tokens line = tokens_behind false line
