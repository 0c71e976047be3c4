-- To be believed (definitions.md).
-- The lines that come in a session, and what each says: `busy P`, `closed P`, `idle P`, `round`, `stop`, `go`.
use Rattle.std.specs.Prelude.{ℕ, ◌==◌, ◌||◌, Bool, not, nat_lt, List, [], ◌∷◌, ◌++◌, length, take, drop, codes, bytes_eq, ◌&&◌, if◌then◌else◌}
use Rattle.std.specs.List.{prefix_len}
use Rattle.change_script.specs.Lines.{is_statement, trimmed}
use Rattle.change_script.specs.Numbers.{is_number, number, number_fits}
use Rattle.change_apply.specs.declared.said.Said.{Said}
use Rattle.change_apply.specs.declared.said.Said.TheVariants as says

-- how many bytes a line has at most, without its line feed
abbrev pub line_limit : ℕ
line_limit = 4096

-- The lines of what comes, behind those bytes of the first. A line ends with a line feed, or with the byte that is one too
-- many; what is left at the end is none.
abbrev pub lines_from : List ℕ → List ℕ → List (List ℕ)
lines_from line [] = []
lines_from line (b ∷ more_) =
    if b == 10 then line ∷ lines_from [] more_
    else (if nat_lt line_limit (length (line ++ b ∷ [])) then (line ++ b ∷ []) ∷ lines_from [] more_ else lines_from (line ++ b ∷ []) more_)

abbrev pub lines_of : List ℕ → List (List ℕ)
lines_of came = lines_from [] came

-- the blanks within a line
abbrev pub is_blank : ℕ → Bool
is_blank byte = byte == 32 || byte == 9

abbrev pub without_blanks : List ℕ → List ℕ
without_blanks bytes = drop (prefix_len is_blank bytes) bytes

-- the first word of a line, and what stands behind it
abbrev pub word_len : List ℕ → ℕ
word_len line = prefix_len (λ byte. not (is_blank byte)) line

abbrev pub first_word : List ℕ → List ℕ
first_word line = take (word_len line) line

abbrev pub behind_word : List ℕ → List ℕ
behind_word line = without_blanks (drop (word_len line) line)

-- a word that stands alone, and one before a port
abbrev pub said_alone : List ℕ → Said
said_alone word =
    if bytes_eq word (codes "round") then says.Round
    else (if bytes_eq word (codes "stop") then says.Stop else (if bytes_eq word (codes "go") then says.Go else says.Senseless))

abbrev pub said_at : List ℕ → ℕ → Said
said_at word port =
    if bytes_eq word (codes "busy") then says.Busy port
    else (if bytes_eq word (codes "closed") then says.Closed port else (if bytes_eq word (codes "idle") then says.Idle port else says.Senseless))

-- a word before a number that fits
abbrev pub said_before : List ℕ → List ℕ → Said
said_before word [] = said_alone word
said_before word (b ∷ more_) =
    if is_number (b ∷ more_) && number_fits (b ∷ more_) then said_at word (number (b ∷ more_)) else says.Senseless

-- a line without the blanks at its ends
abbrev pub said_in : List ℕ → Said
said_in line = if is_statement line then said_before (first_word line) (behind_word line) else says.Silent

-- any line
abbrev pub said_by : List ℕ → Said
said_by line = if nat_lt line_limit (length line) then says.Senseless else said_in (trimmed line)
