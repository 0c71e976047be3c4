-- To be believed (definitions.md).
-- The place of a byte: its line and its column, both from 1, by what stands before it. Only a line feed ends a line.
use Rattle.std.specs.Prelude.{ℕ, ◌+◌, ◌==◌, if◌then◌else◌, List, fold, take}
use Rattle.darwin_lexer.specs.declared.token.At.{At}

abbrev pub start : At
start = record { line = 1; column = 1 }

-- the place after a byte
abbrev pub next : At → ℕ → At
next at byte = if byte == 10 then record { line = at.line + 1; column = 1 } else record { line = at.line; column = at.column + 1 }

-- the place at an offset of a text
abbrev pub place_of : List ℕ → ℕ → At
place_of text offset = fold next start (take offset text)
