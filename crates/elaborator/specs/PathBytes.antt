-- The bytes of which paths are made where names are those of a text.
use Rattle.std.specs.Prelude.{ℕ, Bool, ◌==◌, ◌||◌}
use Rattle.darwin_lexer.specs.Keywords.{continues_name}

-- a letter, a digit or `_`, or one of `.`, `[`, `]` and `-`
abbrev pub is_path_byte : ℕ → Bool
is_path_byte byte = continues_name byte || (byte == 46) || (byte == 91) || (byte == 93) || (byte == 45)
