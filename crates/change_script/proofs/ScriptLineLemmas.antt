-- What right words are, and texts that are UTF-8.
use Rattle.std.proofs.Common.{◌≡◌, ℕ, true, false, List, IsTrue, ◌&&◌, Result, Ok, Err, sym, rules}
use Rattle.std.specs.List.{list_all}
use Rattle.std.specs.Str.{IsUtf8, is_utf8}
use Rattle.std.proofs.lemmas.Bool.{and_parts, cases_Bool}
use Rattle.std.proofs.lemmas.Str.{is_utf8-from_IsUtf8, IsUtf8-from_is_utf8}
use Rattle.change_script.specs.Numbers.{is_integer, is_number}
use Rattle.change_script.specs.Paths.{is_name}
use Rattle.change_script.specs.ScriptWords.{Ends, change}
use Rattle.change_script.specs.ScriptForms.{are_paths, are_right}
use Rattle.std.specs.Prelude.{MatchResult, is_ok}
use Rattle.std.proofs.Common.{inl, inr}

pub within_right : (name : List ℕ) (args : List (List ℕ)) (within : List ℕ) (moves : List Ends) → are_right (change name args within moves) ≡ true → IsTrue (is_number within)
within_right name args within moves right =
    let moved = and_parts (is_name name && list_all is_integer args && is_number within) (list_all are_paths moves) right in
    let number = and_parts (is_name name && list_all is_integer args) (is_number within) moved.0 in
    let is = number.1 in
    search rules

not_utf8 : (bytes : List ℕ) → (IsUtf8 bytes → ⊥) → is_utf8 bytes ≡ false
not_utf8 bytes never = elim (cases_Bool (is_utf8 bytes)) [ inl holds ↦ absurd (never (IsUtf8-from_is_utf8 bytes holds)) | inr fails ↦ fails ]

-- Bytes are UTF-8 exactly where they are read as such.
pub utf8_is : {T E : Type 0} (bytes : List ℕ) (P : T → Type 0) (Q : E → Type 0) (r : Result T E) → MatchResult r (λ s. P s × IsUtf8 bytes) (λ e. (IsUtf8 bytes → ⊥) × Q e) → is_ok r ≡ is_utf8 bytes
utf8_is bytes P Q (Ok s) h = sym (is_utf8-from_IsUtf8 bytes h.1)
utf8_is bytes P Q (Err e) h = sym (not_utf8 bytes h.0)
