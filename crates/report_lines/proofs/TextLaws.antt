-- For the proofs of crates above: texts without a byte, and lines by their texts.
use Rattle.std.proofs.Common.{◌≡◌, ◌==◌, ◌<◌, not, zero, suc, ℕ, true, false, List, [], ◌∷◌, ◌++◌, length, get_or, codes, refl, ap, ◌∙◌, arith}
use Rattle.std.proofs.lemmas.Bool.{and_from, and_parts}
use Rattle.std.proofs.lemmas.Bool.Decides.{nat_tests}
use Rattle.std.proofs.lemmas.List.{length-append}
use Rattle.std.specs.List.{list_all}
use Rattle.base.proofs.PlaceLaws.{heads_are, tails_are}
use Rattle.report_writing.specs.Reports.{ended}
use Rattle.report_lines.specs.ReportLines.{lacks}
use Rattle.config_graph.specs.declared.kind.Kind.{Kind}
use Rattle.config_graph.specs.Kinds.{row}
use Rattle.config_graph.proofs.KindLaws.{is_letter, letter_is_not, kind_names_are_letters}

not_byte : (byte at : ℕ) → not (byte == at) ≡ true → (byte == at) ≡ false
not_byte byte at is = grind (arith, nat_tests)

pub lacks_at : (at : ℕ) (text : List ℕ) → lacks at text ≡ true → (k d : ℕ) → k < length text → (get_or text k d == at) ≡ false
lacks_at at [] is k d low = absurd (omega arith)
lacks_at at (byte ∷ bytes) is zero d low = not_byte byte at (and_parts (not (byte == at)) (lacks at bytes) is).0
lacks_at at (byte ∷ bytes) is (suc k) d low = lacks_at at bytes (and_parts (not (byte == at)) (lacks at bytes) is).1 k d (omega arith)

pub lacks_append : (at : ℕ) (text more : List ℕ) → lacks at text ≡ true → lacks at more ≡ true → lacks at (text ++ more) ≡ true
lacks_append at [] more first second = second
lacks_append at (byte ∷ bytes) more first second =
    let parts = and_parts (not (byte == at)) (lacks at bytes) first in
    and_from (not (byte == at)) (lacks at (bytes ++ more)) parts.0 (lacks_append at bytes more parts.1 second)

-- Lines with the same text are the same.
pub line_is : (line other : List ℕ) → ended line ≡ ended other → line ≡ other
line_is [] [] e = refl
line_is [] (byte ∷ bytes) e = let long : length (ended []) ≡ length (ended (byte ∷ bytes)) = ap length e in absurd (omega (arith, length-append bytes (codes "\n")))
line_is (byte ∷ bytes) [] e = let long : length (ended (byte ∷ bytes)) ≡ length (ended []) = ap length e in absurd (omega (arith, length-append bytes (codes "\n")))
line_is (byte ∷ bytes) (first ∷ more) e =
    ap (λ b. b ∷ bytes) (heads_are byte first (ended bytes) (ended more) e) ∙ ap (λ l. first ∷ l) (line_is bytes more (tails_are byte first (ended bytes) (ended more) e))

-- what is of letters lacks each byte below them, so the name of a kind does
pub letters_lack : (at : ℕ) → at < 97 → (text : List ℕ) → list_all is_letter text ≡ true → lacks at text ≡ true
letters_lack at low [] letters = refl
letters_lack at low (b ∷ bs) letters =
    let both = and_parts (is_letter b) (list_all is_letter bs) letters in
    and_from (not (b == at)) (lacks at bs) (letter_is_not at b low both.0) (letters_lack at low bs both.1)

pub kind_name_lacks : (at : ℕ) → at < 97 → (k : Kind) → lacks at (row k).name ≡ true
kind_name_lacks at low k = letters_lack at low (row k).name (kind_names_are_letters k)
