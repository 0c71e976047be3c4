-- For the proofs of crates above: the lines behind the logs of a report, and the words of lines that are written.
use Rattle.std.proofs.Common.{◌≡◌, ◌<◌, ◌≤◌, ◌^◌, ℕ, true, List, [], ◌∷◌, ◌++◌, Some, None, codes, bytes_eq, decimal, refl, ap, ◌∙◌, arith, cond}
use Rattle.base.proofs.BytesLaws.{same_bytes}
use Rattle.base.proofs.OptionLaws.{when_some}
use Rattle.report_writing.specs.Writing.{spaced, with_one}
use Rattle.report_lines.proofs.TextLaws.{lacks_at}
use Rattle.report_lines.specs.Ends.{status_in, unfinished_in}
use Rattle.report_lines.specs.Numbers.{max32, one_in}
use Rattle.report_lines.specs.Parts.{words}
use Rattle.report_lines.specs.ReportLines.{lacks}
use Rattle.report_lines.proofs.EventLemmas.{words_are, words_of}
use Rattle.report_lines.proofs.NumberLemmas.{decimal_unspaced, one_is, one_of}

says_one : (verb line first : List ℕ) (rest : List (List ℕ)) (most n : ℕ) → most < 2 ^ 64 → words line ≡ first ∷ rest → cond (bytes_eq first verb) (one_in most rest) None ≡ Some n
    → (line ≡ with_one verb n) × (n ≤ most)
says_one verb line first rest most n small is e =
    let w = when_some (bytes_eq first verb) (one_in most rest) n e in
    let one = one_is most rest n small w.1 in
    (words_are line first rest is ∙ ap (λ v. v ++ spaced rest) (same_bytes first verb w.0) ∙ ap (λ ws. verb ++ spaced ws) one.texts, one.low)

pub status_says : (line : List ℕ) (n : ℕ) → status_in (words line) ≡ Some n → (line ≡ with_one (codes "status") n) × (n ≤ 255)
status_says line n e = by (words line) refl e
  where
    by : (parts : List (List ℕ)) → words line ≡ parts → status_in parts ≡ Some n → (line ≡ with_one (codes "status") n) × (n ≤ 255)
    by [] is e = let never : ⊥ = cc in absurd never
    by (first ∷ rest) is e = says_one (codes "status") line first rest 255 n (omega arith) is e

pub unfinished_says : (line : List ℕ) (n : ℕ) → unfinished_in (words line) ≡ Some n → (line ≡ with_one (codes "unfinished") n) × (n ≤ max32)
unfinished_says line n e = by (words line) refl e
  where
    by : (parts : List (List ℕ)) → words line ≡ parts → unfinished_in parts ≡ Some n → (line ≡ with_one (codes "unfinished") n) × (n ≤ max32)
    by [] is e = let never : ⊥ = cc in absurd never
    by (first ∷ rest) is e = says_one (codes "unfinished") line first rest max32 n (omega arith) is e

-- the words of these lines
pub status_words : (n : ℕ) → n ≤ 255 → words (with_one (codes "status") n) ≡ codes "status" ∷ decimal n ∷ []
status_words n low = words_of (codes "status") (decimal n ∷ []) (lacks_at 32 (codes "status") refl) (decimal_unspaced n (omega (arith, low)), tt)

pub unfinished_words : (n : ℕ) → n ≤ max32 → words (with_one (codes "unfinished") n) ≡ codes "unfinished" ∷ decimal n ∷ []
unfinished_words n low = words_of (codes "unfinished") (decimal n ∷ []) (lacks_at 32 (codes "unfinished") refl) (decimal_unspaced n (omega (arith, low)), tt)

pub head_words : (slot : ℕ) → slot ≤ max32 → words (with_one (codes "log") slot) ≡ codes "log" ∷ decimal slot ∷ []
head_words slot low = words_of (codes "log") (decimal slot ∷ []) (lacks_at 32 (codes "log") refl) (decimal_unspaced slot (omega (arith, low)), tt)

pub head_with_path_words : (slot : ℕ) (path : List ℕ) → slot ≤ max32 → lacks 32 path ≡ true → words (codes "log" ++ spaced (decimal slot ∷ path ∷ [])) ≡ codes "log" ∷ decimal slot ∷ path ∷ []
head_with_path_words slot path low word =
    words_of (codes "log") (decimal slot ∷ path ∷ []) (lacks_at 32 (codes "log") refl) (decimal_unspaced slot (omega (arith, low)), (lacks_at 32 path word, tt))

pub status_of : (n : ℕ) → n ≤ 255 → status_in (words (with_one (codes "status") n)) ≡ Some n
status_of n low = ap status_in (status_words n low) ∙ one_of 255 n (omega arith) low

pub unfinished_of : (n : ℕ) → n ≤ max32 → unfinished_in (words (with_one (codes "unfinished") n)) ≡ Some n
unfinished_of n low = ap unfinished_in (unfinished_words n low) ∙ one_of max32 n (omega arith) low
