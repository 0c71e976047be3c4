-- The parts of a text are at least one.
use Rattle.std.proofs.Common.{◌≡◌, ◌==◌, ◌<◌, ℕ, true, false, List, [], ◌∷◌, length, Option, Some, None, option_copied, MatchOption, Bor, refl, sym, ap, ◌∙◌, arith}
use Rattle.std.specs.List.{slice_split}
use Rattle.std.specs.Option.{is_none}
use Rattle.std.proofs.lemmas.Bool.{cond-false}
use Rattle.std.proofs.lemmas.List.Splits.{length-slice_split}
use Rattle.report_lines.specs.Parts.{is_used_up, parts_left, two_of}

some_more : (parts : List (List ℕ)) → 0 < length parts → is_used_up parts ≡ false
some_more [] some = absurd (omega arith)
some_more (part ∷ more) some = refl

pub more_parts : (at : ℕ) (text : List ℕ) → is_used_up (slice_split (λ byte. byte == at) text) ≡ false
more_parts at text =
    let count = length-slice_split (λ byte. byte == at) text in
    some_more (slice_split (λ byte. byte == at) text) (omega arith)

pub end_if_none : (at : ℕ) (text : Option (Bor (List ℕ))) → is_none text ≡ is_used_up (parts_left at (option_copied text))
end_if_none at None = refl
end_if_none at (Some text) = sym (more_parts at text.now)

pub two_found : (at : ℕ) (text first rest second : List ℕ) → slice_split (λ byte. byte == at) text ≡ first ∷ slice_split (λ byte. byte == at) rest
    → slice_split (λ byte. byte == at) rest ≡ second ∷ [] → two_of (slice_split (λ byte. byte == at) text) ≡ Some (first, second)
two_found at text first rest second one two = ap two_of (one ∙ ap (λ parts. first ∷ parts) two)

pub three_found : (at : ℕ) (text first rest second more : List ℕ) → slice_split (λ byte. byte == at) text ≡ first ∷ slice_split (λ byte. byte == at) rest
    → slice_split (λ byte. byte == at) rest ≡ second ∷ slice_split (λ byte. byte == at) more → two_of (slice_split (λ byte. byte == at) text) ≡ None
three_found at text first rest second more one two =
    ap two_of (one ∙ ap (λ parts. first ∷ parts) two) ∙ cond-false _ _ _ (more_parts at more)

-- what two cuts of a text say of its parts: nothing is behind the first, nothing behind the second, and something behind both
pub cut_one : (at : ℕ) (text first : List ℕ) → slice_split (λ byte. byte == at) text ≡ first ∷ [] → two_of (slice_split (λ byte. byte == at) text) ≡ None
cut_one at text first one = ap two_of one

pub cut_two : (at : ℕ) (text first rest second : List ℕ) (more : Option (Bor (List ℕ))) → slice_split (λ byte. byte == at) text ≡ first ∷ slice_split (λ byte. byte == at) rest
    → MatchOption more (slice_split (λ byte. byte == at) rest ≡ second ∷ []) (λ behind. slice_split (λ byte. byte == at) rest ≡ second ∷ slice_split (λ byte. byte == at) behind.now)
    → is_none more ≡ true → two_of (slice_split (λ byte. byte == at) text) ≡ Some (first, second)
cut_two at text first rest second None one two none = two_found at text first rest second one two
cut_two at text first rest second (Some behind) one two none = let never : ⊥ = cc in absurd never

pub cut_more : (at : ℕ) (text first rest second : List ℕ) (more : Option (Bor (List ℕ))) → slice_split (λ byte. byte == at) text ≡ first ∷ slice_split (λ byte. byte == at) rest
    → MatchOption more (slice_split (λ byte. byte == at) rest ≡ second ∷ []) (λ behind. slice_split (λ byte. byte == at) rest ≡ second ∷ slice_split (λ byte. byte == at) behind.now)
    → is_none more ≡ false → two_of (slice_split (λ byte. byte == at) text) ≡ None
cut_more at text first rest second None one two some = let never : ⊥ = cc in absurd never
cut_more at text first rest second (Some behind) one two some = three_found at text first rest second behind.now one two
