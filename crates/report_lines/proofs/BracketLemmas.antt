-- Names with parentheses behind them, and what stands inside.
use Rattle.std.proofs.Common.{◌≡◌, ◌==◌, ◌<◌, not, ℕ, true, List, [], ◌∷◌, ◌++◌, Option, Some, None, refl, sym, ap, subst, ◌∙◌, arith, inl, inr}
use Rattle.std.proofs.lemmas.Option.{same_Some}
use Rattle.std.specs.List.{join_with_byte, onto_first, slice_split}
use Rattle.std.specs.Char.{digit_value}
use Rattle.std.specs.Str.Parse.{AllDigits}
use Rattle.std.proofs.lemmas.Bool.{and_from, cond-true, cond-false, cases_Bool}
use Rattle.std.proofs.lemmas.Bool.Decides.{nat_tests}
use Rattle.std.proofs.lemmas.List.Splits.{join_with_byte-slice_split, slice_split_none, slice_split_at}
use Rattle.report_lines.specs.Parts.{bracketed, closed, is_used_up, opened, two_of}
use Rattle.report_lines.specs.ReportLines.{lacks}
use Rattle.report_lines.proofs.TextLaws.{lacks_append, lacks_at}
use Rattle.report_lines.proofs.NumberLemmas.{ended_is}
use Rattle.base.proofs.OptionLaws.{when_some}

abbrev pub PartsLack : ℕ → List (List ℕ) → Type 0
PartsLack at [] = Unit {0}
PartsLack at (part ∷ more) = (lacks at part ≡ true) × PartsLack at more

onto_lack : (at byte : ℕ) (parts : List (List ℕ)) → not (byte == at) ≡ true → PartsLack at parts → PartsLack at (onto_first byte parts)
onto_lack at byte [] other all = (and_from (not (byte == at)) true other refl, tt)
onto_lack at byte (part ∷ more) other all = (and_from (not (byte == at)) (lacks at part) other all.0, all.1)

-- No part has the byte that parts them.
pub split_lack : (at : ℕ) (text : List ℕ) → PartsLack at (slice_split (λ byte. byte == at) text)
split_lack at [] = (refl, tt)
split_lack at (byte ∷ bytes) =
    let more : List (List ℕ) = slice_split (λ b. b == at) bytes in
    elim (cases_Bool (byte == at)) [
      | inl same ↦
          let is : slice_split (λ b. b == at) (byte ∷ bytes) ≡ [] ∷ more = cond-true _ _ _ same in
          subst (PartsLack at) (sym is) (refl, split_lack at bytes)
      | inr other ↦
          let is : slice_split (λ b. b == at) (byte ∷ bytes) ≡ onto_first byte more = cond-false _ _ _ other in
          subst (PartsLack at) (sym is) (onto_lack at byte more (ap not other) (split_lack at bytes))
    ]

other_byte : (byte at : ℕ) → digit_value byte < 10 → at < 48 → not (byte == at) ≡ true
other_byte byte at digit low = grind (arith, nat_tests)

-- digits are no signs
pub digits_lack : (at : ℕ) (digits : List ℕ) → at < 48 → AllDigits 10 digits → lacks at digits ≡ true
digits_lack at [] low all = refl
digits_lack at (byte ∷ bytes) low all = and_from (not (byte == at)) (lacks at bytes) (other_byte byte at all.0 low) (digits_lack at bytes low all.1)

two_are_all : (parts : List (List ℕ)) (p : List ℕ × List ℕ) → two_of parts ≡ Some p → parts ≡ p.0 ∷ p.1 ∷ []
two_are_all [] p e = let never : ⊥ = cc in absurd never
two_are_all (first ∷ []) p e = let never : ⊥ = cc in absurd never
two_are_all (first ∷ second ∷ more) p e =
    let last = when_some (is_used_up more) (Some (first, second)) p e in
    ap (λ rest. first ∷ second ∷ rest) (ended_is more last.0) ∙ ap (λ q. q.0 ∷ q.1 ∷ []) (same_Some (first, second) p last.1)

-- a text in two parts
record InTwo (at : ℕ) (text : List ℕ) (p : List ℕ × List ℕ) : Type 0 where
  whole : text ≡ p.0 ++ (at ∷ p.1)
  first : lacks at p.0 ≡ true

in_two : (at : ℕ) (text : List ℕ) (p : List ℕ × List ℕ) → two_of (slice_split (λ byte. byte == at) text) ≡ Some p → InTwo at text p
in_two at text p e =
    let parts = two_are_all (slice_split (λ byte. byte == at) text) p e in
    let all = subst (PartsLack at) parts (split_lack at text) in
    record { whole = sym (join_with_byte-slice_split at text) ∙ ap (join_with_byte at) parts; first = all.0 }

record IsClosed (name : List ℕ) (parts : Option (List ℕ × List ℕ)) (p : List ℕ × List ℕ) : Type 0 where
  inner : parts ≡ Some (p.1, [])
  same_name : name ≡ p.0

closed_is : (name : List ℕ) (parts : Option (List ℕ × List ℕ)) (p : List ℕ × List ℕ) → closed name parts ≡ Some p → IsClosed name parts p
closed_is name None p e = let never : ⊥ = cc in absurd never
closed_is name (Some parts) p e =
    let last = when_some (is_used_up parts.1) (Some (name, parts.0)) p e in
    let is = same_Some (name, parts.0) p last.1 in
    record { inner = ap (λ behind. Some (parts.0, behind)) (ended_is parts.1 last.0) ∙ ap (λ q. Some (q.1, [])) is; same_name = ap (λ q. q.0) is }

pub record Bracket (word : List ℕ) (p : List ℕ × List ℕ) : Type 0 where
  pub whole : word ≡ p.0 ++ (40 ∷ (p.1 ++ (41 ∷ [])))
  pub name : lacks 40 p.0 ≡ true

opened_is : (word : List ℕ) (parts : Option (List ℕ × List ℕ)) (p : List ℕ × List ℕ) → two_of (slice_split (λ byte. byte == 40) word) ≡ parts → opened parts ≡ Some p → Bracket word p
opened_is word None p is e = let never : ⊥ = cc in absurd never
opened_is word (Some q) p is e =
    let shut = closed_is q.0 (two_of (slice_split (λ byte. byte == 41) q.1)) p e in
    let outer = in_two 40 word q is in
    let inner = in_two 41 q.1 (p.1, []) shut.inner in
    record {
      whole = outer.whole ∙ ap (λ text. q.0 ++ (40 ∷ text)) inner.whole ∙ ap (λ name. name ++ (40 ∷ (p.1 ++ (41 ∷ [])))) shut.same_name;
      name = subst (λ name. lacks 40 name ≡ true) shut.same_name outer.first;
    }

pub bracket_is : (word : List ℕ) (p : List ℕ × List ℕ) → bracketed word ≡ Some p → Bracket word p
bracket_is word p e = opened_is word (two_of (slice_split (λ byte. byte == 40) word)) p refl e

pub bracket_of : (name inside : List ℕ) → lacks 40 name ≡ true → lacks 40 inside ≡ true → lacks 41 inside ≡ true
    → bracketed (name ++ (40 ∷ (inside ++ (41 ∷ [])))) ≡ Some (name, inside)
bracket_of name inside no_name no_open no_close =
    let rest : List ℕ = inside ++ (41 ∷ []) in
    let outer = slice_split_at (λ byte. byte == 40) name 40 rest (lacks_at 40 name no_name) refl in
    let last = slice_split_none (λ byte. byte == 40) rest (lacks_at 40 rest (lacks_append 40 inside (41 ∷ []) no_open refl)) in
    let inner = slice_split_at (λ byte. byte == 41) inside 41 [] (lacks_at 41 inside no_close) refl in
    ap (λ parts. opened (two_of parts)) (outer ∙ ap (λ parts. name ∷ parts) last) ∙ ap (λ parts. closed name (two_of parts)) inner
