-- The lines that end a log.
use Rattle.std.specs.Prelude.{IfOk, IfSome, Result, Ok, Err}
use Rattle.std.proofs.lemmas.Option.{same_Some}
use Rattle.std.proofs.Common.{◌≡◌, ℕ, List, [], ◌∷◌, ◌++◌, map, flat_map, Option, Some, None, option_map, codes, bytes_eq, decimal, refl, sym, ap, subst, ◌∙◌, arith, inl, inr}
use Rattle.std.proofs.lemmas.Bool.{cond-true, cond-false, cases_Bool}
use Rattle.base.proofs.BytesLaws.{same_bytes}
use Rattle.base.proofs.OptionLaws.{when_some}
use Rattle.report_types.specs.declared.report.Last.{Last}
use Rattle.report_types.specs.declared.report.Last.TheVariants as lasts
use Rattle.report_writing.specs.Reports.{ended, last_text}
use Rattle.report_writing.specs.Writing.{spaced}
use Rattle.report_lines.specs.Parts.{all_of, follow, words}
use Rattle.report_lines.specs.Numbers.{max32, max64, one_in, plain}
use Rattle.report_lines.specs.Readings.{last_in}
use Rattle.report_lines.specs.ReportLines.{Are64, IsLast}
use Rattle.report_lines.proofs.TextLaws.{line_is, lacks_at}
use Rattle.report_lines.proofs.NumberLemmas.{mapped, one_is, one_of, plain_is, plain_of, decimal_unspaced}
use Rattle.report_lines.proofs.EventLemmas.{AllUnspaced, words_are, words_of}

pub record Follows {A : Type 0} (o : Option A) (p : Option (List A)) (all : List A) : Type 0 where
  pub first : A
  pub more : List A
  pub first_is : o ≡ Some first
  pub more_is : p ≡ Some more
  pub parts : first ∷ more ≡ all

pub follows : {A : Type 0} (o : Option A) (p : Option (List A)) (all : List A) → follow o p ≡ Some all → Follows o p all
follows None p all e = let never : ⊥ = cc in absurd never
follows (Some a) None all e = let never : ⊥ = cc in absurd never
follows (Some a) (Some more) all e = record { first = a; more = more; first_is = refl; more_is = refl; parts = same_Some (a ∷ more) all e }

record AreNumbers (words : List (List ℕ)) (numbers : List ℕ) : Type 0 where
  texts : words ≡ map decimal numbers
  small : Are64 numbers

numbers_are : (words : List (List ℕ)) (numbers : List ℕ) → all_of (plain max64) words ≡ Some numbers → AreNumbers words numbers
numbers_are [] numbers e = subst (λ ns. AreNumbers [] ns) (same_Some [] numbers e) (record { texts = refl; small = tt })
numbers_are (word ∷ more) numbers e =
    let parts = follows (plain max64 word) (all_of (plain max64) more) numbers e in
    let number = plain_is max64 word parts.first (omega arith) parts.first_is in
    let rest = numbers_are more parts.more parts.more_is in
    subst (λ ns. AreNumbers (word ∷ more) ns) parts.parts (record {
      texts = ap (λ w. w ∷ more) number.text ∙ ap (λ ws. decimal parts.first ∷ ws) rest.texts;
      small = (omega (arith, number.low), rest.small);
    })

numbers_of : (numbers : List ℕ) → Are64 numbers → all_of (plain max64) (map decimal numbers) ≡ Some numbers
numbers_of [] all = refl
numbers_of (number ∷ more) all = rw (plain_of max64 number (omega arith) (omega (arith, all.0)), numbers_of more all.1) refl

numbers_unspaced : (numbers : List ℕ) → Are64 numbers → AllUnspaced (map decimal numbers)
numbers_unspaced [] all = tt
numbers_unspaced (number ∷ more) all = (decimal_unspaced number all.0, numbers_unspaced more all.1)

numbers_spaced : (numbers : List ℕ) → spaced (map decimal numbers) ≡ flat_map (λ number. codes " " ++ decimal number) numbers
numbers_spaced [] = refl
numbers_spaced (number ∷ more) = ap (λ text. 32 ∷ (decimal number ++ text)) (numbers_spaced more)

record Says (line : List ℕ) (last : Last) : Type 0 where
  text : ended line ≡ last_text last
  is_last : IsLast last

says_words : (line : List ℕ) (parts : List (List ℕ)) (last : Last) → words line ≡ parts → last_in parts ≡ Some last → Says line last
says_words line [] last is e = let never : ⊥ = cc in absurd never
says_words line (verb ∷ rest) last is e =
    let at = words_are line verb rest is in
    elim (cases_Bool (bytes_eq verb (codes "state"))) [
      | inl same ↦
          let m = mapped lasts.State (all_of (plain max64) rest) last (sym (cond-true _ _ _ same) ∙ e) in
          let n = numbers_are rest m.value m.found in
          record {
            text = ap ended (at ∙ ap (λ ws. verb ++ spaced ws) n.texts ∙ ap (λ w. w ++ spaced (map decimal m.value)) (same_bytes verb (codes "state") same)
                ∙ ap (λ text. codes "state" ++ text) (numbers_spaced m.value)) ∙ ap last_text m.gives;
            is_last = subst IsLast m.gives n.small;
          }
      | inr other ↦
          let w = when_some (bytes_eq verb (codes "moved")) (option_map lasts.Moved (one_in max32 rest)) last (sym (cond-false _ _ _ other) ∙ e) in
          let m = mapped lasts.Moved (one_in max32 rest) last w.1 in
          let n = one_is max32 rest m.value (omega arith) m.found in
          record {
            text = ap ended (at ∙ ap (λ ws. verb ++ spaced ws) n.texts ∙ ap (λ w. w ++ spaced (decimal m.value ∷ [])) (same_bytes verb (codes "moved") w.0)) ∙ ap last_text m.gives;
            is_last = subst IsLast m.gives (omega (arith, n.low));
          }
    ]

-- A line says how a log ends only as this is written.
pub last_says : (line : List ℕ) (last : Last) → last_in (words line) ≡ Some last → (ended line ≡ last_text last) × IsLast last
last_says line last e = let says = says_words line (words line) last refl e in (says.text, says.is_last)

-- What is written of the end of a log says it.
pub last_of : (line : List ℕ) (last : Last) → IsLast last → ended line ≡ last_text last → last_in (words line) ≡ Some last
last_of line (lasts.State numbers) all is =
    let text : line ≡ codes "state" ++ spaced (map decimal numbers) = line_is line _ is ∙ ap (λ text. codes "state" ++ text) (sym (numbers_spaced numbers)) in
    ap (λ l. last_in (words l)) text ∙ ap last_in (words_of (codes "state") (map decimal numbers) (lacks_at 32 (codes "state") refl) (numbers_unspaced numbers all))
    ∙ ap (option_map lasts.State) (numbers_of numbers all)
last_of line (lasts.Moved slot) small is =
    let text : line ≡ codes "moved" ++ spaced (decimal slot ∷ []) = line_is line _ is in
    ap (λ l. last_in (words l)) text
    ∙ ap last_in (words_of (codes "moved") (decimal slot ∷ []) (lacks_at 32 (codes "moved") refl) (decimal_unspaced slot (omega (arith, small)), tt))
    ∙ ap (option_map lasts.Moved) (one_of max32 slot (omega arith) (omega (arith, small)))

-- what is found, where it is what the words of the line say
pub found_last : {E : Type 0} (line : List ℕ) (result : Result (Option Last) E) → IfOk result (λ found. found ≡ last_in (words line))
    → IfOk result (λ found. IfSome found (λ last. (ended line ≡ last_text last) × IsLast last))
found_last line (Ok None) is = tt
found_last line (Ok (Some last)) is = last_says line last (sym is)
found_last line (Err e) is = tt

pub whenever_last : {E : Type 0} (line : List ℕ) (result : Result (Option Last) E) → IfOk result (λ found. found ≡ last_in (words line))
    → IfOk result (λ found. (last : Last) → IsLast last → ended line ≡ last_text last → found ≡ Some last)
whenever_last line (Ok found) is = λ last can same. is ∙ last_of line last can same
whenever_last line (Err e) is = tt
