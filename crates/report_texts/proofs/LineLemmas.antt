-- Lines at the front of a text, and a text as its lines.
use Rattle.std.proofs.Common.{◌≡◌, ◌==◌, ℕ, suc, Bool, true, false, not, inl, inr, List, [], ◌∷◌, ◌++◌, append_assoc, length, arith, refl, sym, ap, subst, ◌∙◌}
use Rattle.std.specs.Prelude.{flat_map}
use Rattle.std.specs.List.{onto_first, slice_split}
use Rattle.std.proofs.lemmas.Bool.{and_from, and_parts, cases_Bool, cond-true, cond-false}
use Rattle.std.proofs.lemmas.Bool.Decides.{nat_tests}
use Rattle.std.proofs.lemmas.List.{append-nil, same_from_push}
use Rattle.report_writing.specs.Reports.{ended}
use Rattle.report_lines.specs.ReportLines.{lacks}
use Rattle.report_texts.specs.Stages.{is_over}
use Rattle.report_texts.specs.TextLines.{lines, onto_line, onto_tail, tail}

-- a line at the front, and what stands behind it
pub record Fronted (text line rest : List ℕ) : Type 0 where
  pub ls : lines text ≡ line ∷ lines rest
  pub end : tail text ≡ tail rest
  pub parts : text ≡ line ++ 10 ∷ rest

fronted_more : (byte : ℕ) (bytes line rest : List ℕ) → (byte == 10) ≡ false → Fronted bytes line rest → Fronted (byte ∷ bytes) (byte ∷ line) rest
fronted_more byte bytes line rest other f = record {
  ls = cond-false _ _ _ other ∙ ap (onto_line byte) f.ls;
  end = cond-false _ _ _ other ∙ ap (λ ls. onto_tail byte ls (tail bytes)) f.ls ∙ f.end;
  parts = ap (λ t. byte ∷ t) f.parts;
}

feed_is : (byte : ℕ) → (byte == 10) ≡ true → byte ≡ 10
feed_is byte is = grind (arith, nat_tests)

fronted_here : (byte : ℕ) (bytes : List ℕ) → (byte == 10) ≡ true → Fronted (byte ∷ bytes) [] bytes
fronted_here byte bytes is = record {
  ls = cond-true _ _ _ is;
  end = cond-true _ _ _ is;
  parts = ap (λ b. b ∷ bytes) (feed_is byte is);
}

other_byte : (byte : ℕ) → not (byte == 10) ≡ true → (byte == 10) ≡ false
other_byte byte is = grind (arith, nat_tests)

-- a line that is written stands at the front
pub line_at : (line rest : List ℕ) → lacks 10 line ≡ true → Fronted (line ++ 10 ∷ rest) line rest
line_at [] rest lack = fronted_here 10 rest refl
line_at (b ∷ bs) rest lack =
    let parts = and_parts (not (b == 10)) (lacks 10 bs) lack in
    fronted_more b (bs ++ 10 ∷ rest) bs rest (other_byte b parts.0) (line_at bs rest parts.1)

-- no line has a line feed
abbrev pub AllLack : List (List ℕ) → Type 0
AllLack [] = Unit {0}
AllLack (line ∷ more) = (lacks 10 line ≡ true) × AllLack more

onto_lack : (byte : ℕ) (ls : List (List ℕ)) → (byte == 10) ≡ false → AllLack ls → AllLack (onto_line byte ls)
onto_lack byte [] other all = tt
onto_lack byte (line ∷ more) other all = (and_from (not (byte == 10)) (lacks 10 line) (ap not other) all.0, all.1)

pub lines_lack : (text : List ℕ) → AllLack (lines text)
lines_lack [] = tt
lines_lack (b ∷ bs) =
    elim (cases_Bool (b == 10)) [
      | inl is ↦ subst AllLack (sym (fronted_here b bs is).ls) (refl, lines_lack bs)
      | inr other ↦
          let step : lines (b ∷ bs) ≡ onto_line b (lines bs) = cond-false _ _ _ other in
          subst AllLack (sym step) (onto_lack b (lines bs) other (lines_lack bs))
    ]

-- a text is its lines, each with its line feed, and what stands behind the last
whole_more : (byte : ℕ) (ls : List (List ℕ)) (left bytes : List ℕ) → flat_map ended ls ++ left ≡ bytes → flat_map ended (onto_line byte ls) ++ onto_tail byte ls left ≡ byte ∷ bytes
whole_more byte [] left bytes is = ap (λ t. byte ∷ t) is
whole_more byte (line ∷ more) left bytes is = ap (λ t. byte ∷ t) is

pub whole : (text : List ℕ) → flat_map ended (lines text) ++ tail text ≡ text
whole [] = refl
whole (b ∷ bs) =
    elim (cases_Bool (b == 10)) [
      | inl is ↦
          let f = fronted_here b bs is in
          (λ i. flat_map ended (f.ls i) ++ f.end i) ∙ ap (λ t. 10 ∷ t) (whole bs) ∙ sym f.parts
      | inr other ↦
          let at_lines : lines (b ∷ bs) ≡ onto_line b (lines bs) = cond-false _ _ _ other in
          let at_tail : tail (b ∷ bs) ≡ onto_tail b (lines bs) (tail bs) = cond-false _ _ _ other in
          (λ i. flat_map ended (at_lines i) ++ at_tail i) ∙ whole_more b (lines bs) (tail bs) bs (whole bs)
    ]

-- lines of two texts, where nothing stands behind the last line feed of the first
pub record Joined (first second : List ℕ) : Type 0 where
  pub ls : lines (first ++ second) ≡ lines first ++ lines second
  pub end : tail (first ++ second) ≡ tail second

onto_joined : (byte : ℕ) (ls ms : List (List ℕ)) (left : List ℕ) → onto_tail byte ls left ≡ [] → (onto_line byte (ls ++ ms) ≡ onto_line byte ls ++ ms) × (left ≡ [])
onto_joined byte [] ms left is = let never : ⊥ = cc in absurd never
onto_joined byte (l ∷ ls) ms left is = (refl, is)

onto_tail_joined : (byte : ℕ) (ls ms : List (List ℕ)) (left more : List ℕ) → onto_tail byte ls left ≡ [] → onto_tail byte (ls ++ ms) more ≡ more
onto_tail_joined byte [] ms left more is = let never : ⊥ = cc in absurd never
onto_tail_joined byte (l ∷ ls) ms left more is = refl

pub joined : (first second : List ℕ) → tail first ≡ [] → Joined first second
joined [] second is = record { ls = refl; end = refl }
joined (b ∷ bs) second is =
    elim (cases_Bool (b == 10)) [
      | inl feed ↦
          let end : tail bs ≡ [] = sym (fronted_here b bs feed).end ∙ is in
          let more = joined bs second end in
          record {
            ls = (fronted_here b (bs ++ second) feed).ls ∙ ap (λ ls. [] ∷ ls) more.ls ∙ ap (λ ls. ls ++ lines second) (sym (fronted_here b bs feed).ls);
            end = (fronted_here b (bs ++ second) feed).end ∙ more.end;
          }
      | inr other ↦
          let at_tail : tail (b ∷ bs) ≡ onto_tail b (lines bs) (tail bs) = cond-false _ _ _ other in
          let at_lines : lines (b ∷ bs) ≡ onto_line b (lines bs) = cond-false _ _ _ other in
          let onto = onto_joined b (lines bs) (lines second) (tail bs) (sym at_tail ∙ is) in
          let more = joined bs second onto.1 in
          record {
            ls = cond-false _ _ _ other ∙ ap (onto_line b) more.ls ∙ onto.0 ∙ ap (λ ls. ls ++ lines second) (sym at_lines);
            end = cond-false _ _ _ other ∙ ap (λ ls. onto_tail b ls (tail (bs ++ second))) more.ls ∙ onto_tail_joined b (lines bs) (lines second) (tail bs) (tail (bs ++ second)) (sym at_tail ∙ is) ∙ more.end;
          }
    ]

-- a written line alone
pub one_line : (line : List ℕ) → lacks 10 line ≡ true → (lines (ended line) ≡ line ∷ []) × (tail (ended line) ≡ [])
one_line line lack = let f = line_at line [] lack in (f.ls, f.end)

-- a text of which nothing is left
nothing_over : (byte : ℕ) (bytes : List ℕ) (ls : List (List ℕ)) (left : List ℕ) → is_over (onto_line byte ls) (onto_tail byte ls left) ≡ false
nothing_over byte bytes [] left = refl
nothing_over byte bytes (l ∷ ls) left = refl

not_zero : (n : ℕ) → false ≡ (suc n == 0)
not_zero n = sym (grind (arith, nat_tests))

pub over_is : (text : List ℕ) → is_over (lines text) (tail text) ≡ (length text == 0)
over_is [] = refl
over_is (b ∷ bs) =
    elim (cases_Bool (b == 10)) [
      | inl is ↦ ap (λ ls. is_over ls (tail (b ∷ bs))) (fronted_here b bs is).ls ∙ not_zero (length bs)
      | inr other ↦
          let at_lines : lines (b ∷ bs) ≡ onto_line b (lines bs) = cond-false _ _ _ other in
          let at_tail : tail (b ∷ bs) ≡ onto_tail b (lines bs) (tail bs) = cond-false _ _ _ other in
          (λ i. is_over (at_lines i) (at_tail i)) ∙ nothing_over b bs (lines bs) (tail bs) ∙ not_zero (length bs)
    ]

-- a text that ends with a line feed is its lines
pub all_lines : (text : List ℕ) → tail text ≡ [] → flat_map ended (lines text) ≡ text
all_lines text none = sym (append-nil (flat_map ended (lines text))) ∙ ap (λ t. flat_map ended (lines text) ++ t) (sym none) ∙ whole text

-- ---- a text that is parted at its line feeds: its lines, and what stands behind the last

abbrev feed : ℕ → Bool
feed byte = byte == 10

onto_both : (byte : ℕ) (ls : List (List ℕ)) (left : List ℕ) → onto_first byte (ls ++ left ∷ []) ≡ onto_line byte ls ++ onto_tail byte ls left ∷ []
onto_both byte [] left = refl
onto_both byte (line ∷ more) left = refl

parts_are : (text : List ℕ) → slice_split feed text ≡ lines text ++ tail text ∷ []
parts_are [] = refl
parts_are (b ∷ bs) =
    elim (cases_Bool (b == 10)) [
      | inl is ↦
          let f = fronted_here b bs is in
          cond-true _ _ _ is ∙ ap (λ parts. [] ∷ parts) (parts_are bs) ∙ (λ i. sym f.ls i ++ sym f.end i ∷ [])
      | inr other ↦
          let at_lines : lines (b ∷ bs) ≡ onto_line b (lines bs) = cond-false _ _ _ other in
          let at_tail : tail (b ∷ bs) ≡ onto_tail b (lines bs) (tail bs) = cond-false _ _ _ other in
          cond-false _ _ _ other ∙ ap (onto_first b) (parts_are bs) ∙ onto_both b (lines bs) (tail bs) ∙ (λ i. sym at_lines i ++ sym at_tail i ∷ [])
    ]

-- Where the first part is all, there is no line; else it is the first line.
pub no_line : (text part : List ℕ) → slice_split feed text ≡ part ∷ [] → lines text ≡ []
no_line text part is = (same_from_push (lines text) [] (tail text) part (sym (parts_are text) ∙ is)).0

pub first_line : (text line behind : List ℕ) → slice_split feed text ≡ line ∷ slice_split feed behind → Fronted text line behind
first_line text line behind is =
    let both = same_from_push (lines text) (line ∷ lines behind) (tail text) (tail behind) (sym (parts_are text) ∙ is ∙ ap (λ parts. line ∷ parts) (parts_are behind)) in
    record {
      ls = both.0;
      end = both.1;
      parts = sym (whole text) ∙ (λ i. flat_map ended (both.0 i) ++ both.1 i) ∙ append_assoc (ended line) (flat_map ended (lines behind)) (tail behind)
          ∙ ap (λ t. ended line ++ t) (whole behind) ∙ append_assoc line (10 ∷ []) behind;
    }
