-- Lines that are written have no line feed in them, and neither margins at their ends nor a `#` in front.
use Rattle.std.proofs.Common.{◌≡◌, ◌+◌, ◌<◌, ◌^◌, ◌-◌, ℕ, suc, ℤ, pos, negsuc, ◌&&◌, ◌==◌, Bool, true, false, not, inl, inr, List, [], ◌∷◌, ◌++◌, Option, Some, None, IfSome, take, drop, length, codes, decimal, refl, sym, ap, subst, ◌∙◌, arith, append-nil}
use Rattle.std.specs.List.{AllByRecursion, AllPass, flat_map, list_all, slice_split, onto_first, slice_index}
use Rattle.std.specs.Option.{option_map_or}
use Rattle.std.specs.Char.{is_ascii_digit, digit_value}
use Rattle.std.specs.Fmt.{signed_decimal}
use Rattle.std.specs.Str.Parse.{AllDigits, IsNumeral}
use Rattle.std.proofs.lemmas.Bool.{and_parts, cond-true, cond-false, cases_Bool, and_from}
use Rattle.std.proofs.lemmas.Bool.Decides.{nat_tests}
use Rattle.std.proofs.lemmas.Fmt.{decimal_is_IsNumeral}
use Rattle.std.proofs.lemmas.Grind.{common_steps}
use Rattle.std.proofs.lemmas.List.{length-drop, length-take, take_all, take_more}
use Rattle.std.proofs.lemmas.List.Splits.{slice_split-cons_no, slice_split-cons_yes}
use Rattle.std.proofs.lemmas.List.Folds.{list_all-append}
use Rattle.std.proofs.lemmas.List.Sums.{list_all-from_AllPass}
use Rattle.config_graph.specs.declared.kind.Kind.{Kind}
use Rattle.config_graph.specs.declared.node.Node.{Node}
use Rattle.config_graph.specs.GraphText.{kind_text}
use Rattle.config_graph.specs.Kinds.{row}
use Rattle.config_graph.proofs.KindLaws.{is_letter, letter_is_not, kind_names_are_letters}
use Rattle.darwin_lexer.specs.declared.token.TokenKind.TheVariants as kinds
use Rattle.darwin_lexer.specs.Fronts.{front_of}
use Rattle.darwin_lexer.specs.Keywords.{continues_name}
use Rattle.darwin_lexer.specs.Naming.{IsName}
use Rattle.darwin_lexer.specs.Spelling.{IsToken, Means}
use Rattle.quiesce_core.specs.declared.event.Event.{Event}
use Rattle.quiesce_core.specs.declared.event.Event.TheVariants as events
use Rattle.change_script.specs.Lines.{is_margin}
use Rattle.change_script.specs.Numbers.{is_number}
use Rattle.change_script.specs.Paths.{is_name, segments, name_len, name_part, index_part, index_number, ends_index, is_index, is_segment, is_path}
use Rattle.report_writing.specs.Reports.{args_text, with_system}
use Rattle.change_script.specs.StatementTexts.{IsInteger}
use Rattle.report_writing.specs.Writing.{spaced, with_three, with_one, from_words, written}
use Rattle.change_script.specs.Written.{IsNumber, AreNumbers, CanBeWritten}
use Rattle.change_script_laws.specs.FileTexts.{is_one_line}
use Rattle.change_script_laws.proofs.MarginLemmas.{drop_one_more}
use Rattle.base.proofs.ListLaws.{list_all-weaker}

-- neither a margin nor `#` is in front, and no margin at the end
abbrev pub begins_well : List ℕ → Bool
begins_well [] = false
begins_well (byte ∷ bytes) = not (is_margin byte) && not (byte == 35)

abbrev pub ends_well : List ℕ → Bool
ends_well [] = false
ends_well (byte ∷ []) = not (is_margin byte)
ends_well (byte ∷ next ∷ bytes) = ends_well (next ∷ bytes)

pub record Neat (line : List ℕ) : Type 0 where
  pub one : is_one_line line ≡ true
  pub begins : begins_well line ≡ true
  pub ends : ends_well line ≡ true

-- ---- texts put together

joined : (xs ys : List ℕ) → is_one_line xs ≡ true → is_one_line ys ≡ true → is_one_line (xs ++ ys) ≡ true
joined xs ys first second = list_all-append (λ b. not (b == 10)) xs ys ∙ ap (λ b. b && is_one_line ys) first ∙ second

begins_on : (xs ys : List ℕ) → begins_well xs ≡ true → begins_well (xs ++ ys) ≡ true
begins_on [] ys h = cc
begins_on (x ∷ xs) ys h = h

ends_next : (x : ℕ) (ys : List ℕ) → ends_well ys ≡ true → ends_well (x ∷ ys) ≡ true
ends_next x [] h = cc
ends_next x (y ∷ ys) h = h

ends_on : (xs ys : List ℕ) → ends_well ys ≡ true → ends_well (xs ++ ys) ≡ true
ends_on [] ys h = h
ends_on (x ∷ xs) ys h = ends_next x (xs ++ ys) (ends_on xs ys h)

-- ---- numbers

digit_is : (byte : ℕ) → digit_value byte < 10 → (not (byte == 10) ≡ true) × (not (is_margin byte) ≡ true)
digit_is byte h = (grind (arith, nat_tests), grind (arith, nat_tests))

pub digit_ascii : (byte : ℕ) → digit_value byte < 10 → (is_ascii_digit byte ≡ true) × (not (byte == 46) ≡ true)
digit_ascii byte h = (grind (arith, nat_tests), grind (arith, nat_tests))

digits_one : (bytes : List ℕ) → AllDigits 10 bytes → is_one_line bytes ≡ true
digits_one [] all = refl
digits_one (byte ∷ bytes) all = ap (λ b. b && is_one_line bytes) (digit_is byte all.0).0 ∙ digits_one bytes all.1

digits_end : (byte : ℕ) (bytes : List ℕ) → AllDigits 10 (byte ∷ bytes) → ends_well (byte ∷ bytes) ≡ true
digits_end byte [] all = (digit_is byte all.0).1
digits_end byte (next ∷ bytes) all = digits_end next bytes all.1

numeral_end : (bytes : List ℕ) → IsNumeral 10 bytes → ends_well bytes ≡ true
numeral_end [] h = let none : ⊥ = omega (arith, h.0) in absurd none
numeral_end (byte ∷ bytes) h = digits_end byte bytes h.1

decimal_one : (n : ℕ) → n < 2 ^ 32 → is_one_line (decimal n) ≡ true
decimal_one n small = digits_one (decimal n) (decimal_is_IsNumeral n (omega arith)).0.1

decimal_ends : (n : ℕ) → n < 2 ^ 32 → ends_well (decimal n) ≡ true
decimal_ends n small = numeral_end (decimal n) (decimal_is_IsNumeral n (omega arith)).0

signed_one : (i : ℤ) → IsInteger i → is_one_line (signed_decimal i) ≡ true
signed_one (pos n) small = decimal_one n (omega arith)
signed_one (negsuc n) small = decimal_one (suc n) (omega arith)

-- ---- words behind a verb

abbrev all_one : List (List ℕ) → Bool
all_one words = list_all is_one_line words

abbrev last_ends : List (List ℕ) → Bool
last_ends [] = false
last_ends (word ∷ []) = ends_well word
last_ends (word ∷ next ∷ words) = last_ends (next ∷ words)

spaced_one : (words : List (List ℕ)) → all_one words ≡ true → is_one_line (spaced words) ≡ true
spaced_one [] all = refl
spaced_one (word ∷ words) all =
    let both = and_parts (is_one_line word) (all_one words) all in
    joined (32 ∷ word) (spaced words) both.0 (spaced_one words both.1)

spaced_ends : (words : List (List ℕ)) → last_ends words ≡ true → ends_well (spaced words) ≡ true
spaced_ends [] h = cc
spaced_ends (word ∷ []) h = ap ends_well (append-nil (32 ∷ word)) ∙ ends_on (32 ∷ []) word h
spaced_ends (word ∷ next ∷ words) h = ends_on (32 ∷ word) (spaced (next ∷ words)) (spaced_ends (next ∷ words) h)

neat_of : (verb : List ℕ) (words : List (List ℕ)) → is_one_line verb ≡ true → begins_well verb ≡ true → all_one words ≡ true → last_ends words ≡ true → Neat (verb ++ spaced words)
neat_of verb words one begins all last = record {
  one = joined verb (spaced words) one (spaced_one words all);
  begins = begins_on verb (spaced words) begins;
  ends = ends_on verb (spaced words) (spaced_ends words last);
}

neat_three : (verb : List ℕ) (a b c : ℕ) → is_one_line verb ≡ true → begins_well verb ≡ true → AreNumbers a b c → Neat (with_three verb a b c)
neat_three verb a b c one begins small =
    neat_of verb (decimal a ∷ decimal b ∷ decimal c ∷ []) one begins
    (and_from (is_one_line (decimal a)) (all_one (decimal b ∷ decimal c ∷ [])) (decimal_one a small.0)
    (and_from (is_one_line (decimal b)) (all_one (decimal c ∷ [])) (decimal_one b small.1) (and_from (is_one_line (decimal c)) true (decimal_one c small.2) refl)))
    (decimal_ends c small.2)

neat_one : (verb : List ℕ) (a : ℕ) → is_one_line verb ≡ true → begins_well verb ≡ true → IsNumber a → Neat (with_one verb a)
neat_one verb a one begins small = neat_of verb (decimal a ∷ []) one begins (and_from (is_one_line (decimal a)) true (decimal_one a small) refl) (decimal_ends a small)

-- ---- kinds

kind_one : (kind : Kind) → is_one_line (row kind).name ≡ true
kind_one k = list_all-weaker is_letter (λ byte. not (byte == 10)) (λ b. letter_is_not 10 b (omega arith)) (row k).name (kind_names_are_letters k)

arg_one : (arg : Option ℕ) → IfSome arg IsNumber → is_one_line (option_map_or decimal arg []) ≡ true
arg_one None small = refl
arg_one (Some n) small = decimal_one n small

kind_text_one : (kind : Kind) (arg : Option ℕ) → IfSome arg IsNumber → is_one_line (kind_text kind arg) ≡ true
kind_text_one kind arg small =
    let name = (row kind).name in
    let inner = option_map_or decimal arg [] in
    joined (name ++ codes "(" ++ inner) (codes ")") (joined (name ++ codes "(") inner (joined name (codes "(") (kind_one kind) refl) (arg_one arg small)) refl

kind_text_ends : (kind : Kind) (arg : Option ℕ) → ends_well (kind_text kind arg) ≡ true
kind_text_ends kind arg = ends_on ((row kind).name ++ codes "(" ++ option_map_or decimal arg []) (codes ")") refl

onto_all : (q : ℕ → Bool) (b : ℕ) (parts : List (List ℕ)) → list_all (λ part. list_all q part) (onto_first b parts) ≡ true → (q b ≡ true) × (list_all (λ part. list_all q part) parts ≡ true)
onto_all q b [] all = ((and_parts (q b) true (and_parts (q b && true) true all).0).0, refl)
onto_all q b (part ∷ parts) all =
    let both = and_parts (q b && list_all q part) (list_all (λ part. list_all q part) parts) all in
    let here = and_parts (q b) (list_all q part) both.0 in
    (here.0, and_from (list_all q part) (list_all (λ part. list_all q part) parts) here.1 both.1)

-- what passes in each part, and of the bytes between them, passes in the whole
parts_all : (q p : ℕ → Bool) → ((b : ℕ) → p b ≡ true → q b ≡ true) → (bytes : List ℕ) → list_all (λ part. list_all q part) (slice_split p bytes) ≡ true → list_all q bytes ≡ true
parts_all q p between [] all = refl
parts_all q p between (b ∷ bytes) all =
    elim (cases_Bool (p b)) [
      | inl holds ↦
          let rest : list_all (λ part. list_all q part) ([] ∷ slice_split p bytes) ≡ true = ap (list_all (λ part. list_all q part)) (sym (slice_split-cons_yes p b bytes holds)) ∙ all in
          and_from (q b) (list_all q bytes) (between b holds) (parts_all q p between bytes rest)
      | inr fails ↦
          let both = onto_all q b (slice_split p bytes) (ap (list_all (λ part. list_all q part)) (sym (slice_split-cons_no p b bytes fails)) ∙ all) in
          and_from (q b) (list_all q bytes) both.0 (parts_all q p between bytes both.1)
    ]

full_stop : (b : ℕ) → (b == 46) ≡ true → not (b == 10) ≡ true
full_stop b dot = grind (arith, nat_tests)

take_and_drop : (n : ℕ) (xs : List ℕ) → take n xs ++ drop n xs ≡ xs
take_and_drop n xs = grind (arith, common_steps)

bracket : (b : ℕ) → not (b == 91) ≡ false → b ≡ 91
bracket b h = grind (arith, nat_tests)

-- an index begins with its bracket
index_head : (segment : List ℕ) (x : ℕ) (rest : List ℕ) → index_part segment ≡ x ∷ rest → x ≡ 91
index_head [] x rest is = cc
index_head (b ∷ bs) x rest is =
    elim (cases_Bool (not (b == 91))) [
      | inl more ↦
          let step : index_part (b ∷ bs) ≡ index_part bs = ap (λ n. drop n (b ∷ bs)) (cond-true _ _ _ more) ∙ drop_one_more (name_len bs) b bs in
          index_head bs x rest (sym step ∙ is)
      | inr here ↦
          let step : index_part (b ∷ bs) ≡ b ∷ bs = ap (λ n. drop n (b ∷ bs)) (cond-false _ _ _ here) in
          let same : b ∷ bs ≡ x ∷ rest = sym step ∙ is in
          let first : b ≡ x = cc in
          sym first ∙ bracket b here
    ]

ascii_one : (b : ℕ) → is_ascii_digit b ≡ true → not (b == 10) ≡ true
ascii_one b h = grind (arith, nat_tests)

ascii_all : (bytes : List ℕ) → list_all is_ascii_digit bytes ≡ true → is_one_line bytes ≡ true
ascii_all [] all = refl
ascii_all (b ∷ bytes) all =
    let both = and_parts (is_ascii_digit b) (list_all is_ascii_digit bytes) all in
    and_from (not (b == 10)) (is_one_line bytes) (ascii_one b both.0) (ascii_all bytes both.1)

number_is : (bytes : List ℕ) → is_number bytes ≡ true → (0 < length bytes) × (is_one_line bytes ≡ true)
number_is [] is = cc
number_is (b ∷ bytes) is = (omega arith, ascii_all (b ∷ bytes) is)

closing : (b : ℕ) → (b == 93) ≡ true → not (b == 10) ≡ true
closing b h = grind (arith, nat_tests)

front_and_last : (rest : List ℕ) → 0 < length rest → rest ≡ take (length rest - 1) rest ++ (slice_index rest (length rest - 1) ∷ [])
front_and_last rest some =
    let whole : length rest - 1 + 1 ≡ length rest = omega arith in
    sym (take_all (length rest) rest (omega arith)) ∙ ap (λ n. take n rest) (sym whole) ∙ take_more rest (length rest - 1) 0 (omega arith)

index_one : (index : List ℕ) → ((x : ℕ) (rest : List ℕ) → index ≡ x ∷ rest → x ≡ 91) → is_index index ≡ true → is_one_line index ≡ true
index_one [] head is = refl
index_one (x ∷ rest) head is =
    let both = and_parts (ends_index (x ∷ rest)) (is_number (index_number (x ∷ rest))) is in
    let digits = number_is (index_number (x ∷ rest)) both.1 in
    let some : 0 < length rest = let low = digits.0 in omega (arith, length-take {A = ℕ}, length-drop {A = ℕ}) in
    let mid : List ℕ = take (length rest - 1) rest in
    let same : index_number (x ∷ rest) ≡ mid = let e : length (x ∷ rest) - 2 ≡ length rest - 1 = omega arith in ap (λ n. take n rest) e in
    let place : length (x ∷ rest) - 1 ≡ suc (length rest - 1) = omega arith in
    let last : slice_index (x ∷ rest) (length (x ∷ rest) - 1) ≡ slice_index rest (length rest - 1) = ap (slice_index (x ∷ rest)) place in
    let ends = closing (slice_index rest (length rest - 1)) (ap (λ b. b == 93) (sym last) ∙ both.0) in
    let behind : is_one_line rest ≡ true =
    ap is_one_line (front_and_last rest some)
    ∙ joined mid (slice_index rest (length rest - 1) ∷ []) (ap is_one_line (sym same) ∙ digits.1) (and_from (not (slice_index rest (length rest - 1) == 10)) true ends refl) in
    and_from (not (x == 10)) (is_one_line rest) (ap (λ b. not (b == 10)) (head x rest refl)) behind

-- ---- what can be written

args_behind : (more : List ℤ) → AllByRecursion IsInteger more → is_one_line (flat_map (λ arg. codes "," ++ signed_decimal arg) more) ≡ true
args_behind [] all = refl
args_behind (next ∷ more) all = joined (44 ∷ signed_decimal next) (flat_map (λ arg. codes "," ++ signed_decimal arg) more) (signed_one next all.0) (args_behind more all.1)

args_one : (args : List ℤ) → AllByRecursion IsInteger args → is_one_line (args_text args) ≡ true
args_one [] all = refl
args_one (first ∷ more) all = joined (signed_decimal first) (flat_map (λ arg. codes "," ++ signed_decimal arg) more) (signed_one first all.0) (args_behind more all.1)

from_one : (from : Option ℕ) → IfSome from IsNumber → all_one (from_words from) ≡ true
from_one None small = refl
from_one (Some slot) small = and_from (is_one_line (decimal slot)) true (decimal_one slot small) refl

made_ends : (kind : Kind) (arg from : Option ℕ) → IfSome from IsNumber → last_ends (kind_text kind arg ∷ from_words from) ≡ true
made_ends kind arg None small = kind_text_ends kind arg
made_ends kind arg (Some slot) small = decimal_ends slot small

neat_make : (slot : ℕ) (node : Node) (from : Option ℕ) → CanBeWritten (events.Make slot node from) → is_one_line node.path ≡ true → Neat (written (events.Make slot node from))
neat_make slot node from can path =
    let kind = kind_text node.kind node.arg in
    let words = from_words from in
    neat_of (codes "make") (decimal slot ∷ node.path ∷ kind ∷ words) refl refl
    (and_from (is_one_line (decimal slot)) (all_one (node.path ∷ kind ∷ words)) (decimal_one slot can.0)
    (and_from (is_one_line node.path) (all_one (kind ∷ words)) path (and_from (is_one_line kind) (all_one words) (kind_text_one node.kind node.arg can.4) (from_one from can.5))))
    (made_ends node.kind node.arg from can.5)

-- ---- names and paths

module _ (spelled : (text : List ℕ) → Means text (front_of text)) (named : (bytes : List ℕ) → is_name bytes ≡ true → IsName bytes) where
  name_byte : (b : ℕ) → continues_name b ≡ true → not (b == 10) ≡ true
  name_byte b h = grind (arith, nat_tests)

  name_token : (bytes : List ℕ) → is_name bytes ≡ true → IsToken bytes kinds.Name (length bytes)
  name_token bytes is = subst (Means bytes) (named bytes is) (spelled bytes)

  name_one : (bytes : List ℕ) → is_name bytes ≡ true → is_one_line bytes ≡ true
  name_one bytes is =
      let goes_on : AllPass continues_name bytes = subst (AllPass continues_name) (take_all (length bytes) bytes (omega arith)) (name_token bytes is).0.spelled.goes_on in
      list_all-from_AllPass (λ b. not (b == 10)) bytes (λ k d low. name_byte _ (goes_on k d low))

  segment_one : (segment : List ℕ) → is_segment segment ≡ true → is_one_line segment ≡ true
  segment_one segment is =
      let both = and_parts (is_name (name_part segment)) (is_index (index_part segment)) is in
      ap is_one_line (sym (take_and_drop (name_len segment) segment))
      ∙ joined (name_part segment) (index_part segment) (name_one (name_part segment) both.0) (index_one (index_part segment) (index_head segment) both.1)

  pub path_one : (path : List ℕ) → is_path path ≡ true → is_one_line path ≡ true
  path_one path is =
      parts_all (λ b. not (b == 10)) (λ b. b == 46) (λ b dot. full_stop b dot) path (list_all-weaker is_segment is_one_line segment_one (segments path) is)

  pub event_neat : (event : Event) → CanBeWritten event → Neat (written event)
  event_neat (events.Begin a b c) can = neat_three (codes "begin") a b c refl refl can
  event_neat (events.Call a b c) can = neat_three (codes "call") a b c refl refl can
  event_neat (events.Take a b c) can = neat_three (codes "take") a b c refl refl can
  event_neat (events.Give a b c) can = neat_three (codes "give") a b c refl refl can
  event_neat (events.End a b c) can = neat_three (codes "end") a b c refl refl can
  event_neat (events.More a b c) can = neat_three (codes "more") a b c refl refl can
  event_neat (events.Ask a b c) can = neat_three (codes "ask") a b c refl refl can
  event_neat (events.Hear a b c) can = neat_three (codes "hear") a b c refl refl can
  event_neat (events.Miss a) can = neat_one (codes "miss") a refl refl can
  event_neat (events.Close a) can = neat_one (codes "close") a refl refl can
  event_neat (events.Reopen a) can = neat_one (codes "reopen") a refl refl can
  event_neat (events.Make slot node from) can = neat_make slot node from can (path_one node.path can.2)
  event_neat (events.Link a b c) can = neat_three (codes "link") a b c refl refl can
  event_neat (events.Unlink a) can = neat_one (codes "unlink") a refl refl can
  event_neat (events.Remove a) can = neat_one (codes "remove") a refl refl can

  pub start_neat : (name : List ℕ) (args : List ℤ) → is_name name ≡ true → AllByRecursion IsInteger args → Neat (with_system (codes "start") name args)
  start_neat name args is all =
      let head : List ℕ = codes "start" ++ codes " " ++ name ++ codes "(" in
      let named = joined (codes "start" ++ codes " ") name refl (name_one name is) in
      let before = joined head (args_text args) (joined (codes "start" ++ codes " " ++ name) (codes "(") named refl) (args_one args all) in
      record {
        one = joined (head ++ args_text args) (codes ")") before refl;
        begins = begins_on (head ++ args_text args) (codes ")") (begins_on head (args_text args) (begins_on (codes "start" ++ codes " " ++ name) (codes "(") refl));
        ends = ends_on (head ++ args_text args) (codes ")") refl;
      }
