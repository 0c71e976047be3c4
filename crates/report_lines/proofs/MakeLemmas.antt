-- The lines that start, change and make.
use Rattle.std.specs.List.{AllByRecursion}
use Rattle.std.proofs.lemmas.Option.{same_Some}
use Rattle.std.proofs.Common.{◌≡◌, ◌==◌, ◌<◌, not, ℕ, ℤ, true, false, List, [], ◌∷◌, ◌++◌, length, Option, Some, None, IfSome, option_map, codes, bytes_eq, decimal, refl, sym, ap, subst, ◌∙◌, arith}
use Rattle.std.specs.Option.{option_map_or, option_zip}
use Rattle.std.proofs.lemmas.Bool.{and_from, and_parts, cond-false}
use Rattle.std.proofs.lemmas.Bool.Decides.{nat_tests}
use Rattle.std.proofs.lemmas.Fmt.{decimal_is_IsNumeral}
use Rattle.std.proofs.lemmas.List.{append-nil, append_assoc}
use Rattle.base.proofs.BytesLaws.{same_bytes}
use Rattle.base.proofs.FindLaws.{find_passes}
use Rattle.base.proofs.OptionLaws.{unless_some, when_some}
use Rattle.config_graph.specs.declared.kind.Kind.{Kind}
use Rattle.config_graph.specs.Kinds.{kind_named, kinds, row}
use Rattle.config_graph.specs.GraphText.{kind_text}
use Rattle.config_graph.proofs.KindLaws.{kind_named-name}
use Rattle.report_types.specs.declared.report.HistoryLine.{HistoryLine}
use Rattle.report_writing.specs.Reports.{args_text, with_system}
use Rattle.report_writing.specs.Writing.{from_words, spaced}
use Rattle.change_script.specs.Written.{IsNumber}
use Rattle.change_script.specs.StatementTexts.{IsInteger}
use Rattle.report_lines.proofs.TextLaws.{lacks_append, kind_name_lacks}
use Rattle.report_lines.specs.Parts.{bracketed, is_used_up}
use Rattle.report_lines.specs.Numbers.{max32, one_in, plain}
use Rattle.report_lines.specs.Readings.{arg_in, arguments_in, kind_in, kind_of_parts, made_in, make_in, make_line, make_of, source_in, system_in, system_of, typed_in}
use Rattle.report_lines.specs.ReportLines.{IsName, IsPath, lacks}
use Rattle.report_lines.proofs.NumberLemmas.{both_are, ended_is, mapped, one_is, one_of, plain_is, plain_of}
use Rattle.report_lines.proofs.BracketLemmas.{PartsLack, bracket_is, bracket_of, digits_lack}
use Rattle.report_lines.proofs.IntegerLemmas.{args_lack, arguments_are, arguments_of}

lacks_front : (at : ℕ) (text more : List ℕ) → lacks at (text ++ more) ≡ true → lacks at text ≡ true
lacks_front at [] more is = refl
lacks_front at (byte ∷ bytes) more is =
    let parts = and_parts (not (byte == at)) (lacks at (bytes ++ more)) is in
    and_from (not (byte == at)) (lacks at bytes) parts.0 (lacks_front at bytes more parts.1)

some_long : (len : ℕ) → (len == 0) ≡ false → 0 < len
some_long len is = grind (arith, nat_tests)

not_none : (len : ℕ) → 0 < len → (len == 0) ≡ false
not_none len some = grind (arith, nat_tests)

-- `NAME(INSIDE)`
abbrev pub bracket_text : List ℕ → List ℕ → List ℕ
bracket_text name inside = name ++ (40 ∷ (inside ++ (41 ∷ [])))

record IsSystem (word : List ℕ) (system : List ℕ × List ℤ) : Type 0 where
  text : word ≡ bracket_text system.0 (args_text system.1)
  long : 0 < length system.0
  name : lacks 40 system.0 ≡ true
  small : AllByRecursion IsInteger system.1

system_of_is : (word : List ℕ) (parts : Option (List ℕ × List ℕ)) (system : List ℕ × List ℤ) → bracketed word ≡ parts → system_of parts ≡ Some system → IsSystem word system
system_of_is word None system is e = let never : ⊥ = cc in absurd never
system_of_is word (Some p) system is e =
    let some = unless_some (length p.0 == 0) (option_map (λ args. (p.0, args)) (arguments_in p.1)) system e in
    let m = mapped (λ args. (p.0, args)) (arguments_in p.1) system some.1 in
    let args = arguments_are p.1 m.value m.found in
    let bracket = bracket_is word p is in
    subst (λ s. IsSystem word s) m.gives (record {
      text = bracket.whole ∙ ap (λ inside. bracket_text p.0 inside) args.whole;
      long = some_long (length p.0) some.0;
      name = bracket.name;
      small = args.small;
    })

pub record AreSystem (words : List (List ℕ)) (system : List ℕ × List ℤ) : Type 0 where
  pub texts : words ≡ bracket_text system.0 (args_text system.1) ∷ []
  pub name : IsName system.0
  pub small : AllByRecursion IsInteger system.1

pub are_system : (words : List (List ℕ)) (system : List ℕ × List ℤ) → PartsLack 32 words → system_in words ≡ Some system → AreSystem words system
are_system [] system lack e = let never : ⊥ = cc in absurd never
are_system (word ∷ rest) system lack e =
    let outer = when_some (is_used_up rest) (system_of (bracketed word)) system e in
    let one = system_of_is word (bracketed word) system refl outer.1 in
    let spaceless : lacks 32 (bracket_text system.0 (args_text system.1)) ≡ true = subst (λ w. lacks 32 w ≡ true) one.text lack.0 in
    record {
      texts = ap (λ w. w ∷ rest) one.text ∙ ap (λ r. bracket_text system.0 (args_text system.1) ∷ r) (ended_is rest outer.0);
      name = (one.long, lacks_front 32 system.0 (40 ∷ (args_text system.1 ++ (41 ∷ []))) spaceless, one.name);
      small = one.small;
    }

-- a component and its arguments behind a verb
pub system_text : (verb name : List ℕ) (args : List ℤ) → with_system verb name args ≡ verb ++ spaced (bracket_text name (args_text args) ∷ [])
system_text verb name args =
    let inside = args_text args in
    append_assoc (verb ++ codes " " ++ name ++ codes "(") inside (codes ")") ∙ append_assoc (verb ++ codes " " ++ name) (codes "(") (inside ++ codes ")")
    ∙ append_assoc (verb ++ codes " ") name (40 ∷ (inside ++ (41 ∷ []))) ∙ append_assoc verb (codes " ") (bracket_text name inside)
    ∙ ap (λ text. verb ++ (32 ∷ text)) (sym (append-nil (bracket_text name inside)))

kind_bracket : (kind : Kind) (arg : Option ℕ) → kind_text kind arg ≡ bracket_text (row kind).name (option_map_or decimal arg [])
kind_bracket kind arg =
    let inside = option_map_or decimal arg [] in
    append_assoc ((row kind).name ++ codes "(") inside (codes ")") ∙ append_assoc (row kind).name (codes "(") (inside ++ codes ")")

record IsArg (inside : List ℕ) (arg : Option ℕ) : Type 0 where
  text : inside ≡ option_map_or decimal arg []
  small : IfSome arg IsNumber

arg_is : (inside : List ℕ) (arg : Option ℕ) → arg_in inside ≡ Some arg → IsArg inside arg
arg_is [] arg e = subst (λ a. IsArg [] a) (same_Some None arg e) (record { text = refl; small = tt })
arg_is (byte ∷ bytes) arg e =
    let m = mapped Some (plain max32 (byte ∷ bytes)) arg e in
    let number = plain_is max32 (byte ∷ bytes) m.value (omega arith) m.found in
    subst (λ a. IsArg (byte ∷ bytes) a) m.gives (record { text = number.text; small = omega (arith, number.low) })

record IsTyped (word : List ℕ) (typed : Kind × Option ℕ) : Type 0 where
  text : word ≡ kind_text typed.0 typed.1
  small : IfSome typed.1 IsNumber

kind_of_is : (word : List ℕ) (parts : Option (List ℕ × List ℕ)) (typed : Kind × Option ℕ) → bracketed word ≡ parts → kind_of_parts parts ≡ Some typed → IsTyped word typed
kind_of_is word None typed is e = let never : ⊥ = cc in absurd never
kind_of_is word (Some p) typed is e =
    let two = both_are (kind_named p.0) (arg_in p.1) typed e in
    let name : (row typed.0).name ≡ p.0 = same_bytes (row typed.0).name p.0 (find_passes (λ k. bytes_eq (row k).name p.0) kinds typed.0 two.first) in
    let arg = arg_is p.1 typed.1 two.second in
    record {
      text = (bracket_is word p is).whole ∙ ap (λ n. bracket_text n p.1) (sym name) ∙ ap (λ inside. bracket_text (row typed.0).name inside) arg.text ∙ sym (kind_bracket typed.0 typed.1);
      small = arg.small;
    }

record AreFrom (words : List (List ℕ)) (from : Option ℕ) : Type 0 where
  texts : words ≡ from_words from
  small : IfSome from IsNumber

are_from : (words : List (List ℕ)) (from : Option ℕ) → source_in words ≡ Some from → AreFrom words from
are_from [] from e = subst (λ f. AreFrom [] f) (same_Some None from e) (record { texts = refl; small = tt })
are_from (word ∷ rest) from e =
    let outer = when_some (bytes_eq word (codes "from")) (option_map Some (one_in max32 rest)) from e in
    let m = mapped Some (one_in max32 rest) from outer.1 in
    let number = one_is max32 rest m.value (omega arith) m.found in
    subst (λ f. AreFrom (word ∷ rest) f) m.gives (record {
      texts = ap (λ w. w ∷ rest) (same_bytes word (codes "from") outer.0) ∙ ap (λ r. codes "from" ∷ r) number.texts;
      small = omega (arith, number.low);
    })

record AreTyped (words : List (List ℕ)) (typed : (Kind × Option ℕ) × Option ℕ) : Type 0 where
  texts : words ≡ kind_text typed.0.0 typed.0.1 ∷ from_words typed.1
  arg : IfSome typed.0.1 IsNumber
  from : IfSome typed.1 IsNumber

are_typed : (words : List (List ℕ)) (typed : (Kind × Option ℕ) × Option ℕ) → typed_in words ≡ Some typed → AreTyped words typed
are_typed [] typed e = let never : ⊥ = cc in absurd never
are_typed (word ∷ rest) typed e =
    let two = both_are (kind_in word) (source_in rest) typed e in
    let kind = kind_of_is word (bracketed word) typed.0 refl two.first in
    let from = are_from rest typed.1 two.second in
    record { texts = ap (λ w. w ∷ rest) kind.text ∙ ap (λ r. kind_text typed.0.0 typed.0.1 ∷ r) from.texts; arg = kind.small; from = from.small }

record AreMade (words : List (List ℕ)) (made : List ℕ × (Kind × Option ℕ) × Option ℕ) : Type 0 where
  texts : words ≡ made.0 ∷ kind_text made.1.0 made.1.1 ∷ from_words made.2
  path : IsPath made.0
  arg : IfSome made.1.1 IsNumber
  from : IfSome made.2 IsNumber

are_made : (words : List (List ℕ)) (made : List ℕ × (Kind × Option ℕ) × Option ℕ) → PartsLack 32 words → made_in words ≡ Some made → AreMade words made
are_made [] made lack e = let never : ⊥ = cc in absurd never
are_made (path ∷ rest) made lack e =
    let some = unless_some (length path == 0) (option_map (λ typed. (path, typed.0, typed.1)) (typed_in rest)) made e in
    let m = mapped (λ typed. (path, typed.0, typed.1)) (typed_in rest) made some.1 in
    let typed = are_typed rest m.value m.found in
    subst (λ x. AreMade (path ∷ rest) x) m.gives (record {
      texts = ap (λ r. path ∷ r) typed.texts;
      path = (some_long (length path) some.0, lack.0);
      arg = typed.arg;
      from = typed.from;
    })

-- what a line that makes a node says
pub record SaysMake (words : List (List ℕ)) (slot : ℕ) (made : List ℕ × (Kind × Option ℕ) × Option ℕ) (says : HistoryLine) : Type 0 where
  pub texts : words ≡ decimal slot ∷ made.0 ∷ kind_text made.1.0 made.1.1 ∷ from_words made.2
  pub small : IsNumber slot
  pub path : IsPath made.0
  pub arg : IfSome made.1.1 IsNumber
  pub from : IfSome made.2 IsNumber
  pub gives : make_line slot made.0 made.1 made.2 ≡ says

says_made : (word : List ℕ) (rest : List (List ℕ)) (slot : Option ℕ) (made : Option (List ℕ × (Kind × Option ℕ) × Option ℕ)) (says : HistoryLine) → PartsLack 32 rest
    → plain max32 word ≡ slot → made_in rest ≡ made → make_of slot made ≡ Some says
    → (n : ℕ) × (m : List ℕ × (Kind × Option ℕ) × Option ℕ) × SaysMake (word ∷ rest) n m says
says_made word rest None made says lack is_slot is_made e = let never : ⊥ = cc in absurd never
says_made word rest (Some n) None says lack is_slot is_made e = let never : ⊥ = cc in absurd never
says_made word rest (Some n) (Some m) says lack is_slot is_made e =
    let number = plain_is max32 word n (omega arith) is_slot in
    let all = are_made rest m lack is_made in (
      n,
      m,
      record {
        texts = ap (λ w. w ∷ rest) number.text ∙ ap (λ r. decimal n ∷ r) all.texts;
        small = omega (arith, number.low);
        path = all.path;
        arg = all.arg;
        from = all.from;
        gives = same_Some (make_line n m.0 m.1 m.2) says e;
      },
    )

pub says_make : (words : List (List ℕ)) (says : HistoryLine) → PartsLack 32 words → make_in words ≡ Some says
    → (n : ℕ) × (m : List ℕ × (Kind × Option ℕ) × Option ℕ) × SaysMake words n m says
says_make [] says lack e = let never : ⊥ = cc in absurd never
says_make (word ∷ rest) says lack e = says_made word rest (plain max32 word) (made_in rest) says lack.1 refl refl e

pub system_of_written : (name : List ℕ) (args : List ℤ) → IsName name → AllByRecursion IsInteger args → system_in (bracket_text name (args_text args) ∷ []) ≡ Some (name, args)
system_of_written name args is small =
    ap system_of (bracket_of name (args_text args) is.2 (args_lack 40 args (omega arith) small) (args_lack 41 args (omega arith) small))
    ∙ cond-false _ _ _ (not_none (length name) is.0) ∙ ap (option_map (λ found. (name, found))) (arguments_of args small)

-- a bracket has no space where neither part has
pub bracket_lacks : (name inside : List ℕ) → lacks 32 name ≡ true → lacks 32 inside ≡ true → lacks 32 (bracket_text name inside) ≡ true
bracket_lacks name inside first second = lacks_append 32 name (40 ∷ (inside ++ (41 ∷ []))) first (lacks_append 32 inside (41 ∷ []) second refl)

some_arg : (text : List ℕ) → 0 < length text → arg_in text ≡ option_map Some (plain max32 text)
some_arg [] some = absurd (omega arith)
some_arg (byte ∷ bytes) some = refl

arg_of : (arg : Option ℕ) → IfSome arg IsNumber → arg_in (option_map_or decimal arg []) ≡ Some arg
arg_of None small = refl
arg_of (Some n) small =
    some_arg (decimal n) (decimal_is_IsNumeral n (omega (arith, small))).0.0 ∙ ap (option_map Some) (plain_of max32 n (omega arith) (omega (arith, small)))

pub inside_lacks : (at : ℕ) (arg : Option ℕ) → at < 48 → IfSome arg IsNumber → lacks at (option_map_or decimal arg []) ≡ true
inside_lacks at None low small = refl
inside_lacks at (Some n) low small = digits_lack at (decimal n) low (decimal_is_IsNumeral n (omega (arith, small))).0.1

pub kind_of_written : (kind : Kind) (arg : Option ℕ) → IfSome arg IsNumber → kind_in (kind_text kind arg) ≡ Some (kind, arg)
kind_of_written kind arg small =
    let inside = option_map_or decimal arg [] in
    ap kind_in (kind_bracket kind arg)
    ∙ ap kind_of_parts (bracket_of (row kind).name inside (kind_name_lacks 40 (omega arith) kind) (inside_lacks 40 arg (omega arith) small) (inside_lacks 41 arg (omega arith) small))
    ∙ ap (λ k. option_zip k (arg_in inside)) (kind_named-name kind) ∙ ap (λ a. option_zip (Some kind) a) (arg_of arg small)

source_of_written : (from : Option ℕ) → IfSome from IsNumber → source_in (from_words from) ≡ Some from
source_of_written None small = refl
source_of_written (Some n) small = ap (option_map Some) (one_of max32 n (omega arith) (omega (arith, small)))

pub make_of_written : (slot : ℕ) (path : List ℕ) (kind : Kind) (arg from : Option ℕ) → IsNumber slot → IsPath path → IfSome arg IsNumber → IfSome from IsNumber
    → make_in (decimal slot ∷ path ∷ kind_text kind arg ∷ from_words from) ≡ Some (make_line slot path (kind, arg) from)
make_of_written slot path kind arg from small is arg_small from_small =
    let typed : typed_in (kind_text kind arg ∷ from_words from) ≡ Some ((kind, arg), from) =
    ap (λ k. option_zip k (source_in (from_words from))) (kind_of_written kind arg arg_small) ∙ ap (λ s. option_zip (Some (kind, arg)) s) (source_of_written from from_small) in
    let made : made_in (path ∷ kind_text kind arg ∷ from_words from) ≡ Some (path, (kind, arg), from) =
    cond-false _ _ _ (not_none (length path) is.0) ∙ ap (option_map (λ (t : (Kind × Option ℕ) × Option ℕ). (path, t.0, t.1))) typed in
    ap (λ s. make_of s (made_in (path ∷ kind_text kind arg ∷ from_words from))) (plain_of max32 slot (omega arith) (omega (arith, small)))
    ∙ ap (λ m. make_of (Some slot) m) made

pub kind_text_lacks : (kind : Kind) (arg : Option ℕ) → IfSome arg IsNumber → lacks 32 (kind_text kind arg) ≡ true
kind_text_lacks kind arg small =
    subst (λ text. lacks 32 text ≡ true) (sym (kind_bracket kind arg)) (bracket_lacks (row kind).name (option_map_or decimal arg []) (kind_name_lacks 32 (omega arith) kind) (inside_lacks 32 arg (omega arith) small))
