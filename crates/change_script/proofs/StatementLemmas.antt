-- The line that writes a statement means it.
use Rattle.std.proofs.Common.{◌≡◌, ◌<◌, ◌^◌, ℕ, suc, ℤ, pos, negsuc, neg_ℤ, not, ◌&&◌, ◌==◌, true, false, inr, List, [], ◌∷◌, ◌++◌, map, Ok, codes, decimal, refl, sym, ap, ◌∙◌, arith, append_assoc, append-nil}
use Rattle.std.specs.List.{AllByRecursion, flat_map, list_all}
use Rattle.std.specs.Fmt.{signed_decimal}
use Rattle.std.specs.Char.{digit_value}
use Rattle.std.specs.Str.Parse.{IsNumeral}
use Rattle.std.proofs.lemmas.Bool.{cond-false, and_from}
use Rattle.std.proofs.lemmas.Bool.Decides.{nat_tests}
use Rattle.std.proofs.lemmas.Fmt.{decimal_is_IsNumeral}
use Rattle.change_plan.specs.declared.plan_data.Move.{Move}
use Rattle.report_types.specs.declared.script.Body.{Body}
use Rattle.report_types.specs.declared.script.Body.TheVariants as bodies
use Rattle.change_script.specs.Tokens.{word, opened, comma, arrow, tokens, is_word, begins_word}
use Rattle.change_script.specs.Numbers.{is_number, is_negative, is_integer, integer, integer_fits, number, number_fits}
use Rattle.change_script.specs.Paths.{is_name, is_path, path_fits}
use Rattle.report_writing.specs.Reports.{args_text, with_system}
use Rattle.change_script.specs.ScriptWords.{Ends, file, start, run, change, finish, show, stop}
use Rattle.change_script.specs.ScriptForms.{argument_tokens, move_tokens, moving_tokens, are_paths}
use Rattle.change_script.specs.ScriptLines.{paths_fit, move_of, meaning, LineMeans}
use Rattle.change_script.specs.StatementTexts.{move_text, more_moves_text, moving_text, statement_text, IsInteger, IsWrittenName, IsWrittenMove, CanBeStated}
use Rattle.report_writing.specs.Writing.{with_one, spaced}
use Rattle.change_script.specs.Written.{IsNumber}
use Rattle.change_script.proofs.TokenLemmas.{at_blank, sign_front, arrow_front}
use Rattle.change_script.proofs.WritingLemmas.{decimal_of, digit_is, front_word, is_whole_word, one_tokens, path_is_word}
use Rattle.change_script.proofs.ScriptFormLaws.{means}

-- what an integer in decimal is
record Signed (i : ℤ) : Type 0 where
  is_one : is_integer (signed_decimal i) ≡ true
  is_word : is_whole_word (signed_decimal i) ≡ true
  value : integer (signed_decimal i) ≡ i
  fits : integer_fits (signed_decimal i) ≡ true

no_head : (byte : ℕ) → digit_value byte < 10 → (byte == 62) ≡ false
no_head byte h = grind (arith, nat_tests)

no_dash_first : (bytes : List ℕ) → IsNumeral 10 bytes → is_negative bytes ≡ false
no_dash_first [] h = refl
no_dash_first (byte ∷ bytes) h = (digit_is byte h.1.0).2

positive : (n : ℕ) → n < 2 ^ 31 → Signed (pos n)
positive n small =
    let d = decimal_of n (omega arith) in
    let none = no_dash_first (decimal n) (decimal_is_IsNumeral n (omega arith)).0 in
    record {
      is_one = ap is_number (cond-false _ _ _ none) ∙ d.is_one;
      is_word = d.is_word;
      value = cond-false _ _ _ none ∙ ap (λ word. pos (number word)) (cond-false _ _ _ none) ∙ ap pos d.value;
      fits = rw (none, d.value) (grind (arith, nat_tests));
    }

dash_front : (bytes : List ℕ) → IsNumeral 10 bytes → is_word bytes ≡ true → is_whole_word (45 ∷ bytes) ≡ true
dash_front [] h all = refl
dash_front (byte ∷ bytes) h all = let other = no_head byte h.1.0 in ap (λ x. not x && is_word (byte ∷ bytes)) other ∙ all

whole_is_word : (bytes : List ℕ) → is_whole_word bytes ≡ true → is_word bytes ≡ true
whole_is_word [] h = refl
whole_is_word (byte ∷ bytes) h = h

negative : (n : ℕ) → n < 2 ^ 31 → Signed (negsuc n)
negative n small =
    let d = decimal_of (suc n) (omega arith) in
    record {
      is_one = d.is_one;
      is_word = dash_front (decimal (suc n)) (decimal_is_IsNumeral (suc n) (omega arith)).0 (whole_is_word (decimal (suc n)) d.is_word);
      value = ap (λ k. neg_ℤ (pos k)) d.value;
      fits = rw (d.value) (grind (arith, nat_tests));
    }

signed : (i : ℤ) → IsInteger i → Signed i
signed (pos n) small = positive n small
signed (negsuc n) small = negative n small

-- Arguments.
args_behind : (first : ℤ) (more : List ℤ) (rest : List ℕ) → IsInteger first → AllByRecursion IsInteger more
    → tokens (signed_decimal first ++ (flat_map (λ arg. codes "," ++ signed_decimal arg) more ++ (41 ∷ rest))) ≡ argument_tokens (signed_decimal first ∷ map signed_decimal more) ++ tokens rest
args_behind first [] rest small all =
    front_word (signed_decimal first) (41 ∷ rest) (signed first small).is_word refl ∙ ap (λ ts. word (signed_decimal first) ∷ ts) (sign_front 41 rest refl)
args_behind first (next ∷ more) rest small all =
    let w = signed_decimal first in
    let further : List ℕ = flat_map (λ arg. codes "," ++ signed_decimal arg) more in
    front_word w (44 ∷ ((signed_decimal next ++ further) ++ (41 ∷ rest))) (signed first small).is_word refl
    ∙ ap (λ ts. word w ∷ ts) (sign_front 44 ((signed_decimal next ++ further) ++ (41 ∷ rest)) refl)
    ∙ ap (λ text. word w ∷ comma ∷ tokens text) (append_assoc (signed_decimal next) further (41 ∷ rest))
    ∙ ap (λ ts. word w ∷ comma ∷ ts) (args_behind next more rest all.0 all.1)

args_tokens : (args : List ℤ) (rest : List ℕ) → AllByRecursion IsInteger args → tokens (args_text args ++ (41 ∷ rest)) ≡ argument_tokens (map signed_decimal args) ++ tokens rest
args_tokens [] rest all = sign_front 41 rest refl
args_tokens (first ∷ more) rest all =
    ap tokens (append_assoc (signed_decimal first) (flat_map (λ arg. codes "," ++ signed_decimal arg) more) (41 ∷ rest)) ∙ args_behind first more rest all.0 all.1

-- C(ARGS) behind a verb
abbrev in_parentheses : List ℕ → List ℤ → List ℕ → List ℕ
in_parentheses name args rest = 32 ∷ (name ++ (40 ∷ (args_text args ++ (41 ∷ rest))))

system_before : (verb name : List ℕ) (args : List ℤ) (rest : List ℕ) → with_system verb name args ++ rest ≡ verb ++ in_parentheses name args rest
system_before verb name args rest =
    let a = args_text args in
    append_assoc (verb ++ codes " " ++ name ++ codes "(" ++ a) (codes ")") rest
    ∙ append_assoc (verb ++ codes " " ++ name ++ codes "(") a (41 ∷ rest)
    ∙ append_assoc (verb ++ codes " " ++ name) (codes "(") (a ++ (41 ∷ rest))
    ∙ append_assoc (verb ++ codes " ") name (40 ∷ (a ++ (41 ∷ rest)))
    ∙ append_assoc verb (codes " ") (name ++ (40 ∷ (a ++ (41 ∷ rest))))

name_is_word : (name : List ℕ) → is_word name ≡ true → is_name name ≡ true → is_whole_word name ≡ true
name_is_word [] all is = is
name_is_word (byte ∷ bytes) all is = all

system_tokens : (name : List ℕ) (args : List ℤ) (rest : List ℕ) → IsWrittenName name → AllByRecursion IsInteger args
    → tokens (in_parentheses name args rest) ≡ word name ∷ opened ∷ (argument_tokens (map signed_decimal args) ++ tokens rest)
system_tokens name args rest is all =
    let behind : List ℕ = args_text args ++ (41 ∷ rest) in
    at_blank 32 (name ++ (40 ∷ behind)) refl ∙ front_word name (40 ∷ behind) (name_is_word name is.0 is.1) refl
    ∙ ap (λ ts. word name ∷ ts) (sign_front 40 behind refl) ∙ ap (λ ts. word name ∷ opened ∷ ts) (args_tokens args rest all)

-- Moves.
abbrev ends : Move → Ends
ends moved = record { from = moved.from; to = moved.to }

moving_ends : (moves : List Move) → begins_word (moving_text moves) ≡ false
moving_ends [] = refl
moving_ends (first ∷ more) = refl

one_move : (moved : Move) (rest : List ℕ) → IsWrittenMove moved → begins_word rest ≡ false → tokens (move_text moved ++ rest) ≡ word moved.from ∷ arrow ∷ word moved.to ∷ tokens rest
one_move moved rest is ends_here =
    let behind : List ℕ = moved.to ++ rest in
    ap tokens (append_assoc moved.from (codes " -> " ++ moved.to) rest)
    ∙ front_word moved.from (32 ∷ 45 ∷ 62 ∷ 32 ∷ behind) (path_is_word moved.from is.0.0 is.0.1) refl
    ∙ ap (λ ts. word moved.from ∷ ts) (at_blank 32 (45 ∷ 62 ∷ 32 ∷ behind) refl ∙ arrow_front (32 ∷ behind))
    ∙ ap (λ ts. word moved.from ∷ arrow ∷ ts) (at_blank 32 behind refl ∙ front_word moved.to rest (path_is_word moved.to is.1.0 is.1.1) ends_here)

moves_tokens : (first : Move) (more : List Move) → IsWrittenMove first → AllByRecursion IsWrittenMove more → tokens (move_text first ++ more_moves_text more) ≡ move_tokens (ends first) (map ends more)
moves_tokens first [] is all = one_move first [] is refl
moves_tokens first (next ∷ more) is all =
    one_move first (more_moves_text (next ∷ more)) is refl
    ∙ ap (λ ts. word first.from ∷ arrow ∷ word first.to ∷ ts) (sign_front 44 (32 ∷ (move_text next ++ more_moves_text more)) refl)
    ∙ ap (λ ts. word first.from ∷ arrow ∷ word first.to ∷ comma ∷ ts) (at_blank 32 (move_text next ++ more_moves_text more) refl ∙ moves_tokens next more all.0 all.1)

moving_are : (moves : List Move) → AllByRecursion IsWrittenMove moves → tokens (moving_text moves) ≡ moving_tokens (map ends moves)
moving_are [] all = refl
moving_are (first ∷ more) all =
    let behind : List ℕ = move_text first ++ more_moves_text more in
    at_blank 32 (codes "moving" ++ (32 ∷ behind)) refl ∙ front_word (codes "moving") (32 ∷ behind) refl refl
    ∙ ap (λ ts. word (codes "moving") ∷ ts) (at_blank 32 behind refl ∙ moves_tokens first more all.0 all.1)

within_tokens : (count : ℕ) (rest : List ℕ) → IsNumber count → begins_word rest ≡ false
    → tokens (with_one (codes " within") count ++ rest) ≡ word (codes "within") ∷ word (decimal count) ∷ tokens rest
within_tokens count rest small ends_here =
    let d = decimal count in
    ap tokens (append_assoc (codes " within") (spaced (d ∷ [])) rest) ∙ ap (λ text. tokens (codes " within" ++ (text ++ rest))) (append-nil (32 ∷ d))
    ∙ at_blank 32 (codes "within" ++ (32 ∷ (d ++ rest))) refl ∙ front_word (codes "within") (32 ∷ (d ++ rest)) refl refl
    ∙ ap (λ ts. word (codes "within") ∷ ts) (at_blank 32 (d ++ rest) refl ∙ front_word d rest (decimal_of count small).is_word ends_here)

-- what integers in decimal, and moves, are
integers_right : (args : List ℤ) → AllByRecursion IsInteger args → list_all is_integer (map signed_decimal args) ≡ true
integers_right [] all = refl
integers_right (first ∷ more) all = ap (λ x. x && list_all is_integer (map signed_decimal more)) (signed first all.0).is_one ∙ integers_right more all.1

integers_small : (args : List ℤ) → AllByRecursion IsInteger args → list_all integer_fits (map signed_decimal args) ≡ true
integers_small [] all = refl
integers_small (first ∷ more) all = ap (λ x. x && list_all integer_fits (map signed_decimal more)) (signed first all.0).fits ∙ integers_small more all.1

integers_value : (args : List ℤ) → AllByRecursion IsInteger args → map integer (map signed_decimal args) ≡ args
integers_value [] all = refl
integers_value (first ∷ more) all =
    ap (λ x. x ∷ map integer (map signed_decimal more)) (signed first all.0).value ∙ ap (λ xs. first ∷ xs) (integers_value more all.1)

moves_right : (moves : List Move) → AllByRecursion IsWrittenMove moves → list_all are_paths (map ends moves) ≡ true
moves_right [] all = refl
moves_right (first ∷ more) all =
    ap (λ x. (x && is_path first.to) && list_all are_paths (map ends more)) all.0.0.1 ∙ ap (λ x. x && list_all are_paths (map ends more)) all.0.1.1 ∙ moves_right more all.1

moves_small : (moves : List Move) → AllByRecursion IsWrittenMove moves → list_all paths_fit (map ends moves) ≡ true
moves_small [] all = refl
moves_small (first ∷ more) all =
    ap (λ x. (x && path_fits first.to) && list_all paths_fit (map ends more)) all.0.0.2 ∙ ap (λ x. x && list_all paths_fit (map ends more)) all.0.1.2 ∙ moves_small more all.1

moves_value : (moves : List Move) → map move_of (map ends moves) ≡ moves
moves_value [] = refl
moves_value (first ∷ more) = ap (λ xs. first ∷ xs) (moves_value more)

start_means : (name : List ℕ) (args : List ℤ) → IsWrittenName name → AllByRecursion IsInteger args → LineMeans (statement_text (bodies.Start name args)) (bodies.Start name args)
start_means name args is all =
    let words = map signed_decimal args in
    let text = with_system (codes "start") name args in
    let spelled : tokens text ≡ word (codes "start") ∷ word name ∷ opened ∷ argument_tokens words =
    ap tokens (sym (append-nil text) ∙ system_before (codes "start") name args []) ∙ front_word (codes "start") (in_parentheses name args []) refl refl
    ∙ ap (λ ts. word (codes "start") ∷ ts) (system_tokens name args [] is all) ∙ ap (λ ts. word (codes "start") ∷ word name ∷ opened ∷ ts) (append-nil (argument_tokens words)) in (
      start name words,
      ((opened ∷ argument_tokens words, inr refl, spelled), and_from (is_name name) (list_all is_integer words) is.1 (integers_right args all)),
      integers_small args all,
      ap (bodies.Start name) (sym (integers_value args all)),
    )

change_means : (name : List ℕ) (args : List ℤ) (within : ℕ) (moves : List Move) → IsWrittenName name → AllByRecursion IsInteger args → IsNumber within → AllByRecursion IsWrittenMove moves
    → LineMeans (statement_text (bodies.Change name args within moves)) (bodies.Change name args within moves)
change_means name args within moves is all small moved =
    let words = map signed_decimal args in
    let d = decimal_of within small in
    let behind : List ℕ = with_one (codes " within") within ++ moving_text moves in
    let rest : List ℕ = in_parentheses name args behind in
    let spelled : tokens (with_system (codes "change to") name args ++ behind)
    ≡ word (codes "change") ∷ word (codes "to") ∷ word name ∷ (opened ∷ (argument_tokens words ++ (word (codes "within") ∷ word (decimal within) ∷ moving_tokens (map ends moves)))) =
    ap tokens (system_before (codes "change to") name args behind) ∙ front_word (codes "change") (32 ∷ (codes "to" ++ rest)) refl refl
    ∙ ap (λ ts. word (codes "change") ∷ ts) (at_blank 32 (codes "to" ++ rest) refl ∙ front_word (codes "to") rest refl refl)
    ∙ ap (λ ts. word (codes "change") ∷ word (codes "to") ∷ ts) (system_tokens name args behind is all)
    ∙ ap (λ ts. word (codes "change") ∷ word (codes "to") ∷ word name ∷ opened ∷ (argument_tokens words ++ ts)) (within_tokens within (moving_text moves) small (moving_ends moves))
    ∙ ap (λ ts. word (codes "change") ∷ word (codes "to") ∷ word name ∷ opened ∷ (argument_tokens words ++ (word (codes "within") ∷ word (decimal within) ∷ ts))) (moving_are moves moved) in
    let right = and_from (is_name name && list_all is_integer words && is_number (decimal within)) (list_all are_paths (map ends moves))
    (and_from (is_name name && list_all is_integer words) (is_number (decimal within)) (and_from (is_name name) (list_all is_integer words) is.1 (integers_right args all)) d.is_one) (moves_right moves moved) in
    let fits = and_from (list_all integer_fits words && number_fits (decimal within)) (list_all paths_fit (map ends moves))
    (and_from (list_all integer_fits words) (number_fits (decimal within)) (integers_small args all) d.fits) (moves_small moves moved) in (
      change name words (decimal within) (map ends moves),
      ((opened ∷ argument_tokens words, inr refl, spelled), right),
      fits,
      ap (λ a. bodies.Change name a within moves) (sym (integers_value args all)) ∙ ap (λ n. bodies.Change name (map integer words) n moves) (sym d.value)
          ∙ ap (bodies.Change name (map integer words) (number (decimal within))) (sym (moves_value moves)),
    )

finish_means : (within : ℕ) → IsNumber within → LineMeans (statement_text (bodies.Finish within)) (bodies.Finish within)
finish_means within small =
    let d = decimal_of within small in
    let spelled : tokens (codes "finish within" ++ spaced (decimal within ∷ [])) ≡ word (codes "finish") ∷ word (codes "within") ∷ word (decimal within) ∷ [] =
    front_word (codes "finish") (32 ∷ (codes "within" ++ spaced (decimal within ∷ []))) refl refl
    ∙ ap (λ ts. word (codes "finish") ∷ ts) (at_blank 32 (codes "within" ++ spaced (decimal within ∷ [])) refl ∙ one_tokens (codes "within") within refl small) in
    (finish (decimal within), (spelled, d.is_one), d.fits, ap bodies.Finish (sym d.value))

run_means : (count : ℕ) → IsNumber count → LineMeans (statement_text (bodies.Run count)) (bodies.Run count)
run_means count small =
    let d = decimal_of count small in
    (run (decimal count), (one_tokens (codes "run") count refl small, d.is_one), d.fits, ap bodies.Run (sym d.value))

stated : (body : Body) → CanBeStated body → LineMeans (statement_text body) body
stated (bodies.File name) can = (file name, ((32, [], refl, can.1, refl), can.0), refl, refl)
stated (bodies.Start name args) can = start_means name args can.0 can.1
stated (bodies.Run count) can = run_means count can
stated (bodies.Change name args within moves) can = change_means name args within moves can.0 can.1 can.2 can.3
stated (bodies.Finish within) can = finish_means within can
stated bodies.Show can = (show, (refl, refl), refl, refl)
stated bodies.Stop can = (stop, (refl, refl), refl, refl)

pub statement_means : (body : Body) → CanBeStated body → meaning (statement_text body) ≡ Ok body
statement_means body can = (means (statement_text body) body).1 (stated body can)
