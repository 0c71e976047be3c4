-- The line that writes an event means it.
use Rattle.std.proofs.Common.{◌≡◌, ◌<◌, ℕ, ◌&&◌, ◌==◌, Bool, true, false, List, [], ◌∷◌, ◌++◌, Option, Some, None, IfSome, option_map, Ok, codes, decimal, refl, ap, ◌∙◌, arith}
use Rattle.std.specs.List.{list_all}
use Rattle.std.specs.Option.{option_map_or}
use Rattle.std.specs.Char.{is_ascii_digit, digit_value}
use Rattle.std.specs.Str.Parse.{AllDigits, IsNumeral}
use Rattle.std.proofs.lemmas.Bool.Decides.{nat_tests}
use Rattle.std.proofs.lemmas.Fmt.{decimal_is_IsNumeral}
use Rattle.std.proofs.lemmas.List.{append_assoc}
use Rattle.config_graph.specs.declared.kind.Kind.{Kind}
use Rattle.config_graph.specs.declared.kind.Kind.TheVariants.{Fork}
use Rattle.config_graph.specs.Kinds.{row}
use Rattle.config_graph.specs.GraphText.{kind_text}
use Rattle.config_graph.specs.declared.node.Node.{Node}
use Rattle.config_graph.proofs.KindLaws.{kind_named-name}
use Rattle.quiesce_core.specs.declared.event.Event.{Event}
use Rattle.quiesce_core.specs.declared.event.Event.TheVariants as events
use Rattle.change_script.specs.declared.event_lines.EventLine.TheVariants as statements
use Rattle.change_script.specs.Tokens.{ScriptToken, word, opened, closed, tokens, is_word, is_word_byte, begins_word}
use Rattle.change_script.specs.Numbers.{is_number, number, number_fits, number_in}
use Rattle.change_script.specs.Paths.{is_path, path_fits, path_in}
use Rattle.change_script.specs.EventLines.{MakeWords, meaning, three_numbers, make_of_words, make_of_kind, make_words, optional_number, event_line, owner_event, target_event, single_event, link_event}
use Rattle.change_script.specs.declared.verbs.OwnerStep.TheVariants as owner
use Rattle.change_script.specs.declared.verbs.TargetStep.TheVariants as target
use Rattle.change_script.specs.declared.verbs.Single.TheVariants as singles
use Rattle.report_writing.specs.Writing.{spaced, with_three, with_one, written, from_words}
use Rattle.change_script.specs.Written.{IsNumber, AreNumbers, CanBeWritten}
use Rattle.change_script.proofs.TokenLemmas.{at_blank, sign_front, word_front, onto_is_word}

-- one byte or more, all bytes of a word
abbrev pub is_whole_word : List ℕ → Bool
is_whole_word [] = false
is_whole_word (byte ∷ bytes) = is_word (byte ∷ bytes)

pub digit_is : (byte : ℕ) → digit_value byte < 10 → (is_ascii_digit byte ≡ true) × (is_word_byte byte ≡ true) × ((byte == 45) ≡ false)
digit_is byte h = (grind (arith, nat_tests), grind (arith, nat_tests), grind (arith, nat_tests))

digits_are : (bytes : List ℕ) → AllDigits 10 bytes → (list_all is_ascii_digit bytes ≡ true) × (is_word bytes ≡ true)
digits_are [] all = (refl, refl)
digits_are (byte ∷ bytes) all =
    let here = digit_is byte all.0 in
    let rest = digits_are bytes all.1 in
    (ap (λ b. b && list_all is_ascii_digit bytes) here.0 ∙ rest.0, onto_is_word byte bytes here.1 here.2 rest.1)

pub numeral_is : (bytes : List ℕ) → IsNumeral 10 bytes → (is_number bytes ≡ true) × (is_whole_word bytes ≡ true)
numeral_is [] h = let none : ⊥ = omega (arith, h.0) in absurd none
numeral_is (byte ∷ bytes) h = digits_are (byte ∷ bytes) h.1

-- what a number in decimal is
pub record Decimal (n : ℕ) : Type 0 where
  pub is_one : is_number (decimal n) ≡ true
  pub is_word : is_whole_word (decimal n) ≡ true
  pub value : number (decimal n) ≡ n
  pub fits : number_fits (decimal n) ≡ true

pub decimal_of : (n : ℕ) → IsNumber n → Decimal n
decimal_of n small =
    let numeral = decimal_is_IsNumeral n (omega arith) in
    let is = numeral_is (decimal n) numeral.0 in
    record { is_one = is.0; is_word = is.1; value = numeral.1; fits = rw (numeral.1) (grind (arith, nat_tests)) }

-- A word comes first where no byte of a word is behind it.
pub front_word : (first rest : List ℕ) → is_whole_word first ≡ true → begins_word rest ≡ false → tokens (first ++ rest) ≡ word first ∷ tokens rest
front_word [] rest is ends = cc
front_word (byte ∷ bytes) rest is ends = word_front byte bytes rest is ends

spaced_ends : (words : List (List ℕ)) → begins_word (spaced words) ≡ false
spaced_ends [] = refl
spaced_ends (first ∷ words) = refl

pub verb_tokens : (verb : List ℕ) (words : List (List ℕ)) → is_whole_word verb ≡ true → tokens (verb ++ spaced words) ≡ word verb ∷ tokens (spaced words)
verb_tokens verb words is = front_word verb (spaced words) is (spaced_ends words)

pub spaced_tokens : (first : List ℕ) (words : List (List ℕ)) → is_whole_word first ≡ true → tokens (spaced (first ∷ words)) ≡ word first ∷ tokens (spaced words)
spaced_tokens first words is = at_blank 32 (first ++ spaced words) refl ∙ front_word first (spaced words) is (spaced_ends words)

pub one_tokens : (verb : List ℕ) (first : ℕ) → is_whole_word verb ≡ true → IsNumber first → tokens (with_one verb first) ≡ word verb ∷ word (decimal first) ∷ []
one_tokens verb first is small = verb_tokens verb (decimal first ∷ []) is ∙ ap (λ ts. word verb ∷ ts) (spaced_tokens (decimal first) [] (decimal_of first small).is_word)

three_tokens : (verb : List ℕ) (first second third : ℕ) → is_whole_word verb ≡ true → AreNumbers first second third
    → tokens (with_three verb first second third) ≡ word verb ∷ word (decimal first) ∷ word (decimal second) ∷ word (decimal third) ∷ []
three_tokens verb first second third is small =
    let a = decimal first in
    let b = decimal second in
    let c = decimal third in
    verb_tokens verb (a ∷ b ∷ c ∷ []) is ∙ ap (λ ts. word verb ∷ ts) (spaced_tokens a (b ∷ c ∷ []) (decimal_of first small.0).is_word)
    ∙ ap (λ ts. word verb ∷ word a ∷ ts) (spaced_tokens b (c ∷ []) (decimal_of second small.1).is_word)
    ∙ ap (λ ts. word verb ∷ word a ∷ word b ∷ ts) (spaced_tokens c [] (decimal_of third small.2).is_word)

pub one_of : (first : ℕ) → IsNumber first → number_in (decimal first) ≡ Ok first
one_of first small =
    let a = decimal_of first small in
    rw (a.is_one, a.fits, a.value) refl

three_of : (first second third : ℕ) → AreNumbers first second third
    → three_numbers (decimal first) (decimal second) (decimal third) ≡ Ok (record { first = first; second = second; third = third })
three_of first second third small = rw (one_of first small.0, one_of second small.1, one_of third small.2) refl

kind_is_word : (kind : Kind) → is_whole_word (row kind).name ≡ true
kind_is_word Fork = refl
kind_is_word _ = refl

-- a kind's parentheses, and what stands behind
abbrev parentheses : Option ℕ → List ScriptToken → List ScriptToken
parentheses None rest = opened ∷ closed ∷ rest
parentheses (Some arg) rest = opened ∷ word (decimal arg) ∷ closed ∷ rest

inner_tokens : (arg : Option ℕ) (rest : List ℕ) → IfSome arg IsNumber → tokens (40 ∷ (option_map_or decimal arg [] ++ (41 ∷ rest))) ≡ parentheses arg (tokens rest)
inner_tokens None rest small = sign_front 40 (41 ∷ rest) refl ∙ ap (λ ts. opened ∷ ts) (sign_front 41 rest refl)
inner_tokens (Some n) rest small =
    sign_front 40 (decimal n ++ (41 ∷ rest)) refl ∙ ap (λ ts. opened ∷ ts) (front_word (decimal n) (41 ∷ rest) (decimal_of n small).is_word refl)
    ∙ ap (λ ts. opened ∷ word (decimal n) ∷ ts) (sign_front 41 rest refl)

kind_text_before : (kind : Kind) (arg : Option ℕ) (rest : List ℕ) → kind_text kind arg ++ rest ≡ (row kind).name ++ (40 ∷ (option_map_or decimal arg [] ++ (41 ∷ rest)))
kind_text_before kind arg rest =
    let name = (row kind).name in
    let inner = option_map_or decimal arg [] in
    append_assoc (name ++ codes "(" ++ inner) (codes ")") rest ∙ append_assoc (name ++ codes "(") inner (41 ∷ rest) ∙ append_assoc name (codes "(") (inner ++ (41 ∷ rest))

kind_tokens : (kind : Kind) (arg : Option ℕ) (words : List (List ℕ)) → IfSome arg IsNumber
    → tokens (spaced (kind_text kind arg ∷ words)) ≡ word (row kind).name ∷ parentheses arg (tokens (spaced words))
kind_tokens kind arg words small =
    let name = (row kind).name in
    let rest = spaced words in
    at_blank 32 (kind_text kind arg ++ rest) refl ∙ ap tokens (kind_text_before kind arg rest)
    ∙ front_word name (40 ∷ (option_map_or decimal arg [] ++ (41 ∷ rest))) (kind_is_word kind) refl ∙ ap (λ ts. word name ∷ ts) (inner_tokens arg rest small)

-- the tokens of `from SLOT`, or none
abbrev source_tokens : Option ℕ → List ScriptToken
source_tokens None = []
source_tokens (Some slot) = word (codes "from") ∷ word (decimal slot) ∷ []

from_tokens : (from : Option ℕ) → IfSome from IsNumber → tokens (spaced (from_words from)) ≡ source_tokens from
from_tokens None small = refl
from_tokens (Some slot) small =
    spaced_tokens (codes "from") (decimal slot ∷ []) refl ∙ ap (λ ts. word (codes "from") ∷ ts) (spaced_tokens (decimal slot) [] (decimal_of slot small).is_word)

pub path_is_word : (path : List ℕ) → is_word path ≡ true → is_path path ≡ true → is_whole_word path ≡ true
path_is_word [] all path = path
path_is_word (byte ∷ bytes) all path = all

make_tokens : (slot : ℕ) (node : Node) (from : Option ℕ) → CanBeWritten (events.Make slot node from)
    → tokens (written (events.Make slot node from))
    ≡ word (codes "make") ∷ word (decimal slot) ∷ word node.path ∷ word (row node.kind).name ∷ parentheses node.arg (source_tokens from)
make_tokens slot node from can =
    let a = decimal slot in
    let k = kind_text node.kind node.arg in
    let fs = from_words from in
    verb_tokens (codes "make") (a ∷ node.path ∷ k ∷ fs) refl ∙ ap (λ ts. word (codes "make") ∷ ts) (spaced_tokens a (node.path ∷ k ∷ fs) (decimal_of slot can.0).is_word)
    ∙ ap (λ ts. word (codes "make") ∷ word a ∷ ts) (spaced_tokens node.path (k ∷ fs) (path_is_word node.path can.1 can.2))
    ∙ ap (λ ts. word (codes "make") ∷ word a ∷ word node.path ∷ ts) (kind_tokens node.kind node.arg fs can.4)
    ∙ ap (λ ts. word (codes "make") ∷ word a ∷ word node.path ∷ word (row node.kind).name ∷ parentheses node.arg ts) (from_tokens from can.5)

-- the words of the line of a made node
abbrev words_for : ℕ → Node → Option ℕ → MakeWords
words_for slot node from =
    record { slot = decimal slot; path = node.path; kind = (row node.kind).name; arg = option_map decimal node.arg; from = option_map decimal from }

words_found : (slot : ℕ) (node : Node) (arg from : Option ℕ)
    → make_words (word (decimal slot) ∷ word node.path ∷ word (row node.kind).name ∷ parentheses arg (source_tokens from))
    ≡ Some (record { slot = decimal slot; path = node.path; kind = (row node.kind).name; arg = option_map decimal arg; from = option_map decimal from })
words_found slot node None None = refl
words_found slot node None (Some s) = refl
words_found slot node (Some n) None = refl
words_found slot node (Some n) (Some s) = refl

optional_of : (n : Option ℕ) → IfSome n IsNumber → optional_number (option_map decimal n) ≡ Ok n
optional_of None small = refl
optional_of (Some n) small = rw (one_of n small) refl

path_of : (path : List ℕ) → is_path path ≡ true → path_fits path ≡ true → path_in path ≡ Ok tt
path_of path is fits = rw (is, fits) refl

made_of : (slot : ℕ) (node : Node) (from : Option ℕ) → CanBeWritten (events.Make slot node from)
    → make_of_kind (words_for slot node from) (Some node.kind) ≡ Ok (events.Make slot node from)
made_of slot node from can = rw (one_of slot can.0, path_of node.path can.2 can.3, optional_of node.arg can.4, optional_of from can.5) refl

make_means : (slot : ℕ) (node : Node) (from : Option ℕ) → CanBeWritten (events.Make slot node from)
    → meaning (tokens (written (events.Make slot node from))) ≡ Ok (statements.Event (events.Make slot node from))
make_means slot node from can =
    ap meaning (make_tokens slot node from can) ∙ ap (λ words. event_line (λ event. event) (make_of_words words)) (words_found slot node node.arg from)
    ∙ ap (λ kind. event_line (λ event. event) (make_of_kind (words_for slot node from) kind)) (kind_named-name node.kind)
    ∙ ap (event_line (λ event. event)) (made_of slot node from can)

pub written_means : (event : Event) → CanBeWritten event → meaning (tokens (written event)) ≡ Ok (statements.Event event)
written_means (events.Begin p s v) can = ap meaning (three_tokens (codes "begin") p s v refl can) ∙ ap (event_line (owner_event owner.Begin)) (three_of p s v can)
written_means (events.Call p s v) can = ap meaning (three_tokens (codes "call") p s v refl can) ∙ ap (event_line (owner_event owner.Call)) (three_of p s v can)
written_means (events.Take p s v) can = ap meaning (three_tokens (codes "take") p s v refl can) ∙ ap (event_line (target_event target.Take)) (three_of p s v can)
written_means (events.Give p s v) can = ap meaning (three_tokens (codes "give") p s v refl can) ∙ ap (event_line (target_event target.Give)) (three_of p s v can)
written_means (events.End p s v) can = ap meaning (three_tokens (codes "end") p s v refl can) ∙ ap (event_line (owner_event owner.End)) (three_of p s v can)
written_means (events.More p s v) can = ap meaning (three_tokens (codes "more") p s v refl can) ∙ ap (event_line (target_event target.More)) (three_of p s v can)
written_means (events.Ask p s v) can = ap meaning (three_tokens (codes "ask") p s v refl can) ∙ ap (event_line (owner_event owner.Ask)) (three_of p s v can)
written_means (events.Hear p s v) can = ap meaning (three_tokens (codes "hear") p s v refl can) ∙ ap (event_line (target_event target.Hear)) (three_of p s v can)
written_means (events.Miss p) can = ap meaning (one_tokens (codes "miss") p refl can) ∙ ap (event_line (single_event singles.Miss)) (one_of p can)
written_means (events.Close p) can = ap meaning (one_tokens (codes "close") p refl can) ∙ ap (event_line (single_event singles.Close)) (one_of p can)
written_means (events.Reopen p) can = ap meaning (one_tokens (codes "reopen") p refl can) ∙ ap (event_line (single_event singles.Reopen)) (one_of p can)
written_means (events.Make slot node from) can = make_means slot node from can
written_means (events.Link p n v) can = ap meaning (three_tokens (codes "link") p n v refl can) ∙ ap (event_line link_event) (three_of p n v can)
written_means (events.Unlink p) can = ap meaning (one_tokens (codes "unlink") p refl can) ∙ ap (event_line (single_event singles.Unlink)) (one_of p can)
written_means (events.Remove n) can = ap meaning (one_tokens (codes "remove") n refl can) ∙ ap (event_line (single_event singles.Remove)) (one_of n can)
