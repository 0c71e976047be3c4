-- What stands in a line of a history by the script, the events and the looks is what a line can be, on one line.
use Rattle.std.proofs.Common.{◌≡◌, ◌==◌, ◌+◌, ◌<◌, ◌%◌, ◌^◌, ℕ, ℤ, pos, negsuc, suc, true, not, List, [], ◌∷◌, ◌++◌, Option, Some, None, codes, decimal, refl, arith}
use Rattle.std.specs.Prelude.{⊤, IfSome, flat_map, nat_le}
use Rattle.std.specs.Fmt.{signed_decimal}
use Rattle.std.specs.List.{AllByRecursion}
use Rattle.std.specs.Option.{option_map_or}
use Rattle.std.proofs.lemmas.Bool.{and_from, leb-true}
use Rattle.std.proofs.lemmas.Fmt.{decimal_by_steps}
use Rattle.config_graph.specs.GraphText.{kind_text}
use Rattle.config_graph.specs.Kinds.{row}
use Rattle.config_graph.specs.declared.kind.Kind.{Kind}
use Rattle.config_graph.specs.declared.node.Node.{Node}
use Rattle.report_types.specs.declared.report.HistoryLine.{HistoryLine}
use Rattle.report_types.specs.declared.report.HistoryLine.TheVariants as to
use Rattle.report_writing.specs.Reports.{args_text, ended, history_text, with_system}
use Rattle.report_writing.specs.Writing.{from_words, spaced}
use Rattle.change_script.specs.StatementTexts.{IsInteger}
use Rattle.change_script.specs.Written.{IsNumber}
use Rattle.report_lines.specs.ReportLines.{lacks}
use Rattle.report_lines.proofs.TextLaws.{lacks_append, kind_name_lacks}
use Rattle.report_texts.specs.Limits.{line_keeps}
use Rattle.report_texts.specs.ReportTexts.{CanBeShown, CanStand, IsOneLine, IsWord}
use Rattle.report_texts.specs.declared.version.Version.TheVariants as versions
use Rattle.change_spec.specs.Consistent.{keeps_to_limit}
use Rattle.result_laws.specs.Telling.{CountFits, IsCall}
use Rattle.result_laws.proofs.TellingLines.{HasEventNumbers, IsSaid}
use Rattle.base.proofs.DecimalLaws.{no_feed}

-- ---- texts without a line feed

abbrev OnOneLine : List ℕ → Type 0
OnOneLine text = lacks 10 text ≡ true

number_line : (n : ℕ) → n < 2 ^ 64 → OnOneLine (decimal n)
number_line =
    decimal_by_steps (λ n ds. OnOneLine ds) (λ n h. and_from (not (48 + n == 10)) true (no_feed n) refl)
    (λ n ds h f. lacks_append 10 ds ((48 + n % 10) ∷ []) f (and_from (not (48 + n % 10 == 10)) true (no_feed (n % 10)) refl))

small_line : (n : ℕ) → IsNumber n → OnOneLine (decimal n)
small_line n low = number_line n (omega (arith, low))

words_line : (words : List (List ℕ)) → AllByRecursion OnOneLine words → OnOneLine (spaced words)
words_line [] all = refl
words_line (word ∷ words) all = lacks_append 10 (32 ∷ word) (spaced words) all.0 (words_line words all.1)

verb_line : (verb : List ℕ) (words : List (List ℕ)) → OnOneLine verb → AllByRecursion OnOneLine words → OnOneLine (verb ++ spaced words)
verb_line verb words first all = lacks_append 10 verb (spaced words) first (words_line words all)

-- a line of a verb and words
line_of_one : (says : HistoryLine) (verb : List ℕ) (words : List (List ℕ)) → history_text says ≡ ended (verb ++ spaced words) → OnOneLine verb → AllByRecursion OnOneLine words → IsOneLine says
line_of_one says verb words is first all = (verb ++ spaced words, is, verb_line verb words first all)

integer_line : (z : ℤ) → IsInteger z → OnOneLine (signed_decimal z)
integer_line (pos n) small = number_line n (omega (arith, small))
integer_line (negsuc n) small = number_line (suc n) (omega (arith, small))

more_args_line : (args : List ℤ) → AllByRecursion IsInteger args → OnOneLine (flat_map (λ arg. codes "," ++ signed_decimal arg) args)
more_args_line [] all = refl
more_args_line (z ∷ args) all =
    lacks_append 10 (codes "," ++ signed_decimal z) (flat_map (λ arg. codes "," ++ signed_decimal arg) args) (integer_line z all.0) (more_args_line args all.1)

args_line : (args : List ℤ) → AllByRecursion IsInteger args → OnOneLine (args_text args)
args_line [] all = refl
args_line (z ∷ args) all = lacks_append 10 (signed_decimal z) (flat_map (λ arg. codes "," ++ signed_decimal arg) args) (integer_line z all.0) (more_args_line args all.1)

system_line : (verb name : List ℕ) (args : List ℤ) → OnOneLine verb → IsCall name args → OnOneLine (with_system verb name args)
system_line verb name args first call =
    lacks_append 10 ((((verb ++ codes " ") ++ name) ++ codes "(") ++ args_text args) (codes ")")
    (lacks_append 10 (((verb ++ codes " ") ++ name) ++ codes "(") (args_text args)
    (lacks_append 10 ((verb ++ codes " ") ++ name) (codes "(")
    (lacks_append 10 (verb ++ codes " ") name (lacks_append 10 verb (codes " ") first refl) call.one_line) refl)
    (args_line args call.integers)) refl

argument_line : (arg : Option ℕ) → IfSome arg IsNumber → OnOneLine (option_map_or decimal arg [])
argument_line None small = refl
argument_line (Some a) small = small_line a small

typed_line : (kind : Kind) (arg : Option ℕ) → IfSome arg IsNumber → OnOneLine (kind_text kind arg)
typed_line kind arg small =
    lacks_append 10 (((row kind).name ++ codes "(") ++ option_map_or decimal arg []) (codes ")")
    (lacks_append 10 ((row kind).name ++ codes "(") (option_map_or decimal arg []) (lacks_append 10 (row kind).name (codes "(") (kind_name_lacks 10 (omega arith) kind) refl) (argument_line arg small)) refl

source_line : (from : Option ℕ) → IfSome from IsNumber → AllByRecursion OnOneLine (from_words from)
source_line None small = tt
source_line (Some slot) small = (refl, (small_line slot small, tt))

make_line : (slot : ℕ) (node : Node) (from : Option ℕ) → IsNumber slot → IsWord node.path → IfSome node.arg IsNumber → IfSome from IsNumber
    → AllByRecursion OnOneLine (decimal slot ∷ node.path ∷ kind_text node.kind node.arg ∷ from_words from)
make_line slot node from number word arg source = (small_line slot number, (word.2, (typed_line node.kind node.arg arg, source_line from source)))

make_kept : (slot : ℕ) (node : Node) (from : Option ℕ) → line_keeps versions.Second (to.Make slot node from) ≡ true
make_kept slot node None = refl
make_kept slot node (Some k) = refl

-- ---- lines

-- what a look tells, and the graph that is shown
abbrev pub HasTold : HistoryLine → Type 0
HasTold (to.Drained p k) = IsNumber k
HasTold (to.Show graph) = CanBeShown graph
HasTold _ = ⊤

-- the serial of a root that is told as open
abbrev pub HasSerial : HistoryLine → Type 0
HasSerial (to.Root p k) = IsNumber k
HasSerial _ = ⊤

few_rounds : (n r : ℕ) → IsNumber n → nat_le r n ≡ true → IsNumber r
few_rounds n r low few = omega (arith, low, leb-true r n few)

pub can_stand : (l : HistoryLine) → IsSaid l → HasEventNumbers l → HasTold l → HasSerial l → CountFits l → keeps_to_limit l ≡ true → CanStand versions.Second l
can_stand (to.Start name args) said has told serial fits few = ((said.is_name, said.integers), (with_system (codes "start") name args, refl, system_line (codes "start") name args refl said), refl)
can_stand (to.Change name args) said has told serial fits few = ((said.is_name, said.integers), (with_system (codes "change") name args, refl, system_line (codes "change") name args refl said), refl)
can_stand (to.Make slot node from) said has told serial fits few =
    let words = decimal slot ∷ node.path ∷ kind_text node.kind node.arg ∷ from_words from in
    ((has.0, (said.0, said.1), has.1, has.2), line_of_one (to.Make slot node from) (codes "make") words refl refl (make_line slot node from has.0 said has.1 has.2), make_kept slot node from)
can_stand (to.Link p n x) said has told serial fits few =
    (has, line_of_one (to.Link p n x) (codes "link") (decimal p ∷ decimal n ∷ decimal x ∷ []) refl refl (small_line p has.0, (small_line n has.1, (small_line x has.2, tt))), refl)
can_stand (to.Unlink p) said has told serial fits few = (has, line_of_one (to.Unlink p) (codes "unlink") (decimal p ∷ []) refl refl (small_line p has, tt), refl)
can_stand (to.Remove n) said has told serial fits few = (has, line_of_one (to.Remove n) (codes "remove") (decimal n ∷ []) refl refl (small_line n has, tt), refl)
can_stand (to.Close p) said has told serial fits few = (has, line_of_one (to.Close p) (codes "close") (decimal p ∷ []) refl refl (small_line p has, tt), refl)
can_stand (to.Reopen p) said has told serial fits few = (has, line_of_one (to.Reopen p) (codes "reopen") (decimal p ∷ []) refl refl (small_line p has, tt), refl)
can_stand (to.Drained p k) said has told serial fits few = ((said, told), line_of_one (to.Drained p k) (codes "drained") (decimal p ∷ decimal k ∷ []) refl refl (small_line p said, (small_line k told, tt)), refl)
can_stand to.Commit said has told serial fits few = (tt, (codes "commit", refl, refl), refl)
can_stand to.Abandon said has told serial fits few = (tt, (codes "abandon", refl, refl), refl)
can_stand to.Skipped said has told serial fits few = (tt, (codes "skipped", refl, refl), refl)
can_stand (to.Pending rounds) said has told serial fits few = (said, line_of_one (to.Pending rounds) (codes "pending") (decimal rounds ∷ []) refl refl (small_line rounds said, tt), refl)
can_stand (to.Root p k) said has told serial fits few = ((said, serial), line_of_one (to.Root p k) (codes "open") (decimal p ∷ decimal k ∷ []) refl refl (small_line p said, (small_line k serial, tt)), refl)
can_stand (to.Run k done) said has told serial fits few = ((said, fits), line_of_one (to.Run k done) (codes "run") (decimal k ∷ decimal done ∷ []) refl refl (small_line k said, (number_line done fits, tt)), refl)
can_stand (to.Finish n rounds) said has told serial fits few =
    let low = few_rounds n rounds said few in
    ((said, low), line_of_one (to.Finish n rounds) (codes "finish") (decimal n ∷ decimal rounds ∷ []) refl refl (small_line n said, (small_line rounds low, tt)), refl)
can_stand (to.Show graph) said has told serial fits few = told
can_stand to.Stop said has told serial fits few = (tt, (codes "stop", refl, refl), refl)
