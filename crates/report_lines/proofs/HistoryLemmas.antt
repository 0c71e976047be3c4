-- The lines of a history, but for those of a graph that is shown.
use Rattle.std.specs.List.{AllByRecursion}
use Rattle.std.proofs.lemmas.Option.{same_Some}
use Rattle.std.specs.Prelude.{IfOk, Result, Ok, Err}
use Rattle.std.proofs.Common.{◌≡◌, ◌<◌, ◌^◌, ℕ, ℤ, true, List, [], ◌∷◌, ◌++◌, Option, Some, None, IfSome, option_map, codes, bytes_eq, decimal, refl, sym, ap, subst, ◌∙◌, arith}
use Rattle.base.proofs.BytesLaws.{same_bytes}
use Rattle.base.proofs.FindLaws.{find_passes}
use Rattle.base.proofs.OptionLaws.{when_some}
use Rattle.config_graph.specs.GraphText.{kind_text}
use Rattle.report_types.specs.declared.report.HistoryLine.{HistoryLine}
use Rattle.report_types.specs.declared.report.HistoryLine.TheVariants as history
use Rattle.report_writing.specs.Reports.{args_text, ended, history_text}
use Rattle.report_writing.specs.Writing.{from_words, spaced}
use Rattle.change_script.specs.Written.{IsNumber}
use Rattle.change_script.specs.StatementTexts.{IsInteger}
use Rattle.report_lines.proofs.TextLaws.{lacks_at, line_is}
use Rattle.report_lines.specs.declared.verbs.Bare.{Bare}
use Rattle.report_lines.specs.declared.verbs.Bare.TheVariants as bares
use Rattle.report_lines.specs.declared.verbs.OneNumber.{OneNumber}
use Rattle.report_lines.specs.declared.verbs.OneNumber.TheVariants as singles
use Rattle.report_lines.specs.declared.verbs.TwoNumbers.{TwoNumbers}
use Rattle.report_lines.specs.declared.verbs.TwoNumbers.TheVariants as doubles
use Rattle.report_lines.specs.declared.verbs.HistoryVerb.{HistoryVerb}
use Rattle.report_lines.specs.declared.verbs.HistoryVerb.TheVariants as verbs
use Rattle.report_lines.specs.Parts.{is_used_up, words}
use Rattle.report_lines.specs.Numbers.{max32, max64, one_in, three_in, two_in}
use Rattle.report_lines.specs.Readings.{history_verbs, bare_bytes, bare_line, two_numbers_bytes, two_numbers_line, line_by, line_in, line_named, one_number_bytes, one_number_line, system_in, history_verb_bytes, history_verb_named}
use Rattle.report_lines.specs.ReportLines.{IsLine, IsName, lacks}
use Rattle.report_lines.proofs.NumberLemmas.{Unspaced, decimal_unspaced, ended_is, mapped, one_is, one_of, three_are, three_of, two_are, two_numbers_of}
use Rattle.report_lines.proofs.EventLemmas.{AllUnspaced, words_are, words_of}
use Rattle.report_lines.proofs.BracketLemmas.{PartsLack, split_lack}
use Rattle.report_lines.proofs.IntegerLemmas.{args_lack}
use Rattle.report_lines.proofs.MakeLemmas.{are_system, bracket_lacks, bracket_text, kind_text_lacks, make_of_written, says_make, system_of_written, system_text}

bare_written : (bare : Bare) → ended (bare_bytes bare) ≡ history_text (bare_line bare)
bare_written bares.Commit = refl
bare_written bares.Abandon = refl
bare_written bares.Skipped = refl
bare_written bares.Stop = refl

bare_has : (bare : Bare) → IsLine (bare_line bare)
bare_has bares.Commit = tt
bare_has bares.Abandon = tt
bare_has bares.Skipped = tt
bare_has bares.Stop = tt

bare_alone : (bare : Bare) → ended (bare_bytes bare ++ spaced []) ≡ ended (bare_bytes bare)
bare_alone bares.Commit = refl
bare_alone bares.Abandon = refl
bare_alone bares.Skipped = refl
bare_alone bares.Stop = refl

single_written : (single : OneNumber) (n : ℕ) → ended (one_number_bytes single ++ spaced (decimal n ∷ [])) ≡ history_text (one_number_line single n)
single_written singles.Unlink n = refl
single_written singles.Remove n = refl
single_written singles.Close n = refl
single_written singles.Reopen n = refl
single_written singles.Pending n = refl

single_has : (single : OneNumber) (n : ℕ) → IsNumber n → IsLine (one_number_line single n)
single_has singles.Unlink n is = is
single_has singles.Remove n is = is
single_has singles.Close n is = is
single_has singles.Reopen n is = is
single_has singles.Pending n is = is

double_written : (double : TwoNumbers) (a b : ℕ) → ended (two_numbers_bytes double ++ spaced (decimal a ∷ decimal b ∷ [])) ≡ history_text (two_numbers_line double a b)
double_written doubles.Drained a b = refl
double_written doubles.Root a b = refl
double_written doubles.Finish a b = refl

double_has : (double : TwoNumbers) (a b : ℕ) → IsNumber a × IsNumber b → IsLine (two_numbers_line double a b)
double_has doubles.Drained a b are = are
double_has doubles.Root a b are = are
double_has doubles.Finish a b are = are

-- what a verb and its words say
record SaysBy (verb : HistoryVerb) (rest : List (List ℕ)) (says : HistoryLine) : Type 0 where
  text : ended (history_verb_bytes verb ++ spaced rest) ≡ history_text says
  has : IsLine says

says_by : (verb : HistoryVerb) (rest : List (List ℕ)) (says : HistoryLine) → PartsLack 32 rest → line_by verb rest ≡ Some says → SaysBy verb rest says
says_by verbs.Start rest says lack e =
    let m = mapped (λ s. history.Start s.0 s.1) (system_in rest) says e in
    let system = are_system rest m.value lack m.found in
    record {
      text = ap (λ ws. ended (codes "start" ++ spaced ws)) system.texts ∙ ap ended (sym (system_text (codes "start") m.value.0 m.value.1)) ∙ ap history_text m.gives;
      has = subst IsLine m.gives (system.name, system.small);
    }
says_by verbs.Change rest says lack e =
    let m = mapped (λ s. history.Change s.0 s.1) (system_in rest) says e in
    let system = are_system rest m.value lack m.found in
    record {
      text = ap (λ ws. ended (codes "change" ++ spaced ws)) system.texts ∙ ap ended (sym (system_text (codes "change") m.value.0 m.value.1)) ∙ ap history_text m.gives;
      has = subst IsLine m.gives (system.name, system.small);
    }
says_by verbs.Make rest says lack e =
    let m = says_make rest says lack e in
    record {
      text = ap (λ ws. ended (codes "make" ++ spaced ws)) m.2.texts ∙ ap history_text m.2.gives;
      has = subst IsLine m.2.gives (m.2.small, m.2.path, m.2.arg, m.2.from);
    }
says_by verbs.Link rest says lack e =
    let m = mapped (λ n. history.Link n.0 n.1 n.2) (three_in rest) says e in
    let n = three_are rest m.value m.found in
    record {
      text = ap (λ ws. ended (codes "link" ++ spaced ws)) n.texts ∙ ap history_text m.gives;
      has = subst IsLine m.gives (omega (arith, n.first), omega (arith, n.second), omega (arith, n.third));
    }
says_by verbs.Run rest says lack e =
    let m = mapped (λ n. history.Run n.0 n.1) (two_in max64 rest) says e in
    let n = two_are max64 rest m.value (omega arith) m.found in
    record {
      text = ap (λ ws. ended (codes "run" ++ spaced ws)) n.texts ∙ ap history_text m.gives;
      has = subst IsLine m.gives (omega (arith, n.first), omega (arith, n.second));
    }
says_by (verbs.Bare bare) rest says lack e =
    let alone = when_some (is_used_up rest) (Some (bare_line bare)) says e in
    let is = same_Some (bare_line bare) says alone.1 in
    record {
      text = ap (λ ws. ended (bare_bytes bare ++ spaced ws)) (ended_is rest alone.0) ∙ bare_alone bare ∙ bare_written bare ∙ ap history_text is;
      has = subst IsLine is (bare_has bare);
    }
says_by (verbs.OneNumber single) rest says lack e =
    let m = mapped (one_number_line single) (one_in max32 rest) says e in
    let n = one_is max32 rest m.value (omega arith) m.found in
    record {
      text = ap (λ ws. ended (one_number_bytes single ++ spaced ws)) n.texts ∙ single_written single m.value ∙ ap history_text m.gives;
      has = subst IsLine m.gives (single_has single m.value (omega (arith, n.low)));
    }
says_by (verbs.TwoNumbers double) rest says lack e =
    let m = mapped (λ n. two_numbers_line double n.0 n.1) (two_in max32 rest) says e in
    let n = two_are max32 rest m.value (omega arith) m.found in
    record {
      text = ap (λ ws. ended (two_numbers_bytes double ++ spaced ws)) n.texts ∙ double_written double m.value.0 m.value.1 ∙ ap history_text m.gives;
      has = subst IsLine m.gives (double_has double m.value.0 m.value.1 (omega (arith, n.first), omega (arith, n.second)));
    }

record Says (line : List ℕ) (says : HistoryLine) : Type 0 where
  text : ended line ≡ history_text says
  has : IsLine says

says_named : (line verb : List ℕ) (rest : List (List ℕ)) (found : Option HistoryVerb) (says : HistoryLine) → line ≡ verb ++ spaced rest → PartsLack 32 rest → found ≡ history_verb_named verb
    → line_named found rest ≡ Some says → Says line says
says_named line verb rest None says at lack is e = let never : ⊥ = cc in absurd never
says_named line verb rest (Some named) says at lack is e =
    let by = says_by named rest says lack e in
    let name : history_verb_bytes named ≡ verb = same_bytes (history_verb_bytes named) verb (find_passes (λ v. bytes_eq (history_verb_bytes v) verb) history_verbs named (sym is)) in
    record { text = ap ended (at ∙ ap (λ w. w ++ spaced rest) (sym name)) ∙ by.text; has = by.has }

says_words : (line : List ℕ) (parts : List (List ℕ)) (says : HistoryLine) → words line ≡ parts → line_in parts ≡ Some says → Says line says
says_words line [] says is e = let never : ⊥ = cc in absurd never
says_words line (verb ∷ rest) says is e =
    let lack = subst (PartsLack 32) is (split_lack 32 line) in
    says_named line verb rest (history_verb_named verb) says (words_are line verb rest is) lack.1 refl e

-- A line says something of the history only as this is written.
pub line_says : (line : List ℕ) (says : HistoryLine) → line_in (words line) ≡ Some says → (ended line ≡ history_text says) × IsLine says
line_says line says e = let all = says_words line (words line) says refl e in (all.text, all.has)

verb_unspaced : (verb : HistoryVerb) → lacks 32 (history_verb_bytes verb) ≡ true
verb_unspaced verbs.Start = refl
verb_unspaced verbs.Change = refl
verb_unspaced verbs.Make = refl
verb_unspaced verbs.Link = refl
verb_unspaced verbs.Run = refl
verb_unspaced (verbs.Bare bares.Commit) = refl
verb_unspaced (verbs.Bare bares.Abandon) = refl
verb_unspaced (verbs.Bare bares.Skipped) = refl
verb_unspaced (verbs.Bare bares.Stop) = refl
verb_unspaced (verbs.OneNumber singles.Unlink) = refl
verb_unspaced (verbs.OneNumber singles.Remove) = refl
verb_unspaced (verbs.OneNumber singles.Close) = refl
verb_unspaced (verbs.OneNumber singles.Reopen) = refl
verb_unspaced (verbs.OneNumber singles.Pending) = refl
verb_unspaced (verbs.TwoNumbers doubles.Drained) = refl
verb_unspaced (verbs.TwoNumbers doubles.Root) = refl
verb_unspaced (verbs.TwoNumbers doubles.Finish) = refl

known : (verb : HistoryVerb) (rest : List (List ℕ)) → line_in (history_verb_bytes verb ∷ rest) ≡ line_by verb rest
known verbs.Start rest = refl
known verbs.Change rest = refl
known verbs.Make rest = refl
known verbs.Link rest = refl
known verbs.Run rest = refl
known (verbs.Bare bares.Commit) rest = refl
known (verbs.Bare bares.Abandon) rest = refl
known (verbs.Bare bares.Skipped) rest = refl
known (verbs.Bare bares.Stop) rest = refl
known (verbs.OneNumber singles.Unlink) rest = refl
known (verbs.OneNumber singles.Remove) rest = refl
known (verbs.OneNumber singles.Close) rest = refl
known (verbs.OneNumber singles.Reopen) rest = refl
known (verbs.OneNumber singles.Pending) rest = refl
known (verbs.TwoNumbers doubles.Drained) rest = refl
known (verbs.TwoNumbers doubles.Root) rest = refl
known (verbs.TwoNumbers doubles.Finish) rest = refl

read_of : (verb : HistoryVerb) (rest : List (List ℕ)) (line : List ℕ) (says : HistoryLine) → AllUnspaced rest → ended line ≡ ended (history_verb_bytes verb ++ spaced rest)
    → line_by verb rest ≡ Some says → line_in (words line) ≡ Some says
read_of verb rest line says all is by =
    ap (λ l. line_in (words l)) (line_is line (history_verb_bytes verb ++ spaced rest) is)
    ∙ ap line_in (words_of (history_verb_bytes verb) rest (lacks_at 32 (history_verb_bytes verb) (verb_unspaced verb)) all) ∙ known verb rest ∙ by

single_of : (single : OneNumber) (n : ℕ) (line : List ℕ) → IsNumber n → ended line ≡ history_text (one_number_line single n) → line_in (words line) ≡ Some (one_number_line single n)
single_of single n line small is =
    read_of (verbs.OneNumber single) (decimal n ∷ []) line (one_number_line single n) (decimal_unspaced n (omega (arith, small)), tt) (is ∙ sym (single_written single n))
    (ap (option_map (one_number_line single)) (one_of max32 n (omega arith) (omega (arith, small))))

two_unspaced : (a b : ℕ) → a < 2 ^ 64 → b < 2 ^ 64 → AllUnspaced (decimal a ∷ decimal b ∷ [])
two_unspaced a b p q = (decimal_unspaced a p, (decimal_unspaced b q, tt))

double_of : (double : TwoNumbers) (a b : ℕ) (line : List ℕ) → IsNumber a × IsNumber b → ended line ≡ history_text (two_numbers_line double a b) → line_in (words line) ≡ Some (two_numbers_line double a b)
double_of double a b line small is =
    read_of (verbs.TwoNumbers double) (decimal a ∷ decimal b ∷ []) line (two_numbers_line double a b) (two_unspaced a b (omega (arith, small.0)) (omega (arith, small.1)))
    (is ∙ sym (double_written double a b))
    (ap (option_map (λ (n : ℕ × ℕ). two_numbers_line double n.0 n.1)) (two_numbers_of max32 a b (omega arith) (omega (arith, small.0)) (omega (arith, small.1))))

bare_of : (bare : Bare) (line : List ℕ) → ended line ≡ history_text (bare_line bare) → line_in (words line) ≡ Some (bare_line bare)
bare_of bare line is = read_of (verbs.Bare bare) [] line (bare_line bare) tt (is ∙ sym (bare_alone bare ∙ bare_written bare)) refl

system_unspaced : (name : List ℕ) (args : List ℤ) → IsName name → AllByRecursion IsInteger args → Unspaced (bracket_text name (args_text args))
system_unspaced name args is small = lacks_at 32 (bracket_text name (args_text args)) (bracket_lacks name (args_text args) is.1 (args_lack 32 args (omega arith) small))

from_unspaced : (from : Option ℕ) → IfSome from IsNumber → AllUnspaced (from_words from)
from_unspaced None small = tt
from_unspaced (Some slot) small = (lacks_at 32 (codes "from") refl, (decimal_unspaced slot (omega (arith, small)), tt))

-- What is written of a line says it.
pub line_of : (line : List ℕ) (says : HistoryLine) → IsLine says → ended line ≡ history_text says → line_in (words line) ≡ Some says
line_of line (history.Start name args) are is =
    read_of verbs.Start (bracket_text name (args_text args) ∷ []) line (history.Start name args) (system_unspaced name args are.0 are.1, tt)
    (is ∙ ap ended (system_text (codes "start") name args)) (ap (option_map (λ (s : List ℕ × List ℤ). history.Start s.0 s.1)) (system_of_written name args are.0 are.1))
line_of line (history.Change name args) are is =
    read_of verbs.Change (bracket_text name (args_text args) ∷ []) line (history.Change name args) (system_unspaced name args are.0 are.1, tt)
    (is ∙ ap ended (system_text (codes "change") name args)) (ap (option_map (λ (s : List ℕ × List ℤ). history.Change s.0 s.1)) (system_of_written name args are.0 are.1))
line_of line (history.Make slot node from) are is =
    read_of verbs.Make (decimal slot ∷ node.path ∷ kind_text node.kind node.arg ∷ from_words from) line (history.Make slot node from) (
      decimal_unspaced slot (omega (arith, are.0)),
      (
        lacks_at 32 node.path are.1.1,
        (lacks_at 32 (kind_text node.kind node.arg) (kind_text_lacks node.kind node.arg are.2), from_unspaced from are.3),
      ),
    ) is
    (make_of_written slot node.path node.kind node.arg from are.0 are.1 are.2 are.3)
line_of line (history.Link p n x) are is =
    read_of verbs.Link (decimal p ∷ decimal n ∷ decimal x ∷ []) line (history.Link p n x)
    (decimal_unspaced p (omega (arith, are.0)), (decimal_unspaced n (omega (arith, are.1)), (decimal_unspaced x (omega (arith, are.2)), tt))) is
    (ap (option_map (λ (n : ℕ × ℕ × ℕ). history.Link n.0 n.1 n.2)) (three_of p n x (omega (arith, are.0)) (omega (arith, are.1)) (omega (arith, are.2))))
line_of line (history.Unlink port) small is = single_of singles.Unlink port line small is
line_of line (history.Remove node) small is = single_of singles.Remove node line small is
line_of line (history.Close port) small is = single_of singles.Close port line small is
line_of line (history.Reopen port) small is = single_of singles.Reopen port line small is
line_of line (history.Drained port serial) small is = double_of doubles.Drained port serial line small is
line_of line history.Commit has is = bare_of bares.Commit line is
line_of line history.Abandon has is = bare_of bares.Abandon line is
line_of line history.Skipped has is = bare_of bares.Skipped line is
line_of line (history.Pending rounds) small is = single_of singles.Pending rounds line small is
line_of line (history.Root port serial) small is = double_of doubles.Root port serial line small is
line_of line (history.Run k done) small is =
    read_of verbs.Run (decimal k ∷ decimal done ∷ []) line (history.Run k done) (two_unspaced k done (omega (arith, small.0)) (omega (arith, small.1))) is
    (ap (option_map (λ (n : ℕ × ℕ). history.Run n.0 n.1)) (two_numbers_of max64 k done (omega arith) (omega (arith, small.0)) (omega (arith, small.1))))
line_of line (history.Finish n rounds) small is = double_of doubles.Finish n rounds line small is
line_of line (history.Show graph) never is = absurd never
line_of line history.Stop has is = bare_of bares.Stop line is

-- what is found, where it is what the words of the line say
pub found_line : {E : Type 0} (line : List ℕ) (result : Result (Option HistoryLine) E) → IfOk result (λ found. found ≡ line_in (words line))
    → IfOk result (λ found. IfSome found (λ says. (ended line ≡ history_text says) × IsLine says))
found_line line (Ok None) is = tt
found_line line (Ok (Some says)) is = line_says line says (sym is)
found_line line (Err e) is = tt

pub whenever_line : {E : Type 0} (line : List ℕ) (result : Result (Option HistoryLine) E) → IfOk result (λ found. found ≡ line_in (words line))
    → IfOk result (λ found. (says : HistoryLine) → IsLine says → ended line ≡ history_text says → found ≡ Some says)
whenever_line line (Ok found) is = λ says can same. is ∙ line_of line says can same
whenever_line line (Err e) is = tt
