-- Numbers on threads are no less than those asked for in rounds, and a lawful report is consistent.
use Rattle.std.proofs.Common.{◌≡◌, ◌∙◌, ◌<◌, Bool, true, false, not, cond, List, [], ◌∷◌, ◌++◌, length, Some, refl, sym, ap, ⊎_elim, arith}
use Rattle.std.specs.Prelude.{slice_get}
use Rattle.std.specs.List.{list_all}
use Rattle.std.proofs.lemmas.Bool.{and_from, and_parts, both_ways, le-leb}
use Rattle.base.specs.Each.{Each, EachAfter}
use Rattle.base.proofs.EachLaws.{each_weaker}
use Rattle.report_types.specs.declared.report.HistoryLine.{HistoryLine}
use Rattle.report_types.specs.declared.report.HistoryLine.TheVariants as to
use Rattle.report_types.specs.declared.report.Report.{Report}
use Rattle.change_spec.specs.Consistent.{Consistent, keeps_to_limit}
use Rattle.change_spec.specs.Lawful.{CameToRest, IsEndedAt, IsFewAt, IsFinishAt, IsRunAt, Lawful, LawfulInRounds, LawfulOnThreads, Merge, NumbersInRounds, NumbersOnThreads}
use Rattle.change_spec.specs.Members.{Member, by_node, of_history, is_root, lines, without_roots}
use Rattle.change_spec.specs.Serial.{Serial}
use Rattle.change_spec.specs.Statements.{Statement}
use Rattle.change_spec.proofs.MemberLaws.{lines_parts}
use Rattle.change_spec.proofs.SerialLaws.{one_serial}

-- ---- numbers

ended_too : (before : List Member) (x : Member) → IsRunAt before x → IsEndedAt before x
ended_too before (of_history (to.Run k n)) h = h.0
ended_too before _ h = tt

few_too : (before : List Member) (x : Member) → IsFinishAt before x → IsFewAt before x
few_too before (of_history (to.Finish n r)) h = ⊎_elim (λ (e : r ≡ n). omega (arith, e)) (λ (w : (r < n) × CameToRest before). omega (arith, w.0)) h
few_too before _ h = tt

pub numbers_in_rounds : (m : List Member) → NumbersOnThreads m → NumbersInRounds m
numbers_in_rounds m h = record { ended = each_weaker IsRunAt IsEndedAt [] m ended_too h.runs_end; few = each_weaker IsFinishAt IsFewAt [] m few_too h.finishes_end }

-- ---- all lines keep to their limit

keeps : (before : List Member) (l : HistoryLine) → IsFewAt before (of_history l) → keeps_to_limit l ≡ true
keeps before (to.Finish n r) h = le-leb r n h
keeps before _ h = refl

keep_all : (before m : List Member) → EachAfter IsFewAt before m → list_all keeps_to_limit (lines m) ≡ true
keep_all before [] h = refl
keep_all before (by_node e ∷ m) h = keep_all (before ++ by_node e ∷ []) m h.1
keep_all before (of_history l ∷ m) h = and_from (keeps_to_limit l) (list_all keeps_to_limit (lines m)) (keeps before l h.0) (keep_all (before ++ of_history l ∷ []) m h.1)

root_keeps : (l : HistoryLine) → is_root l ≡ true → keeps_to_limit l ≡ true
root_keeps (to.Finish n r) h = absurd (both_ways false refl h)
root_keeps _ h = refl

with_roots : (history : List HistoryLine) → list_all keeps_to_limit (without_roots history) ≡ true → list_all keeps_to_limit history ≡ true
with_roots [] h = refl
with_roots (l ∷ ls) h = by (with_roots ls) (is_root l) refl
  where
    by : (list_all keeps_to_limit (without_roots ls) ≡ true → list_all keeps_to_limit ls ≡ true) → (b : Bool) → is_root l ≡ b → list_all keeps_to_limit (l ∷ ls) ≡ true
    by further true root =
        and_from (keeps_to_limit l) (list_all keeps_to_limit ls) (root_keeps l root)
        (further (sym (ap (λ b. list_all keeps_to_limit (cond (not b) (l ∷ without_roots ls) (without_roots ls))) root) ∙ h))
    by further false root =
        let all = and_parts (keeps_to_limit l) (list_all keeps_to_limit (without_roots ls)) (sym (ap (λ b. list_all keeps_to_limit (cond (not b) (l ∷ without_roots ls) (without_roots ls))) root) ∙ h) in
        and_from (keeps_to_limit l) (list_all keeps_to_limit ls) all.0 (further all.1)

few_are_consistent : (statements : List Statement) (report : Report) (l : Lawful statements report) → Each IsFewAt l.members → Consistent statements report
few_are_consistent statements report l few =
    record { lawful = l; few_rounds = with_roots report.history (ap (list_all keeps_to_limit) (sym l.by_them.merge.history) ∙ keep_all [] l.members few) }

pub consistent_on_threads : (statements : List Statement) (report : Report) → LawfulOnThreads statements report → Consistent statements report
consistent_on_threads statements report h = few_are_consistent statements report h.lawful (numbers_in_rounds h.lawful.members h.numbers).few

pub consistent_in_rounds : (statements : List Statement) (report : Report) (serial : Serial statements report) → LawfulInRounds statements report serial → Consistent statements report
consistent_in_rounds statements report serial h = few_are_consistent statements report h.lawful h.numbers.few

-- ---- the rounds have each line at its place

pub of_rounds : (statements : List Statement) (rounds report : Report) → Serial statements rounds → Serial statements report → (m before after : List Member) (l : HistoryLine) → Merge m report
    → m ≡ before ++ of_history l ∷ after → slice_get (without_roots rounds.history) (length (lines before)) ≡ Some l
of_rounds statements rounds report own serial m before after l merge parts =
    let all : without_roots report.history ≡ lines before ++ l ∷ lines after = sym merge.history ∙ ap lines parts ∙ lines_parts before (of_history l ∷ after) in
    ap (λ (r : Report). slice_get (without_roots r.history) (length (lines before))) (one_serial statements rounds report own serial)
    ∙ ap (λ ls. slice_get ls (length (lines before))) all ∙ at_place (lines before) (lines after)
  where
    at_place : (xs ys : List HistoryLine) → slice_get (xs ++ l ∷ ys) (length xs) ≡ Some l
    at_place [] ys = refl
    at_place (x ∷ xs) ys = at_place xs ys
