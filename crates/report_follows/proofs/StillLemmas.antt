-- The lines of a run, a finish, a show and a change that isn't tried: what a reader finds of them is there, and it finds what is there.
use Rattle.std.proofs.Common.{◌≡◌, ◌∙◌, ℕ, Bool, true, false, List, [], ◌∷◌, ◌++◌, Some, refl, ap, ap₂}
use Rattle.std.specs.Prelude.{ℤ, option_and_then}
use Rattle.std.proofs.lemmas.Bool.{both_ways, eq-eqb, eqb-true}
use Rattle.report_types.specs.declared.report.HistoryLine.{HistoryLine}
use Rattle.report_types.specs.declared.report.HistoryLine.TheVariants as to
use Rattle.change_spec.specs.Follows.{IsFinishLine, IsRunLine, IsShowLine, skip_lines}
use Rattle.report_follows.specs.Fronts.{LeadsTo, behind_first, behind_skipped, is_change_line, is_finish_line, is_run_line, is_show_line, is_skipped_line}
use Rattle.report_follows.proofs.LineLemmas.{first_finds, first_means}
use Rattle.report_follows.proofs.OpeningLemmas.{both_same, change_is}
use Rattle.base.proofs.OptionLaws.{made_of_one}

-- ---- one line

run_is : (k : ℕ) (l : HistoryLine) → is_run_line k l ≡ true → IsRunLine k (l ∷ [])
run_is k (to.Run asked ended) h = record { ended = ended; are = ap (λ n. to.Run n ended ∷ []) (eqb-true asked k h) }
run_is k _ h = absurd (both_ways false refl h)

finish_is : (n : ℕ) (l : HistoryLine) → is_finish_line n l ≡ true → IsFinishLine n (l ∷ [])
finish_is n (to.Finish most rounds) h = record { rounds = rounds; are = ap (λ k. to.Finish k rounds ∷ []) (eqb-true most n h) }
finish_is n _ h = absurd (both_ways false refl h)

show_is : (l : HistoryLine) → is_show_line l ≡ true → IsShowLine (l ∷ [])
show_is (to.Show g) h = record { graph = g; are = refl }
show_is _ h = absurd (both_ways false refl h)

one_means : (Is : List HistoryLine → Type 0) (test : HistoryLine → Bool) → ((l : HistoryLine) → test l ≡ true → Is (l ∷ [])) → (ls rest : List HistoryLine) → behind_first test ls ≡ Some rest → LeadsTo Is ls rest
one_means Is test is ls rest h = let f = first_means test ls rest h in record { front = f.line ∷ []; is = is f.line f.passes; parts = f.are }

pub run_means : (k : ℕ) (ls rest : List HistoryLine) → behind_first (is_run_line k) ls ≡ Some rest → LeadsTo (IsRunLine k) ls rest
run_means k ls rest h = one_means (IsRunLine k) (is_run_line k) (run_is k) ls rest h

pub run_finds : (k : ℕ) (ls front rest : List HistoryLine) → IsRunLine k front → ls ≡ front ++ rest → behind_first (is_run_line k) ls ≡ Some rest
run_finds k ls front rest x are = first_finds (is_run_line k) (to.Run k x.ended) ls rest (eq-eqb k k refl) (are ∙ ap (λ xs. xs ++ rest) x.are)

pub finish_means : (n : ℕ) (ls rest : List HistoryLine) → behind_first (is_finish_line n) ls ≡ Some rest → LeadsTo (IsFinishLine n) ls rest
finish_means n ls rest h = one_means (IsFinishLine n) (is_finish_line n) (finish_is n) ls rest h

pub finish_finds : (n : ℕ) (ls front rest : List HistoryLine) → IsFinishLine n front → ls ≡ front ++ rest → behind_first (is_finish_line n) ls ≡ Some rest
finish_finds n ls front rest x are = first_finds (is_finish_line n) (to.Finish n x.rounds) ls rest (eq-eqb n n refl) (are ∙ ap (λ xs. xs ++ rest) x.are)

pub show_means : (ls rest : List HistoryLine) → behind_first is_show_line ls ≡ Some rest → LeadsTo IsShowLine ls rest
show_means ls rest h = one_means IsShowLine is_show_line show_is ls rest h

pub show_finds : (ls front rest : List HistoryLine) → IsShowLine front → ls ≡ front ++ rest → behind_first is_show_line ls ≡ Some rest
show_finds ls front rest x are = first_finds is_show_line (to.Show x.graph) ls rest refl (are ∙ ap (λ xs. xs ++ rest) x.are)

-- ---- the two lines of a change that isn't tried

skipped_is : (l : HistoryLine) → is_skipped_line l ≡ true → l ≡ to.Skipped
skipped_is to.Skipped h = refl
skipped_is _ h = absurd (both_ways false refl h)

pub skipped_means : (name : List ℕ) (args : List ℤ) (ls rest : List HistoryLine) → behind_skipped name args ls ≡ Some rest → ls ≡ skip_lines name args ++ rest
skipped_means name args ls rest h =
    let w = made_of_one (behind_first is_skipped_line) (behind_first (is_change_line name args) ls) rest h in
    let f = first_means (is_change_line name args) ls w.0 w.1 in
    let s = first_means is_skipped_line w.0 rest w.2 in
    f.are ∙ ap₂ (λ l xs. l ∷ xs) (change_is name args f.line f.passes) (s.are ∙ ap (λ l. l ∷ rest) (skipped_is s.line s.passes))

pub skipped_finds : (name : List ℕ) (args : List ℤ) (ls rest : List HistoryLine) → ls ≡ skip_lines name args ++ rest → behind_skipped name args ls ≡ Some rest
skipped_finds name args ls rest are =
    ap (option_and_then (behind_first is_skipped_line)) (first_finds (is_change_line name args) (to.Change name args) ls (to.Skipped ∷ rest) (both_same name args) are)
    ∙ first_finds is_skipped_line to.Skipped (to.Skipped ∷ rest) rest refl refl
