-- Each node of a lawful report has a fold at the end.
use Rattle.std.proofs.Common.{◌≡◌, ◌∙◌, ℕ, zero, suc, ◌<◌, List, [], ◌∷◌, map, length, get_or, Some, refl, sym, ap, subst, arith}
use Rattle.std.specs.Prelude.{All, slice_get}
use Rattle.std.specs.List.{range_with_len}
use Rattle.change_spec.specs.Endings.{moved_to}
use Rattle.change_spec.specs.Lawful.{IsFolded}
use Rattle.change_spec.specs.Members.{Member, events}
use Rattle.change_spec.specs.Opening.{fold_of_node}
use Rattle.report_types.specs.declared.report.HistoryLine.{HistoryLine}
use Rattle.report_types.specs.declared.report.NodeLog.{NodeLog}
use Rattle.quiesce_core.specs.Runs.{state_after}
use Rattle.quiesce_core.proofs.TableLaws.{live_made}
use Rattle.std.proofs.lemmas.Option.{none-some, same_Some}
use Rattle.change_transcript_laws.specs.Rests.{HaveFolds}
use Rattle.base.proofs.RangeLaws.{range_at}
use Rattle.change_spec.proofs.MemberLaws.{ended_there}

log_at : (xs : List NodeLog) (i n : ℕ) → slice_get (map (λ (l : NodeLog). l.slot) xs) i ≡ Some n → (l : NodeLog) × (i < length xs) × (get_or xs i l ≡ l) × (l.slot ≡ n)
log_at [] i n h = absurd (none-some n h)
log_at (x ∷ xs) zero n h = (x, omega arith, refl, same_Some x.slot n h)
log_at (x ∷ xs) (suc i) n h = let w = log_at xs i n h in (w.0, omega (arith, w.1), w.2, w.3)

pub have_folds : (ms : List Member) (history : List HistoryLine) (logs : List NodeLog) → All (IsFolded ms history) logs
    → map (λ (l : NodeLog). l.slot) logs ≡ range_with_len 0 (length (state_after (events ms)).config.slots) → HaveFolds (events ms)
have_folds ms history logs folds slots n live =
    let made = live_made (state_after (events ms)).config n live in
    let w = log_at logs n n (ap (λ xs. slice_get xs n) slots ∙ range_at 0 (length (state_after (events ms)).config.slots) n made ∙ ap Some (omega arith)) in
    let here = subst (IsFolded ms history) w.2 (folds n w.0 w.1) in
    let s = ended_there (fold_of_node (events ms) w.0.slot) (moved_to history w.0.slot) w.0.last here in
    (s.0, ap (fold_of_node (events ms)) (sym w.3) ∙ s.1)
