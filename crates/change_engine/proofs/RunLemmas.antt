-- Looks and scans of a run.
use Rattle.std.proofs.Common.{◌≡◌, ℕ, ◌+◌, ◌-◌, ◌<◌, ◌≤◌, Bool, true, false, cond, List, [], ◌∷◌, ◌++◌, refl, sym, ap, ◌∙◌, arith}
use Rattle.std.specs.Prelude.{◌||◌, nat_le}
use Rattle.std.proofs.lemmas.Bool.{le-leb, lt-leb, or_right}
use Rattle.std.proofs.lemmas.List.Sums.{fold_push, sum_by-append}
use Rattle.txn_records.specs.declared.looking.Look.TheVariants.{Drained, Busy}
use Rattle.txn_records.specs.Looks.{ended_in_word, is_drained_word, is_idle_word, look_of, serial_of}
use Rattle.change_board.specs.Scans.{Found, ended_in}
use Rattle.change_engine.specs.Finishing.{ScanSeen}
use Rattle.change_engine.specs.Running.{ended_by, ended_since, is_out_after, ends_run, are_enough}

-- what a look answers shows as many transactions as ended as the word
pub ended_looked : (w : ℕ) → ended_by (look_of w) ≡ ended_in_word w
ended_looked w = by (is_drained_word w)
  where
    by : (b : Bool) → ended_by (cond b (Drained (serial_of w) (is_idle_word w)) (Busy w)) ≡ ended_in_word w
    by true = refl
    by false = refl

pub looks_pushed : (looks : List Found) (f : Found) → ended_in (looks ++ f ∷ []) ≡ ended_in looks + ended_in_word f.word
looks_pushed looks f = sum_by-append (λ (f : Found). ended_in_word f.word) looks (f ∷ []) ∙ omega arith

pub since_pushed : (shown : ℕ) (scans : List ScanSeen) (w : ScanSeen) → ended_since shown (scans ++ w ∷ []) ≡ w.answer.ended - shown
since_pushed shown scans w = fold_push (λ n (w : ScanSeen). w.answer.ended - shown) 0 scans w

pub out_pushed : (alone : Bool) (scans : List ScanSeen) (w : ScanSeen) → is_out_after alone (scans ++ w ∷ []) ≡ ends_run alone w.answer
out_pushed alone scans w = fold_push (λ b (w : ScanSeen). ends_run alone w.answer) false scans w

-- a run goes on where fewer ended than were asked for, and the last scan wasn't the last
pub run_on : (alone : Bool) (k shown ended : ℕ) (scans : List ScanSeen) → ended ≡ ended_since shown scans → ended < k → is_out_after alone scans ≡ false → are_enough alone k shown scans ≡ false
run_on alone k shown ended scans is few on = ap (λ b. b || is_out_after alone scans) (ap (nat_le k) (sym is) ∙ lt-leb k ended few) ∙ on

pub run_enough : (alone : Bool) (k shown ended : ℕ) (scans : List ScanSeen) → ended ≡ ended_since shown scans → k ≤ ended → are_enough alone k shown scans ≡ true
run_enough alone k shown ended scans is enough = ap (λ b. b || is_out_after alone scans) (ap (nat_le k) (sym is) ∙ le-leb k ended enough)

pub run_out : (alone : Bool) (k shown : ℕ) (scans : List ScanSeen) → is_out_after alone scans ≡ true → are_enough alone k shown scans ≡ true
run_out alone k shown scans out = or_right (nat_le k (ended_since shown scans)) (is_out_after alone scans) out
