-- How waits break off.
use Rattle.std.proofs.Common.{◌≡◌, ℕ, ◌<◌, List, [], ◌∷◌, ◌++◌, append_assoc, length, ap, ◌∙◌, subst, inl, inr, arith}
use Rattle.std.specs.Prelude.{◌⊎◌}
use Rattle.std.proofs.lemmas.List.Elements.{filter_map-append}
use Rattle.report_types.specs.declared.report.HistoryLine.{HistoryLine}
use Rattle.report_types.specs.declared.report.HistoryLine.TheVariants as to
use Rattle.txn_records.specs.Entries.{event_in, events_in}
use Rattle.txn_records.specs.declared.entry.Entry.{Entry}
use Rattle.txn_records.specs.Records.{Adds}
use Rattle.change_board.specs.Transcripts.{entries, lines}
use Rattle.change_engine.specs.Breaking.{BrokeInRound, BrokeInRun, BrokeInScan, BrokeInStop}
use Rattle.change_engine.specs.Growing.{BrokeOff, Grew, telling}
use Rattle.change_engine.specs.Passivating.{IsPassivation, Passivation, left_after, passivation_items}
use Rattle.change_board.specs.declared.board.Board.{Ghosts as BoardWords}
use Rattle.change_engine.specs.Stopping.{stop_items}

pub stop_told : (h i j : List HistoryLine) (ports : List ℕ) (how : Passivation) → i ≡ h ++ to.Stop ∷ [] → j ≡ i ++ lines (passivation_items ports how) → j ≡ h ++ lines (stop_items ports how)
stop_told h i j ports how e f = f ∙ ap (λ ls. ls ++ lines (passivation_items ports how)) e ∙ append_assoc h (to.Stop ∷ []) (lines (passivation_items ports how))

module _ {B : Type 0} (W : BoardWords B) where
  -- looks and scans alone, before a call that breaks off or none
  pub saw_alone : (a b : B) (es : List Entry) → events_in es ≡ [] → Adds W.stands_for a b es → BrokeInRun W a b
  saw_alone a b es quiet x = record { seen = es; none_done = quiet; stands = λ r s. inl (x r s) }

  pub broke_behind : (a b c : B) (es : List Entry) → events_in es ≡ [] → Adds W.stands_for a b es → ((r : List Entry) → W.stands_for b r → W.broke_off c r) → BrokeInRun W a c
  broke_behind a b c es quiet x h = record { seen = es; none_done = quiet; stands = λ r s. inr (h (r ++ es) (x r s)) }

  pub saw_before : (a b c : B) (es : List Entry) → events_in es ≡ [] → Adds W.stands_for a b es → BrokeInRun W b c → BrokeInRun W a c
  saw_before a b c es quiet x y = record {
    seen = es ++ y.seen;
    none_done = filter_map-append event_in es y.seen ∙ ap (λ zs. zs ++ events_in y.seen) quiet ∙ y.none_done;
    stands = λ r s. subst (λ zs. W.stands_for c zs ⊎ W.broke_off c zs) (append_assoc r es y.seen) (y.stands (r ++ es) (x r s));
  }

  -- a stop behind its line
  pub broke_in_stop : (a b : B) (h i j : List HistoryLine) (ports : List ℕ) (within : ℕ) (how : Passivation) → IsPassivation ports within how → i ≡ h ++ to.Stop ∷ [] → j ≡ i ++ lines (passivation_items ports how)
      → ((r : List Entry) → W.stands_for a r → W.stands_for b (r ++ entries (passivation_items ports how)) ⊎ W.broke_off b (r ++ entries (passivation_items ports how))) → BrokeInStop W (telling a h) (telling b j) ports within
  broke_in_stop a b h i j ports within how is e f stands = record { how = how; is_passivation = is; stands = stands; told_all = stop_told h i j ports how e f }

  pub broke_off : (a b : B) (h i : List HistoryLine) (ports : List ℕ) (within : ℕ) → BrokeInRound W (telling a h) (telling b i) ports within → BrokeOff W a b
  broke_off a b h i ports within x = record { more_ = entries (passivation_items ports x.how); stands = λ r s. inr (x.broke r s) }

  -- a scan behind looks and rounds that left roots
  pub broke_in_round : (a b c : B) (h i j : List HistoryLine) (ports : List ℕ) (made within : ℕ) (how : Passivation) → IsPassivation ports made how → length how.rounds ≡ made → made < within
      → (left_after how.first how.rounds ≡ [] → ⊥) → Grew W (telling a h) (telling b i) (passivation_items ports how) → BrokeInScan W (telling b i) (telling c j) → BrokeInRound W (telling a h) (telling c j) ports within
  broke_in_round a b c h i j ports made within how is all fewer some grew x = record {
    how = how;
    is_passivation = record { at_ports = is.at_ports; each_round = is.each_round; few = omega (arith, all, fewer) };
    fewer = omega (arith, all, fewer);
    some_left = some;
    broke = λ r s. x.broke (r ++ entries (passivation_items ports how)) (grew.adds r s);
    told_all = x.told_none ∙ grew.adds_lines;
  }
