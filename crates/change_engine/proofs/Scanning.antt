-- Scans, one after the other.
use Rattle.std.proofs.Common.{◌≡◌, ℕ, ◌+◌, true, false, List, [], ◌∷◌, ◌++◌, refl, sym, ap, ◌∙◌, subst, arith}
use Rattle.std.specs.List.{AllByRecursion}
use Rattle.std.proofs.lemmas.List.{append-nil}
use Rattle.std.proofs.lemmas.List.Concat.{flat_map-cons}
use Rattle.std.proofs.lemmas.List.Elements.{filter_map-append}
use Rattle.std.proofs.lemmas.List.Sums.{sum_by-append}
use Rattle.base.specs.Each.{Each}
use Rattle.base.proofs.EachLaws.{each_pushed}
use Rattle.report_types.specs.declared.report.HistoryLine.{HistoryLine}
use Rattle.report_types.specs.declared.report.HistoryLine.TheVariants as to
use Rattle.change_board.specs.declared.board.Board.{Ghosts as BoardWords}
use Rattle.change_board.specs.declared.board.Scan.{Scan}
use Rattle.txn_records.specs.Entries.{config_of, event_in, events_in}
use Rattle.txn_records.specs.declared.entry.Entry.{Entry}
use Rattle.txn_records.specs.Records.{Adds}
use Rattle.change_board.specs.Scans.{AddsScan}
use Rattle.change_board.specs.Transcripts.{Item, said, lines}
use Rattle.change_engine.specs.Finishing.{Finished, IsScanIn, SawTwice, ScanSeen, Scans, all_entries, count_of, rounds_in, seen_entries}
use Rattle.change_engine.specs.Passivating.{silent_items}
use Rattle.change_engine.proofs.Growing.{adds_both}
use Rattle.change_engine.proofs.Passing.{config_quiet, scan_quiet}
use Rattle.change_engine.specs.Growing.{telling}
use Rattle.change_engine.proofs.ItemLaws.{entries_both, lines_both, silent_entries, silent_lines, entries_pushed}
use Rattle.base.proofs.ListLaws.{AllByRecursion-push}

pub all_quiet : (scans : List ScanSeen) → events_in (all_entries scans) ≡ []
all_quiet [] = refl
all_quiet (w ∷ scans) =
    ap events_in (flat_map-cons seen_entries w scans) ∙ filter_map-append event_in (seen_entries w) (all_entries scans)
    ∙ ap (λ es. es ++ events_in (all_entries scans)) (scan_quiet true w.answer.moved w.sights w.found) ∙ all_quiet scans

pub rounds_pushed : (scans : List ScanSeen) (w : ScanSeen) → rounds_in (scans ++ w ∷ []) ≡ rounds_in scans + count_of w.answer
rounds_pushed scans w = sum_by-append (λ (w : ScanSeen). count_of w.answer) scans (w ∷ []) ∙ omega arith

module _ {B : Type 0} (W : BoardWords B) where
  abbrev pub seen_by : (b c : B) (s : Scan) → AddsScan W.stands_for W.alone b c true s → ScanSeen
  seen_by b c s x = record { answer = s; sights = x.sights; found = x.found }

  pub scans_add : (a b c : B) (scans : List ScanSeen) (s : Scan) (x : AddsScan W.stands_for W.alone b c true s) → Adds W.stands_for a b (all_entries scans) → Adds W.stands_for a c (all_entries (scans ++ seen_by b c s x ∷ []))
  scans_add a b c scans s x adds =
      let w = seen_by b c s x in
      subst (λ es. Adds W.stands_for a c es) (sym (entries_pushed scans w)) (adds_both W a b c (all_entries scans) (seen_entries w) adds x.adds)

  pub scans_are : (a b c : B) (scans : List ScanSeen) (s : Scan) (x : AddsScan W.stands_for W.alone b c true s) → Adds W.stands_for a b (all_entries scans)
      → ((r : List Entry) → W.stands_for a r → AllByRecursion (IsScanIn W.alone (config_of r)) scans)
      → (r : List Entry) → W.stands_for a r → AllByRecursion (IsScanIn W.alone (config_of r)) (scans ++ seen_by b c s x ∷ [])
  scans_are a b c scans s x adds are r h =
      let w = seen_by b c s x in
      let q = r ++ all_entries scans in
      let there : IsScanIn W.alone (config_of q) w = record { all_sighted = λ is. x.all_sighted is q (adds r h); at_ports = x.at_ports q (adds r h); done = λ is. x.done is q (adds r h); at_rest = x.at_rest q (adds r h); ended = x.ended } in
      AllByRecursion-push (IsScanIn W.alone (config_of r)) scans w (are r h) (subst (λ c. IsScanIn W.alone c w) (config_quiet r (all_entries scans) (all_quiet scans)) there)

  -- and where one saw all at rest on a board that isn't alone, it saw it twice
  pub scans_twice : (a b c : B) (scans : List ScanSeen) (s : Scan) (x : AddsScan W.stands_for W.alone b c true s) → Adds W.stands_for a b (all_entries scans)
      → (W.alone ≡ false → (r : List Entry) → W.stands_for a r → Each (SawTwice r) scans)
      → W.alone ≡ false → (r : List Entry) → W.stands_for a r → Each (SawTwice r) (scans ++ seen_by b c s x ∷ [])
  scans_twice a b c scans s x adds twice is r h =
      (each_pushed (SawTwice r) scans (seen_by b c s x)).1 (twice is r h, x.twice is (r ++ all_entries scans) (adds r h))

  pub finished : (a b : B) (h i : List HistoryLine) (n rounds : ℕ) → Scans W a b n rounds → i ≡ h ++ to.Finish n rounds ∷ [] → Finished W (telling a h) (telling b i) n rounds
  finished a b h i n rounds x grown =
      let es = all_entries x.scans in
      let line : List Item = said (to.Finish n rounds) ∷ [] in
      record {
        scans = x.scans;
        few = x.few;
        are_scans = x.are_scans;
        twice = x.twice;
        rounds_are = x.rounds_are;
        ends = x.ends;
        grew = record {
          adds = subst (λ zs. Adds W.stands_for a b zs) (sym (entries_both (silent_items es) line ∙ ap (λ zs. zs ++ []) (silent_entries es) ∙ append-nil es)) x.adds;
          adds_lines = grown ∙ ap (λ ls. h ++ ls) (sym (lines_both (silent_items es) line ∙ ap (λ ls. ls ++ lines line) (silent_lines es)));
        };
      }
