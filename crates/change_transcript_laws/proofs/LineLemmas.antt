-- Tests that no line passes which is an event of the change or tells of a look.
use Rattle.std.proofs.Common.{◌≡◌, ◌∙◌, ℕ, Bool, false, List, [], ◌∷◌, ◌++◌, map, refl, ap}
use Rattle.std.specs.Prelude.{◌||◌, flat_map}
use Rattle.std.specs.List.{cons_option, list_any}
use Rattle.std.proofs.lemmas.List.Folds.{list_any-append}
use Rattle.quiesce_core.specs.declared.event.Event.{Event}
use Rattle.quiesce_core.specs.declared.event.Event.TheVariants.{Close, Make, Link, Unlink, Remove, Reopen}
use Rattle.report_types.specs.declared.report.HistoryLine.{HistoryLine}
use Rattle.report_types.specs.declared.report.HistoryLine.TheVariants as to
use Rattle.change_spec.specs.Changes.{drained_lines, seen_in_all}
use Rattle.change_spec.specs.Members.{line_of, lines_of_events}
use Rattle.change_spec.specs.Scene.{drained_line}
use Rattle.txn_records.specs.declared.entry.Entry.{Entry}
use Rattle.change_board.specs.Steps.{Deed, events_of}
use Rattle.change_board.specs.Transcripts.{Item, said, lines}
use Rattle.change_engine.specs.Carrying.{deed_items}
use Rattle.change_engine.specs.Passivating.{Passivation, passivation_items, silent_items}
use Rattle.change_engine.specs.declared.passivating.LeftRoot.{LeftRoot}
use Rattle.change_engine.specs.Draining.{root_item}
use Rattle.change_transcript_laws.proofs.ItemLemmas.{is_aside}
use Rattle.change_engine.proofs.ItemLaws.{lines_both, silent_lines, carried_lines}
use Rattle.change_engine.proofs.PassivationLaws.{looks_of, passivation_lines}

module _ (test : HistoryLine → Bool) where
  -- whether a line of these items passes
  abbrev pub any_line : List Item → Bool
  any_line t = list_any test (lines t)

  pub both_lines : (t u : List Item) → any_line (t ++ u) ≡ (any_line t || any_line u)
  both_lines t u = ap (list_any test) (lines_both t u) ∙ list_any-append test (lines t) (lines u)

  pub none_both : (t u : List Item) → any_line t ≡ false → any_line u ≡ false → any_line (t ++ u) ≡ false
  none_both t u h k = both_lines t u ∙ ap (λ b. b || any_line u) h ∙ k

  pub none_silent : (es : List Entry) → any_line (silent_items es) ≡ false
  none_silent es = ap (list_any test) (silent_lines es)

  pub silent_line : (es : List Entry) (l : HistoryLine) → any_line (silent_items es ++ said l ∷ []) ≡ (test l || false)
  silent_line es l = both_lines (silent_items es) (said l ∷ []) ∙ ap (λ b. b || (test l || false)) (none_silent es)

  pub none_roots : ((p k : ℕ) → test (to.Root p k) ≡ false) → (xs : List LeftRoot) → any_line (map root_item xs) ≡ false
  none_roots h [] = refl
  none_roots h (x ∷ xs) = ap (λ b. b || any_line (map root_item xs)) (h x.port x.serial) ∙ none_roots h xs

  module _ (quiet : (l : HistoryLine) → is_aside l ≡ false → test l ≡ false) where
    none_mapped : {A : Type 0} (f : A → HistoryLine) → ((x : A) → is_aside (f x) ≡ false) → (xs : List A) → list_any test (map f xs) ≡ false
    none_mapped f h [] = refl
    none_mapped f h (x ∷ xs) = ap (λ b. b || list_any test (map f xs)) (quiet (f x) (h x)) ∙ none_mapped f h xs

    none_here : (l : HistoryLine) (ls : List HistoryLine) → is_aside l ≡ false → list_any test (l ∷ ls) ≡ list_any test ls
    none_here l ls h = ap (λ b. b || list_any test ls) (quiet l h)

    none_of_event : (e : Event) (ls : List HistoryLine) → list_any test (cons_option (line_of e) ls) ≡ list_any test ls
    none_of_event (Make n node from) ls = none_here (to.Make n node from) ls refl
    none_of_event (Link p n x) ls = none_here (to.Link p n x) ls refl
    none_of_event (Unlink p) ls = none_here (to.Unlink p) ls refl
    none_of_event (Remove n) ls = none_here (to.Remove n) ls refl
    none_of_event (Close p) ls = none_here (to.Close p) ls refl
    none_of_event (Reopen p) ls = none_here (to.Reopen p) ls refl
    none_of_event _ ls = refl

    none_of_events : (es : List Event) → list_any test (lines_of_events es) ≡ false
    none_of_events [] = refl
    none_of_events (e ∷ es) = none_of_event e (lines_of_events es) ∙ none_of_events es

    pub none_deeds : (deeds : List Deed) → any_line (flat_map deed_items deeds) ≡ false
    none_deeds deeds = ap (list_any test) (carried_lines deeds) ∙ none_of_events (events_of deeds)

    pub none_passivation : (ports : List ℕ) (how : Passivation) → any_line (passivation_items ports how) ≡ false
    none_passivation ports how =
        ap (list_any test) (passivation_lines ports how) ∙ list_any-append test (map to.Close ports) (drained_lines (looks_of how))
        ∙ ap (λ b. b || list_any test (drained_lines (looks_of how))) (none_mapped to.Close (λ p. refl) ports) ∙ none_mapped drained_line (λ d. refl) (seen_in_all (looks_of how))
