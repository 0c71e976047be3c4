-- Whether a change was given up, by the items of each statement; and what a change that is given up has closed.
use Rattle.std.proofs.Common.{◌≡◌, ◌∙◌, ℕ, Bool, true, false, List, [], ◌∷◌, ◌++◌, map, refl, sym, ap}
use Rattle.std.specs.Prelude.{◌||◌, ℤ, filter_map, flat_map}
use Rattle.std.specs.List.{list_any}
use Rattle.std.proofs.lemmas.Bool.{both_ways}
use Rattle.std.proofs.lemmas.List.{append-nil}
use Rattle.std.proofs.lemmas.List.Elements.{filter_map-append}
use Rattle.quiesce_laws.specs.Steps.{change_all}
use Rattle.config_graph.specs.Graph.{Graph}
use Rattle.change_plan.specs.declared.plan_data.Plan.{Plan}
use Rattle.change_plan_laws.specs.Commit.{ports_to_close}
use Rattle.quiesce_core.specs.declared.event.Event.TheVariants.{Close}
use Rattle.report_types.specs.declared.report.HistoryLine.{HistoryLine}
use Rattle.report_types.specs.declared.report.HistoryLine.TheVariants as to
use Rattle.change_spec.specs.Changes.{drained_lines, seen_in_all}
use Rattle.change_spec.specs.Members.{event_of, is_pending}
use Rattle.txn_records.specs.Entries.{events_in}
use Rattle.txn_records.specs.declared.entry.Entry.{Entry}
use Rattle.change_board.specs.Steps.{Deed}
use Rattle.change_board.specs.Transcripts.{Item, said, entries, lines}
use Rattle.change_engine.specs.Carrying.{deed_items}
use Rattle.change_engine.specs.Passivating.{Passivation, silent_items}
use Rattle.change_engine.specs.declared.passivating.LeftRoot.{LeftRoot}
use Rattle.change_engine.specs.Draining.{pending_items, root_item}
use Rattle.change_transcript_laws.specs.Pieces.{config_at, opening_items}
use Rattle.change_transcript_laws.proofs.ItemLemmas.{config_over, is_aside, fair_events, fair_passivation, fair_roots}
use Rattle.change_transcript_laws.proofs.LineLemmas.{both_lines, none_both, none_deeds, none_passivation, silent_line}
use Rattle.change_spec.proofs.PortLaws.{closed_events, no_events_drained, still_to_close}
use Rattle.change_engine.proofs.PassivationLaws.{looks_of, passivation_lines}

abbrev pub is_one_given_up : List Item → Bool
is_one_given_up t = list_any is_pending (lines t)

none_aside : (l : HistoryLine) → is_aside l ≡ false → is_pending l ≡ false
none_aside (to.Pending n) h = absurd (both_ways true h refl)
none_aside _ h = refl

pub pending_both : (t u : List Item) → is_one_given_up (t ++ u) ≡ (is_one_given_up t || is_one_given_up u)
pending_both t u = both_lines is_pending t u

pub none_in_both : (t u : List Item) → is_one_given_up t ≡ false → is_one_given_up u ≡ false → is_one_given_up (t ++ u) ≡ false
none_in_both t u h k = none_both is_pending t u h k

-- ---- each statement

pub start_none : (name : List ℕ) (args : List ℤ) (deeds : List Deed) → is_one_given_up (said (to.Start name args) ∷ flat_map deed_items deeds ++ said to.Commit ∷ []) ≡ false
start_none name args deeds = none_in_both (said (to.Start name args) ∷ flat_map deed_items deeds) (said to.Commit ∷ []) (none_deeds is_pending none_aside deeds) refl

pub opening_none : (name : List ℕ) (args : List ℤ) (closed : List ℕ) (how : Passivation) → is_one_given_up (opening_items name args closed how) ≡ false
opening_none name args closed how = none_passivation is_pending none_aside closed how

pub commit_none : (deeds : List Deed) → is_one_given_up (flat_map deed_items deeds ++ said to.Commit ∷ []) ≡ false
commit_none deeds = none_in_both (flat_map deed_items deeds) (said to.Commit ∷ []) (none_deeds is_pending none_aside deeds) refl

pub quiet_none : (es : List Entry) (l : HistoryLine) → is_pending l ≡ false → is_one_given_up (silent_items es ++ said l ∷ []) ≡ false
quiet_none es l h = silent_line is_pending es l ∙ ap (λ b. b || false) h

-- ---- what is closed for a change

no_events : (xs : List LeftRoot) → filter_map event_of (lines (map root_item xs)) ≡ []
no_events [] = refl
no_events (x ∷ xs) = no_events xs

module _ (t : List Item) (name : List ℕ) (args : List ℤ) (closed : List ℕ) (how : Passivation) where
  abbrev opening : List Item
  opening = opening_items name args closed how

  opening_events : events_in (entries opening) ≡ map Close closed
  opening_events =
      fair_events opening (refl, fair_passivation closed how) ∙ ap (filter_map event_of) (passivation_lines closed how)
      ∙ filter_map-append event_of (map to.Close closed) (drained_lines (looks_of how)) ∙ ap (λ es. filter_map event_of (map to.Close closed) ++ es) (no_events_drained (seen_in_all (looks_of how)))
      ∙ append-nil (filter_map event_of (map to.Close closed)) ∙ closed_events closed

  pub config_opened : config_at (t ++ opening) ≡ change_all (config_at t) (map Close closed)
  config_opened = config_over t opening ∙ ap (change_all (config_at t)) opening_events

  -- the ports to close are those that are closed, also when the change is given up
  pub still_closed : (old : Graph) (plan : Plan) (within : ℕ) (left : List LeftRoot) → closed ≡ ports_to_close old plan (config_at t)
      → ports_to_close old plan (config_at (t ++ opening ++ pending_items within left)) ≡ closed
  still_closed old plan within left are =
      ap (ports_to_close old plan) (config_over (t ++ opening) (pending_items within left)
      ∙ ap (change_all (config_at (t ++ opening))) (fair_events (pending_items within left) (refl, fair_roots left) ∙ no_events left)
      ∙ config_opened ∙ ap (λ ps. change_all (config_at t) (map Close ps)) are)
      ∙ still_to_close old plan (config_at t) ∙ sym are
