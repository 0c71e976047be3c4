-- Records of moments as they grow, and the configuration that they tell.
use Rattle.std.proofs.Common.{◌≡◌, true, false, cond, List, [], ◌∷◌, ◌++◌, None, refl, sym, ap, ◌∙◌, subst}
use Rattle.std.specs.Prelude.{filter}
use Rattle.std.specs.List.{cons_option}
use Rattle.std.proofs.lemmas.List.{append-nil}
use Rattle.std.proofs.lemmas.List.Elements.{filter_map-append}
use Rattle.base.specs.Each.{EachAfter}
use Rattle.base.proofs.EachLaws.{each_pushed}
use Rattle.quiesce_laws.proofs.MeanwhileLaws.{config_after}
use Rattle.quiesce_laws.specs.Steps.{change_all}
use Rattle.quiesce_core.specs.declared.event.Event.{Event}
use Rattle.quiesce_core.specs.Doers.{is_of_change}
use Rattle.quiesce_core.specs.Rules.{denial}
use Rattle.quiesce_core.specs.Runs.{IsRun}
use Rattle.quiesce_core.specs.State.{empty}
use Rattle.quiesce_core.proofs.RunLaws.{runs_grow}
use Rattle.txn_records.specs.Entries.{config_of, event_in, events_in}
use Rattle.txn_records.specs.declared.entry.Entry.{Entry}
use Rattle.txn_records.specs.declared.entry.Entry.TheVariants.{Did, Looked, Sighted, Scanned}
use Rattle.txn_records.specs.Records.{IsRecordOf, IsSo, Moment, by_node, entry, entries, entry_at, event_at, events, state_at}

-- the change's events in a run are those of its record
pub changes_are : (before m : List Moment) → EachAfter IsSo before m → filter is_of_change (events m) ≡ events_in (entries m)
changes_are before [] so = refl
changes_are before (by_node e ∷ m) so =
    ap (λ b. cond b (e ∷ filter is_of_change (events m)) (filter is_of_change (events m))) so.0
    ∙ changes_are (before ++ by_node e ∷ []) m so.1
changes_are before (entry (Did e) ∷ m) so =
    ap (λ b. cond b (e ∷ filter is_of_change (events m)) (filter is_of_change (events m))) so.0
    ∙ ap (λ es. e ∷ es) (changes_are (before ++ entry (Did e) ∷ []) m so.1)
changes_are before (entry (Looked p w) ∷ m) so = changes_are (before ++ entry (Looked p w) ∷ []) m so.1
changes_are before (entry (Sighted n es) ∷ m) so = changes_are (before ++ entry (Sighted n es) ∷ []) m so.1
changes_are before (entry (Scanned b v) ∷ m) so = changes_are (before ++ entry (Scanned b v) ∷ []) m so.1

pub changes_of : (r : List Entry) (m : List Moment) → IsRecordOf r m → filter is_of_change (events m) ≡ events_in r
changes_of r m h = changes_are [] m h.so ∙ ap events_in h.record_is

-- a record tells the configuration of its run
pub config_is : (r : List Entry) (m : List Moment) → IsRecordOf r m → config_of r ≡ (state_at m).config
config_is r m h = ap (change_all empty.config) (sym (changes_of r m h)) ∙ sym (config_after empty (events m))

-- the events and the entries of one moment more
events_more : (m : List Moment) (x : Moment) → events (m ++ x ∷ []) ≡ events m ++ events (x ∷ [])
events_more m x = filter_map-append event_at m (x ∷ [])

entries_more : (m : List Moment) (x : Moment) → entries (m ++ x ∷ []) ≡ entries m ++ entries (x ∷ [])
entries_more m x = filter_map-append entry_at m (x ∷ [])

-- an event of the change that no rule denies
pub did_more : (r : List Entry) (m : List Moment) (e : Event) → IsRecordOf r m → is_of_change e ≡ true → denial (state_at m) e ≡ None → IsRecordOf (r ++ Did e ∷ []) (m ++ entry (Did e) ∷ [])
did_more r m e h change allowed = record {
  record_is = entries_more m (entry (Did e)) ∙ ap (λ es. es ++ Did e ∷ []) h.record_is;
  runs = subst IsRun (sym (events_more m (entry (Did e)))) ((runs_grow (events m) e).1 (h.runs, allowed));
  so = (each_pushed IsSo m (entry (Did e))).1 (h.so, change);
}

-- an event of a node
pub node_more : (r : List Entry) (m : List Moment) (e : Event) → IsRecordOf r m → is_of_change e ≡ false → denial (state_at m) e ≡ None → IsRecordOf r (m ++ by_node e ∷ [])
node_more r m e h by_nodes allowed = record {
  record_is = entries_more m (by_node e) ∙ append-nil (entries m) ∙ h.record_is;
  runs = subst IsRun (sym (events_more m (by_node e))) ((runs_grow (events m) e).1 (h.runs, allowed));
  so = (each_pushed IsSo m (by_node e)).1 (h.so, by_nodes);
}

-- an entry that is no event
pub quiet_events : (m : List Moment) (x : Entry) → event_in x ≡ None → events (m ++ entry x ∷ []) ≡ events m
quiet_events m x quiet = events_more m (entry x) ∙ ap (λ o. events m ++ cons_option o []) quiet ∙ append-nil (events m)

pub seen_more : (r : List Entry) (m : List Moment) (x : Entry) → IsRecordOf r m → event_in x ≡ None → IsSo m (entry x) → IsRecordOf (r ++ x ∷ []) (m ++ entry x ∷ [])
seen_more r m x h quiet so = record {
  record_is = entries_more m (entry x) ∙ ap (λ es. es ++ x ∷ []) h.record_is;
  runs = subst IsRun (sym (quiet_events m x quiet)) h.runs;
  so = (each_pushed IsSo m (entry x)).1 (h.so, so);
}
