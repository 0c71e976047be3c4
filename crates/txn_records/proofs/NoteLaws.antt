-- A port that a record notes is drained, so what a change may do by the record is allowed by every rule.
use Rattle.std.proofs.Common.{◌≡◌, ℕ, Bool, true, false, not, ◌&&◌, ◌||◌, List, [], ◌∷◌, ◌++◌, append_assoc, None, refl, sym, ap, ◌∙◌, subst, ⊎_elim}
use Rattle.std.specs.Prelude.{◌==◌}
use Rattle.std.specs.List.{list_any}
use Rattle.std.proofs.lemmas.Bool.{and_parts, both_ways, eqb-true, not-true, or_cases}
use Rattle.std.proofs.lemmas.List.{append-nil}
use Rattle.std.proofs.lemmas.List.Elements.{filter_map-append}
use Rattle.std.proofs.lemmas.List.Sums.{fold_push}
use Rattle.base.specs.Each.{EachAfter}
use Rattle.quiesce_laws.specs.Steps.{MayStep}
use Rattle.quiesce_laws.proofs.MeanwhileLaws.{allowed_meanwhile, none_reopened}
use Rattle.quiesce_core.specs.declared.event.Event.{Event}
use Rattle.quiesce_core.specs.declared.event.Event.TheVariants.{Begin, Call, Take, Give, End, More, Ask, Hear, Miss, Close, Reopen, Make, Link, Unlink, Remove}
use Rattle.quiesce_core.specs.Rules.{denial}
use Rattle.quiesce_core.specs.Runs.{IsRun, state_after}
use Rattle.quiesce_core.proofs.RunLaws.{fronts_are_runs, runs_are_well_formed}
use Rattle.quiesce_core.proofs.WordLaws.{words_tell_drained}
use Rattle.quiesce_laws.specs.Drained.{is_drained}
use Rattle.quiesce_laws.specs.Events.{reopens}
use Rattle.quiesce_laws.proofs.DrainingLaws.{drained_stays, no_node_reopens}
use Rattle.txn_records.specs.Entries.{event_in, events_in}
use Rattle.txn_records.specs.declared.entry.Entry.{Entry}
use Rattle.txn_records.specs.declared.entry.Entry.TheVariants.{Did, Looked, Sighted, Scanned}
use Rattle.txn_records.specs.Looks.{is_drained_word}
use Rattle.txn_records.specs.Notes.{found_next, is_found_drained, is_never_reopened, is_noted}
use Rattle.txn_records.specs.Records.{IsRecordOf, IsSo, May, Moment, by_node, entry, entries, entry_at, event_at, events, state_at}
use Rattle.txn_records.proofs.RecordLaws.{changes_of, config_is, quiet_events}

-- an event that doesn't reopen the port
stays : (es : List Event) (e : Event) (p : ℕ) → IsRun (es ++ e ∷ []) → reopens p e ≡ false → is_drained (state_after es) p ≡ true → is_drained (state_after (es ++ e ∷ [])) p ≡ true
stays es e p run other h = drained_stays es (e ∷ []) p run (ap (λ b. b || false) other) h

-- an event of the change behind which the port still counts as found drained
did_found : (p : ℕ) (b : Bool) (e : Event) → found_next p b (Did e) ≡ true → (reopens p e ≡ false) × (b ≡ true)
did_found p b (Reopen q) h = let parts = and_parts b (not (q == p)) h in (not-true (q == p) parts.1, parts.0)
did_found p b (Close q) h = (refl, (and_parts b (not (q == p)) h).0)
did_found p b (Begin q k v) h = (refl, h)
did_found p b (Call q k v) h = (refl, h)
did_found p b (Miss q) h = (refl, h)
did_found p b (Take q k v) h = (refl, h)
did_found p b (Give q k v) h = (refl, h)
did_found p b (More q k v) h = (refl, h)
did_found p b (Ask q k v) h = (refl, h)
did_found p b (Hear q k v) h = (refl, h)
did_found p b (End q k v) h = (refl, h)
did_found p b (Make n made from) h = (refl, h)
did_found p b (Link q n x) h = (refl, h)
did_found p b (Unlink q) h = (refl, h)
did_found p b (Remove n) h = (refl, h)

module _ (p : ℕ) where
  abbrev IsSoundAt : List Moment → Type 0
  IsSoundAt ms = is_found_drained (entries ms) p ≡ true → is_drained (state_at ms) p ≡ true

  found_at : (ms : List Moment) (x : Entry) → is_found_drained (entries (ms ++ entry x ∷ [])) p ≡ found_next p (is_found_drained (entries ms) p) x
  found_at ms x = ap (λ r. is_found_drained r p) (filter_map-append entry_at ms (entry x ∷ [])) ∙ fold_push (found_next p) false (entries ms) x

  -- an entry that is no event, and doesn't find the port drained
  quiet_sound : (ms : List Moment) (x : Entry) → event_in x ≡ None → (found_next p (is_found_drained (entries ms) p) x ≡ true → is_drained (state_at ms) p ≡ true) → IsSoundAt (ms ++ entry x ∷ [])
  quiet_sound ms x quiet h found =
      subst (λ es. is_drained (state_after es) p ≡ true) (sym (quiet_events ms x quiet)) (h (sym (found_at ms x) ∙ found))

  next_sound : (ms : List Moment) (x : Moment) → IsRun (events (ms ++ x ∷ [])) → IsSo ms x → IsSoundAt ms → IsSoundAt (ms ++ x ∷ [])
  next_sound ms (by_node e) run so sound found =
      let parts = filter_map-append event_at ms (by_node e ∷ []) in
      let same = filter_map-append entry_at ms (by_node e ∷ []) ∙ append-nil (entries ms) in
      subst (λ es. is_drained (state_after es) p ≡ true) (sym parts)
      (stays (events ms) e p (subst IsRun parts run) (no_node_reopens p e so) (sound (sym (ap (λ r. is_found_drained r p) same) ∙ found)))
  next_sound ms (entry (Did e)) run so sound found =
      let parts = filter_map-append event_at ms (entry (Did e) ∷ []) in
      let n = did_found p (is_found_drained (entries ms) p) e (sym (found_at ms (Did e)) ∙ found) in
      subst (λ es. is_drained (state_after es) p ≡ true) (sym parts) (stays (events ms) e p (subst IsRun parts run) n.0 (sound n.1))
  next_sound ms (entry (Looked q w)) run so sound found =
      let run_here = subst IsRun (quiet_events ms (Looked q w) refl) run in
      quiet_sound ms (Looked q w) refl
      (λ h. ⊎_elim sound (λ seen. by_look run_here (and_parts (q == p) (is_drained_word w) seen))
      (or_cases (is_found_drained (entries ms) p) (q == p && is_drained_word w) h))
      found
    where
      by_look : IsRun (events ms) → ((q == p) ≡ true) × (is_drained_word w ≡ true) → is_drained (state_at ms) p ≡ true
      by_look run_here seen =
          ap (λ i. is_drained (state_at ms) i) (sym (eqb-true q p seen.0))
          ∙ sym (words_tell_drained (state_at ms) (runs_are_well_formed (events ms) run_here) q)
          ∙ sym (ap is_drained_word so) ∙ seen.1
  next_sound ms (entry (Sighted n es)) run so sound found = quiet_sound ms (Sighted n es) refl sound found
  next_sound ms (entry (Scanned b v)) run so sound found = quiet_sound ms (Scanned b v) refl sound found

  all_sound : (ms xs : List Moment) → IsRun (events (ms ++ xs)) → EachAfter IsSo ms xs → IsSoundAt ms → IsSoundAt (ms ++ xs)
  all_sound ms [] run so h = subst IsSoundAt (sym (append-nil ms)) h
  all_sound ms (x ∷ xs) run so h =
      let parts = append_assoc ms (x ∷ []) xs in
      let run' = subst (λ zs. IsRun (events zs)) (sym parts) run in
      let front = fronts_are_runs (events (ms ++ x ∷ [])) (events xs) (subst IsRun (filter_map-append event_at (ms ++ x ∷ []) xs) run') in
      subst IsSoundAt parts (all_sound (ms ++ x ∷ []) xs run' so.1 (next_sound ms x front so.0 h))

found_is_drained : (r : List Entry) (m : List Moment) (p : ℕ) → IsRecordOf r m → is_found_drained r p ≡ true → is_drained (state_at m) p ≡ true
found_is_drained r m p h found = all_sound p [] m h.runs h.so (λ none_. absurd (both_ways false refl none_)) (ap (λ es. is_found_drained es p) h.record_is ∙ found)

-- a port that was never reopened
kept_is_drained : (r : List Entry) (m : List Moment) (p : ℕ) → IsRecordOf r m → is_never_reopened r p ≡ true → is_drained (state_at m) p ≡ true
kept_is_drained r m p h never =
    drained_stays [] (events m) p h.runs
    (none_reopened p (events m) (ap (list_any (reopens p)) (changes_of r m h) ∙ not-true (list_any (reopens p) (events_in r)) never))
    refl

pub noted_is_drained : (r : List Entry) (m : List Moment) (p : ℕ) → IsRecordOf r m → is_noted r p ≡ true → is_drained (state_at m) p ≡ true
noted_is_drained r m p h noted =
    ⊎_elim (kept_is_drained r m p h) (found_is_drained r m p h) (or_cases (is_never_reopened r p) (is_found_drained r p) noted)

pub may_is_allowed : (r : List Entry) (m : List Moment) (e : Event) → IsRecordOf r m → May r e → denial (state_at m) e ≡ None
may_is_allowed r m e h may_ =
    let none_ = append-nil (events m) in
    subst (λ es. denial (state_after es) e ≡ None) none_
    (allowed_meanwhile (is_noted r) (events m) [] [] e (subst IsRun (sym none_) h.runs) (λ p n. noted_is_drained r m p h n) (λ p. refl)
    (subst (λ c. MayStep (is_noted r) c e) (config_is r m h) may_, tt))
