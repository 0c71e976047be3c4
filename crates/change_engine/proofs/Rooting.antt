-- What a look behind a close finds, where the port isn't drained: a root.
use Rattle.std.proofs.Common.{◌≡◌, ℕ, Bool, true, false, cond, List, [], ◌∷◌, ◌++◌, append_assoc, map, refl, sym, ap, ◌∙◌, subst, inl, inr, ⊎_elim}
use Rattle.std.specs.Prelude.{flat_map}
use Rattle.std.proofs.lemmas.Bool.{both_ways, cases_Bool}
use Rattle.std.proofs.lemmas.List.Concat.{flat_map-cons}
use Rattle.std.proofs.lemmas.List.Elements.{All-head, All-tail, filter_map-append}
use Rattle.base.specs.Each.{Each, EachAfter}
use Rattle.base.proofs.EachLaws.{each_at, each_parts}
use Rattle.base.proofs.PlaceLaws.{heads_are, tails_are}
use Rattle.base.proofs.MapLaws.{none_in_front}
use Rattle.quiesce_laws.specs.Lists.{In}
use Rattle.quiesce_laws.specs.Steps.{change_all}
use Rattle.quiesce_laws.proofs.TurningLaws.{IsLivePort, Turning, live_port, turn_next, turn_start}
use Rattle.quiesce_word.specs.Phases.{is_idle}
use Rattle.quiesce_word.specs.Words.{has_root, is_drained, unpack}
use Rattle.quiesce_core.specs.Effect.{with_closed}
use Rattle.quiesce_core.specs.Fields.{fields_of}
use Rattle.quiesce_core.specs.Runs.{IsRun}
use Rattle.quiesce_core.specs.Rules.{is_live_port}
use Rattle.quiesce_core.specs.State.{Configuration, gate}
use Rattle.quiesce_core.specs.Words.{word_of}
use Rattle.quiesce_core.specs.declared.event.Event.TheVariants as event
use Rattle.quiesce_core.proofs.RunLaws.{fronts_are_runs, runs_are_well_formed}
use Rattle.quiesce_core.proofs.WordLaws.{port_words_decode, words_tell_drained}
use Rattle.txn_records.specs.Entries.{config_of, event_in, events_in}
use Rattle.txn_records.specs.declared.entry.Entry.{Entry}
use Rattle.txn_records.specs.declared.entry.Entry.TheVariants.{Looked}
use Rattle.txn_records.specs.Looks.{is_drained_word}
use Rattle.txn_records.specs.Notes.{is_noted}
use Rattle.txn_records.specs.Records.{IsRecord, IsRecordOf, IsSo, Moment, by_node, entry, event_at, events, state_at}
use Rattle.txn_records.specs.Records as records
use Rattle.change_board.specs.Scans.{Found, look_entry, ports_of, scan_entries}
use Rattle.change_board.specs.Transcripts.{entries}
use Rattle.txn_records.proofs.NoteLaws.{noted_is_drained}
use Rattle.txn_records.proofs.RecordLaws.{config_is}
use Rattle.change_engine.specs.Passivating.{AreLivePorts, IsPassivation, IsRound, Passivation, WaitingRound, close_item, is_busy, left_after, look_item, passivation_items, root_of, root_ports, roots_of, round_items}
use Rattle.change_engine.proofs.Passing.{close_entries, closes, closes_events, config_over, config_quiet, looks_quiet, roots_cons, round_entries}
use Rattle.change_engine.proofs.Quieting.{rounds_quiet}
use Rattle.change_engine.proofs.ItemLaws.{entries_both, look_entries}
use Rattle.change_engine.proofs.PassivationLaws.{left_more, root_by}

-- the moments in front of an entry
record Before (m : List Moment) (xs : List Entry) (x : Entry) : Type 0 where
  front : List Moment
  behind : List Moment
  parts : m ≡ front ++ entry x ∷ behind
  entries_are : records.entries front ≡ xs

before_entry : (m : List Moment) (xs ys : List Entry) (x : Entry) → records.entries m ≡ xs ++ x ∷ ys → Before m xs x
before_entry [] [] ys x h = cc
before_entry [] (z ∷ xs) ys x h = cc
before_entry (by_node e ∷ m) xs ys x h =
    let w = before_entry m xs ys x h in
    record { front = by_node e ∷ w.front; behind = w.behind; parts = ap (λ zs. by_node e ∷ zs) w.parts; entries_are = w.entries_are }
before_entry (entry y ∷ m) [] ys x h = record { front = []; behind = m; parts = ap (λ z. entry z ∷ m) (heads_are y x (records.entries m) ys h); entries_are = refl }
before_entry (entry y ∷ m) (z ∷ xs) ys x h =
    let w = before_entry m xs ys x (tails_are y z (records.entries m) (xs ++ x ∷ ys) h) in
    record {
      front = entry y ∷ w.front;
      behind = w.behind;
      parts = ap (λ zs. entry y ∷ zs) w.parts;
      entries_are = (λ i. heads_are y z (records.entries m) (xs ++ x ∷ ys) h i ∷ w.entries_are i);
    }

-- the run in front of a look, whose word the look loaded
record LookedAt (before : List Entry) (p w : ℕ) : Type 0 where
  front : List Moment
  is_of : IsRecordOf before front
  word : w ≡ word_of (state_at front) p

looked_at : (before after : List Entry) (p w : ℕ) → IsRecord (before ++ Looked p w ∷ after) → LookedAt before p w
looked_at before after p w r =
    let at = before_entry r.moments before after (Looked p w) r.is_of.record_is in
    let so : Each IsSo (at.front ++ entry (Looked p w) ∷ at.behind) = subst (Each IsSo) at.parts r.is_of.so in
    let runs : IsRun (events at.front) =
    fronts_are_runs (events at.front) (events (entry (Looked p w) ∷ at.behind)) (subst IsRun (ap events at.parts ∙ filter_map-append event_at at.front (entry (Looked p w) ∷ at.behind)) r.is_of.runs) in
    record {
      front = at.front;
      is_of = record { record_is = at.entries_are; runs = runs; so = (each_parts IsSo [] at.front (entry (Looked p w) ∷ at.behind) so).0 };
      word = each_at IsSo at.front at.behind (entry (Looked p w)) so;
    }

-- a look at a port that is closed
pub busy_has_root : (before after : List Entry) (p w : ℕ) → IsRecord (before ++ Looked p w ∷ after) → (gate (config_of before) p).closed ≡ true → is_drained_word w ≡ false → has_root (unpack w) ≡ true
busy_has_root before after p w r shut busy =
    let at = looked_at before after p w r in
    let fields : unpack w ≡ fields_of (state_at at.front) p = ap unpack at.word ∙ port_words_decode (state_at at.front) (runs_are_well_formed (events at.front) at.is_of.runs) p in
    let closed : (fields_of (state_at at.front) p).closed ≡ true = ap (λ c. (gate c p).closed) (sym (config_is before at.front at.is_of)) ∙ shut in
    ap has_root fields
    ∙ root_by (fields_of (state_at at.front) p).closed (is_idle (fields_of (state_at at.front) p).phase) (fields_of (state_at at.front) p).consequent closed (sym (ap is_drained fields) ∙ busy)

-- a port at which a look loads a word that isn't drained was not noted
pub busy_not_noted : (before after : List Entry) (p w : ℕ) → IsRecord (before ++ Looked p w ∷ after) → is_drained_word w ≡ false → is_noted before p ≡ false
busy_not_noted before after p w r busy =
    let at = looked_at before after p w r in
    let s = state_at at.front in
    ⊎_elim
    (λ (noted : is_noted before p ≡ true). absurd (both_ways (is_drained_word w)
    busy
    (ap is_drained_word at.word ∙ words_tell_drained s (runs_are_well_formed (events at.front) at.is_of.runs) p ∙ noted_is_drained before at.front p at.is_of noted)))
    (λ (not_ : is_noted before p ≡ false). not_)
    (cases_Bool (is_noted before p))

-- ports that were closed one after the other are closed then
closed_all : (c : Configuration) (all : List ℕ) (d : Configuration) (left : List ℕ) → Turning c true all d left → Turning c true all (change_all d (map event.Close left)) []
closed_all c all d [] h = h
closed_all c all d (p ∷ left) h = closed_all c all (with_closed d p true) left (turn_next c true all d p left h)

in_live : (c : Configuration) (ps : List ℕ) → AreLivePorts c ps → (p : ℕ) → In ps p → IsLivePort c p
in_live c [] h p i = absurd i
in_live c (q ∷ ps) h p (inl same) = subst (IsLivePort c) same (live_port c q (All-head (λ k. is_live_port c k ≡ true) q ps h))
in_live c (q ∷ ps) h p (inr i) = in_live c ps (All-tail (λ k. is_live_port c k ≡ true) q ps h) p i

pub shut_behind : (r : List Entry) (ps : List ℕ) → AreLivePorts (config_of r) ps → (p : ℕ) → In ps p → (gate (config_of (r ++ closes ps)) p).closed ≡ true
shut_behind r ps live p i =
    let c = config_of r in
    let all = closed_all c ps c ps (turn_start c true ps (in_live c ps live)) in
    ap (λ d. (gate d p).closed) (config_over r (closes ps) ∙ ap (change_all c) (closes_events ps)) ∙ ⊎_elim (λ j. absurd j) (λ shut. shut) (all.turned p i)

-- ---- members of lists

pub record Split {A : Type 0} (xs : List A) (x : A) : Type 0 where
  pub front : List A
  pub back : List A
  pub parts : xs ≡ front ++ x ∷ back

pub split : {A : Type 0} (xs : List A) (x : A) → In xs x → Split xs x
split [] x i = absurd i
split (y ∷ xs) x (inl same) = record { front = []; back = xs; parts = ap (λ z. z ∷ xs) same }
split (y ∷ xs) x (inr i) = let w = split xs x i in record { front = y ∷ w.front; back = w.back; parts = ap (λ zs. y ∷ zs) w.parts }

in_left : {A : Type 0} (xs ys : List A) (x : A) → In xs x → In (xs ++ ys) x
in_left [] ys x i = absurd i
in_left (y ∷ xs) ys x (inl same) = inl same
in_left (y ∷ xs) ys x (inr i) = inr (in_left xs ys x i)

pub in_right : {A : Type 0} (xs ys : List A) (x : A) → In ys x → In (xs ++ ys) x
in_right [] ys x i = i
in_right (y ∷ xs) ys x i = inr (in_right xs ys x i)

pub in_map : {A B : Type 0} (f : A → B) (xs : List A) (x : A) → In xs x → In (map f xs) (f x)
in_map f [] x i = absurd i
in_map f (y ∷ xs) x (inl same) = inl (ap f same)
in_map f (y ∷ xs) x (inr i) = inr (in_map f xs x i)

-- a look among entries that are no events
quiet_root : (r es : List Entry) (p w : ℕ) → IsRecord (r ++ es) → events_in es ≡ [] → (gate (config_of r) p).closed ≡ true → In es (Looked p w) → is_drained_word w ≡ false → has_root (unpack w) ≡ true
quiet_root r es p w rec quiet shut i busy =
    let at = split es (Looked p w) i in
    let whole : r ++ es ≡ (r ++ at.front) ++ Looked p w ∷ at.back = ap (λ zs. r ++ zs) at.parts ∙ sym (append_assoc r at.front (Looked p w ∷ at.back)) in
    let still : events_in at.front ≡ [] = none_in_front (events_in at.front) (events_in (Looked p w ∷ at.back)) (sym (ap events_in at.parts ∙ filter_map-append event_in at.front (Looked p w ∷ at.back)) ∙ quiet) in
    busy_has_root (r ++ at.front) at.back p w (subst IsRecord whole rec) (ap (λ c. (gate c p).closed) (config_quiet r at.front still) ∙ shut) busy

-- ---- a passivation's looks are at ports that it closed

pub roots_there : (found : List Found) (p : ℕ) → In (root_ports (roots_of found)) p → In (ports_of found) p
roots_there [] p i = absurd i
roots_there (f ∷ found) p i = by (is_busy f) (roots_there found p) (subst (λ xs. In (root_ports xs) p) (roots_cons f found) i)
  where
    by : (b : Bool) → (In (root_ports (roots_of found)) p → In (ports_of found) p) → In (root_ports (cond b (root_of f ∷ roots_of found) (roots_of found))) p → In (ports_of (f ∷ found)) p
    by true rest (inl same) = inl same
    by true rest (inr j) = inr (rest j)
    by false rest j = inr (rest j)

rounds_there : (ports : List ℕ) (first : List Found) (before rounds : List WaitingRound) → EachAfter (IsRound first) before rounds → ((p : ℕ) → In (root_ports (left_after first before)) p → In ports p)
    → (w : WaitingRound) → In rounds w → (f : Found) → In w.found f → In ports f.port
rounds_there ports first before [] each left w i f j = absurd i
rounds_there ports first before (v ∷ rounds) each left w (inl same) f j =
    left f.port (subst (λ ps. In ps f.port) each.0.at_left (in_map (λ (g : Found). g.port) v.found f (subst (λ (u : WaitingRound). In u.found f) (sym same) j)))
rounds_there ports first before (v ∷ rounds) each left w (inr i) f j =
    rounds_there ports first (before ++ v ∷ []) rounds each.1
    (λ p k. left p (subst (λ ps. In ps p) each.0.at_left (roots_there v.found p (subst (λ xs. In (root_ports xs) p) (left_more first before v) k))))
    w i f j

round_looks : (rounds : List WaitingRound) (w : WaitingRound) (f : Found) → In rounds w → In w.found f → In (entries (flat_map round_items rounds)) (look_entry f)
round_looks [] w f i j = absurd i
round_looks (v ∷ rounds) w f i j =
    subst (λ es. In es (look_entry f)) (sym (ap entries (flat_map-cons round_items v rounds) ∙ entries_both (round_items v) (flat_map round_items rounds)))
    (⊎_elim
    (λ (same : v ≡ w). in_left (entries (round_items v)) (entries (flat_map round_items rounds)) (look_entry f)
    (subst (λ es. In es (look_entry f)) (sym (round_entries v)) (in_right (scan_entries false v.moved v.sights v.scan) (map look_entry v.found) (look_entry f) (in_map look_entry v.found f (subst (λ (u : WaitingRound). In u.found f) (sym same) j)))))
    (λ (k : In rounds w). in_right (entries (round_items v)) (entries (flat_map round_items rounds)) (look_entry f) (round_looks rounds w f k j))
    i)

module _ (r : List Entry) (ports : List ℕ) (within : ℕ) (how : Passivation) (rec : IsRecord (r ++ entries (passivation_items ports how))) (live : AreLivePorts (config_of r) ports) (is : IsPassivation ports within how) where
  abbrev pub behind : List Entry
  behind = map look_entry how.first ++ entries (flat_map round_items how.rounds)

  pub whole : r ++ entries (passivation_items ports how) ≡ (r ++ closes ports) ++ behind
  whole =
      let rest = entries (flat_map round_items how.rounds) in
      ap (λ es. r ++ es) (entries_both (map close_item ports ++ map look_item how.first) (flat_map round_items how.rounds)
      ∙ ap (λ es. es ++ rest) (entries_both (map close_item ports) (map look_item how.first) ∙ (λ i. close_entries ports i ++ look_entries how.first i))
      ∙ append_assoc (closes ports) (map look_entry how.first) rest)
      ∙ sym (append_assoc r (closes ports) behind)

  pub quiet : events_in behind ≡ []
  quiet =
      filter_map-append event_in (map look_entry how.first) (entries (flat_map round_items how.rounds))
      ∙ ap (λ es. es ++ events_in (entries (flat_map round_items how.rounds))) (looks_quiet how.first) ∙ rounds_quiet how.rounds

  pub look_root : (f : Found) → In ports f.port → In behind (look_entry f) → is_drained_word f.word ≡ false → has_root (unpack f.word) ≡ true
  look_root f i j = quiet_root (r ++ closes ports) behind f.port f.word (subst IsRecord whole rec) quiet (shut_behind r ports live f.port i) j

  first_there : (p : ℕ) → In (root_ports (left_after how.first [])) p → In ports p
  first_there p i = subst (λ ps. In ps p) is.at_ports (roots_there how.first p i)

  pub first_root : (f : Found) → In how.first f → is_drained_word f.word ≡ false → has_root (unpack f.word) ≡ true
  first_root f i =
      look_root f (subst (λ ps. In ps f.port) is.at_ports (in_map (λ (g : Found). g.port) how.first f i))
      (in_left (map look_entry how.first) (entries (flat_map round_items how.rounds)) (look_entry f) (in_map look_entry how.first f i))

  pub round_root : (w : WaitingRound) (f : Found) → In how.rounds w → In w.found f → is_drained_word f.word ≡ false → has_root (unpack f.word) ≡ true
  round_root w f i j =
      look_root f (rounds_there ports how.first [] how.rounds is.each_round first_there w i f j)
      (in_right (map look_entry how.first) (entries (flat_map round_items how.rounds)) (look_entry f) (round_looks how.rounds w f i j))
