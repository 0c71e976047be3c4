-- Where a scan saw the same as the one before it, all was at rest at the place between them.
use Rattle.std.proofs.Common.{◌≡◌, ◌∙◌, ℕ, zero, suc, ◌≤◌, ◌<◌, ◌+◌, Bool, true, false, cond, not, List, [], ◌∷◌, ◌++◌, append_assoc, length, map, Option, Some, None, refl, sym, ap, subst, ⊎_elim, arith}
use Rattle.std.specs.Prelude.{⊤, nat_lt, ◌||◌, ◌&&◌, All, filter}
use Rattle.std.specs.List.{AllByRecursion, list_all, range_with_len}
use Rattle.std.proofs.lemmas.Bool.{and_parts, cases_Bool, cases_eq, eqb-true, ltb-false, ltb-true}
use Rattle.std.proofs.lemmas.List.{append-nil}
use Rattle.std.proofs.lemmas.List.Elements.{All-cons, All-nil}
use Rattle.base.specs.Each.{Each, EachAfter}
use Rattle.base.proofs.EachLaws.{each_parts}
use Rattle.base.proofs.PlaceLaws.{heads_are, tails_are}
use Rattle.base.proofs.RangeLaws.{all_in_range}
use Rattle.txn_records.specs.Entries.{config_of}
use Rattle.txn_records.specs.Looks.{is_idle_word}
use Rattle.txn_records.specs.Records.{IsSo, Moment, by_node, entries, entry, events, state_at}
use Rattle.txn_records.specs.declared.entry.Entry.{Entry}
use Rattle.txn_records.specs.declared.entry.Entry.TheVariants.{Did, Looked, Sighted, Scanned}
use Rattle.txn_records.proofs.RecordLaws.{config_is}
use Rattle.quiesce_word.specs.Phases.{is_idle}
use Rattle.quiesce_word.specs.Words as words
use Rattle.quiesce_word.specs.declared.word.Word.{Word}
use Rattle.change_board.specs.Scans.{Found, IsSeenTwice, is_as_long, is_idle_if_live, is_seen_as_before, live_nodes, look_entry, ports_of, scan_entries}
use Rattle.change_board.specs.Sights.{Sight, is_seen_done, seen_in, sight_entry}
use Rattle.change_spec.specs.Lawful.{is_idle_after}
use Rattle.quiesce_core.specs.Fields.{fields_of}
use Rattle.quiesce_core.specs.Rules.{is_live_port}
use Rattle.quiesce_core.specs.Runs.{IsRun, done_by, state_after}
use Rattle.quiesce_core.specs.State.{Configuration, is_live, owner}
use Rattle.quiesce_core.specs.Words.{word_of}
use Rattle.quiesce_core.specs.declared.event.Event.{Event}
use Rattle.quiesce_core.proofs.RunLaws.{fronts_are_runs, runs_are_well_formed}
use Rattle.quiesce_core.proofs.TableLaws.{live_made}
use Rattle.quiesce_core.proofs.WordLaws.{port_words_decode}
use Rattle.change_spec.specs.Resting.{AreAtRest, AreByNodes}
use Rattle.change_transcript_laws.specs.Rests.{AreQuiet}
use Rattle.change_transcript_laws.proofs.SeenFolds.{seen_is_done, seen_there}
use Rattle.change_transcript_laws.proofs.Shown.{events_both, log_shown}
use Rattle.change_transcript_laws.proofs.Still.{by_nodes_parts, gone_log, log_grows, log_same_if, nothing_done, same_config}

-- ---- stretches without events of the change

pub by_nodes_if : (front m : List Moment) → EachAfter IsSo front m → AreQuiet (entries m) → AreByNodes (events m)
by_nodes_if front [] so q = tt
by_nodes_if front (by_node e ∷ m) so q = (so.0, by_nodes_if (front ++ by_node e ∷ []) m so.1 q)
by_nodes_if front (entry (Did e) ∷ m) so q = absurd (cc (q.0))
by_nodes_if front (entry (Looked p w) ∷ m) so q = by_nodes_if (front ++ entry (Looked p w) ∷ []) m so.1 q.1
by_nodes_if front (entry (Sighted n es) ∷ m) so q = by_nodes_if (front ++ entry (Sighted n es) ∷ []) m so.1 q.1
by_nodes_if front (entry (Scanned b v) ∷ m) so q = by_nodes_if (front ++ entry (Scanned b v) ∷ []) m so.1 q.1

pub quiet_both : (xs ys : List Entry) → AreQuiet xs → AreQuiet ys → AreQuiet (xs ++ ys)
quiet_both [] ys q p = p
quiet_both (x ∷ xs) ys q p = (q.0, quiet_both xs ys q.1 p)

pub quiet_sights : (ss : List Sight) → AreQuiet (map sight_entry ss)
quiet_sights [] = tt
quiet_sights (s ∷ ss) = (refl, quiet_sights ss)

pub quiet_looks : (fs : List Found) → AreQuiet (map look_entry fs)
quiet_looks [] = tt
quiet_looks (f ∷ fs) = (refl, quiet_looks fs)

pub record Split (m : List Moment) (xs ys : List Entry) : Type 0 where
  pub a : List Moment
  pub b : List Moment
  pub parts : m ≡ a ++ b
  pub a_are : entries a ≡ xs
  pub b_are : entries b ≡ ys

pub split_at : (m : List Moment) (xs ys : List Entry) → entries m ≡ xs ++ ys → Split m xs ys
split_at m [] ys h = record { a = []; b = m; parts = refl; a_are = refl; b_are = h }
split_at [] (x ∷ xs) ys h = absurd (cc h)
split_at (by_node e ∷ m) (x ∷ xs) ys h =
    let w = split_at m (x ∷ xs) ys h in record { a = by_node e ∷ w.a; b = w.b; parts = ap (λ k. by_node e ∷ k) w.parts; a_are = w.a_are; b_are = w.b_are }
split_at (entry y ∷ m) (x ∷ xs) ys h =
    let w = split_at m xs ys (tails_are y x (entries m) (xs ++ ys) h) in
    record {
      a = entry y ∷ w.a;
      b = w.b;
      parts = ap (λ k. entry y ∷ k) w.parts;
      a_are = ap (λ q. y ∷ q) w.a_are ∙ ap (λ q. q ∷ xs) (heads_are y x (entries m) (xs ++ ys) h);
      b_are = w.b_are;
    }

-- ---- lists

all_kept : (kept test : ℕ → Bool) (xs : List ℕ) → list_all test (filter kept xs) ≡ true → list_all (λ n. not (kept n) || test n) xs ≡ true
all_kept kept test [] h = refl
all_kept kept test (x ∷ xs) h = by (all_kept kept test xs) (kept x) refl h
  where
    by : (list_all test (filter kept xs) ≡ true → list_all (λ n. not (kept n) || test n) xs ≡ true) → (b : Bool) → kept x ≡ b → list_all test (cond b (x ∷ filter kept xs) (filter kept xs)) ≡ true
        → list_all (λ n. not (kept n) || test n) (x ∷ xs) ≡ true
    by rec true e h =
        let w = and_parts (test x) (list_all test (filter kept xs)) h in
        let rest = list_all (λ n. not (kept n) || test n) xs in
        ap (λ b. (not b || test x) && rest) e ∙ ap (λ b. b && rest) w.0 ∙ rec w.1
    by rec false e h = ap (λ b. (not b || test x) && list_all (λ n. not (kept n) || test n) xs) e ∙ rec h

pub of_live : (c : Configuration) (test : ℕ → Bool) (n : ℕ) → list_all test (live_nodes c) ≡ true → is_live c n ≡ true → test n ≡ true
of_live c test n all live =
    let made = live_made c n live in
    let here = all_in_range (λ k. not (is_live c k) || test k) 0 (length c.slots) n (all_kept (is_live c) test (range_with_len 0 (length c.slots)) all) (omega arith) (omega (arith, made)) in
    sym (ap (λ b. not b || test n) live) ∙ here

pub all_through : (kept : ℕ → Bool) (Q : ℕ → Type 0) (xs : List ℕ) → AllByRecursion (λ p. kept p ≡ true → Q p) xs → All Q (filter kept xs)
all_through kept Q [] h = All-nil Q
all_through kept Q (x ∷ xs) h = by (all_through kept Q xs h.1) (kept x) refl
  where
    by : All Q (filter kept xs) → (b : Bool) → kept x ≡ b → All Q (cond b (x ∷ filter kept xs) (filter kept xs))
    by rest true e = All-cons Q x (filter kept xs) (h.0 e) rest
    by rest false e = rest

at_range : (P : ℕ → Type 0) (a n p : ℕ) → AllByRecursion P (range_with_len a n) → a ≤ p → p < a + n → P p
at_range P a zero p h from below = absurd (omega (arith, from, below))
at_range P a (suc n) p h from below = ⊎_elim
    (λ (here : p ≡ a). subst P (sym here) h.0)
    (λ (there : p ≡ a → ⊥). at_range P (a + 1) n p h.1 (more there) (omega (arith, below)))
    (cases_eq p a)
  where
    more : (p ≡ a → ⊥) → a + 1 ≤ p
    more there = by (nat_lt a p) refl
      where
        by : (b : Bool) → nat_lt a p ≡ b → a + 1 ≤ p
        by true e = let l = ltb-true a p e in omega (arith, l)
        by false e = absurd (let l = ltb-false a p e in there (omega (arith, l, from)))

pub at_ports_of : (P : ℕ → Type 0) (found : List Found) → AllByRecursion (λ (f : Found). P f.port) found → AllByRecursion P (ports_of found)
at_ports_of P [] h = tt
at_ports_of P (f ∷ found) h = (h.0, at_ports_of P found h.1)

-- ---- looks between which nothing was done

looks_show : (front m : List Moment) (found : List Found) → EachAfter IsSo front m → entries m ≡ map look_entry found → events m ≡ [] → AllByRecursion (λ (f : Found). f.word ≡ word_of (state_at front) f.port) found
looks_show front [] [] so are none_ = tt
looks_show front [] (f ∷ found) so are none_ = absurd (cc are)
looks_show front (by_node e ∷ m) found so are none_ = absurd (cc none_)
looks_show front (entry y ∷ m) [] so are none_ = absurd (cc are)
looks_show front (entry y ∷ m) (f ∷ found) so are none_ =
    let same : y ≡ Looked f.port f.word = heads_are y (look_entry f) (entries m) (map look_entry found) are in
    let rest = tails_are y (look_entry f) (entries m) (map look_entry found) are in
    let so' = subst (λ z. EachAfter IsSo front (entry z ∷ m)) same so in
    let none' = subst (λ z. events (entry z ∷ m) ≡ []) same none_ in
    let quiet : events (front ++ entry (Looked f.port f.word) ∷ []) ≡ events front = events_both front (entry (Looked f.port f.word) ∷ []) ∙ append-nil (events front) in (
      so'.0,
      subst (λ es. AllByRecursion (λ (g : Found). g.word ≡ word_of (state_after es) g.port) found) quiet
          (looks_show (front ++ entry (Looked f.port f.word) ∷ []) m found so'.1 rest none'),
    )

pub idle_there : (es : List Event) (p w : ℕ) → IsRun es → w ≡ word_of (state_after es) p → is_idle_word w ≡ true → is_idle_after p es ≡ true
idle_there es p w run so idle =
    let fields : words.unpack w ≡ fields_of (state_after es) p = ap words.unpack so ∙ port_words_decode (state_after es) (runs_are_well_formed es run) p in
    sym (ap (λ (f : Word). is_idle f.phase) fields) ∙ idle

idle_at : (c : Configuration) (es : List Event) (found : List Found) → IsRun es → AllByRecursion (λ (f : Found). f.word ≡ word_of (state_after es) f.port) found → list_all (is_idle_if_live c) found ≡ true
    → AllByRecursion (λ (f : Found). is_live_port c f.port ≡ true → is_idle_after f.port es ≡ true) found
idle_at c es [] run so h = tt
idle_at c es (f ∷ found) run so h =
    let w = and_parts (is_idle_if_live c f) (list_all (is_idle_if_live c) found) h in
    (λ live. idle_there es f.port f.word run so.0 (sym (ap (λ b. not b || is_idle_word f.word) live) ∙ w.0), idle_at c es found run so.1 w.1)

-- ---- the place between

long_parts : (o : Option (List Event)) (own : List Event) → is_as_long o (Some own) ≡ true → (first : List Event) × (o ≡ Some first) × (length first ≡ length own)
long_parts None own h = absurd (cc h)
long_parts (Some first) own h = (first, refl, eqb-true (length first) (length own) h)

module _ (r : List Entry) (before after : List Moment) (begins moved : Bool) (now : List Sight) (post : List Entry) (quiet_post : AreQuiet post) (so : Each IsSo (before ++ after)) (runs : IsRun (events (before ++ after)))
    (r_is : entries before ≡ r) (after_are : entries after ≡ Scanned begins moved ∷ (map sight_entry now ++ post)) (h : IsSeenTwice r now) where
  abbrev c : Configuration
  c = config_of r

  halves : Each IsSo before × EachAfter IsSo before after
  halves = each_parts IsSo [] before after so

  whole_run : IsRun (events before ++ events after)
  whole_run = subst IsRun (events_both before after) runs

  before_run : IsRun (events before)
  before_run = fronts_are_runs (events before) (events after) whole_run

  same : c ≡ (state_after (events before)).config
  same = config_is r before (record { record_is = r_is; runs = before_run; so = halves.0 })

  after_by : AreByNodes (events after)
  after_by = by_nodes_if before after halves.1 (subst AreQuiet (sym after_are) (refl, quiet_both (map sight_entry now) post (quiet_sights now) quiet_post))

  abbrev first_entries : List Entry
  first_entries = Scanned h.begins h.moved ∷ map sight_entry h.first

  -- up to the first scan, its sights, and its looks
  outer : Split before h.front (scan_entries h.begins h.moved h.first h.found)
  outer = split_at before h.front (scan_entries h.begins h.moved h.first h.found) (r_is ∙ h.ends)

  inner : Split outer.b first_entries (map look_entry h.found)
  inner = split_at outer.b first_entries (map look_entry h.found) outer.b_are

  abbrev sighting : List Moment
  sighting = outer.a ++ inner.a

  two_parts : before ≡ sighting ++ inner.b
  two_parts = outer.parts ∙ ap (λ k. outer.a ++ k) inner.parts ∙ sym (append_assoc outer.a inner.a inner.b)

  so_two : EachAfter IsSo [] sighting × EachAfter IsSo sighting inner.b
  so_two = each_parts IsSo [] sighting inner.b (subst (EachAfter IsSo []) two_parts halves.0)

  so_first : EachAfter IsSo outer.a inner.a
  so_first = (each_parts IsSo [] outer.a inner.a so_two.0).1

  abbrev E1 : List Event
  E1 = events sighting

  abbrev looking : List Event
  looking = events inner.b

  events_two : events before ≡ E1 ++ looking
  events_two = ap events two_parts ∙ events_both sighting inner.b

  looking_by : AreByNodes looking
  looking_by = by_nodes_if sighting inner.b so_two.1 (subst AreQuiet (sym inner.b_are) (quiet_looks h.found))

  same_1 : (state_after (events before)).config ≡ (state_after E1).config
  same_1 = ap (λ es. (state_after es).config) events_two ∙ same_config E1 looking looking_by

  -- what the sights show of a live node
  record Squeezed (n : ℕ) (own : List Event) : Type 0 where
    early : List Event
    late : List Event
    parts : events after ≡ early ++ late
    log : own ≡ done_by n (events before ++ early)
    few : length (done_by n (events before ++ early)) ≤ length (done_by n E1)

  squeezed : (n : ℕ) (own : List Event) → is_live c n ≡ true → seen_in now n ≡ Some own → Squeezed n own
  squeezed n own live seen =
      let long = of_live c (is_seen_as_before h.first now) n h.as_long live in
      let one = long_parts (seen_in h.first n) own (sym (ap (is_as_long (seen_in h.first n)) seen) ∙ long) in
      let x = log_shown outer.a inner.a (Scanned h.begins h.moved ∷ []) h.first [] n one.0 so_first (inner.a_are ∙ ap (λ k. Scanned h.begins h.moved ∷ k) (sym (append-nil (map sight_entry h.first)))) one.1 in
      let y = log_shown before after (Scanned begins moved ∷ []) now post n own halves.1 after_are seen in
      let upto : E1 ≡ (events outer.a ++ x.earlier) ++ x.later = events_both outer.a inner.a ∙ ap (λ k. events outer.a ++ k) x.parts ∙ sym (append_assoc (events outer.a) x.earlier x.later) in
      record {
        early = y.earlier;
        late = y.later;
        parts = y.parts;
        log = y.log;
        few = omega (arith, one.2, ap length x.log, ap length y.log, log_grows n (events outer.a ++ x.earlier) x.later, ap (λ es. length (done_by n es)) upto);
      }

  seen_so : (n : ℕ) → is_live c n ≡ true → (own : List Event) × (seen_in now n ≡ Some own)
  seen_so n live = seen_there c (seen_in now) n (of_live c (is_seen_done c (seen_in now)) n h.done live)

  none_looking : looking ≡ []
  none_looking = nothing_done E1 looking (subst IsRun events_two before_run) looking_by (λ n live.
      let live' : is_live c n ≡ true = ap (λ d. is_live d n) (same ∙ same_1) ∙ live in
      let s = seen_so n live' in
      let q = squeezed n s.0 live' s.1 in
      omega (arith, q.few, log_grows n (events before) q.early, ap (λ es. length (done_by n es)) events_two))

  before_is : events before ≡ E1
  before_is = events_two ∙ ap (λ k. E1 ++ k) none_looking ∙ append-nil E1

  agree_live : (n : ℕ) (own : List Event) → is_live c n ≡ true → seen_in now n ≡ Some own → own ≡ done_by n (events before)
  agree_live n own live seen =
      let q = squeezed n own live seen in
      q.log ∙ log_same_if n (events before) q.early (omega (arith, q.few, ap (λ es. length (done_by n es)) before_is))

  agree_gone : (n : ℕ) (own : List Event) → is_live c n ≡ false → seen_in now n ≡ Some own → own ≡ done_by n (events before)
  agree_gone n own gone seen =
      let y = log_shown before after (Scanned begins moved ∷ []) now post n own halves.1 after_are seen in
      let run' : IsRun ((events before ++ y.earlier) ++ y.later) = subst IsRun (ap (λ k. events before ++ k) y.parts ∙ sym (append_assoc (events before) y.earlier y.later)) whole_run in
      y.log ∙ gone_log (events before) y.earlier n (fronts_are_runs (events before ++ y.earlier) y.later run')
      (by_nodes_parts y.earlier y.later (subst AreByNodes y.parts after_by)).0 (sym (ap (λ d. is_live d n) same) ∙ gone)

  agree : (n : ℕ) (own : List Event) → seen_in now n ≡ Some own → own ≡ done_by n (events before)
  agree n own seen = ⊎_elim (λ (live : is_live c n ≡ true). agree_live n own live seen) (λ (gone : is_live c n ≡ false). agree_gone n own gone seen) (cases_Bool (is_live c n))

  pub at_rest : AreAtRest (events before)
  at_rest =
      let es = events before in
      record {
        nodes = λ n live.
            let live' : is_live c n ≡ true = ap (λ d. is_live d n) same ∙ live in
            seen_is_done es (seen_in now) (λ k. ⊤) (λ k own of_ seen. agree k own seen) (λ i k m at from. tt) n tt
            (subst (λ d. is_seen_done d (seen_in now) n ≡ true) same (of_live c (is_seen_done c (seen_in now)) n h.done live'));
        ports =
            let words_ = looks_show sighting inner.b h.found so_two.1 inner.b_are none_looking in
            let words' = subst (λ ds. AllByRecursion (λ (f : Found). f.word ≡ word_of (state_after ds) f.port) h.found) (sym before_is) words_ in
            let idle = at_ports_of (λ p. is_live_port c p ≡ true → is_idle_after p es ≡ true) h.found (idle_at c es h.found before_run words' h.idle) in
            let everywhere = subst (AllByRecursion (λ p. is_live_port c p ≡ true → is_idle_after p es ≡ true)) h.at_ports idle in
            λ p live.
            let live' : is_live_port c p ≡ true = ap (λ d. is_live_port d p) same ∙ live in
            let made = ltb-true p (length c.gates) (and_parts (nat_lt p (length c.gates)) (is_live c (owner c p)) live').0 in
            at_range (λ q. is_live_port c q ≡ true → is_idle_after q es ≡ true) 0 (length c.gates) p everywhere (omega arith) (omega (arith, made)) live';
      }
