-- What is told as open stood open from the close of its port on, to the last look at it.
use Rattle.std.proofs.Common.{◌≡◌, ◌∙◌, ℕ, ◌+◌, ◌≤◌, Bool, true, false, not, cond, List, [], ◌∷◌, ◌++◌, append_assoc, Option, Some, None, refl, sym, ap, subst, ⊎_elim, arith}
use Rattle.std.specs.Prelude.{◌||◌, ◌&&◌, ◌==◌, filter_map, All}
use Rattle.std.specs.List.{cons_option, count_by, list_any}
use Rattle.std.proofs.lemmas.Bool.{and_from, both_ways, cases_eq, eq-eqb, ne_eqb, or_parts}
use Rattle.std.proofs.lemmas.List.Elements.{filter-append, filter_map-append}
use Rattle.std.proofs.lemmas.List.Sums.{sum_by-cons}
use Rattle.std.proofs.lemmas.Option.{none-some, same_Some}
use Rattle.base.specs.Each.{Each}
use Rattle.base.proofs.EachLaws.{each_parts}
use Rattle.base.proofs.MapLaws.{count_by-append}
use Rattle.base.proofs.PlaceLaws.{heads_are, tails_are}
use Rattle.base.proofs.ListLaws.{all_parts}
use Rattle.quiesce_word.specs.Words as words
use Rattle.quiesce_word.specs.Phases.{is_idle}
use Rattle.quiesce_word.specs.declared.word.Word.{Word}
use Rattle.quiesce_core.specs.Fields.{fields_of}
use Rattle.quiesce_core.specs.Runs.{IsRun, state_after}
use Rattle.quiesce_core.specs.State.{exchange, gate}
use Rattle.quiesce_core.specs.Words.{word_of}
use Rattle.quiesce_core.specs.declared.event.Event.{Event}
use Rattle.quiesce_core.specs.declared.event.Event.TheVariants as event
use Rattle.quiesce_core.proofs.InductionLaws.{place}
use Rattle.quiesce_core.proofs.RunLaws.{fronts_are_runs, runs_are_well_formed}
use Rattle.quiesce_core.proofs.WordLaws.{port_words_decode}
use Rattle.quiesce_laws.specs.Events.{reopens}
use Rattle.quiesce_laws.specs.Roots.{has_root}
use Rattle.quiesce_laws.proofs.RootLaws.{closed_stays, root_since, closed_by}
use Rattle.quiesce_laws.proofs.DrainingLaws.{no_node_reopens}
use Rattle.report_types.specs.declared.report.HistoryLine.{HistoryLine}
use Rattle.report_types.specs.declared.report.HistoryLine.TheVariants as to
use Rattle.change_spec.specs.Lawful.{IsOfItsKind, StoodOpen}
use Rattle.change_spec.specs.Members as members
use Rattle.change_spec.specs.Members.{Member, of_history, event_of, is_close, is_root, without_roots}
use Rattle.change_spec.proofs.MemberLaws.{events_parts, events_without_roots, none_happens}
use Rattle.txn_records.specs.declared.entry.Entry.{Entry}
use Rattle.txn_records.specs.declared.entry.Entry.TheVariants.{Did, Looked}
use Rattle.txn_records.specs.Looks.{is_drained_word, serial_of}
use Rattle.txn_records.specs.Records as records
use Rattle.txn_records.specs.Records.{IsRecordOf, Moment}
use Rattle.change_board.specs.Bearing.{loads_root, looks_at}
use Rattle.change_board.specs.Transcripts as transcripts
use Rattle.change_board.specs.Transcripts.{Item, silent, told, said, entries, lines}
use Rattle.change_transcript_laws.specs.Joining.{AreJoined, Joint, of_node, of_line, of_entry, item_of, items_in, member_of, members_in, moment_of, moments_in}
use Rattle.change_transcript_laws.proofs.ItemLemmas.{AreFair}
use Rattle.change_transcript_laws.proofs.JoiningLemmas.{IsKnown, member_events, member_lines}
use Rattle.change_transcript_laws.proofs.LawfulLaws.{all_known, by_nodes, runs}
use Rattle.change_engine.proofs.ItemLaws.{entries_both, lines_both}
use Rattle.change_engine.proofs.PassivationLaws.{root_by}

-- ---- the place of an item in the joint list

record AtItem (js : List Joint) (xs : List Item) (x : Item) (ys : List Item) : Type 0 where
  before : List Joint
  here : Joint
  after : List Joint
  parts : js ≡ before ++ here ∷ after
  before_items : items_in before ≡ xs
  here_item : item_of here ≡ Some x
  after_items : items_in after ≡ ys

-- a joint with an item, in front of others
found_first : (j : Joint) (js : List Joint) (y : Item) → item_of j ≡ Some y → (xs : List Item) (x : Item) (ys : List Item) → y ∷ items_in js ≡ xs ++ x ∷ ys
    → ((zs : List Item) → items_in js ≡ zs ++ x ∷ ys → AtItem js zs x ys) → AtItem (j ∷ js) xs x ys
found_first j js y is [] x ys h later = record {
  before = [];
  here = j;
  after = js;
  parts = refl;
  before_items = refl;
  here_item = is ∙ ap Some (heads_are y x (items_in js) ys h);
  after_items = tails_are y x (items_in js) ys h;
}
found_first j js y is (z ∷ xs) x ys h later =
    let w = later xs (tails_are y z (items_in js) (xs ++ x ∷ ys) h) in
    record {
      before = j ∷ w.before;
      here = w.here;
      after = w.after;
      parts = ap (λ k. j ∷ k) w.parts;
      before_items = ap (λ o. cons_option o (items_in w.before)) is ∙ ap (λ k. y ∷ k) w.before_items ∙ ap (λ v. v ∷ xs) (heads_are y z (items_in js) (xs ++ x ∷ ys) h);
      here_item = w.here_item;
      after_items = w.after_items;
    }

none_in : (xs : List Item) (x : Item) (ys : List Item) → [] ≡ xs ++ x ∷ ys → ⊥
none_in [] x ys h = cc h
none_in (z ∷ xs) x ys h = cc h

at_item : (js : List Joint) (xs : List Item) (x : Item) (ys : List Item) → items_in js ≡ xs ++ x ∷ ys → AtItem js xs x ys
at_item [] xs x ys h = absurd (none_in xs x ys h)
at_item (of_node e ∷ js) xs x ys h =
    let w = at_item js xs x ys h in
    record {
      before = of_node e ∷ w.before;
      here = w.here;
      after = w.after;
      parts = ap (λ k. of_node e ∷ k) w.parts;
      before_items = w.before_items;
      here_item = w.here_item;
      after_items = w.after_items;
    }
at_item (of_line l ∷ js) xs x ys h = found_first (of_line l) js (said l) refl xs x ys h (λ zs e. at_item js zs x ys e)
at_item (of_entry y None ∷ js) xs x ys h = found_first (of_entry y None) js (silent y) refl xs x ys h (λ zs e. at_item js zs x ys e)
at_item (of_entry y (Some l) ∷ js) xs x ys h = found_first (of_entry y (Some l)) js (told y l) refl xs x ys h (λ zs e. at_item js zs x ys e)

-- which joint an item is of
abbrev entry_of : Item → Option Entry
entry_of x = transcripts.entry_in x

abbrev line_of_item : Item → Option HistoryLine
line_of_item x = transcripts.line_in x

abbrev is_said : Item → Bool
is_said (said l) = true
is_said _ = false

of_told : (j : Joint) (e : Entry) (l : HistoryLine) → item_of j ≡ Some (told e l) → j ≡ of_entry e (Some l)
of_told (of_node v) e l h = absurd (none-some (told e l) h)
of_told (of_line k) e l h = absurd (both_ways true (ap is_said (same_Some (said k) (told e l) h)) refl)
of_told (of_entry y None) e l h = absurd (none-some l (ap line_of_item (same_Some (silent y) (told e l) h)))
of_told (of_entry y (Some k)) e l h =
    let same = same_Some (told y k) (told e l) h in
    ap (λ z. of_entry z (Some k)) (same_Some y e (ap entry_of same)) ∙ ap (of_entry e) (ap line_of_item same)

of_silent : (j : Joint) (e : Entry) → item_of j ≡ Some (silent e) → j ≡ of_entry e None
of_silent (of_node v) e h = absurd (none-some (silent e) h)
of_silent (of_line k) e h = absurd (both_ways true (ap is_said (same_Some (said k) (silent e) h)) refl)
of_silent (of_entry y None) e h = ap (λ z. of_entry z None) (same_Some y e (ap entry_of (same_Some (silent y) (silent e) h)))
of_silent (of_entry y (Some k)) e h = absurd (none-some k (sym (ap line_of_item (same_Some (told y k) (silent e) h))))

-- the moment of a joint's entry
moment_there : (j : Joint) (y : Item) (x : Entry) → item_of j ≡ Some y → entry_of y ≡ Some x → moment_of j ≡ Some (records.entry x)
moment_there (of_node e) y x h is = absurd (none-some y h)
moment_there (of_line l) y x h is = absurd (none-some x (ap entry_of (same_Some (said l) y h) ∙ is))
moment_there (of_entry z None) y x h is = ap (λ v. Some (records.entry v)) (same_Some z x (ap entry_of (same_Some (silent z) y h) ∙ is))
moment_there (of_entry z (Some l)) y x h is = ap (λ v. Some (records.entry v)) (same_Some z x (ap entry_of (same_Some (told z l) y h) ∙ is))

-- ---- a port's word that isn't drained, while it is closed

busy_has_root : (es : List Event) (p w : ℕ) → IsRun es → w ≡ word_of (state_after es) p → (gate (state_after es).config p).closed ≡ true → is_drained_word w ≡ false
    → has_root (state_after es) p (serial_of w) ≡ true
busy_has_root es p w run so shut busy =
    let s = state_after es in
    let fields : words.unpack w ≡ fields_of s p = ap words.unpack so ∙ port_words_decode s (runs_are_well_formed es run) p in
    and_from (words.has_root (fields_of s p)) ((exchange s p).serial == serial_of w)
    (root_by (fields_of s p).closed (is_idle (fields_of s p).phase) (fields_of s p).consequent shut (sym (ap words.is_drained fields) ∙ busy))
    (eq-eqb (exchange s p).serial (serial_of w) (sym (ap (λ (f : Word). f.serial) fields)))

-- a look while a root is open loads it
root_loads : (es : List Event) (p k w : ℕ) → IsRun es → w ≡ word_of (state_after es) p → has_root (state_after es) p k ≡ true → loads_root p k (Looked p w) ≡ true
root_loads es p k w run so root =
    let s = state_after es in
    let fields : words.unpack w ≡ fields_of s p = ap words.unpack so ∙ port_words_decode s (runs_are_well_formed es run) p in
    and_from (p == p) (words.has_root (words.unpack w) && serial_of w == k) (eq-eqb p p refl) (ap (λ (f : Word). words.has_root f && f.serial == k) fields ∙ root)

-- ---- a look behind a close that finds the port not drained

-- items of which none is seen by a test of their lines
none_kept : (test : HistoryLine → Bool) (ls : List HistoryLine) → list_any test ls ≡ false → list_any test (without_roots ls) ≡ false
none_kept test [] h = refl
none_kept test (l ∷ ls) h = by (is_root l) (or_parts (test l) (list_any test ls) h) (none_kept test ls)
  where
    by : (b : Bool) → (test l ≡ false) × (list_any test ls ≡ false) → (list_any test ls ≡ false → list_any test (without_roots ls) ≡ false)
        → list_any test (cond (not b) (l ∷ without_roots ls) (without_roots ls)) ≡ false
    by true w rest = rest w.1
    by false w rest = ap (λ b. b || list_any test (without_roots ls)) w.0 ∙ rest w.1

each_front : {A : Type 0} (P : List A → A → Type 0) (xs : List A) (x : A) (ys : List A) → Each P (xs ++ x ∷ ys) → P xs x
each_front P xs x ys each = (each_parts P [] xs (x ∷ ys) each).1.0

module _ (t : List Item) (m : List Moment) (ms : List Member) (fair : AreFair t) (j : AreJoined t m ms) (is_of : IsRecordOf (entries t) m) where
  abbrev close_at : ℕ → Item
  close_at p = told (Did (event.Close p)) (to.Close p)

  module _ (p w : ℕ) (xs ys zs us : List Item) (parts : t ≡ xs ++ close_at p ∷ (ys ++ silent (Looked p w) ∷ (zs ++ us))) (busy : is_drained_word w ≡ false)
      (none_reopened : list_any (reopens p) (filter_map event_of (lines ys)) ≡ false) (behind : list_any is_close (lines zs) ≡ false) where
    abbrev first : AtItem j.joint xs (close_at p) (ys ++ silent (Looked p w) ∷ (zs ++ us))
    first = at_item j.joint xs (close_at p) (ys ++ silent (Looked p w) ∷ (zs ++ us)) (j.items_are ∙ parts)

    abbrev second : AtItem first.after ys (silent (Looked p w)) (zs ++ us)
    second = at_item first.after ys (silent (Looked p w)) (zs ++ us) first.after_items

    abbrev front : List Joint
    front = first.before

    abbrev between : List Joint
    between = second.before

    abbrev closing : Joint
    closing = of_entry (Did (event.Close p)) (Some (to.Close p))

    abbrev looking : Joint
    looking = of_entry (Looked p w) None

    whole : j.joint ≡ front ++ closing ∷ (between ++ looking ∷ second.after)
    whole =
        first.parts ∙ ap (λ y. front ++ y ∷ first.after) (of_told first.here (Did (event.Close p)) (to.Close p) first.here_item)
        ∙ ap (λ k. front ++ closing ∷ k) (second.parts ∙ ap (λ y. between ++ y ∷ second.after) (of_silent second.here (Looked p w) second.here_item))

    abbrev up_to : List Joint
    up_to = front ++ closing ∷ between

    whole_again : j.joint ≡ up_to ++ looking ∷ second.after
    whole_again = whole ∙ sym (append_assoc front (closing ∷ between) (looking ∷ second.after))

    abbrev front_members : List Member
    front_members = members_in front

    abbrev since : List Member
    since = members_in between

    up_to_members : members_in up_to ≡ front_members ++ of_history (to.Close p) ∷ since
    up_to_members = filter_map-append member_of front (closing ∷ between)

    members_are : ms ≡ front_members ++ of_history (to.Close p) ∷ since ++ members_in second.after
    members_are =
        sym j.members_are ∙ ap members_in whole_again ∙ filter_map-append member_of up_to (looking ∷ second.after)
        ∙ ap (λ k. k ++ members_in second.after) up_to_members

    known_there : IsKnown up_to looking
    known_there = each_front IsKnown up_to looking second.after (subst (Each IsKnown) whole_again (all_known t m ms fair j is_of))

    since_kinds : All IsOfItsKind since
    since_kinds =
        let all = subst (All IsOfItsKind) members_are (by_nodes t m ms fair j is_of) in
        (all_parts IsOfItsKind (of_history (to.Close p) ∷ []) since
        (all_parts IsOfItsKind front_members (of_history (to.Close p) ∷ since) (all_parts IsOfItsKind (front_members ++ of_history (to.Close p) ∷ since) (members_in second.after) all).0).1).1

    since_lines : members.lines since ≡ without_roots (lines ys)
    since_lines = member_lines between ∙ ap (λ k. without_roots (lines k)) second.before_items

    not_reopened : list_any (reopens p) (members.events since) ≡ false
    not_reopened = none_happens (reopens p) (no_node_reopens p) since since_kinds
        (ap (λ ls. list_any (reopens p) (filter_map event_of ls)) since_lines ∙ ap (list_any (reopens p)) (events_without_roots (lines ys)) ∙ none_reopened)

    run_there : IsRun (members.events (front_members ++ of_history (to.Close p) ∷ since))
    run_there =
        let all : IsRun (members.events (front_members ++ of_history (to.Close p) ∷ since ++ members_in second.after)) = subst (λ k. IsRun (members.events k)) members_are (runs t m ms fair j is_of) in
        fronts_are_runs (members.events (front_members ++ of_history (to.Close p) ∷ since)) (members.events (members_in second.after))
        (subst IsRun (events_parts (front_members ++ of_history (to.Close p) ∷ since) (members_in second.after)) all)

    abbrev before_close : List Event
    before_close = members.events front_members

    events_there : members.events (front_members ++ of_history (to.Close p) ∷ since) ≡ before_close ++ event.Close p ∷ members.events since
    events_there = events_parts front_members (of_history (to.Close p) ∷ since)

    run_split : IsRun (before_close ++ event.Close p ∷ members.events since)
    run_split = subst IsRun events_there run_there

    shut : (gate (state_after (before_close ++ event.Close p ∷ members.events since)).config p).closed ≡ true
    shut =
        let split : (before_close ++ event.Close p ∷ []) ++ members.events since ≡ before_close ++ event.Close p ∷ members.events since = append_assoc before_close (event.Close p ∷ []) (members.events since) in
        ap (λ es. (gate (state_after es).config p).closed) (sym split)
        ∙ closed_stays (before_close ++ event.Close p ∷ []) (members.events since) p (subst IsRun (sym split) run_split) not_reopened
        (closed_by before_close (members.events since) p run_split)

    word_there : w ≡ word_of (state_after (before_close ++ event.Close p ∷ members.events since)) p
    word_there =
        known_there.so (records.entry (Looked p w)) refl
        ∙ ap (λ es. word_of (state_after es) p) (sym (member_events up_to known_there.fair) ∙ ap members.events up_to_members ∙ events_there)

    root_there : has_root (state_after (before_close ++ event.Close p ∷ members.events since)) p (serial_of w) ≡ true
    root_there = busy_has_root (before_close ++ event.Close p ∷ members.events since) p w run_split word_there shut busy

    stood_since : (x y : List Member) → since ≡ x ++ y → has_root (members.state_at (front_members ++ of_history (to.Close p) ∷ x)) p (serial_of w) ≡ true
    stood_since x y e =
        let es = members.events x in
        let fs = members.events y in
        let both : members.events since ≡ es ++ fs = ap members.events e ∙ events_parts x y in
        let all : before_close ++ event.Close p ∷ members.events since ≡ before_close ++ event.Close p ∷ es ++ fs =
        ap (λ zs. before_close ++ event.Close p ∷ zs) both ∙ sym (append_assoc before_close (event.Close p ∷ es) fs) in
        ap (λ zs. has_root (state_after zs) p (serial_of w)) (events_parts front_members (of_history (to.Close p) ∷ x))
        ∙ root_since before_close es fs p (serial_of w) (subst IsRun all run_split) (ap (list_any (reopens p)) (sym both) ∙ not_reopened)
        (ap (λ zs. has_root (state_after zs) p (serial_of w)) (sym all) ∙ root_there)

    -- ---- each look at the port from the close on loaded the root

    loaded_between : (y1 : List Item) (y : Item) (y2 : List Item) (v : ℕ) → ys ≡ y1 ++ y ∷ y2 → entry_of y ≡ Some (Looked p v) → loads_root p (serial_of w) (Looked p v) ≡ true
    loaded_between y1 y y2 v split is =
        let third = at_item between y1 y y2 (second.before_items ∙ split) in
        let there = front ++ closing ∷ third.before in
        let behind_it = third.after ++ looking ∷ second.after in
        let parts_there : j.joint ≡ there ++ third.here ∷ behind_it =
        whole ∙ ap (λ k. front ++ closing ∷ k) (ap (λ k. k ++ looking ∷ second.after) third.parts ∙ append_assoc third.before (third.here ∷ third.after) (looking ∷ second.after))
        ∙ sym (append_assoc front (closing ∷ third.before) (third.here ∷ behind_it)) in
        let known_then = each_front IsKnown there third.here behind_it (subst (Each IsKnown) parts_there (all_known t m ms fair j is_of)) in
        let so_far = members_in third.before in
        let stood_then = stood_since so_far (members_in (third.here ∷ third.after)) (ap members_in third.parts ∙ filter_map-append member_of third.before (third.here ∷ third.after)) in
        root_loads (records.events (moments_in there)) p (serial_of w) v known_then.is_of.runs (known_then.so (records.entry (Looked p v)) (moment_there third.here y (Looked p v) third.here_item is))
        (ap (λ es. has_root (state_after es) p (serial_of w)) (sym (member_events there known_then.fair) ∙ ap members.events (filter_map-append member_of front (closing ∷ third.before))) ∙ stood_then)

    abbrev loads : Entry → Bool
    loads x = loads_root p (serial_of w) x

    loads_as_often : (y1 y2 : List Item) → ys ≡ y1 ++ y2 → count_by loads (entries y2) ≡ count_by (looks_at p) (entries y2)
    loads_as_often y1 [] split = refl
    loads_as_often y1 (y ∷ y2) split = by (entry_of y) refl (loads_as_often (y1 ++ y ∷ []) y2 (split ∙ sym (append_assoc y1 (y ∷ []) y2)))
      where
        same : (x : Entry) → entry_of y ≡ Some x → loads x ≡ looks_at p x
        same (Looked q v) is = ⊎_elim
            (λ (e : q ≡ p). ap (λ i. loads (Looked i v)) e ∙ loaded_between y1 y y2 v split (is ∙ ap (λ i. Some (Looked i v)) e) ∙ sym (eq-eqb q p e))
            (λ (e : q ≡ p → ⊥). ap (λ b. b && (words.has_root (words.unpack v) && serial_of v == serial_of w)) (ne_eqb q p e) ∙ sym (ne_eqb q p e))
            (cases_eq q p)
        same _ is = refl

        by : (o : Option Entry) → entry_of y ≡ o → count_by loads (entries y2) ≡ count_by (looks_at p) (entries y2) → count_by loads (cons_option o (entries y2)) ≡ count_by (looks_at p) (cons_option o (entries y2))
        by None is rest = rest
        by (Some x) is rest = omega (
          arith,
          sum_by-cons (λ e. cond (loads e) 1 0) x (entries y2),
          sum_by-cons (λ e. cond (looks_at p e) 1 0) x (entries y2),
          ap {B = ℕ} (λ b. cond b 1 0) (same x is),
          rest,
        )

    pub loaded_last : loads_root p (serial_of w) (Looked p w) ≡ true
    loaded_last = root_loads (before_close ++ event.Close p ∷ members.events since) p (serial_of w) w run_split word_there root_there

    pub loaded_often : (y1 y2 rest : List Item) → ys ≡ y1 ++ y2 → count_by (looks_at p) (entries y2) + 1 ≤ count_by loads (entries (y2 ++ silent (Looked p w) ∷ rest))
    loaded_often y1 y2 rest split =
        let both = ap (count_by loads) (entries_both y2 (silent (Looked p w) ∷ rest)) ∙ count_by-append loads (entries y2) (Looked p w ∷ entries rest) in
        let last = sum_by-cons (λ e. cond (loads e) 1 0) (Looked p w) (entries rest) ∙ ap (λ b. cond b 1 0 + count_by loads (entries rest)) loaded_last in
        omega (arith, both, last, loads_as_often y1 y2 split)

    -- the lines up to the look are those of the items up to it
    abbrev told_lines : List HistoryLine
    told_lines = lines (xs ++ close_at p ∷ (ys ++ silent (Looked p w) ∷ zs))

    placed : members.lines (front_members ++ of_history (to.Close p) ∷ since) ++ without_roots (lines zs) ≡ without_roots told_lines
    placed =
        let items : items_in up_to ≡ xs ++ close_at p ∷ ys =
        filter_map-append item_of front (closing ∷ between) ∙ ap (λ k. k ++ close_at p ∷ items_in between) first.before_items ∙ ap (λ k. xs ++ close_at p ∷ k) second.before_items in
        let these : members.lines (front_members ++ of_history (to.Close p) ∷ since) ≡ without_roots (lines (xs ++ close_at p ∷ ys)) =
        ap members.lines (sym up_to_members) ∙ member_lines up_to ∙ ap (λ k. without_roots (lines k)) items in
        ap (λ ls. ls ++ without_roots (lines zs)) these
        ∙ sym (filter-append (λ l. not (is_root l)) (lines (xs ++ close_at p ∷ ys)) (lines zs))
        ∙ ap without_roots (sym (lines_both (xs ++ close_at p ∷ ys) (silent (Looked p w) ∷ zs)) ∙ ap lines (append_assoc xs (close_at p ∷ ys) (silent (Looked p w) ∷ zs)))

    pub stood : StoodOpen ms told_lines p (serial_of w)
    stood = record {
      front = front_members ++ of_history (to.Close p) ∷ since;
      rest = members_in second.after;
      later = without_roots (lines zs);
      parts = members_are;
      place = placed;
      behind_closes = none_kept is_close (lines zs) behind;
      open_there = ap (λ es. has_root (state_after es) p (serial_of w)) events_there ∙ root_there;
      closed_there = ap (λ es. (gate (state_after es).config p).closed) events_there ∙ shut;
    }
