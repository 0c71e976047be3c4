-- Behind a run or a finish whose number is short, all was at rest at one place since the line before: on any board but one
-- that is alone.
use Rattle.std.proofs.Common.{◌≡◌, ◌∙◌, ℕ, ◌≤◌, ◌<◌, Bool, true, false, cond, List, [], ◌∷◌, ◌++◌, append_assoc, length, map, Some, None, refl, sym, ap, subst, ⊎_elim, arith, inl, inr}
use Rattle.std.specs.Prelude.{⊤, ◌⊎◌, ◌||◌, ◌&&◌, flat_map, fold, nat_le, nat_lt, not}
use Rattle.std.specs.List.{AllByRecursion, list_any}
use Rattle.std.proofs.Math.Bool.{or-false}
use Rattle.std.proofs.lemmas.Bool.{both_ways, cases_Bool, leb-true, ltb-false, ltb-true, or_parts}
use Rattle.std.proofs.lemmas.List.{append-nil}
use Rattle.std.proofs.lemmas.List.Elements.{filter_map-append}
use Rattle.std.proofs.lemmas.List.Sums.{sum_by-cons}
use Rattle.std.proofs.lemmas.Option.{none-some, same_Some}
use Rattle.base.specs.Each.{Each, EachAfter}
use Rattle.base.proofs.EachLaws.{each_carried, each_joined, each_parts, each_pushed, each_weaker}
use Rattle.quiesce_core.specs.Runs.{IsRun, state_after}
use Rattle.quiesce_core.specs.State.{is_live}
use Rattle.quiesce_core.specs.declared.event.Event.{Event}
use Rattle.report_types.specs.declared.report.HistoryLine.{HistoryLine}
use Rattle.report_types.specs.declared.report.HistoryLine.TheVariants as to
use Rattle.change_spec.specs.Lawful.{CameToRest, HeldSince, IsEndedAt, IsFinishAt, IsRunAt, NumbersOnThreads, is_idle_after}
use Rattle.change_spec.specs.Members as members
use Rattle.change_spec.specs.Members.{Member, by_node, of_history, is_pending}
use Rattle.change_spec.specs.Statements.{Statement, start, change, run, finish, show}
use Rattle.txn_records.specs.Records as records
use Rattle.txn_records.specs.Records.{IsRecordOf, IsSo, Moment}
use Rattle.txn_records.specs.declared.entry.Entry.{Entry}
use Rattle.change_board.specs.Scans.{IsSeenTwice, look_entry, all_ports}
use Rattle.change_board.specs.Sights.{sight_entry}
use Rattle.change_board.specs.Transcripts.{Item, said, entries, lines}
use Rattle.change_engine.specs.Carrying.{deed_items, sight_item}
use Rattle.change_engine.specs.Finishing.{EndsAfter, EndsWith, SawTwice, ScansGoOn, ScanSeen, all_entries, count_of, rounds_in, seen_entries}
use Rattle.change_engine.specs.Passivating.{silent_items}
use Rattle.change_engine.specs.Running.{ends_run, is_out_after}
use Rattle.change_engine.specs.Stopping.{stop_items}
use Rattle.change_engine.proofs.ItemLaws.{sight_lines, silent_entries, entries_pushed}
use Rattle.change_transcript_laws.proofs.Still.{same_config}
use Rattle.quiesce_core.specs.Rules.{is_live_port}
use Rattle.change_transcript_laws.specs.Joining.{AreJoined, Joint, of_node, of_line, of_entry, item_of, items_in, member_of, members_in, moment_of, moments_in}
use Rattle.change_transcript_laws.specs.Pieces.{IsDone, IsTranscript, Piece, items_of}
use Rattle.change_spec.specs.Resting.{AreAtRest, RestedAtOnce, RestedIfShort}
use Rattle.change_transcript_laws.specs.Rests.{AreQuiet}
use Rattle.change_transcript_laws.proofs.Shown.{events_both}
use Rattle.change_transcript_laws.proofs.AtOnce.{all_through, at_rest, by_nodes_if, split_at, quiet_both, quiet_looks, quiet_sights}
use Rattle.change_transcript_laws.proofs.FollowLaws.{fair_transcript, items_pushed}
use Rattle.change_transcript_laws.proofs.ItemLemmas.{AreFair}
use Rattle.change_transcript_laws.proofs.JoiningLemmas.{IsKnown, Lifted, both_entries, each_both, fair_back, fair_front, lifted, member_events}
use Rattle.change_transcript_laws.proofs.LawfulLaws.{all_known, line_there}
use Rattle.change_transcript_laws.proofs.LineLemmas.{any_line, none_both, none_deeds, none_passivation, none_silent}
use Rattle.change_transcript_laws.proofs.LookingLemmas.{few_rounds}
use Rattle.change_transcript_laws.proofs.NumberLaws.{first_line, is_number_line, line_test, no_number_entry, nodes_alone, none_aside, runs_ended, split_items, tried_none}

-- ---- scans of which the last saw all at rest

record LastDone (scans : List ScanSeen) : Type 0 where
  bs : List ScanSeen
  w : ScanSeen
  parts : scans ≡ bs ++ w ∷ []
  done : w.answer.done ≡ true

out_last : (b : Bool) (scans : List ScanSeen) → fold (λ b (w : ScanSeen). ends_run false w.answer) b scans ≡ true → ((b ≡ true) × (scans ≡ [])) ⊎ LastDone scans
out_last b [] h = inl (h, refl)
out_last b (w ∷ scans) h = ⊎_elim
    (λ (e : (w.answer.done ≡ true) × (scans ≡ [])). inr (record { bs = []; w = w; parts = ap (λ k. w ∷ k) e.1; done = e.0 }))
    (λ (l : LastDone scans). inr (record { bs = w ∷ l.bs; w = l.w; parts = ap (λ k. w ∷ k) l.parts; done = l.done }))
    (out_last w.answer.done scans h)

last_out : (scans : List ScanSeen) → is_out_after false scans ≡ true → LastDone scans
last_out scans h = ⊎_elim (λ (e : (false ≡ true) × (scans ≡ [])). absurd (both_ways false refl e.0)) (λ (l : LastDone scans). l) (out_last false scans h)

quiet_scan : (w : ScanSeen) → AreQuiet (seen_entries w)
quiet_scan w = (refl, quiet_both (map sight_entry w.sights) (map look_entry w.found) (quiet_sights w.sights) (quiet_looks w.found))

quiet_scans : (scans : List ScanSeen) → AreQuiet (all_entries scans)
quiet_scans [] = tt
quiet_scans (w ∷ scans) = quiet_both (seen_entries w) (all_entries scans) (quiet_scan w) (quiet_scans scans)

abbrev one_unless : Bool → ℕ
one_unless b = cond b 0 1

count_1 : (m d : Bool) → d ≡ false → one_unless (not m && d) ≡ one_unless false
count_1 true d h = refl
count_1 false d h = ap one_unless h

all_rounds : (scans : List ScanSeen) → AllByRecursion (ScansGoOn false) scans → rounds_in scans ≡ length scans
all_rounds [] h = refl
all_rounds (w ∷ scans) h =
    let d = (or_parts w.answer.done false h.0).0 in
    omega (arith, sum_by-cons (λ (v : ScanSeen). count_of v.answer) w scans, count_1 w.answer.moved w.answer.done d, all_rounds scans h.1)

-- ---- what each line of a run or a finish tells, by items

-- the last scan, which saw all at rest, and what was looked at before it since the line before
pub record RestTold (before : List Item) : Type 0 where
  pub pre : List Item
  pub first : List Entry
  pub quiet : AreQuiet first
  pub scan : ScanSeen
  pub parts : before ≡ pre ++ silent_items (first ++ seen_entries scan)
  pub twice : IsSeenTwice (entries pre ++ first) scan.sights

abbrev IsRestTold : List Item → Item → Type 0
IsRestTold before (said (to.Run k n)) = (k ≤ n) ⊎ RestTold before
IsRestTold before (said (to.Finish n r)) = (r ≡ n) ⊎ ((r < n) × RestTold before)
IsRestTold before _ = ⊤

none_here : (before : List Item) (x : Item) → line_test x ≡ false → IsRestTold before x
none_here before (said (to.Run k n)) h = absurd (both_ways true h refl)
none_here before (said (to.Finish n k)) h = absurd (both_ways true h refl)
none_here before _ h = tt

all_none : (before u : List Item) → any_line is_number_line u ≡ false → EachAfter IsRestTold before u
all_none before [] h = tt
all_none before (x ∷ u) h =
    let w = or_parts (line_test x) (any_line is_number_line u) (sym (first_line x u) ∙ h) in (none_here before x w.0, all_none (before ++ x ∷ []) u w.1)

rested : (before : List Item) (looks : List Entry) (scans : List ScanSeen) → AreQuiet looks → Each (SawTwice (entries before ++ looks)) scans → LastDone scans → RestTold (before ++ silent_items (looks ++ all_entries scans))
rested before looks scans quiet saw l = record {
  pre = before;
  first = looks ++ all_entries l.bs;
  quiet = quiet_both looks (all_entries l.bs) quiet (quiet_scans l.bs);
  scan = l.w;
  parts = ap (λ k. before ++ silent_items k) (ap (λ k. looks ++ all_entries k) l.parts ∙ ap (λ k. looks ++ k) (entries_pushed l.bs l.w) ∙ sym (append_assoc looks (all_entries l.bs) (seen_entries l.w)));
  twice = subst (λ r. IsSeenTwice r l.w.sights) (append_assoc (entries before) looks (all_entries l.bs))
      (((each_pushed (SawTwice (entries before ++ looks)) l.bs l.w).0 (subst (Each (SawTwice (entries before ++ looks))) l.parts saw)).1 l.done);
}

finish_told : (before : List Item) (n : ℕ) (scans : List ScanSeen) → length scans ≤ n → Each (SawTwice (entries before)) scans → EndsAfter false n scans
    → (rounds_in scans ≡ n) ⊎ ((rounds_in scans < n) × RestTold (before ++ silent_items (all_entries scans)))
finish_told before n scans few saw ends = ⊎_elim
    (λ (e : EndsWith false scans).
    let l : LastDone scans = record { bs = e.before; w = e.final; parts = e.parts; done = sym (or-false e.final.answer.done) ∙ e.ends } in
    by (nat_lt (rounds_in scans) n) refl (rested before [] scans tt (subst (λ r. Each (SawTwice r) scans) (sym (append-nil (entries before))) saw) l))
    (λ (e : (length scans ≡ n) × AllByRecursion (ScansGoOn false) scans). inl (all_rounds scans e.1 ∙ e.0))
    ends
  where
    by : (b : Bool) → nat_lt (rounds_in scans) n ≡ b → RestTold (before ++ silent_items (all_entries scans)) → (rounds_in scans ≡ n) ⊎ ((rounds_in scans < n) × RestTold (before ++ silent_items (all_entries scans)))
    by true e r = inr (ltb-true (rounds_in scans) n e, r)
    by false e r = inl (omega (arith, few, few_rounds scans, ltb-false (rounds_in scans) n e))

piece_told : (before : List Item) (s : Statement) (u : List Item) → IsDone false before s u → EachAfter IsRestTold before u
piece_told before (start name args g) u d =
    subst (EachAfter IsRestTold before) (sym d.are) (all_none before (said (to.Start name args) ∷ flat_map deed_items d.deeds ++ said to.Commit ∷ [])
    (none_both is_number_line (said (to.Start name args) ∷ flat_map deed_items d.deeds) (said to.Commit ∷ []) (none_deeds is_number_line none_aside d.deeds) refl))
piece_told before (change name args g within moves) u d = ⊎_elim
    (λ (skipped : list_any is_pending (lines before) ≡ true). subst (EachAfter IsRestTold before) (sym (d.0 skipped)) (tt, (tt, tt)))
    (λ (tried : list_any is_pending (lines before) ≡ false). all_none before u (tried_none before name args g within moves u (d.1 tried)))
    (cases_Bool (list_any is_pending (lines before)))
piece_told before (run k) u d =
    let es = map look_entry d.looks ++ all_entries d.scans in
    subst (EachAfter IsRestTold before) (sym d.are)
    (each_joined IsRestTold before (silent_items es) (said (to.Run k d.ended) ∷ []) (all_none before (silent_items es) (none_silent is_number_line es))
    (by (nat_le k d.ended) refl, tt))
  where
    by : (b : Bool) → nat_le k d.ended ≡ b → (k ≤ d.ended) ⊎ RestTold (before ++ silent_items (map look_entry d.looks ++ all_entries d.scans))
    by true e = inl (leb-true k d.ended e)
    by false e =
        let short = ap (λ n. nat_le k n) (sym d.ended_is) ∙ e in
        inr (rested before (map look_entry d.looks) d.scans (quiet_looks d.looks) (d.twice refl) (last_out d.scans (sym (ap (λ b. b || is_out_after false d.scans) short) ∙ d.ends)))
piece_told before (finish n) u d =
    let es = all_entries d.scans in
    subst (EachAfter IsRestTold before) (sym d.are)
    (each_joined IsRestTold before (silent_items es) (said (to.Finish n (rounds_in d.scans)) ∷ []) (all_none before (silent_items es) (none_silent is_number_line es))
    (finish_told before n d.scans d.few (d.twice refl) d.ends, tt))
piece_told before show u d = subst (EachAfter IsRestTold before) (sym d.are) (tt, tt)

pieces_told : (before ps : List Piece) → EachAfter (λ qs (p : Piece). IsDone false (items_of qs) p.statement p.items) before ps → EachAfter IsRestTold (items_of before) (items_of ps)
pieces_told before [] each = tt
pieces_told before (p ∷ ps) each =
    each_joined IsRestTold (items_of before) p.items (items_of ps) (piece_told (items_of before) p.statement p.items each.0)
    (subst (λ v. EachAfter IsRestTold v (items_of ps)) (items_pushed before p) (pieces_told (before ++ p ∷ []) ps each.1))

transcript_told : (statements : List Statement) (t : List Item) → IsTranscript false statements t → Each IsRestTold t
transcript_told statements t x =
    let stopping = stop_items x.stops.closed x.stops.how in
    let none : any_line is_number_line x.stop ≡ false =
    ap (any_line is_number_line) x.stops.are ∙ none_both is_number_line stopping (map sight_item x.stops.sights) (none_passivation is_number_line none_aside x.stops.closed x.stops.how)
    (ap (list_any is_number_line) (sight_lines x.stops.sights)) in
    subst (Each IsRestTold) x.are (each_joined IsRestTold [] (items_of x.pieces) x.stop (pieces_told [] x.pieces x.done) (all_none (items_of x.pieces) x.stop none))

-- ---- the stretch of a line, by members

map_both : (xs ys : List Event) → map by_node (xs ++ ys) ≡ map by_node xs ++ map by_node ys
map_both [] ys = refl
map_both (x ∷ xs) ys = ap (λ k. by_node x ∷ k) (map_both xs ys)

node_events : (es : List Event) → members.events (map by_node es) ≡ es
node_events [] = refl
node_events (e ∷ es) = ap (λ k. e ∷ k) (node_events es)

record Stretch (before : List Joint) (pre : List Item) (es : List Entry) : Type 0 where
  front : List Joint
  back : List Joint
  joints : before ≡ front ++ back
  front_are : records.entries (moments_in front) ≡ entries pre
  back_are : records.entries (moments_in back) ≡ es
  so_front : Each IsSo (moments_in front)
  so_back : EachAfter IsSo (moments_in front) (moments_in back)
  runs : IsRun (records.events (moments_in front) ++ records.events (moments_in back))
  members_are : members_in before ≡ members_in front ++ map by_node (records.events (moments_in back))
  front_events : members.events (members_in front) ≡ records.events (moments_in front)
  all_events : members.events (members_in before) ≡ records.events (moments_in front) ++ records.events (moments_in back)

stretch : (before : List Joint) (j : Joint) (pre : List Item) (es : List Entry) → IsKnown before j → items_in before ≡ pre ++ silent_items es → Stretch before pre es
stretch before j pre es k parts =
    let w = split_items before pre (silent_items es) parts in
    let ms : moments_in before ≡ moments_in w.front ++ moments_in w.back = ap moments_in w.parts ∙ filter_map-append moment_of w.front w.back in
    let evs : records.events (moments_in before) ≡ records.events (moments_in w.front) ++ records.events (moments_in w.back) = ap records.events ms ∙ filter_map-append records.event_at (moments_in w.front) (moments_in w.back) in
    let fair : AreFair (items_in w.front ++ items_in w.back) = subst AreFair (ap items_in w.parts ∙ filter_map-append item_of w.front w.back) k.fair in
    let fair_b = fair_back (items_in w.front) (items_in w.back) fair in
    let fair_f = fair_front (items_in w.front) (items_in w.back) fair in
    let so = each_parts IsSo [] (moments_in w.front) (moments_in w.back) (subst (Each IsSo) ms k.is_of.so) in
    let alone_ = nodes_alone w.front w.back es w.back_items (subst (λ b. Each IsSo (moments_in b)) w.parts k.is_of.so) (subst (λ b. IsRun (records.events (moments_in b))) w.parts k.is_of.runs) fair_b w.back es w.back_items fair_b in
    record {
      front = w.front;
      back = w.back;
      joints = w.parts;
      front_are = sym (both_entries w.front) ∙ ap entries w.front_items;
      back_are = sym (both_entries w.back) ∙ ap entries w.back_items ∙ silent_entries es;
      so_front = so.0;
      so_back = so.1;
      runs = subst IsRun evs k.is_of.runs;
      members_are = ap members_in w.parts ∙ filter_map-append member_of w.front w.back ∙ ap (λ z. members_in w.front ++ z) alone_;
      front_events = member_events w.front fair_f;
      all_events = member_events before k.fair ∙ evs;
    }

-- a place of the stretch is one since the last line
record Placed (before : List Member) (es later : List Event) : Type 0 where
  front : List Member
  parts : before ≡ front ++ map by_node later
  events_are : members.events front ≡ es

placed : (before : List Joint) (pre : List Item) (es : List Entry) (s : Stretch before pre es) (earlier later : List Event) → records.events (moments_in s.back) ≡ earlier ++ later
    → Placed (members_in before) (records.events (moments_in s.front) ++ earlier) later
placed before pre es s earlier later parts = record {
  front = members_in s.front ++ map by_node earlier;
  parts = s.members_are ∙ ap (λ k. members_in s.front ++ map by_node k) parts ∙ ap (λ k. members_in s.front ++ k) (map_both earlier later) ∙ sym (append_assoc (members_in s.front) (map by_node earlier) (map by_node later));
  events_are = filter_map-append members.event_in (members_in s.front) (map by_node earlier) ∙ ap (λ k. members.events (members_in s.front) ++ k) (node_events earlier) ∙ ap (λ k. k ++ earlier) s.front_events;
}

-- ---- rest at one place

-- the place before the mark of the last scan, where that saw the same as the scan before it
at_once : (before : List Joint) (j : Joint) → IsKnown before j → RestTold (items_in before) → RestedAtOnce (members_in before)
at_once before j k x =
    let es = x.first ++ seen_entries x.scan in
    let s = stretch before j x.pre es k x.parts in
    let mf = moments_in s.front in
    let w = split_at (moments_in s.back) x.first (seen_entries x.scan) s.back_are in
    let evs : records.events (moments_in s.back) ≡ records.events w.a ++ records.events w.b = ap records.events w.parts ∙ events_both w.a w.b in
    let cut : EachAfter IsSo mf w.a × EachAfter IsSo (mf ++ w.a) w.b = each_parts IsSo mf w.a w.b (subst (EachAfter IsSo mf) w.parts s.so_back) in
    let so : Each IsSo ((mf ++ w.a) ++ w.b) = each_joined IsSo [] (mf ++ w.a) w.b (each_joined IsSo [] mf w.a s.so_front cut.0) cut.1 in
    let to_place : records.events (mf ++ w.a) ≡ records.events mf ++ records.events w.a = events_both mf w.a in
    let whole : records.events ((mf ++ w.a) ++ w.b) ≡ records.events mf ++ records.events (moments_in s.back) =
    events_both (mf ++ w.a) w.b ∙ ap (λ e. e ++ records.events w.b) to_place ∙ append_assoc (records.events mf) (records.events w.a) (records.events w.b) ∙ ap (λ e. records.events mf ++ e) (sym evs) in
    let p = placed before x.pre es s (records.events w.a) (records.events w.b) evs in
    let rest = at_rest (entries x.pre ++ x.first) (mf ++ w.a) w.b true x.scan.answer.moved x.scan.sights (map look_entry x.scan.found) (quiet_looks x.scan.found) so (subst IsRun (sym whole) s.runs)
    (filter_map-append records.entry_at mf w.a ∙ (λ i. s.front_are i ++ w.a_are i)) w.b_are x.twice in
    let by_ = by_nodes_if (mf ++ w.a) w.b cut.1 (subst AreQuiet (sym w.b_are) (quiet_scan x.scan)) in
    record { front = p.front; later = records.events w.b; parts = p.parts; by_nodes = by_; rest = subst AreAtRest (to_place ∙ sym p.events_are) rest }

-- rest at one place is rest
all_of : (P : ℕ → Type 0) → ((p : ℕ) → P p) → (xs : List ℕ) → AllByRecursion P xs
all_of P h [] = tt
all_of P h (x ∷ xs) = (h x, all_of P h xs)

pub at_once_came : (before : List Member) → RestedAtOnce before → CameToRest before
at_once_came before x =
    let F = members.events x.front in
    let evs : members.events before ≡ F ++ x.later = ap members.events x.parts ∙ filter_map-append members.event_in x.front (map by_node x.later) ∙ ap (λ k. F ++ k) (node_events x.later) in
    let same : (state_after (members.events before)).config ≡ (state_after F).config = ap (λ e. (state_after e).config) evs ∙ same_config F x.later x.by_nodes in
    let c = (state_after (members.events before)).config in
    record {
      nodes = λ n live. record { front = x.front; later = x.later; parts = x.parts; held = x.rest.nodes n (sym (ap (λ d. is_live d n) same) ∙ live) };
      ports = all_through (is_live_port c) (λ p. HeldSince before (is_idle_after p)) (all_ports c)
          (all_of (λ p. is_live_port c p ≡ true → HeldSince before (is_idle_after p))
          (λ p live. record { front = x.front; later = x.later; parts = x.parts; held = x.rest.ports p (sym (ap (λ d. is_live_port d p) same) ∙ live) }) (all_ports c));
    }

-- ---- the members

line_at : (before : List Joint) (j : Joint) (l : HistoryLine) → IsKnown before j → IsRestTold (items_in before) (said l) → RestedIfShort (members_in before) (of_history l)
line_at before j (to.Run k n) known_ h = ⊎_elim (λ (e : k ≤ n). inl e) (λ (r : RestTold (items_in before)). inr (at_once before j known_ r)) h
line_at before j (to.Finish n r) known_ h = ⊎_elim (λ (e : r ≡ n). inl e) (λ (w : (r < n) × RestTold (items_in before)). inr (w.0, at_once before j known_ w.1)) h
line_at before j _ known_ h = tt

no_number_member : (before : List Member) (l : HistoryLine) → is_number_line l ≡ false → RestedIfShort before (of_history l)
no_number_member before (to.Run k n) h = absurd (both_ways true h refl)
no_number_member before (to.Finish n k) h = absurd (both_ways true h refl)
no_number_member before _ h = tt

member_at : (before : List Joint) (j : Joint) (x : Member) → member_of j ≡ Some x → Lifted item_of IsRestTold before j × IsKnown before j → RestedIfShort (members_in before) x
member_at before (of_node e) x h k = subst (RestedIfShort (members_in before)) (same_Some (by_node e) x h) tt
member_at before (of_line l) x h k = subst (RestedIfShort (members_in before)) (sym (line_there l x h)) (line_at before (of_line l) l k.1 (k.0 (said l) refl))
member_at before (of_entry y None) x h k = absurd (none-some x h)
member_at before (of_entry y (Some l)) x h k =
    subst (RestedIfShort (members_in before)) (sym (line_there l x h)) (no_number_member (members_in before) l (no_number_entry y l k.1.fair_here.0.1))

pub rested_at : (statements : List Statement) (t : List Item) (m : List Moment) (ms : List Member) → IsTranscript false statements t → AreJoined t m ms → IsRecordOf (entries t) m → Each RestedIfShort ms
rested_at statements t m ms x j is_of =
    let js = j.joint in
    let told_ = lifted item_of IsRestTold [] js (subst (Each IsRestTold) (sym j.items_are) (transcript_told statements t x)) in
    subst (Each RestedIfShort) j.members_are
    (each_carried member_of (λ before y. Lifted item_of IsRestTold before y × IsKnown before y) RestedIfShort (λ before y z e k. member_at before y z e k) [] js
    (each_both (Lifted item_of IsRestTold) IsKnown [] js told_ (all_known t m ms (fair_transcript false statements t x) j is_of)))

run_at : (before : List Member) (x : Member) → IsEndedAt before x × RestedIfShort before x → IsRunAt before x
run_at before (of_history (to.Run k n)) h = (h.0, ⊎_elim (λ (e : k ≤ n). inl e) (λ (r : RestedAtOnce before). inr (at_once_came before r)) h.1)
run_at before _ h = tt

finish_at : (before : List Member) (x : Member) → RestedIfShort before x → IsFinishAt before x
finish_at before (of_history (to.Finish n r)) h = ⊎_elim (λ (e : r ≡ n). inl e) (λ (w : (r < n) × RestedAtOnce before). inr (w.0, at_once_came before w.1)) h
finish_at before _ h = tt

pub numbers_on_threads : (statements : List Statement) (t : List Item) (m : List Moment) (ms : List Member) → IsTranscript false statements t → AreJoined t m ms → IsRecordOf (entries t) m → NumbersOnThreads ms
numbers_on_threads statements t m ms x j is_of =
    let rest = rested_at statements t m ms x j is_of in
    record {
      runs_end = each_weaker (λ ys y. IsEndedAt ys y × RestedIfShort ys y) IsRunAt [] ms run_at (each_both IsEndedAt RestedIfShort [] ms (runs_ended false statements t m ms x j is_of) rest);
      finishes_end = each_weaker RestedIfShort IsFinishAt [] ms finish_at rest;
    }
