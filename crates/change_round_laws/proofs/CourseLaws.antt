-- How a course goes on: by a line, by the change's events, by turns and rounds, and by what a look finds.
use Rattle.std.proofs.Common.{◌≡◌, ◌∙◌, ℕ, zero, suc, ◌≤◌, Bool, true, false, cond, not, List, [], ◌∷◌, ◌++◌, append_assoc, map, length, Option, Some, None, refl, sym, ap, subst, inl, inr, arith}
use Rattle.std.specs.Prelude.{All, filter, fold}
use Rattle.std.specs.List.{cons_option}
use Rattle.std.proofs.lemmas.Bool.{both_ways}
use Rattle.std.proofs.lemmas.List.{append-nil}
use Rattle.std.proofs.lemmas.List.Elements.{All-append, All-cons, All-nil, filter-append, filter_map-append}
use Rattle.base.specs.Each.{Each}
use Rattle.base.proofs.EachLaws.{each_pushed, each_weaker}
use Rattle.base.proofs.PlaceLaws.{tails_are}
use Rattle.quiesce_laws.specs.Steps.{change_all}
use Rattle.quiesce_laws.specs.Lists.{In}
use Rattle.quiesce_laws.proofs.MemberLaws.{selected}
use Rattle.quiesce_core.specs.declared.event.Event.{Event}
use Rattle.quiesce_core.specs.declared.event.Event.TheVariants as event
use Rattle.quiesce_core.specs.Doers.{is_of_change}
use Rattle.quiesce_core.specs.Rules.{denial}
use Rattle.quiesce_core.specs.Runs.{IsRun, state_after}
use Rattle.quiesce_core.specs.State.{Configuration, State, empty, is_live}
use Rattle.quiesce_core.proofs.InductionLaws.{place}
use Rattle.quiesce_core.proofs.LegalLaws.{allowed}
use Rattle.quiesce_core.proofs.RunLaws.{node_events_keep_the_configuration}
use Rattle.node_turn_laws.proofs.TurnLaws.{turns_do}
use Rattle.node_turn_laws.specs.Hints.{after_move, without_hints}
use Rattle.node_turn_laws.specs.Round.{Round, after_rounds, give_turn, live_nodes, round}
use Rattle.node_turn_laws.specs.Turn.{turn}
use Rattle.node_turn_laws.specs.World.{World, with_event}
use Rattle.node_turn_laws.specs.Reached.{IsReached}
use Rattle.node_turn_laws.proofs.ReachedLaws.{holds_where_reached, turn_goes_on}
use Rattle.report_types.specs.declared.report.HistoryLine.{HistoryLine}
use Rattle.report_types.specs.declared.report.HistoryLine.TheVariants as to
use Rattle.change_spec.specs.Lawful.{IsDrainedAt, IsOfItsKind, StoodOpen, StoodOpenWhereSaid}
use Rattle.change_spec.specs.Members.{Member, by_node, of_history, event_of, events, is_root, line_of, lines, lines_of_events, state_at, without_roots}
use Rattle.change_spec.specs.Scene.{config_after}
use Rattle.change_spec.specs.Serial.{after_changes}
use Rattle.change_spec.proofs.MemberLaws.{config_of_lines, events_parts, events_without_roots, lines_parts}
use Rattle.change_round_laws.specs.Courses.{Course, IsToldAt}

-- what stood open stood so, whatever follows
stood_longer : (m y : List Member) (before : List HistoryLine) (l : HistoryLine) → StoodOpenWhereSaid m before l → StoodOpenWhereSaid (m ++ y) before l
stood_longer m y before (to.Root p k) s = record {
  front = s.front;
  rest = s.rest ++ y;
  later = s.later;
  parts = ap (λ xs. xs ++ y) s.parts ∙ append_assoc s.front s.rest y;
  place = s.place;
  behind_closes = s.behind_closes;
  open_there = s.open_there;
  closed_there = s.closed_there;
}
stood_longer m y before _ s = tt

all_longer : (m y : List Member) (history : List HistoryLine) → Each (StoodOpenWhereSaid m) history → Each (StoodOpenWhereSaid (m ++ y)) history
all_longer m y history each = each_weaker (StoodOpenWhereSaid m) (StoodOpenWhereSaid (m ++ y)) [] history (λ before l. stood_longer m y before l) each

not_said : (m : List Member) (before : List HistoryLine) (l : HistoryLine) → is_root l ≡ false → StoodOpenWhereSaid m before l
not_said m before (to.Root p k) h = absurd (both_ways true h refl)
not_said m before _ h = tt

-- the configuration behind a course
pub course_config : (history : List HistoryLine) (w : World) (m : List Member) → Course history w m → w.machine.config ≡ config_after history
course_config history w m c =
    ap (λ (s : State). s.config) ((holds_where_reached w c.reached).0 ∙ ap state_after (sym c.events_are)) ∙ config_of_lines m c.kinds ∙ ap config_after c.lines_are
    ∙ ap (change_all empty.config) (events_without_roots history)

pub course_machine : (history : List HistoryLine) (w : World) (m : List Member) → Course history w m → w.machine ≡ state_at m
course_machine history w m c = (holds_where_reached w c.reached).0 ∙ ap state_after (sym c.events_are)

pub course_run : (history : List HistoryLine) (w : World) (m : List Member) → Course history w m → IsRun w.events
course_run history w m c = (holds_where_reached w c.reached).1.run

-- one line more, which is the event that was done, or none
pub with_line : (history : List HistoryLine) (w v : World) (m : List Member) (l : HistoryLine) → Course history w m → IsReached v → v.events ≡ w.events ++ cons_option (event_of l) [] → is_root l ≡ false
    → IsDrainedAt m (of_history l) → IsToldAt m (of_history l) → Course (history ++ l ∷ []) v (m ++ of_history l ∷ [])
with_line history w v m l c reached done rootless drained told = record {
  reached = reached;
  events_are = events_parts m (of_history l ∷ []) ∙ ap (λ es. es ++ cons_option (event_of l) []) c.events_are ∙ sym done;
  lines_are = lines_parts m (of_history l ∷ []) ∙ ap (λ ls. ls ++ l ∷ []) c.lines_are ∙ sym (filter-append (λ x. not (is_root x)) history (l ∷ []) ∙ ap (λ b. without_roots history ++ cond (not b) (l ∷ []) []) rootless);
  kinds = All-append IsOfItsKind m (of_history l ∷ []) c.kinds (All-cons IsOfItsKind (of_history l) [] tt (All-nil IsOfItsKind));
  drained = (each_pushed IsDrainedAt m (of_history l)).1 (c.drained, drained);
  stood_open = (each_pushed (StoodOpenWhereSaid (m ++ of_history l ∷ [])) history l).1 (all_longer m (of_history l ∷ []) history c.stood_open, not_said (m ++ of_history l ∷ []) history l rootless);
  told = (each_pushed IsToldAt m (of_history l)).1 (c.told, told);
}

pub with_said : (history : List HistoryLine) (w : World) (m : List Member) (l : HistoryLine) → Course history w m → event_of l ≡ None → is_root l ≡ false
    → IsDrainedAt m (of_history l) → IsToldAt m (of_history l) → Course (history ++ l ∷ []) w (m ++ of_history l ∷ [])
with_said history w m l c none rootless drained told =
    with_line history w w m l c c.reached (sym (append-nil w.events) ∙ ap (λ o. w.events ++ cons_option o []) (sym none)) rootless drained told

-- a root that was seen
pub with_root : (history : List HistoryLine) (w : World) (m : List Member) (p k : ℕ) → Course history w m → StoodOpen m history p k → Course (history ++ to.Root p k ∷ []) w m
with_root history w m p k c stood = record {
  reached = c.reached;
  events_are = c.events_are;
  lines_are = c.lines_are ∙ sym (append-nil (without_roots history)) ∙ sym (filter-append (λ x. not (is_root x)) history (to.Root p k ∷ []));
  kinds = c.kinds;
  drained = c.drained;
  stood_open = (each_pushed (StoodOpenWhereSaid m) history (to.Root p k)).1 (c.stood_open, stood);
  told = c.told;
}

-- the change's events, one after the other

abbrev said : List HistoryLine → List Member
said ls = map of_history ls

with_event_events : (w : World) (e : Event) → (with_event w e).events ≡ w.events ++ e ∷ []
with_event_events w (event.Make n node from) = refl
with_event_events w _ = refl

by_the_change : (w : World) (e : Event) (later : List Event) → IsReached w → is_of_change e ≡ true → IsRun (w.events ++ e ∷ later) → IsReached (with_event w e)
by_the_change w e later r change run =
    IsReached.by_change w e r change (ap (λ s. denial s e) (holds_where_reached w r).0 ∙ allowed (state_after w.events) e (place w.events later e run).legal)

one_done : (history : List HistoryLine) (w : World) (m : List Member) (e : Event) (later : List Event) → is_of_change e ≡ true → IsRun (w.events ++ e ∷ later) → Course history w m
    → Course (history ++ lines_of_events (e ∷ [])) (with_event w e) (m ++ said (lines_of_events (e ∷ [])))
one_done history w m (event.Make n node from) later change run c =
    with_line history w (with_event w (event.Make n node from)) m (to.Make n node from) c (by_the_change w (event.Make n node from) later c.reached change run) refl refl tt tt
one_done history w m (event.Link p n x) later change run c =
    with_line history w (with_event w (event.Link p n x)) m (to.Link p n x) c (by_the_change w (event.Link p n x) later c.reached change run) refl refl tt tt
one_done history w m (event.Unlink p) later change run c =
    with_line history w (with_event w (event.Unlink p)) m (to.Unlink p) c (by_the_change w (event.Unlink p) later c.reached change run) refl refl tt tt
one_done history w m (event.Remove n) later change run c =
    with_line history w (with_event w (event.Remove n)) m (to.Remove n) c (by_the_change w (event.Remove n) later c.reached change run) refl refl tt tt
one_done history w m (event.Close p) later change run c =
    with_line history w (with_event w (event.Close p)) m (to.Close p) c (by_the_change w (event.Close p) later c.reached change run) refl refl tt tt
one_done history w m (event.Reopen p) later change run c =
    with_line history w (with_event w (event.Reopen p)) m (to.Reopen p) c (by_the_change w (event.Reopen p) later c.reached change run) refl refl tt tt
one_done history w m _ later change run c = absurd (both_ways false refl change)

lines_of_more : (e : Event) (es : List Event) → lines_of_events (e ∷ es) ≡ lines_of_events (e ∷ []) ++ lines_of_events es
lines_of_more e es = filter_map-append line_of (e ∷ []) es

said_both : (xs ys : List HistoryLine) → said (xs ++ ys) ≡ said xs ++ said ys
said_both [] ys = refl
said_both (x ∷ xs) ys = ap (λ m. of_history x ∷ m) (said_both xs ys)

shorter_one : (b : Bool) (x : Event) (xs ys : List Event) → length ys ≤ length xs → length (cond b (x ∷ ys) ys) ≤ length (x ∷ xs)
shorter_one true x xs ys low = omega (arith, low)
shorter_one false x xs ys low = omega (arith, low)

shorter : (xs : List Event) → length (filter is_of_change xs) ≤ length xs
shorter [] = omega arith
shorter (x ∷ xs) = shorter_one (is_of_change x) x xs (filter is_of_change xs) (shorter xs)

both_change : (d : Event) (ds : List Event) → filter is_of_change (d ∷ ds) ≡ d ∷ ds → (is_of_change d ≡ true) × (filter is_of_change ds ≡ ds)
both_change d ds h = by (is_of_change d) refl
  where
    by : (b : Bool) → is_of_change d ≡ b → (is_of_change d ≡ true) × (filter is_of_change ds ≡ ds)
    by true e = (e, tails_are d d (filter is_of_change ds) ds (sym (ap (λ b. cond b (d ∷ filter is_of_change ds) (filter is_of_change ds)) e) ∙ h))
    by false e =
        let same : filter is_of_change ds ≡ d ∷ ds = sym (ap (λ b. cond b (d ∷ filter is_of_change ds) (filter is_of_change ds)) e) ∙ h in
        let low = shorter ds in
        let long : length (filter is_of_change ds) ≡ suc (length ds) = ap (λ (xs : List Event). length xs) same in
        absurd (omega (arith, low, long))

pub with_changes : (es : List Event) (history : List HistoryLine) (w : World) (m : List Member) → filter is_of_change es ≡ es → IsRun (w.events ++ es) → Course history w m
    → Course (history ++ lines_of_events es) (after_changes w es) (m ++ map of_history (lines_of_events es))
with_changes [] history w m change run c =
    subst (λ h. Course h w (m ++ [])) (sym (append-nil history)) (subst (Course history w) (sym (append-nil m)) c)
with_changes (e ∷ es) history w m change run c =
    let parts = both_change e es change in
    let own = lines_of_events (e ∷ []) in
    let next = one_done history w m e es parts.0 run c in
    let run_on : IsRun ((with_event w e).events ++ es) = subst IsRun (sym (ap (λ xs. xs ++ es) (with_event_events w e) ∙ append_assoc w.events (e ∷ []) es)) run in
    let rest = with_changes es (history ++ own) (with_event w e) (m ++ said own) parts.1 run_on next in
    subst (λ h. Course h (after_changes w (e ∷ es)) (m ++ said (lines_of_events (e ∷ es)))) (append_assoc history own (lines_of_events es) ∙ ap (λ ls. history ++ ls) (sym (lines_of_more e es)))
    (subst (Course ((history ++ own) ++ lines_of_events es) (after_changes w (e ∷ es)))
    (append_assoc m (said own) (said (lines_of_events es)) ∙ ap (λ k. m ++ k) (sym (said_both own (lines_of_events es)) ∙ ap said (sym (lines_of_more e es)))) rest)

-- turns

abbrev done : List Event → List Member
done es = map by_node es

done_both : (xs ys : List Event) → done (xs ++ ys) ≡ done xs ++ done ys
done_both [] ys = refl
done_both (x ∷ xs) ys = ap (λ m. by_node x ∷ m) (done_both xs ys)

-- nodes went on from a world, and did these events
pub record WentOn (history : List HistoryLine) (w : World) (m : List Member) (v : World) : Type 0 where
  pub later : List Event
  pub course : Course history v (m ++ map by_node later)
  pub config : v.machine.config ≡ w.machine.config

pub stayed : (history : List HistoryLine) (w : World) (m : List Member) → Course history w m → WentOn history w m w
stayed history w m c = record { later = []; course = subst (Course history w) (sym (append-nil m)) c; config = refl }

pub went_further : (history : List HistoryLine) (w : World) (m : List Member) (v u : World) → (first : WentOn history w m v) → WentOn history v (m ++ map by_node first.later) u → WentOn history w m u
went_further history w m v u first then = record {
  later = first.later ++ then.later;
  course = subst (Course history u) (append_assoc m (done first.later) (done then.later) ∙ ap (λ k. m ++ k) (sym (done_both first.later then.later))) then.course;
  config = then.config ∙ first.config;
}

with_move : (history : List HistoryLine) (w v : World) (m : List Member) (o : Option Event) → Course history w m → IsReached v → v.events ≡ (after_move w 0 None).events ++ cons_option o [] → ((e : Event) → o ≡ Some e → is_of_change e ≡ false)
    → Course history v (m ++ done (cons_option o []))
with_move history w v m None c reached same node = record {
  reached = reached;
  events_are = ap events (append-nil m) ∙ c.events_are ∙ sym (append-nil w.events) ∙ sym same;
  lines_are = ap lines (append-nil m) ∙ c.lines_are;
  kinds = subst (All IsOfItsKind) (sym (append-nil m)) c.kinds;
  drained = subst (Each IsDrainedAt) (sym (append-nil m)) c.drained;
  stood_open = all_longer m [] history c.stood_open;
  told = subst (Each IsToldAt) (sym (append-nil m)) c.told;
}
with_move history w v m (Some e) c reached same node = record {
  reached = reached;
  events_are = events_parts m (by_node e ∷ []) ∙ ap (λ es. es ++ e ∷ []) c.events_are ∙ sym same;
  lines_are = lines_parts m (by_node e ∷ []) ∙ append-nil (lines m) ∙ c.lines_are;
  kinds = All-append IsOfItsKind m (by_node e ∷ []) c.kinds (All-cons IsOfItsKind (by_node e) [] (node e refl) (All-nil IsOfItsKind));
  drained = (each_pushed IsDrainedAt m (by_node e)).1 (c.drained, tt);
  stood_open = all_longer m (by_node e ∷ []) history c.stood_open;
  told = (each_pushed IsToldAt m (by_node e)).1 (c.told, tt);
}

-- what a turn leaves but hints
pub turn_events : (w : World) (n : ℕ) (begins : Bool) → (turn w n begins).world.events ≡ w.events ++ cons_option (turn w n begins).event []
turn_events w n begins = ap (λ (u : World). u.events) (turns_do w n begins) ∙ by (turn w n begins).event
  where
    by : (o : Option Event) → (without_hints (after_move w n o)).events ≡ w.events ++ cons_option o []
    by None = sym (append-nil w.events)
    by (Some e) = refl

pub turn_config : (w : World) (n : ℕ) (begins : Bool) → ((e : Event) → (turn w n begins).event ≡ Some e → is_of_change e ≡ false) → (turn w n begins).world.machine.config ≡ w.machine.config
turn_config w n begins node = ap (λ (u : World). u.machine.config) (turns_do w n begins) ∙ by (turn w n begins).event node
  where
    by : (o : Option Event) → ((e : Event) → o ≡ Some e → is_of_change e ≡ false) → (without_hints (after_move w n o)).machine.config ≡ w.machine.config
    by None node = refl
    by (Some e) node = node_events_keep_the_configuration w.machine e (node e refl)

one_turn : (history : List HistoryLine) (w : World) (m : List Member) (n : ℕ) (begins : Bool) → is_live w.machine.config n ≡ true → Course history w m → WentOn history w m (turn w n begins).world
one_turn history w m n begins live c =
    let node : (e : Event) → (turn w n begins).event ≡ Some e → is_of_change e ≡ false = λ e is. (turn_goes_on w n begins e c.reached live is).of_node in
    record {
      later = cons_option (turn w n begins).event [];
      course = with_move history w (turn w n begins).world m (turn w n begins).event c (IsReached.by_turn w n begins c.reached live) (turn_events w n begins) node;
      config = turn_config w n begins node;
    }

all_turns : (history : List HistoryLine) (begins : Bool) (ns : List ℕ) (r : Round) (m : List Member) → ((n : ℕ) → In ns n → is_live r.world.machine.config n ≡ true) → Course history r.world m
    → WentOn history r.world m (fold (give_turn begins) r ns).world
all_turns history begins [] r m live c = stayed history r.world m c
all_turns history begins (n ∷ ns) r m live c =
    let first = one_turn history r.world m n begins (live n (inl refl)) c in
    went_further history r.world m (turn r.world n begins).world (fold (give_turn begins) (give_turn begins r n) ns).world first
    (all_turns history begins ns (give_turn begins r n) (m ++ done first.later) (λ k i. ap (λ (d : Configuration). is_live d k) first.config ∙ live k (inr i)) first.course)

one_round : (history : List HistoryLine) (begins : Bool) (w : World) (m : List Member) → Course history w m → WentOn history w m (round begins w).world
one_round history begins w m c =
    all_turns history begins (live_nodes w) (record { world = w; moved = false }) m
    (λ n i. (selected (λ k. is_live w.machine.config k) 0 (length w.machine.config.slots) n i).passes) c

pub with_rounds : (history : List HistoryLine) (begins : Bool) (w : World) (m : List Member) (j : ℕ) → Course history w m → WentOn history w m (after_rounds begins w j)
with_rounds history begins w m zero c = stayed history w m c
with_rounds history begins w m (suc j) c =
    let first = with_rounds history begins w m j c in
    went_further history w m (after_rounds begins w j) (after_rounds begins w (suc j)) first (one_round history begins (after_rounds begins w j) (m ++ done first.later) first.course)
