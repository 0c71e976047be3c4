-- A lawful report of rows has its items.
use Rattle.std.proofs.Common.{◌≡◌, ◌∙◌, ℕ, ◌+◌, true, false, List, [], ◌∷◌, ◌++◌, Some, refl, sym, ap, subst, arith}
use Rattle.std.specs.Prelude.{◌==◌, option_map, slice_get}
use Rattle.std.specs.Option.{option_map_or}
use Rattle.std.proofs.lemmas.Bool.{both_ways, eq-eqb, ne_eqb}
use Rattle.std.proofs.lemmas.List.{append-nil, append_cancel_left}
use Rattle.std.proofs.lemmas.Option.{none-some, same_Some}
use Rattle.base.proofs.PlaceLaws.{one_at, tails_are}
use Rattle.base.proofs.OptionLaws.{option_map_some}
use Rattle.config_graph.specs.Graph.{Graph}
use Rattle.config_graph.specs.declared.kind.Kind.{Kind}
use Rattle.config_graph.specs.declared.kind.Kind.TheVariants.{Sink, Source}
use Rattle.config_graph.specs.declared.node.Node.{Node}
use Rattle.quiesce_core.specs.Live.{IsGraphOf}
use Rattle.quiesce_core.specs.Runs.{state_after}
use Rattle.quiesce_core.specs.State.{slot}
use Rattle.quiesce_core.specs.Doers.{is_of_change}
use Rattle.quiesce_core.specs.declared.event.Event.{Event}
use Rattle.quiesce_core.specs.declared.event.Event.TheVariants as event
use Rattle.report_types.specs.declared.report.HistoryLine.{HistoryLine}
use Rattle.report_types.specs.declared.report.HistoryLine.TheVariants as to
use Rattle.report_types.specs.declared.report.Last.TheVariants as last
use Rattle.report_types.specs.declared.report.NodeLog.{NodeLog}
use Rattle.report_types.specs.declared.report.Report.{Report}
use Rattle.change_spec.specs.Lawful.{Lawful}
use Rattle.change_spec.specs.Members.{Member, by_node, of_history, event_in, event_of, events, state_at}
use Rattle.change_spec.specs.Statements.{Statement}
use Rattle.change_spec.proofs.MemberLaws.{events_parts}
use Rattle.change_round_laws.specs.SoundStatements.{AreSound}
use Rattle.change_round_laws.proofs.CommitGraphLaws.{CommitsByConfiguration, CommitsLeaveGraphs, EachMayCommit}
use Rattle.change_round_laws.proofs.FoldLaws.{StatesAreHanded}
use Rattle.result_laws.specs.Items.{HasItems, IsItem, IsLogOfLive, IsOfSource, WasAnswered}
use Rattle.result_laws.specs.Keeping.{AreRows}
use Rattle.result_laws.specs.Describing.{kind_at}
use Rattle.result_laws.specs.Rows.{IsRow, rows_serve_rows, through}
use Rattle.result_laws.specs.Coming.{HasFolds, come}
use Rattle.result_laws.proofs.PlacedLaws.{placed}
use Rattle.result_laws.proofs.ReopenedLaws.{ends_at}
use Rattle.result_laws.proofs.StoppingLaws.{NothingIsOpen, log_of, logs_fold, open_nowhere}
use Rattle.result_laws.proofs.Course.{Course, RowAt}
use Rattle.result_laws.proofs.Ends.{MakesWell, each_is_last, last_made, same_sink, same_source}
use Rattle.result_laws.proofs.Lawfully.{makes, opens, placed_courses}
use Rattle.result_laws.proofs.Linking.{AllLinked, all_linked}
use Rattle.result_laws.proofs.Placing.{ItemAt, PlacedCourse}
use Rattle.result_laws.proofs.Resting.{Ends}
use Rattle.result_laws.proofs.Rising.{stand_of}
use Rattle.result_laws.proofs.Serving.{not_answered_0, served}
use Rattle.result_laws.proofs.Stopping.{ends_there, log_ends}

-- a line's event is one of the change
line_changes : (l : HistoryLine) (e : Event) → event_of l ≡ Some e → is_of_change e ≡ true
line_changes (to.Make n node from) e h = sym (ap is_of_change (same_Some (event.Make n node from) e h))
line_changes (to.Link p n x) e h = sym (ap is_of_change (same_Some (event.Link p n x) e h))
line_changes (to.Unlink p) e h = sym (ap is_of_change (same_Some (event.Unlink p) e h))
line_changes (to.Remove n) e h = sym (ap is_of_change (same_Some (event.Remove n) e h))
line_changes (to.Close p) e h = sym (ap is_of_change (same_Some (event.Close p) e h))
line_changes (to.Reopen p) e h = sym (ap is_of_change (same_Some (event.Reopen p) e h))
line_changes _ e h = absurd (none-some e h)

member_is : (x : Member) (e : Event) → event_in x ≡ Some e → is_of_change e ≡ false → x ≡ by_node e
member_is (by_node d) e h of_node = ap by_node (same_Some d e h)
member_is (of_history l) e h of_node = absurd (both_ways (is_of_change e) of_node (line_changes l e h))

record NodePlaced (m : List Member) (before after : List Event) (e : Event) : Type 0 where
  front : List Member
  back : List Member
  parts : m ≡ front ++ by_node e ∷ back
  ahead : events front ≡ before
  behind : events back ≡ after

node_placed : (m : List Member) (before after : List Event) (e : Event) → is_of_change e ≡ false → events m ≡ before ++ e ∷ after → NodePlaced m before after e
node_placed m before after e of_node parts =
    let w = placed m before after e parts in
    let is = member_is w.member e w.is of_node in
    let split : m ≡ w.front ++ by_node e ∷ w.back = w.parts ∙ ap (λ x. w.front ++ x ∷ w.back) is in
    record { front = w.front; back = w.back; parts = split; ahead = w.events_are; behind = behind w.front w.back split w.events_are }
  where
    behind : (front back : List Member) → m ≡ front ++ by_node e ∷ back → events front ≡ before → events back ≡ after
    behind front back split are =
        tails_are e e (events back) after
        (append_cancel_left before (e ∷ events back) (e ∷ after)
        (ap (λ xs. xs ++ e ∷ events back) (sym are) ∙ sym (events_parts front (by_node e ∷ back)) ∙ sym (ap events split) ∙ parts))

-- the place of an item among the members
was_answered : (m : List Member) (v item : ℕ) → ItemAt (events m) v item → WasAnswered m v
was_answered m v item w =
    let b = event.Begin w.port w.serial v in
    let e = event.End w.port w.serial w.answer in
    let first = node_placed m w.before (w.between ++ e ∷ w.after) b refl w.parts in
    let second = node_placed first.back w.between w.after e refl first.behind in
    record {
      before = first.front;
      between = second.front;
      after = second.back;
      port = w.port;
      serial = w.serial;
      answer = w.answer;
      parts = first.parts ∙ ap (λ xs. first.front ++ by_node b ∷ xs) second.parts;
      of_source = subst (λ xs. IsOfSource (state_after xs).config w.port) (sym first.ahead) w.of_source;
      not_0 = λ is. both_ways (w.answer == 0) w.not_0 (eq-eqb w.answer 0 is);
    }

events_at : (m before between after : List Member) (b e : Event) → m ≡ before ++ by_node b ∷ (between ++ by_node e ∷ after) → events m ≡ events before ++ b ∷ (events between ++ e ∷ events after)
events_at m before between after b e parts =
    ap events parts ∙ events_parts before (by_node b ∷ (between ++ by_node e ∷ after)) ∙ ap (λ xs. events before ++ b ∷ xs) (events_parts between (by_node e ∷ after))

module _ (handed : StatesAreHanded) (each_may : EachMayCommit) (by_config : CommitsByConfiguration) (leaves : CommitsLeaveGraphs) (none_open : NothingIsOpen) (statements : List Statement) (report : Report) (sound : AreSound statements) (rows : AreRows statements) (l : Lawful statements report) where
  folds : HasFolds (events l.members)
  folds = logs_fold l.members report l.by_them.merge l.by_them.runs l.by_them.folds

  linked : (before after : List Event) → events l.members ≡ before ++ after → AllLinked rows_serve_rows (state_after before).config
  linked = all_linked statements report l IsRow rows.rows rows_serve_rows (λ g r. r.links)

  make_well : MakesWell (events l.members)
  make_well = makes handed each_may by_config leaves statements report l.members sound rows l.follows l.by_them.merge l.by_them.runs folds linked

  open_rows : (before after : List Event) (p : ℕ) → events l.members ≡ before ++ event.Reopen p ∷ after → RowAt before
  open_rows = opens handed each_may by_config leaves statements report l.members sound rows l.follows l.by_them.merge l.by_them.runs folds linked

  whole : PlacedCourse (events l.members)
  whole = placed_courses handed each_may by_config leaves statements report l.members sound rows l.follows l.by_them.merge l.by_them.runs folds linked (events l.members) [] (sym (append-nil (events l.members)))

  ends_of : (past : List ℕ) → Course (events l.members) past → Ends (events l.members) past
  ends_of = ends_there handed (events l.members) l.by_them.runs folds (open_nowhere (events l.members) l.by_them.runs (none_open statements report l.members l.follows l.by_them.merge l.by_them.runs l.by_them.drained))

  ends : Ends (events l.members) whole.past
  ends = ends_of whole.past whole.course

  item_of : (j item : ℕ) (b : WasAnswered l.members (j + 1)) → slice_get whole.past j ≡ Some item → IsItem l.members (j + 1) item b
  item_of j item b at =
      let s = served handed (events l.members) l.by_them.runs folds open_rows make_well (events b.before) (events b.between) (events b.after) b.port b.serial (j + 1) b.answer
      (events_at l.members b.before b.between b.after (event.Begin b.port b.serial (j + 1)) (event.End b.port b.serial b.answer) b.parts) b.of_source (ne_eqb b.answer 0 b.not_0) in
      let same : s.items ≡ whole.past = sym (ends_of s.items s.course).items ∙ ends.items in
      let place = s.value in
      let here : s.place ≡ j = omega (arith, place) in
      record {
        graph = s.graph;
        stands = s.stands;
        row = s.row;
        is = one_at whole.past j item (through s.graph s.row.maps (j + 1)) at (sym (λ i. slice_get (same i) (here i)) ∙ s.there);
      }

  pub items : (source sink : NodeLog) → IsLogOfLive l.members report Source source → IsLogOfLive l.members report Sink sink → HasItems l.members source sink
  items source sink src snk =
      let es = events l.members in
      let first : last_made Source es ≡ Some source.slot =
      each_is_last Source same_source es l.by_them.runs (λ b a n node from p kind. (make_well.made b a n node from p).source kind) es [] (sym (append-nil es)) source.slot src.made src.at src.live src.kind in
      let second : last_made Sink es ≡ Some sink.slot =
      each_is_last Sink same_sink es l.by_them.runs (λ b a n node from p kind. (make_well.made b a n node from p).sink kind) es [] (sym (append-nil es)) sink.slot snk.made snk.at snk.live snk.kind in
      record {
        items = whole.past;
        source_says = log_ends l.members report l.by_them.merge l.by_them.runs handed l.by_them.folds Source source src
            ∙ ap (λ n. last.State (n ∷ [])) (sym (ap (λ o. option_map_or (λ a. (come es a).kept.count) o 0) first) ∙ ends.count);
        sink_has = log_ends l.members report l.by_them.merge l.by_them.runs handed l.by_them.folds Sink sink snk
            ∙ ap last.State (sym (ap (λ o. option_map_or (λ t. (come es t).kept.items) o []) second) ∙ ends.items);
        began = λ j item at. was_answered l.members (j + 1) item (whole.places j item at);
        each = item_of;
      }

  -- the report has a log of each node of the graph that stands at its end
  log_of_kind : (g : Graph) → IsGraphOf (state_at l.members).config g → (k : Kind) (i : ℕ) → kind_at g i ≡ Some k → (log : NodeLog) × IsLogOfLive l.members report k log
  log_of_kind g stands k i here =
      let node = option_map_some (λ (n : Node). n.kind) (slice_get g.nodes i) k here in
      let stand = stand_of (state_at l.members).config g stands i node.0 node.1 in
      let at = stand.1 in
      let log = log_of l.members report l.by_them.merge l.by_them.runs stand.0 at.made at.there in (
        log.0,
        record {
          there = log.1;
          made = at.made;
          at = ap (slot (state_at l.members).config) log.2 ∙ at.there;
          live = at.live;
          kind = same_Some at.made.node.kind k (sym (ap (option_map (λ (n : Node). n.kind)) at.stands) ∙ here);
        },
      )

  pub end_logs : (source : NodeLog) × (sink : NodeLog) × IsLogOfLive l.members report Source source × IsLogOfLive l.members report Sink sink
  end_logs =
      let last_ = ends_at each_may by_config leaves statements IsRow report l.members sound rows.rows l.follows l.by_them.merge l.by_them.runs in
      let row = last_.has in
      let first = log_of_kind last_.graph last_.stands Source row.source row.is_source in
      let second = log_of_kind last_.graph last_.stands Sink row.sink row.is_sink in
      (first.0, second.0, first.1, second.1)

  pub not_0 : (before between after : List Member) (port serial value answer : ℕ) → l.members ≡ before ++ by_node (event.Begin port serial value) ∷ (between ++ by_node (event.End port serial answer) ∷ after) → IsOfSource (state_at before).config port → answer ≡ 0 → ⊥
  not_0 before between after port serial value answer parts of_source is =
      both_ways (answer == 0)
      (not_answered_0 handed (events l.members) l.by_them.runs folds open_rows make_well (events before) (events between) (events after) port serial value answer
      (events_at l.members before between after (event.Begin port serial value) (event.End port serial answer) parts) of_source)
      (eq-eqb answer 0 is)
