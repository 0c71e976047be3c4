-- The report of a transcript of rounds is the one that rounds have.
use Rattle.std.proofs.Common.{◌≡◌, ◌∙◌, ℕ, Bool, true, false, cond, List, [], ◌∷◌, ◌++◌, append_assoc, length, map, Option, Some, None, refl, sym, ap, subst}
use Rattle.std.specs.Prelude.{◌&&◌, All, find, not}
use Rattle.std.specs.List.{list_any, range_with_len}
use Rattle.std.specs.Option.{option_map_or}
use Rattle.std.proofs.lemmas.Grind.{flat_map-append}
use Rattle.std.proofs.lemmas.List.{append-nil}
use Rattle.std.proofs.lemmas.List.Elements.{All-head, All-tail}
use Rattle.std.proofs.lemmas.List.Sums.{fold_push}
use Rattle.base.specs.Each.{EachAfter}
use Rattle.base.proofs.ListLaws.{All-weaker}
use Rattle.txn_records.specs.Records.{IsRecordOf, Moment}
use Rattle.change_board.specs.Transcripts.{Item, entries, lines}
use Rattle.change_spec.specs.Endings.{moved_to, status_of}
use Rattle.change_spec.specs.Lawful.{EndsAs, IsFolded, IsLawfulBy, is_unfinished, unfinished_of}
use Rattle.change_spec.specs.Members as members
use Rattle.change_spec.specs.Members.{Member}
use Rattle.change_spec.specs.Opening.{fold_of_node}
use Rattle.change_spec.specs.Serial.{IsPlayed, Played, Plays, Serial, StopsAt, is_left_undone, lines_played, log_of, report_of, unfinished_in, world_after}
use Rattle.change_spec.specs.Statements.{Statement, change, finish, run, show, start, is_finish}
use Rattle.report_types.specs.declared.report.HistoryLine.{HistoryLine}
use Rattle.report_types.specs.declared.report.Last.{Last}
use Rattle.report_types.specs.declared.report.Last.TheVariants as last
use Rattle.report_types.specs.declared.report.NodeLog.{NodeLog}
use Rattle.report_types.specs.declared.report.Report.{Report}
use Rattle.component_trait.specs.Moves as moves
use Rattle.component_trait.specs.States.{NodeState}
use Rattle.change_transcript_laws.specs.Joining.{AreJoined}
use Rattle.change_transcript_laws.specs.Pieces.{IsDone, IsTranscript, Piece, config_at, items_of}
use Rattle.change_transcript_laws.specs.Reports.{IsReportOfTranscript, taken_in}
use Rattle.change_transcript_laws.proofs.FollowLaws.{fair_transcript, items_pushed}
use Rattle.change_transcript_laws.proofs.LawfulLaws.{events_are}
use Rattle.quiesce_core.specs.Runs.{done_by, state_after}
use Rattle.quiesce_core.specs.State.{Configuration, State, is_live}
use Rattle.quiesce_core.specs.declared.event.Event.{Event}
use Rattle.step_board.specs.RunFacts as facts
use Rattle.step_board.specs.Standing.{AreOfRounds}
use Rattle.node_turn_laws.specs.Reached.{IsReached}
use Rattle.node_turn_laws.specs.Round.{is_done}
use Rattle.node_turn_laws.specs.World.{World, nowhere, state_of}
use Rattle.step_board.proofs.SeeingLaws.{find_agree}
use Rattle.step_runner.specs.Behind.{AreByRounds, IsPlayedBehind, world_behind}
use Rattle.step_runner.proofs.FinishLaws.{AreFolds, RestStays, finish_played}
use Rattle.step_runner.proofs.PieceLaws.{change_played, show_played, start_played, stop_played}
use Rattle.step_runner.proofs.RunLaws.{run_played}
use Rattle.step_runner.proofs.WorldLaws.{config_behind, front_of_rounds}
use Rattle.change_engine.proofs.ItemLaws.{lines_both}

-- ---- each statement

piece_played : RestStays → AreFolds → (before t : List Item) (s : Statement) → AreByRounds (before ++ t) → IsDone true before s t → IsPlayedBehind before s t
piece_played stays folds before t (start name args g) rounds d = start_played true before t name args g d
piece_played stays folds before t (change name args g within moves_) rounds d = change_played true before t name args g within moves_ rounds d
piece_played stays folds before t (run k) rounds d = run_played before t k rounds d
piece_played stays folds before t (finish n) rounds d = finish_played stays folds before t n rounds d
piece_played stays folds before t show rounds d = show_played true before t rounds d

-- ---- all of them

abbrev pub part_of : List Piece → Piece → Played
part_of before p = record { statement = p.statement; lines = lines p.items; world = world_behind (items_of (before ++ p ∷ [])) }

abbrev pub parts_of : List Piece → List Piece → List Played
parts_of before [] = []
parts_of before (p ∷ ps) = part_of before p ∷ parts_of (before ++ p ∷ []) ps

pub statements_of : (before ps : List Piece) → map (λ (p : Played). p.statement) (parts_of before ps) ≡ map (λ (p : Piece). p.statement) ps
statements_of before [] = refl
statements_of before (p ∷ ps) = ap (λ ss. p.statement ∷ ss) (statements_of (before ++ p ∷ []) ps)

-- parts that come to the same lines and the same world as pieces
pub record AreAlike (before : List Piece) (qs : List Played) : Type 0 where
  pub lines_are : lines_played qs ≡ lines (items_of before)
  pub world_is : world_after qs ≡ world_behind (items_of before)

alike_next : (before : List Piece) (p : Piece) (qs : List Played) → AreAlike before qs → AreAlike (before ++ p ∷ []) (qs ++ part_of before p ∷ [])
alike_next before p qs h =
    let q = part_of before p in
    record {
      lines_are = flat_map-append (λ (x : Played). x.lines) qs (q ∷ []) ∙ ap (λ ls. lines_played qs ++ ls) (append-nil q.lines)
          ∙ ap (λ ls. ls ++ lines p.items) h.lines_are ∙ sym (lines_both (items_of before) p.items) ∙ ap lines (sym (items_pushed before p));
      world_is = fold_push (λ (w : World) (x : Played). x.world) nowhere qs q;
    }

alike_all : (before ps : List Piece) (qs : List Played) → AreAlike before qs → AreAlike (before ++ ps) (qs ++ parts_of before ps)
alike_all before [] qs h = subst (λ bs. AreAlike bs (qs ++ [])) (sym (append-nil before)) (subst (AreAlike before) (sym (append-nil qs)) h)
alike_all before (p ∷ ps) qs h =
    subst (λ bs. AreAlike bs (qs ++ parts_of before (p ∷ ps))) (append_assoc before (p ∷ []) ps)
    (subst (AreAlike ((before ++ p ∷ []) ++ ps)) (append_assoc qs (part_of before p ∷ []) (parts_of (before ++ p ∷ []) ps))
    (alike_all (before ++ p ∷ []) ps (qs ++ part_of before p ∷ []) (alike_next before p qs h)))

abbrev pub IsDonePiece : List Piece → Piece → Type 0
IsDonePiece before p = IsDone true (items_of before) p.statement p.items

front_with : (before : List Piece) (p : Piece) (ps : List Piece) → AreByRounds (items_of (before ++ p ∷ ps)) → AreByRounds (items_of (before ++ p ∷ []))
front_with before p ps h =
    front_of_rounds (items_of (before ++ p ∷ [])) (items_of ps)
    (subst AreByRounds (ap items_of (sym (append_assoc before (p ∷ []) ps)) ∙ flat_map-append (λ (q : Piece). q.items) (before ++ p ∷ []) ps) h)

pub all_played : RestStays → AreFolds → (before ps : List Piece) (qs : List Played) → AreAlike before qs → AreByRounds (items_of (before ++ ps)) → EachAfter IsDonePiece before ps
    → EachAfter IsPlayed qs (parts_of before ps)
all_played stays folds before [] qs alike rounds done = tt
all_played stays folds before (p ∷ ps) qs alike rounds done =
    let t = items_of before in
    let here : IsPlayedBehind t p.statement p.items =
    piece_played stays folds t p.items p.statement (subst AreByRounds (items_pushed before p) (front_with before p ps rounds)) done.0 in
    let after : world_behind (t ++ p.items) ≡ world_behind (items_of (before ++ p ∷ [])) = ap world_behind (sym (items_pushed before p)) in (
      subst (λ v. Plays (lines_played qs) (world_after qs) p.statement (lines p.items) v) after
          (subst (λ w. Plays (lines_played qs) w p.statement (lines p.items) (world_behind (t ++ p.items))) (sym alike.world_is)
          (subst (λ ls. Plays ls (world_behind t) p.statement (lines p.items) (world_behind (t ++ p.items))) (sym alike.lines_are) here)),
      all_played stays folds (before ++ p ∷ []) ps (qs ++ part_of before p ∷ []) (alike_next before p qs alike)
          (subst (λ bs. AreByRounds (items_of bs)) (sym (append_assoc before (p ∷ []) ps)) rounds) done.1,
    )

-- ---- the logs, and what wasn't finished

last_is : (o : Option NodeState) (heir : Option ℕ) (l : Last) → EndsAs o heir l → l ≡ option_map_or last.Moved heir (last.State (option_map_or moves.numbers o []))
last_is (Some s) None (last.State xs) h = ap last.State (sym h)
last_is (Some s) (Some j) (last.Moved i) h = ap last.Moved h
last_is (Some s) None (last.Moved i) h = absurd h
last_is (Some s) (Some j) (last.State xs) h = absurd h
last_is None heir l h = absurd h

abbrev first_of : List (List Event) → List Event
first_of [] = []
first_of (x ∷ xs) = x

abbrev rest_of : List (List Event) → List (List Event)
rest_of [] = []
rest_of (x ∷ xs) = xs

module _ (history : List HistoryLine) (w : World) where
  abbrev EndsSo : NodeLog → Type 0
  EndsSo l = EndsAs (state_of w l.slot) (moved_to history l.slot) l.last

  abbrev slots_of : List NodeLog → List ℕ
  slots_of logs = map (λ (l : NodeLog). l.slot) logs

  log_is : (l : NodeLog) → l.events ≡ done_by l.slot w.events → EndsSo l → l ≡ log_of history w l.slot
  log_is l es h = λ i. record { slot = l.slot; events = es i; last = last_is (state_of w l.slot) (moved_to history l.slot) l.last h i }

  logs_by_slot : (logs : List NodeLog) → map (λ (l : NodeLog). l.events) logs ≡ map (λ n. done_by n w.events) (slots_of logs) → All EndsSo logs
      → logs ≡ map (log_of history w) (slots_of logs)
  logs_by_slot [] es h = refl
  logs_by_slot (l ∷ logs) es h =
      let here = log_is l (ap first_of es) (All-head EndsSo l logs h) in
      let later = logs_by_slot logs (ap rest_of es) (All-tail EndsSo l logs h) in
      λ i. here i ∷ later i

  logs_are : (ns : List ℕ) (logs : List NodeLog) → slots_of logs ≡ ns → map (λ (l : NodeLog). l.events) logs ≡ map (λ n. done_by n w.events) ns
      → All EndsSo logs → logs ≡ map (log_of history w) ns
  logs_are ns logs slots events ends =
      logs_by_slot logs (events ∙ ap (map (λ n. done_by n w.events)) (sym slots)) ends ∙ ap (map (log_of history w)) slots

both_or_none : (a b : Bool) → cond a b false ≡ (a && b)
both_or_none true b = refl
both_or_none false b = refl

module _ (w : World) (r : IsReached w) (one : (n : ℕ) → state_of w n ≡ fold_of_node w.events n) where
  machine : w.machine ≡ state_after w.events
  machine = facts.machine_is w r

  left_undone : (n : ℕ) → is_unfinished w.events n ≡ is_left_undone w n
  left_undone n =
      ap (λ (s : State). cond (is_live s.config n) (not (option_map_or moves.is_done (fold_of_node w.events n) false)) false) (sym machine)
      ∙ ap (λ o. cond (is_live w.machine.config n) (not (option_map_or moves.is_done o false)) false) (sym (one n))
      ∙ both_or_none (is_live w.machine.config n) (not (is_done w n))

  unfinished_is : (statements : List Statement) → unfinished_of statements w.events ≡ unfinished_in statements w
  unfinished_is statements =
      ap (λ (s : State). cond (list_any is_finish statements) (find (is_unfinished w.events) (range_with_len 0 (length s.config.slots))) None) (sym machine)
      ∙ ap (λ o. cond (list_any is_finish statements) o None) (find_agree (is_unfinished w.events) (is_left_undone w) (range_with_len 0 (length w.machine.config.slots)) left_undone)

-- ---- the report

-- what the laws of headlines and of reports say
abbrev JoinsMembers : Type 0
JoinsMembers = (t : List Item) (m : List Moment) → IsRecordOf (entries t) m → (ms : List Member) × AreJoined t m ms

abbrev IsLawfulWhereJoined : Type 0
IsLawfulWhereJoined = (alone : Bool) (statements : List Statement) (t : List Item) (m : List Moment) (ms : List Member) (report : Report)
    → IsTranscript alone statements t → AreJoined t m ms → IsRecordOf (entries t) m → IsReportOfTranscript t m report → IsLawfulBy statements report ms

module _ (join : JoinsMembers) (lawful : IsLawfulWhereJoined) (stays : RestStays) (folds : AreFolds) (statements : List Statement) (t : List Item)
    (m : List Moment) (report : Report) (x : IsTranscript true statements t) (of_rounds : AreOfRounds (entries t) (taken_in report)) (has : IsReportOfTranscript t m report) where
  abbrev w : World
  w = world_behind t

  plays : facts.EndsIn (entries t) w
  plays = facts.rounds_play (entries t) of_rounds.rounds

  config : config_at t ≡ w.machine.config
  config = config_behind t of_rounds.rounds

  has_here : IsReportOfTranscript t plays.moments report
  has_here = record {
    history_is = has.history_is;
    slots = has.slots;
    events_are = of_rounds.logs_are
        ∙ ap (λ (c : Configuration). map (λ n. done_by n w.events) (range_with_len 0 (length c.slots))) (sym config)
        ∙ ap (λ es. map (λ n. done_by n es) (range_with_len 0 (length (config_at t).slots))) (sym plays.events_are);
    ends = has.ends;
    unfinished_is = has.unfinished_is;
    status_is = has.status_is;
  }

  joined : (ms : List Member) × AreJoined t plays.moments ms
  joined = join t plays.moments plays.is_of

  by_law : IsLawfulBy statements report joined.0
  by_law = lawful true statements t plays.moments joined.0 report x joined.1 plays.is_of has_here

  events : members.events joined.0 ≡ w.events
  events = events_are t plays.moments joined.0 (fair_transcript true statements t x) joined.1 ∙ plays.events_are

  one : (n : ℕ) → state_of w n ≡ fold_of_node w.events n
  one = folds w plays.reached

  logs : report.logs ≡ map (log_of report.history w) (range_with_len 0 (length w.machine.config.slots))
  logs = logs_are report.history w (range_with_len 0 (length w.machine.config.slots)) report.logs
      (has.slots ∙ ap (λ (c : Configuration). range_with_len 0 (length c.slots)) config) of_rounds.logs_are
      (All-weaker (IsFolded joined.0 report.history) (EndsSo report.history w) report.logs
      (λ l h. subst (λ o. EndsAs o (moved_to report.history l.slot) l.last) (ap (λ es. fold_of_node es l.slot) events ∙ sym (one l.slot)) h) by_law.folds)

  unfinished : report.unfinished ≡ unfinished_in statements w
  unfinished = by_law.unfinished ∙ ap (unfinished_of statements) events ∙ unfinished_is w plays.reached one statements

  report_is : report ≡ report_of statements report.history w
  report_is = λ i. record {
    history = report.history;
    logs = logs i;
    unfinished = unfinished i;
    status = (by_law.status ∙ ap (status_of report.history) unfinished) i;
  }

  alike : AreAlike x.pieces (parts_of [] x.pieces)
  alike = alike_all [] x.pieces [] (record { lines_are = refl; world_is = refl })

  rounds_here : AreByRounds (items_of x.pieces ++ x.stop)
  rounds_here = subst AreByRounds (sym x.are) of_rounds.rounds

  history : report.history ≡ lines_played (parts_of [] x.pieces) ++ lines x.stop
  history = has.history_is ∙ ap lines (sym x.are) ∙ lines_both (items_of x.pieces) x.stop ∙ ap (λ ls. ls ++ lines x.stop) (sym alike.lines_are)

  pub is_serial : Serial statements report
  is_serial = record {
    parts = parts_of [] x.pieces;
    statements_are = statements_of [] x.pieces ∙ x.statements_are;
    played = all_played stays folds [] x.pieces [] (record { lines_are = refl; world_is = refl }) (front_of_rounds (items_of x.pieces) x.stop rounds_here) x.done;
    stop = lines x.stop;
    world = w;
    stops = subst (λ v. StopsAt (world_after (parts_of [] x.pieces)) (lines x.stop) v) (ap world_behind x.are)
        (subst (λ u. StopsAt u (lines x.stop) (world_behind (items_of x.pieces ++ x.stop))) (sym alike.world_is) (stop_played (items_of x.pieces) x.stop rounds_here x.stops));
    report_is = report_is ∙ ap (λ h. report_of statements h w) history;
  }
