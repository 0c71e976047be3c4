-- An engine whose change is open.
use Rattle.std.proofs.Common.{◌≡◌, ◌≤◌, ◌<◌, ◌+◌, ℕ, true, false, List, [], ◌∷◌, ◌++◌, length, map, Option, Some, None, refl, sym, ap, ◌∙◌, subst, ⊎_elim, arith, vec_len}
use Rattle.std.specs.Prelude.{IfErr, Result, Ok, Err, flat_map}
use Rattle.std.specs.Global.{Vec}
use Rattle.std.specs.Vec.{vec_capacity}
use Rattle.std.proofs.lemmas.List.{append-nil}
use Rattle.std.proofs.lemmas.List.Elements.{All-head, All-tail}
use Rattle.std.proofs.lemmas.Option.{same_Some}
use Rattle.change_plan.specs.Refusals.{CanPlan}
use Rattle.change_plan.specs.declared.plan_data.Move.{Move}
use Rattle.change_plan.specs.declared.plan_data.Plan.{Plan}
use Rattle.report_types.specs.declared.report.HistoryLine.{HistoryLine}
use Rattle.report_types.specs.declared.report.HistoryLine.TheVariants as to
use Rattle.change_spec.specs.Members.{lines_of_events}
use Rattle.quiesce_laws.specs.Commits.{Differ}
use Rattle.quiesce_laws.specs.Lists.{Apart, In}
use Rattle.quiesce_laws.specs.Steps.{change_all}
use Rattle.quiesce_laws.proofs.MemberLaws.{select, select_apart}
use Rattle.quiesce_laws.proofs.TurningLaws.{SameLinks, live_port, same_graph, same_turned}
use Rattle.config_graph.specs.Graph.{Graph}
use Rattle.change_plan_laws.specs.Commit.{commit_events, is_one_of, ports_to_close}
use Rattle.change_plan_laws.specs.Committing.{made_in}
use Rattle.quiesce_core.specs.Effect.{with_closed}
use Rattle.quiesce_core.specs.Live.{IsGraphOf}
use Rattle.quiesce_core.specs.Rules.{is_live_port}
use Rattle.quiesce_core.specs.State.{Configuration, owner}
use Rattle.quiesce_core.specs.declared.event.Event.TheVariants as event
use Rattle.quiesce_core.specs.declared.state.Slot.{Slot}
use Rattle.txn_records.specs.Entries.{config_of, events_in}
use Rattle.txn_records.specs.declared.entry.Entry.{Entry}
use Rattle.txn_records.specs.declared.entry.Entry.TheVariants.{Did}
use Rattle.txn_records.specs.Notes.{is_noted}
use Rattle.txn_records.specs.Records.{IsRecord}
use Rattle.change_board.specs.declared.board.Board.{Ghosts as BoardWords}
use Rattle.change_board.specs.Steps.{HasRoomForAll, Deed, MayDoAll, Room, events_of}
use Rattle.change_board.specs.Transcripts.{Item, entries, lines, said}
use Rattle.txn_records.proofs.EntryLaws.{config_did}
use Rattle.change_engine.specs.Carrying.{CarriesOut, deed_items}
use Rattle.change_engine.specs.Breaking.{BrokeInRound, IsClosedStill}
use Rattle.change_engine.specs.Calls.{HasAbandoned, HasBrokenOff, HasCommitted, HasLeft, HasPassivated}
use Rattle.change_engine.specs.Draining.{Waits, WhereNoMemory, WherePending, left_lines, pending_items, root_item, root_line}
use Rattle.change_engine.specs.declared.draining.PassError.{PassError}
use Rattle.change_engine.specs.declared.draining.PassError.TheVariants.{NoMemory, Pending}
use Rattle.change_engine.specs.Engines.{HasPlace, IsFor, IsOpen, IsPrepared, IsReadyToCommit, IsLaidOut, Tells}
use Rattle.change_engine.specs.Growing.{Grew, telling}
use Rattle.change_lists.specs.Layouts.{IsLayoutOf}
use Rattle.change_engine.specs.Leaving.{IsRootLeft}
use Rattle.change_engine.specs.Passivating.{AreLivePorts, Passivated, Passivation, last_look, left_after, passivation_items}
use Rattle.change_engine.specs.Planning.{MayCarryOut}
use Rattle.change_engine.specs.declared.engine.Change.{Change}
use Rattle.change_engine.specs.declared.engine.Engine.{Engine}
use Rattle.change_lists.proofs.LayoutLaws.{same_laid}
use Rattle.change_engine.specs.declared.passivating.LeftRoot.{LeftRoot}
use Rattle.change_engine.specs.declared.passivating.Waiting.{Waiting}
use Rattle.change_engine.proofs.EngineLemmas.{record_sound, said_alone}
use Rattle.change_engine.proofs.Growing.{grew_both}
use Rattle.change_engine.proofs.LeavingLemmas.{root_left}
use Rattle.change_engine.proofs.Noting.{passivated_noted}
use Rattle.change_engine.proofs.Passing.{config_over, live_same}
use Rattle.change_engine.proofs.Quieting.{passivation_events}
use Rattle.change_engine.proofs.StartLemmas.{deeds_events}
use Rattle.change_engine.proofs.StayingLemmas.{stays_closed}
use Rattle.change_engine.proofs.ItemLaws.{entries_both, lines_both, carried_entries}
use Rattle.change_spec.proofs.PortLaws.{closed_links, closed_live, same_here}

-- The roots that are left, as they are told: they are no entries.
said_roots : (xs : List LeftRoot) → map said (map root_line xs) ≡ map root_item xs
said_roots [] = refl
said_roots (x ∷ xs) = ap (λ t. root_item x ∷ t) (said_roots xs)

same_pending : (within : ℕ) (left : List LeftRoot) → 0 < length left → map said (left_lines within left) ≡ pending_items within left
same_pending within [] h = absurd (omega (arith, h))
same_pending within (x ∷ left) h = ap (λ t. said (to.Pending within) ∷ root_item x ∷ t) (said_roots left)

no_entries : (xs : List LeftRoot) → entries (map root_item xs) ≡ []
no_entries [] = refl
no_entries (x ∷ xs) = no_entries xs

same_made : (c d : Configuration) → SameLinks c d → made_in c ≡ made_in d
same_made c d same = ap (λ (s : List Slot). record { nodes = length s; ports = length c.gates }) (sym same.slots) ∙ ap (λ n. record { nodes = length d.slots; ports = n }) (sym same.long)

pub same_one : (g : Graph) (places : List ℕ) (c d : Configuration) (n : ℕ) → SameLinks c d → is_one_of g places d n ≡ is_one_of g places c n
same_one g places c d n same = ap (λ (s : List Slot). is_one_of g places (record { slots = s; gates = [] }) n) same.slots

-- Gates of live nodes may be opened, one after the other.
opened_links : (c d : Configuration) (ps : List ℕ) → AreLivePorts c ps → SameLinks c d → SameLinks c (change_all d (map event.Reopen ps))
opened_links c d [] h same = same
opened_links c d (p ∷ ps) h same =
    opened_links c (with_closed d p false) ps (All-tail (λ q. is_live_port c q ≡ true) p ps h)
    (same_turned c d p false (subst (λ n. p < n) (sym same.long) (live_port c p (All-head (λ q. is_live_port c q ≡ true) p ps h)).made) same)

opens_may : (c : Configuration) (ps : List ℕ) (r : List Entry) → AreLivePorts c ps → SameLinks c (config_of r) → MayDoAll r (map event.Reopen ps)
opens_may c [] r h same = tt
opens_may c (p ∷ ps) r h same =
    let here = All-head (λ q. is_live_port c q ≡ true) p ps h in
    let d = config_of r in (
      live_same c d p same ∙ here,
      opens_may c ps (r ++ Did (event.Reopen p) ∷ []) (All-tail (λ q. is_live_port c q ≡ true) p ps h)
          (subst (SameLinks c) (sym (config_did r (event.Reopen p))) (same_turned c d p false (subst (λ n. p < n) (sym same.long) (live_port c p here).made) same)),
    )

opens_fit : (ps : List ℕ) (room : Room) → HasRoomForAll room (map event.Reopen ps)
opens_fit [] room = tt
opens_fit (p ∷ ps) room = (tt, opens_fit ps room)

done_events : (deeds : List Deed) (l : HistoryLine) → events_in (entries (flat_map deed_items deeds ++ said l ∷ [])) ≡ events_of deeds
done_events deeds l =
    ap events_in (entries_both (flat_map deed_items deeds) (said l ∷ []) ∙ append-nil (entries (flat_map deed_items deeds)) ∙ carried_entries deeds) ∙ deeds_events deeds

module _ {B : Type 0} (W : BoardWords B) (runs : (b : B) (r : List Entry) → W.stands_for b r → IsRecord r) (e : Engine B) where
  told : (t : List Item) → Tells W e t → IsLaidOut e.layout e.graph (config_of (entries t))
  told t h = record { laid = h.layout; graph = h.graph; sound = record_sound (entries t) (runs e.board (entries t) h.board) }

  -- the change that is open
  one_change : (t : List Item) (moves : List Move) (plan : Plan) (new : Graph) (change : Change) (h : IsOpen W e t moves plan new) → e.change ≡ Some change → h.change ≡ change
  one_change t moves plan new change h open_ = same_Some _ _ (sym h.open_ ∙ open_)

  is_for : (t : List Item) (moves : List Move) (plan : Plan) (new : Graph) (change : Change) (h : IsOpen W e t moves plan new) → e.change ≡ Some change → IsFor e.layout e.graph new plan change
  is_for t moves plan new change h open_ = subst (IsFor e.layout e.graph new plan) (one_change t moves plan new change h open_) h.is_for

  pub closed_are : (t : List Item) (moves : List Move) (plan : Plan) (new : Graph) (change : Change) (h : IsOpen W e t moves plan new) → e.change ≡ Some change
      → change.closed.items ≡ ports_to_close e.graph plan (config_of (entries t))
  closed_are t moves plan new change h open_ = (is_for t moves plan new change h open_).closed (config_of (entries t)) (told t h.tells)

  pub open_place : (t : List Item) (moves : List Move) (plan : Plan) (new : Graph) (change : Change) (h : IsPrepared W e t moves plan new) → e.change ≡ Some change → HasPlace e.history change
  open_place t moves plan new change h open_ = subst (HasPlace e.history) (one_change t moves plan new change h.is_open open_) h.place

  pub all_live : (t : List Item) (moves : List Move) (plan : Plan) (new : Graph) (change : Change) (h : IsOpen W e t moves plan new) → e.change ≡ Some change
      → AreLivePorts (config_of (entries t)) change.closed.items
  all_live t moves plan new change h open_ =
      subst (AreLivePorts (config_of (entries t))) (sym (closed_are t moves plan new change h open_)) (closed_live e.graph plan (config_of (entries t)))

  pub lines_for : (t : List Item) (moves : List Move) (plan : Plan) (new : Graph) (change : Change) (h : IsOpen W e t moves plan new) → e.change ≡ Some change
      → change.lines.items ≡ lines_of_events change.events.items ++ to.Commit ∷ []
  lines_for t moves plan new change h open_ = (is_for t moves plan new change h open_).lines_are

  pub reopen_lines_for : (t : List Item) (moves : List Move) (plan : Plan) (new : Graph) (change : Change) (h : IsOpen W e t moves plan new) → e.change ≡ Some change
      → change.reopen_lines.items ≡ lines_of_events change.reopens.items ++ to.Abandon ∷ []
  reopen_lines_for t moves plan new change h open_ = (is_for t moves plan new change h open_).reopen_lines

  pub commit_may : (t : List Item) (moves : List Move) (plan : Plan) (new : Graph) (change : Change) (m : IsReadyToCommit W e t moves plan new) → e.change ≡ Some change
      → MayDoAll (entries t) (commit_events e.graph new plan (config_of (entries t))) → MayDoAll (entries t) change.events.items
  commit_may t moves plan new change m open_ may_ =
      subst (MayDoAll (entries t)) (sym ((is_for t moves plan new change m.is_open open_).events (config_of (entries t)) (told t m.is_open.tells))) may_

  pub committed : (b : B) (v : Vec HistoryLine) (o : Option Change) (change : Change) (plan : Plan) (new : Graph) → e.change ≡ Some change → o ≡ None
      → ((old g : Graph) (moves : List Move) (p : Plan) (r : List Entry) → IsRecord r → MayCarryOut old g moves p r → IsGraphOf (change_all (config_of r) (commit_events old g p (config_of r))) g)
      → CarriesOut W (telling e.board e.history.items) (telling b v.items) [] change.events.items (to.Commit ∷ [])
      → HasCommitted W e (record { board = b; history = v; graph = new; layout = change.next; change = o }) plan new
  committed b v o change plan new open_ none_ graphs x = record {
    deeds = x.deeds;
    events_are = λ t moves m. x.events_are ∙ (is_for t moves plan new change m.is_open open_).events (config_of (entries t)) (told t m.is_open.tells);
    graph_is = refl;
    goes = λ t moves m.
        let h = m.is_open in
        let c = config_of (entries t) in
        let items : List Item = flat_map deed_items x.deeds ++ said to.Commit ∷ [] in
        let for_ = is_for t moves plan new change h open_ in
        let made : config_of (entries (t ++ items)) ≡ change_all c (commit_events e.graph new plan c) =
        ap config_of (entries_both t items) ∙ config_over (entries t) (entries items)
        ∙ ap (change_all c) (done_events x.deeds to.Commit ∙ x.events_are ∙ for_.events c (told t h.tells)) in
        record {
          tells = record {
            board = subst (W.stands_for b) (sym (entries_both t items)) (x.grew.adds (entries t) h.tells.board);
            history = x.grew.adds_lines ∙ ap (λ ls. ls ++ lines items) h.tells.history ∙ sym (lines_both t items);
            graph = subst (λ d. IsGraphOf d new) (sym made) (graphs e.graph new moves plan (entries t) (runs e.board (entries t) h.tells.board) m.may_);
            is_graph = h.planned.new_graph;
            sound = h.planned.new_sound;
            layout = subst (λ d. IsLayoutOf change.next d new) (sym made) (for_.next_ c (told t h.tells));
          };
          none_open = none_;
        };
  }

  pub abandon_may : (t : List Item) (moves : List Move) (plan : Plan) (new : Graph) (change : Change) (h : IsOpen W e t moves plan new) → e.change ≡ Some change → MayDoAll (entries t) change.reopens.items
  abandon_may t moves plan new change h open_ =
      subst (MayDoAll (entries t)) (sym (is_for t moves plan new change h open_).reopens)
      (opens_may (config_of (entries t)) change.closed.items (entries t) (all_live t moves plan new change h open_) (same_here (config_of (entries t))))

  pub abandon_fits : (t : List Item) (moves : List Move) (plan : Plan) (new : Graph) (change : Change) (room : Room) (h : IsOpen W e t moves plan new) → e.change ≡ Some change → HasRoomForAll room change.reopens.items
  abandon_fits t moves plan new change room h open_ = subst (HasRoomForAll room) (sym (is_for t moves plan new change h open_).reopens) (opens_fit change.closed.items room)

  pub abandoned : (b : B) (v : Vec HistoryLine) (o : Option Change) (change : Change) (plan : Plan) → e.change ≡ Some change → o ≡ None
      → CarriesOut W (telling e.board e.history.items) (telling b v.items) [] change.reopens.items (to.Abandon ∷ [])
      → HasAbandoned W e (record { board = b; history = v; graph = e.graph; layout = e.layout; change = o }) plan
  abandoned b v o change plan open_ none_ x = record {
    deeds = x.deeds;
    events_are = λ t moves new m. x.events_are ∙ (is_for t moves plan new change m.is_open open_).reopens ∙ ap (map event.Reopen) (closed_are t moves plan new change m.is_open open_);
    graph_is = refl;
    goes = λ t moves new m.
        let h = m.is_open in
        let c = config_of (entries t) in
        let items : List Item = flat_map deed_items x.deeds ++ said to.Abandon ∷ [] in
        let made : config_of (entries (t ++ items)) ≡ change_all c (map event.Reopen change.closed.items) =
        ap config_of (entries_both t items) ∙ config_over (entries t) (entries items)
        ∙ ap (change_all c) (done_events x.deeds to.Abandon ∙ x.events_are ∙ (is_for t moves plan new change h open_).reopens) in
        let same : SameLinks c (config_of (entries (t ++ items))) =
        subst (SameLinks c) (sym made) (opened_links c c change.closed.items (all_live t moves plan new change h open_) (same_here c)) in
        record {
          tells = record {
            board = subst (W.stands_for b) (sym (entries_both t items)) (x.grew.adds (entries t) h.tells.board);
            history = x.grew.adds_lines ∙ ap (λ ls. ls ++ lines items) h.tells.history ∙ sym (lines_both t items);
            graph = same_graph c (config_of (entries (t ++ items))) e.graph same h.tells.graph;
            is_graph = h.tells.is_graph;
            sound = h.tells.sound;
            layout = same_laid e.layout c (config_of (entries (t ++ items))) e.graph same h.tells.layout;
          };
          none_open = none_;
        };
  }

  -- a passivation leaves a change open
  waited_events : (ports : List ℕ) (how : Passivation) (within : ℕ) (left : List LeftRoot) → events_in (entries (passivation_items ports how ++ pending_items within left)) ≡ map event.Close ports
  waited_events ports how within left =
      ap events_in (entries_both (passivation_items ports how) (pending_items within left) ∙ ap (λ es. entries (passivation_items ports how) ++ es) (no_entries left)
      ∙ append-nil (entries (passivation_items ports how))) ∙ passivation_events ports how

  same_closed : (t items : List Item) (moves : List Move) (plan : Plan) (new : Graph) (change : Change) (h : IsOpen W e t moves plan new) → e.change ≡ Some change
      → events_in (entries items) ≡ map event.Close change.closed.items → SameLinks (config_of (entries t)) (config_of (entries (t ++ items)))
  same_closed t items moves plan new change h open_ shut =
      let c = config_of (entries t) in
      subst (SameLinks c) (sym (ap config_of (entries_both t items) ∙ config_over (entries t) (entries items) ∙ ap (change_all c) shut))
      (closed_links c c change.closed.items (all_live t moves plan new change h open_) (same_here c))

  -- another list to wait in is no other change
  abbrev pub waiting_in : Change → Waiting → Change
  waiting_in change w = record change { waiting = w }

  abbrev pub drained : B → Vec HistoryLine → Change → Waiting → Engine B
  drained b v change w = record e { board = b; history = v; change = Some (waiting_in change w) }

  for_waiting : (plan : Plan) (new : Graph) (change : Change) (w : Waiting) → IsFor e.layout e.graph new plan change → IsFor e.layout e.graph new plan (waiting_in change w)
  for_waiting plan new change w h = record {
    closed = h.closed;
    events = h.events;
    next_ = h.next_;
    lines_are = h.lines_are;
    reopens = h.reopens;
    reopen_lines = h.reopen_lines;
  }

  still_open : (b : B) (v : Vec HistoryLine) (w : Waiting) (t items : List Item) (moves : List Move) (plan : Plan) (new : Graph) (change : Change) (h : IsOpen W e t moves plan new) → e.change ≡ Some change
      → Grew W (telling e.board e.history.items) (telling b v.items) items → events_in (entries items) ≡ map event.Close change.closed.items → W.room b ≡ W.room e.board
      → IsOpen W (drained b v change w) (t ++ items) moves plan new
  still_open b v w t items moves plan new change h open_ grew shut room =
      let c = config_of (entries t) in
      let d = config_of (entries (t ++ items)) in
      let same = same_closed t items moves plan new change h open_ shut in
      record {
        tells = record {
          board = subst (W.stands_for b) (sym (entries_both t items)) (grew.adds (entries t) h.tells.board);
          history = grew.adds_lines ∙ ap (λ ls. ls ++ lines items) h.tells.history ∙ sym (lines_both t items);
          graph = same_graph c d e.graph same h.tells.graph;
          is_graph = h.tells.is_graph;
          sound = h.tells.sound;
          layout = same_laid e.layout c d e.graph same h.tells.layout;
        };
        planned = record {
          new_graph = h.planned.new_graph;
          new_sound = h.planned.new_sound;
          is_plan = h.planned.is_plan;
          can_plan = subst (CanPlan e.graph new moves) (same_made c d same) h.planned.can_plan;
        };
        change = waiting_in change w;
        open_ = refl;
        is_for = for_waiting plan new change w (is_for t moves plan new change h open_);
        room = subst (λ x. HasRoomForAll x change.events.items) (sym room) (subst (λ (x : Change). HasRoomForAll (W.room e.board) x.events.items) (one_change t moves plan new change h open_) h.room);
      }

  pub has_passivated : (b : B) (v : Vec HistoryLine) (w : Waiting) (change : Change) (plan : Plan) (within : ℕ) (left : List LeftRoot) → e.change ≡ Some change
      → Waits W (telling e.board e.history.items) (telling b v.items) change.closed.items within left → left ≡ [] → W.room b ≡ W.room e.board → vec_len v + vec_len change.lines ≤ vec_capacity v
      → HasPassivated W e (drained b v change w) plan within
  unfolding still_open
  has_passivated b v w change plan within left open_ x none_ room place = record {
    closed = change.closed.items;
    how = x.how;
    closed_are = λ t moves new h. closed_are t moves plan new change h open_;
    is_passivation = x.is_passivation;
    none_left = none_left;
    graph_is = refl;
    opens = λ t moves new h.
        let c = config_of (entries t) in
        let items = passivation_items change.closed.items x.how in
        let shut = passivation_events change.closed.items x.how in
        let d = config_of (entries (t ++ items)) in
        let same = same_closed t items moves plan new change h open_ shut in
        let open' = still_open b v w t items moves plan new change h open_ grew shut room in
        record {
          is_open = open';
          may_ = record {
            old_graph = h.tells.is_graph;
            new_graph = h.planned.new_graph;
            new_sound = h.planned.new_sound;
            is_plan = h.planned.is_plan;
            can_plan = open'.planned.can_plan;
            graph = open'.tells.graph;
            noted = λ p made frozen. noted t moves new h p
                (subst (λ n. p < n) same.long made)
                (sym (same_one e.graph plan.freeze c d (owner c p) same) ∙ sym (ap (is_one_of e.graph plan.freeze d) (same.owners p)) ∙ frozen);
          };
          place = place;
        };
  }
    where
      none_left : left_after x.how.first x.how.rounds ≡ []
      none_left = sym x.left_is ∙ none_

      grew : Grew W (telling e.board e.history.items) (telling b v.items) (passivation_items change.closed.items x.how)
      grew = subst (Grew W (telling e.board e.history.items) (telling b v.items))
          (ap (λ l. passivation_items change.closed.items x.how ++ map said (left_lines within l)) none_ ∙ append-nil (passivation_items change.closed.items x.how)) x.grew

      noted : (t : List Item) (moves : List Move) (new : Graph) (h : IsOpen W e t moves plan new) (p : ℕ) → p < length (config_of (entries t)).gates
          → is_one_of e.graph plan.freeze (config_of (entries t)) (owner (config_of (entries t)) p) ≡ true
          → is_noted (entries (t ++ passivation_items change.closed.items x.how)) p ≡ true
      noted t moves new h p made frozen =
          let c = config_of (entries t) in
          subst (λ r. is_noted r p ≡ true) (sym (entries_both t (passivation_items change.closed.items x.how)))
          (passivated_noted (entries t) change.closed.items within p x.how x.is_passivation none_left
          (subst (λ ps. In ps p) (sym (closed_are t moves plan new change h open_))
          (select (λ q. is_one_of e.graph plan.freeze c (owner c q)) 0 (length c.gates) p (omega arith) (omega (arith, made)) frozen)))

  pub has_left : (b : B) (v : Vec HistoryLine) (w : Waiting) (change : Change) (plan : Plan) (within : ℕ) (left : List LeftRoot) → e.change ≡ Some change
      → Waits W (telling e.board e.history.items) (telling b v.items) change.closed.items within left → 0 < length left → W.room b ≡ W.room e.board → vec_len v + vec_len change.reopen_lines ≤ vec_capacity v
      → HasLeft W e (drained b v change w) plan within left
  unfolding still_open
  has_left b v w change plan within left open_ x some_ room place = record {
    closed = change.closed.items;
    how = x.how;
    closed_are = λ t moves new h. closed_are t moves plan new change h open_;
    is_passivation = x.is_passivation;
    all_rounds = ⊎_elim (λ (none_ : left ≡ []). absurd (omega (arith, some_, ap length none_))) (λ (all : length x.how.rounds ≡ within). all) x.ends;
    left_is = x.left_is;
    some_left = some_;
    graph_is = refl;
    opens = λ t moves new h. record {
      is_open = still_open b v w t items moves plan new change h open_ grew (waited_events change.closed.items x.how within left) room;
      place = place;
    };
    are_roots = λ t moves new h y i.
        subst (λ r. IsRootLeft change.closed.items (last_look x.how.first x.how.rounds) r y) (sym (whole t))
        (root_left (entries t) change.closed.items within x.how
        (subst IsRecord (whole t) (runs b (entries (t ++ items)) (subst (W.stands_for b) (sym (entries_both t items)) (grew.adds (entries t) h.tells.board))))
        (all_live t moves plan new change h open_)
        (subst (λ ps. Apart Differ ps) (sym (closed_are t moves plan new change h open_))
        (select_apart (λ p. is_one_of e.graph plan.freeze (config_of (entries t)) (owner (config_of (entries t)) p)) 0 (length (config_of (entries t)).gates)))
        x.is_passivation y (subst (λ ys. In ys y) x.left_is i));
  }
    where
      items : List Item
      items = passivation_items change.closed.items x.how ++ pending_items within left

      grew : Grew W (telling e.board e.history.items) (telling b v.items) items
      grew = subst (λ u. Grew W (telling e.board e.history.items) (telling b v.items) (passivation_items change.closed.items x.how ++ u)) (same_pending within left some_) x.grew

      whole : (t : List Item) → entries (t ++ items) ≡ entries t ++ entries (passivation_items change.closed.items x.how)
      whole t =
          entries_both t items ∙ ap (λ es. entries t ++ es)
          (entries_both (passivation_items change.closed.items x.how) (pending_items within left)
          ∙ ap (λ es. entries (passivation_items change.closed.items x.how) ++ es) (no_entries left) ∙ append-nil (entries (passivation_items change.closed.items x.how)))

  -- a passivation that broke off leaves all closed
  pub has_broken_off : (b : B) (v : Vec HistoryLine) (w : Waiting) (change : Change) (plan : Plan) (within : ℕ) → e.change ≡ Some change
      → BrokeInRound W (telling e.board e.history.items) (telling b v.items) change.closed.items within → HasBrokenOff W e (drained b v change w) plan within
  has_broken_off b v w change plan within open_ x = record {
    closed = change.closed.items;
    how = x.how;
    closed_are = λ t moves new h. closed_are t moves plan new change h open_;
    is_passivation = x.is_passivation;
    fewer = x.fewer;
    some_left = x.some_left;
    graph_is = refl;
    layout_is = refl;
    history_is = λ t moves new h. x.told_all ∙ ap (λ ls. ls ++ lines items) h.tells.history ∙ sym (lines_both t items);
    broke = λ t moves new h. subst (W.broke_off b) (sym (entries_both t items)) (x.broke (entries t) h.tells.board);
    stay_closed = λ t moves new h p shut. subst (λ r. IsClosedStill r p) (sym (entries_both t items))
        (stays_closed (entries t) (entries items) change.closed.items p (all_live t moves plan new change h open_) (passivation_events change.closed.items x.how) shut);
  }
    where
      items : List Item
      items = passivation_items change.closed.items x.how

-- a passivation with the lines behind it
pub waited : {B : Type 0} (W : BoardWords B) (a b : B) (h i j : List HistoryLine) (ports : List ℕ) (within : ℕ) (left : List LeftRoot) → Passivated W (telling a h) (telling b i) ports within left → j ≡ i ++ left_lines within left
    → Waits W (telling a h) (telling b j) ports within left
waited W a b h i j ports within left x grown = record {
  how = x.how;
  is_passivation = x.is_passivation;
  left_is = x.left_is;
  ends = x.ends;
  grew = grew_both W a b b h i j (passivation_items ports x.how) (map said (left_lines within left)) x.grew (said_alone W b i j (left_lines within left) grown);
}

pub no_memory_if : (P : Type 0) → P → (r : Result (Unit {0}) PassError) → IfErr r (WhereNoMemory P)
no_memory_if P h (Ok x) = tt
no_memory_if P h (Err (Pending k left)) = tt
no_memory_if P h (Err NoMemory) = h

pub pending_if : (P Q : ℕ → List LeftRoot → Type 0) → ((k : ℕ) (left : List LeftRoot) → P k left → Q k left) → (r : Result (Unit {0}) PassError) → IfErr r (WherePending P) → IfErr r (WherePending Q)
pending_if P Q f (Ok x) h = tt
pending_if P Q f (Err (Pending k left)) h = f k left h
pending_if P Q f (Err NoMemory) h = tt
