-- The course of a run of rows: behind each of its events the row stands with what went through it, or a commit of it is under way,
-- and it rests.
use Rattle.std.proofs.Common.{◌≡◌, ◌∙◌, ℕ, ◌+◌, Bool, true, false, cond, List, [], ◌∷◌, ◌++◌, append_assoc, length, Option, Some, None, refl, sym, ap, subst, arith, inl, inr, ⊎_elim}
use Rattle.std.specs.Prelude.{◌⊎◌, ◌==◌, option_map}
use Rattle.std.proofs.lemmas.Bool.{both_ways, cases_Bool, eq-eqb, eqb-true, false_from_ne_true}
use Rattle.std.proofs.lemmas.Option.{same_Some}
use Rattle.base.proofs.OptionLaws.{map_or_true}
use Rattle.std.proofs.lemmas.List.{append-nil}
use Rattle.config_graph.specs.Graph.{Graph}
use Rattle.config_graph.specs.declared.kind.Kind.{Kind}
use Rattle.config_graph.specs.declared.kind.Kind.TheVariants.{Sink, Source}
use Rattle.config_graph.specs.declared.node.Node.{Node}
use Rattle.config_graph.specs.declared.node.Target.{Target}
use Rattle.component_trait.specs.States.{NodeState}
use Rattle.quiesce_word.specs.Phases.{is_idle}
use Rattle.quiesce_word.specs.declared.phase.Phase.TheVariants as phase
use Rattle.quiesce_core.specs.Alters.{exchange_by, exchange_next}
use Rattle.quiesce_core.specs.declared.state.Exchange.{Exchange}
use Rattle.quiesce_core.proofs.AlterLaws.{exchanges_next}
use Rattle.result_laws.proofs.EventLaws.{Now, idle_passes, starts_at}
use Rattle.quiesce_core.specs.Doers.{is_of_change}
use Rattle.quiesce_core.specs.Legal.{Legal}
use Rattle.quiesce_core.specs.Live.{IsGraphOf}
use Rattle.quiesce_core.specs.Rules.{is_kind, is_settled}
use Rattle.quiesce_core.specs.Runs.{IsRun, is_doer, state_after}
use Rattle.quiesce_core.specs.State.{Configuration, State, exchange, owner, service, slot, target}
use Rattle.quiesce_core.specs.WellFormed.{IsSound}
use Rattle.quiesce_core.specs.declared.state.Slot.{Slot}
use Rattle.quiesce_core.specs.declared.event.Event.{Event}
use Rattle.quiesce_core.specs.declared.event.Event.TheVariants as event
use Rattle.quiesce_core.proofs.InductionLaws.{IsNext, place}
use Rattle.quiesce_core.proofs.GraphExistsLaws.{has_graph}
use Rattle.quiesce_core.proofs.RunLaws.{fronts_are_runs, nodes_are_named}
use Rattle.quiesce_core.proofs.SameWiringLaws.{alive_if}
use Rattle.change_round_laws.proofs.FoldLaws.{StatesAreHanded}
use Rattle.result_laws.specs.Rows.{IsRow, is_of_row, rows_serve_rows}
use Rattle.result_laws.proofs.Between.{one_event, row_kept}
use Rattle.result_laws.specs.Coming.{HasFolds, come}
use Rattle.result_laws.proofs.ComingLaws.{facts, fits_of, folds_before, folds_on, fronts_fold}
use Rattle.result_laws.proofs.Ends.{IsMadeWell, MakesWell, OneEach, each_is_last, is_reopen, last_made, last_more, last_next, same_sink, same_source, touched, touched_on, touches, untouched_by_reopen, untouched_on}
use Rattle.result_laws.proofs.FactLaws.{Fits}
use Rattle.result_laws.proofs.Linking.{AllLinked}
use Rattle.result_laws.proofs.Passing.{Stop, Way, passed}
use Rattle.result_laws.proofs.Resting.{Begun, InRow, Rest, rests}
use Rattle.result_laws.proofs.Rising.{rises}
use Rattle.result_laws.proofs.RowGraphs.{row_there}
use Rattle.result_laws.proofs.RowSlots.{row_slot, shapes_row}
use Rattle.result_laws.proofs.Rounds.{IsEndOf, SourceDoes, Stands, begins, does, ends, other, resting, under_way}
use Rattle.result_laws.proofs.Staying.{rest_passes, rest_stays}

pub record Course (es : List Event) (past : List ℕ) : Type 0 where
  pub in_row : touched es ≡ false → InRow es past
  pub at_rest : touched es ≡ true → Rest es past

-- one more item, by the End of the source's transaction
pub record Grown (es : List Event) (e : Event) (past next : List ℕ) : Type 0 where
  pub row : InRow es past
  pub end_ : IsEndOf e row.p
  pub more_ : next ≡ past ++ passed (length past + 1) row.ms ∷ []

pub record CourseNext (es : List Event) (e : Event) (past : List ℕ) : Type 0 where
  pub next : List ℕ
  pub course : Course (es ++ e ∷ []) next
  pub grows : (next ≡ past) ⊎ Grown es e past next

pub record RowAt (es : List Event) : Type 0 where
  pub graph : Graph
  pub stands : IsGraphOf (state_after es).config graph
  pub is_row : IsRow graph

record RowOn (es : List Event) (e : Event) (past : List ℕ) : Type 0 where
  next : List ℕ
  in_row : InRow (es ++ e ∷ []) next
  grows : (next ≡ past) ⊎ Grown es e past next

pub start_course : Course [] []
start_course = record {
  in_row = λ h. absurd (both_ways true h refl);
  at_rest = λ h. record { still = record { idle = λ q of_port. refl; opened = λ q open_ of_port. absurd (both_ways true open_ refl) }; ends = record { count = refl; items = refl }; few = λ q live kind. omega arith };
}

-- a port that isn't idle keeps its serial
serial_stays : (s : State) (e : Event) → Legal s e → (p : ℕ) → is_idle (exchange s p).phase ≡ false → (exchange_next s p e).serial ≡ (exchange s p).serial
serial_stays s (event.Begin q k v) legal p busy = by (q == p) refl
  where
    by : (b : Bool) → (q == p) ≡ b → (cond b (record { phase = phase.Asked; serial = k; value = v; within = None }) (exchange s p)).serial ≡ (exchange s p).serial
    by true is = absurd (both_ways (is_idle (exchange s p).phase) busy (sym (ap (λ i. is_idle (exchange s i).phase) (eqb-true q p is)) ∙ legal.idle))
    by false is = refl
serial_stays s (event.Call q k v) legal p busy = by (q == p) refl
  where
    by : (b : Bool) → (q == p) ≡ b → (cond b (exchange_by (service s (owner s.config p)) (exchange s p) (event.Call q k v)) (exchange s p)).serial ≡ (exchange s p).serial
    by true is = absurd (both_ways (is_idle (exchange s p).phase) busy (sym (ap (λ i. is_idle (exchange s i).phase) (eqb-true q p is)) ∙ legal.idle))
    by false is = refl
serial_stays s (event.Give q k v) legal p busy = by (q == p)
  where
    by : (b : Bool) → (cond b (exchange_by (service s (owner s.config p)) (exchange s p) (event.Give q k v)) (exchange s p)).serial ≡ (exchange s p).serial
    by true = refl
    by false = refl
serial_stays s (event.More q k v) legal p busy = by (q == p)
  where
    by : (b : Bool) → (cond b (exchange_by (service s (owner s.config p)) (exchange s p) (event.More q k v)) (exchange s p)).serial ≡ (exchange s p).serial
    by true = refl
    by false = refl
serial_stays s (event.Ask q k v) legal p busy = by (q == p)
  where
    by : (b : Bool) → (cond b (exchange_by (service s (owner s.config p)) (exchange s p) (event.Ask q k v)) (exchange s p)).serial ≡ (exchange s p).serial
    by true = refl
    by false = refl
serial_stays s (event.End q k v) legal p busy = by (q == p)
  where
    by : (b : Bool) → (cond b (exchange_by (service s (owner s.config p)) (exchange s p) (event.End q k v)) (exchange s p)).serial ≡ (exchange s p).serial
    by true = refl
    by false = refl
serial_stays s _ legal p busy = refl

starter : (s : State) (p : ℕ) (z : Event) → starts_at p z ≡ true → is_doer s (owner s.config p) z ≡ true
starter s p (event.Begin q k v) h = eq-eqb (owner s.config q) (owner s.config p) (ap (owner s.config) (eqb-true q p h))
starter s p (event.Call q k v) h = eq-eqb (owner s.config q) (owner s.config p) (ap (owner s.config) (eqb-true q p h))
starter s p _ h = absurd (both_ways false refl h)

starts_alone : (p : ℕ) (z : Event) → starts_at p z ≡ true → is_of_change z ≡ false
starts_alone p (event.Begin q k v) h = refl
starts_alone p (event.Call q k v) h = refl
starts_alone p _ h = absurd (both_ways false refl h)

-- an event that shapes no row makes no source and no sink
last_beside : (c : Configuration) (e : Event) → shapes_row c e ≡ false → (k : Kind) → is_of_row k ≡ true → ((j : Kind) → is_kind j k ≡ true → j ≡ k) → (o : Option ℕ) → last_next k o e ≡ o
last_beside c (event.Make n node from) none_ k of_row same o =
    ap (λ b. cond b (Some n) o) (false_from_ne_true (is_kind node.kind k) (λ yes_. both_ways (is_of_row node.kind) none_ (ap is_of_row (same node.kind yes_) ∙ of_row)))
last_beside c _ none_ k of_row same o = refl

opens_none : (e : Event) → is_of_change e ≡ false → is_reopen e ≡ false
opens_none (event.Reopen p) h = absurd (both_ways true h refl)
opens_none _ h = refl

-- the first port of a way leads somewhere
way_to : (c : Configuration) (f : ℕ → NodeState) (ms : List Stop) (p t : ℕ) → Way c f p ms t → (u : Target) × (target c p ≡ Some u)
way_to c f [] p t w = (record { node = t; provide = 0 }, w.to.leads)
way_to c f (m ∷ ms) p t w = (record { node = m.at; provide = 0 }, w.0.to.leads)

pub counted : (s : State) (f : ℕ → NodeState) (a p : ℕ) (ms : List Stop) (t : ℕ) (past : List ℕ) → Stands s f a p ms t past → (f a).kept.count ≡ length past
counted s f a p ms t past (resting idle count items few) = count
counted s f a p ms t past (under_way d room going count items) = count

module _ (handed : StatesAreHanded) (es : List Event) (e : Event) (here : IsNext es e) (run' : IsRun (es ++ e ∷ [])) (later : HasFolds (es ++ e ∷ [])) where
  after_is : (p : ℕ) → exchange (state_after (es ++ e ∷ [])) p ≡ exchange_next (state_after es) p e
  after_is p = ap (λ (s : State). exchange s p) here.next ∙ exchanges_next (state_after es) e here.well here.legal p

  -- where the transaction began that is under way
  begun_on : (past : List ℕ) → (w : InRow es past) → AllLinked rows_serve_rows (state_after es).config → (next : List ℕ) → (next ≡ past) ⊎ (IsEndOf e w.p × (next ≡ past ++ passed (length past + 1) w.ms ∷ []))
      → is_idle (exchange (state_after (es ++ e ∷ [])) w.p).phase ≡ false → Begun (es ++ e ∷ []) w.p (length next + 1) w.ms
  begun_on past w linked next (inr g) busy =
      let idle : is_idle (exchange (state_after (es ++ e ∷ [])) w.p).phase ≡ true =
      ap (λ (x : Exchange). is_idle x.phase) (after_is w.p ∙ ap (exchange_next (state_after es) w.p) g.0.is
      ∙ ap (λ b. cond b (record { phase = phase.Idle; serial = (exchange (state_after es) w.p).serial; value = 0; within = None }) (exchange (state_after es) w.p)) (eq-eqb w.p w.p refl)) in
      absurd (both_ways _ busy idle)
  begun_on past w linked next (inl same) busy = subst (λ (n : List ℕ). Begun (es ++ e ∷ []) w.p (length n + 1) w.ms) (sym same) (by (is_idle (exchange (state_after es) w.p).phase) refl)
    where
      folds : HasFolds es
      folds = folds_before handed es e here run' later

      sound : IsSound (state_after es).config
      sound = here.well.sound

      fits : Fits (state_after es).config (come es)
      fits = fits_of handed es here.run folds

      kind_there : w.row.src.made.node.kind ≡ Source
      kind_there = sym (fits.kinds w.a w.row.src.made w.row.src.there) ∙ w.row.src.kind

      -- the source is live, since its port leads somewhere
      live_there : w.row.src.made.live ≡ true
      live_there =
          let live = (alive_if (state_after es) sound here.traffic).from w.p (way_to (state_after es).config (come es) w.ms w.p w.t w.row.way).0 (way_to (state_after es).config (come es) w.ms w.p w.t w.row.way).1 in
          let m = map_or_true (λ (x : Slot). x.live) (slot (state_after es).config (owner (state_after es).config w.p)) live in
          ap (λ (x : Slot). x.live) (same_Some w.row.src.made m.0 (sym w.row.src.there ∙ ap (slot (state_after es).config) (sym w.row.src.owned) ∙ m.1)) ∙ m.2

      start : (z : Event) → e ≡ z → starts_at w.p z ≡ true → SourceDoes w.p (come es w.a).arg (come es w.a).kept (come (es ++ e ∷ []) w.a) z → Begun (es ++ e ∷ []) w.p (length past + 1) w.ms
      start _ is h (begins q j v at val wants kept) =
          let v_is = counted (state_after es) (come es) w.a w.p w.ms w.t past w.row.stands in
          let g = has_graph (state_after es).config sound (nodes_are_named es here.run) in
          let r = row_there (state_after es).config sound (nodes_are_named es here.run) (alive_if (state_after es) sound here.traffic) (come es) fits g.0 g.1 linked w.a w.p w.ms w.t w.row.src.made w.row.src.there live_there kind_there w.row.src.first w.row.src.owned w.row.way w.nodes in
          record {
            before = es;
            after = [];
            serial = j;
            parts = ap (λ z. es ++ z ∷ []) (is ∙ (λ i. event.Begin (at i) j ((val ∙ ap (λ n. n + 1) v_is) i)));
            graph = g.0;
            stands = g.1;
            row = r.0;
            passes = r.1;
            of_source = ap (λ i. option_map (λ (n : Slot). n.node.kind) (slot (state_after es).config i)) w.row.src.owned ∙ ap (option_map (λ (n : Slot). n.node.kind)) w.row.src.there
                ∙ ap Some kind_there;
            same = ap (λ (x : Exchange). x.serial) (after_is w.p ∙ ap (exchange_next (state_after es) w.p) is
                ∙ ap (λ b. cond b (record { phase = phase.Asked; serial = j; value = v; within = None }) (exchange (state_after es) w.p)) (eq-eqb q w.p at));
          }
      start _ is h (ends q j v at kept) = absurd (both_ways false refl h)
      start _ is h (other z calm still kept) = absurd (both_ways (starts_at w.p z) (calm w.p) h)

      by : (b : Bool) → is_idle (exchange (state_after es) w.p).phase ≡ b → Begun (es ++ e ∷ []) w.p (length past + 1) w.ms
      by false was =
          let old = w.begun was in
          record {
            before = old.before;
            after = old.after ++ e ∷ [];
            serial = old.serial;
            parts = ap (λ xs. xs ++ e ∷ []) old.parts ∙ append_assoc old.before (event.Begin w.p old.serial (length past + 1) ∷ old.after) (e ∷ []);
            graph = old.graph;
            stands = old.stands;
            row = old.row;
            passes = old.passes;
            of_source = old.of_source;
            same = ap (λ (x : Exchange). x.serial) (after_is w.p) ∙ serial_stays (state_after es) e here.legal w.p was ∙ old.same;
          }
      by true was = ⊎_elim
          (λ (starts : starts_at w.p e ≡ true).
          let of_node = starts_alone w.p e starts in
          let now : Now (state_after es) (come es) (come (es ++ e ∷ [])) e = record { legal = here.legal; of_node = of_node; folds = folds_on handed es e here run' later of_node } in
          start e refl starts (does (state_after es) (come es) (come (es ++ e ∷ [])) (facts handed es here.run folds) e now w.a w.p w.ms w.t w.row.src w.row.way
          (subst (λ n. is_doer (state_after es) n e ≡ true) w.row.src.owned (starter (state_after es) w.p e starts))))
          (λ (none_ : starts_at w.p e ≡ false).
          let same = idle_passes (state_after es) (come es) (come es) (facts handed es here.run folds) w.p e here.legal was none_ in
          absurd (both_ways _ busy (ap (λ (s : State). is_idle (exchange s w.p).phase) here.next ∙ ap (λ (x : Exchange). is_idle x.phase) same ∙ was)))
          (cases_Bool (starts_at w.p e))

  module _ (linked : AllLinked rows_serve_rows (state_after es).config) (linked' : AllLinked rows_serve_rows (state_after (es ++ e ∷ [])).config) where
    -- a row goes on by what shapes none
    row_on : shapes_row (state_after es).config e ≡ false → (past : List ℕ) → InRow es past → RowOn es e past
    row_on none_ past w =
        let go = one_event handed es e here run' later none_ linked linked' w.a w.p w.ms w.t past w.row in
        let kept = row_kept handed es e here run' later none_ linked linked' in
        record {
          next = go.next;
          in_row = record {
            a = w.a;
            p = w.p;
            ms = w.ms;
            t = w.t;
            row = go.row;
            source = last_more Source es e ∙ last_beside (state_after es).config e none_ Source refl same_source (last_made Source es) ∙ w.source;
            sink = last_more Sink es e ∙ last_beside (state_after es).config e none_ Sink refl same_sink (last_made Sink es) ∙ w.sink;
            begun = begun_on past w linked go.next go.grows;
            nodes = λ n m there live of_row. w.nodes n m (kept.back n m there live of_row) live of_row;
          };
          grows = ⊎_elim (λ (still : go.next ≡ past). inl still) (λ (more_ : IsEndOf e w.p × (go.next ≡ past ++ passed (length past + 1) w.ms ∷ [])). inr (record { row = w; end_ = more_.0; more_ = more_.1 })) go.grows;
        }

    rest_on : touched (es ++ e ∷ []) ≡ true → (past : List ℕ) → Rest (es ++ e ∷ []) past → CourseNext es e past
    rest_on touches past rest = record {
      next = past;
      course = record { in_row = λ h. absurd (both_ways (touched (es ++ e ∷ [])) h touches); at_rest = λ h. rest };
      grows = inl refl;
    }

    in_row_on : touched (es ++ e ∷ []) ≡ false → (past : List ℕ) → RowOn es e past → CourseNext es e past
    in_row_on calm past on = record {
      next = on.next;
      course = record { in_row = λ h. on.in_row; at_rest = λ h. absurd (both_ways (touched (es ++ e ∷ [])) calm h) };
      grows = on.grows;
    }

    module _ (well : (n : ℕ) (node : Node) (from : Option ℕ) → e ≡ event.Make n node from → IsMadeWell es node from) (opens : (p : ℕ) → e ≡ event.Reopen p → RowAt es) (one_source : OneEach Source es) (one_sink : OneEach Sink es) where
      -- out of a row
      from_row : touched es ≡ false → (past : List ℕ) → InRow es past → CourseNext es e past
      from_row calm past w = ⊎_elim (λ (shapes : shapes_row (state_after es).config e ≡ true). by e refl shapes) (λ (none_ : shapes_row (state_after es).config e ≡ false). in_row_on (untouched_on es e none_ calm) past (row_on none_ past w))
          (cases_Bool (shapes_row (state_after es).config e))
        where
          ends : (n : ℕ) → row_slot (state_after es).config n ≡ true → is_settled (state_after es) n ≡ true → is_of_change e ≡ true → is_reopen e ≡ false → shapes_row (state_after es).config e ≡ true → CourseNext es e past
          ends n of_row settled change closed shapes =
              rest_on (touches es e closed shapes) past (rest_stays handed es e here run' later change closed well past (rests handed es here.run (folds_before handed es e here run' later) past w n of_row settled))

          by : (z : Event) → e ≡ z → shapes_row (state_after es).config z ≡ true → CourseNext es e past
          by (event.Make n node from) is h = absurd (both_ways (touched es) calm ((well n node from is).behind h))
          by (event.Link p n x) is h =
              ends (owner (state_after es).config p) h (subst (Legal (state_after es)) is here.legal).settled (ap is_of_change is) (ap is_reopen is) (ap (shapes_row (state_after es).config) is ∙ h)
          by (event.Unlink p) is h =
              ends (owner (state_after es).config p) h (subst (Legal (state_after es)) is here.legal).settled (ap is_of_change is) (ap is_reopen is) (ap (shapes_row (state_after es).config) is ∙ h)
          by (event.Remove n) is h = ends n h (subst (Legal (state_after es)) is here.legal).settled (ap is_of_change is) (ap is_reopen is) (ap (shapes_row (state_after es).config) is ∙ h)
          by _ is h = absurd (both_ways false refl h)

      -- out of a rest
      from_rest : touched es ≡ true → (past : List ℕ) → Rest es past → CourseNext es e past
      from_rest touches past rest = ⊎_elim (λ (change : is_of_change e ≡ true). by e refl change)
          (λ (of_node : is_of_change e ≡ false). rest_on (touched_on es e (opens_none e of_node) touches) past (rest_passes handed es e here run' later of_node linked past rest)) (cases_Bool (is_of_change e))
        where
          on : is_of_change e ≡ true → is_reopen e ≡ false → CourseNext es e past
          on change closed = rest_on (touched_on es e closed touches) past (rest_stays handed es e here run' later change closed well past rest)

          by : (z : Event) → e ≡ z → is_of_change z ≡ true → CourseNext es e past
          by (event.Reopen p) is h =
              let at = opens p is in
              in_row_on (ap (λ z. touched (es ++ z ∷ [])) is ∙ untouched_by_reopen es p) past
              (row_on (ap (shapes_row (state_after es).config) is) past (rises handed es here.run (folds_before handed es e here run' later) past at.graph at.stands at.is_row one_source one_sink rest))
          by (event.Close p) is h = on (ap is_of_change is) (ap is_reopen is)
          by (event.Make n node from) is h = on (ap is_of_change is) (ap is_reopen is)
          by (event.Link p n x) is h = on (ap is_of_change is) (ap is_reopen is)
          by (event.Unlink p) is h = on (ap is_of_change is) (ap is_reopen is)
          by (event.Remove n) is h = on (ap is_of_change is) (ap is_reopen is)
          by _ is h = absurd (both_ways false refl h)

      pub step_on : (past : List ℕ) → Course es past → CourseNext es e past
      step_on past course = ⊎_elim (λ (t : touched es ≡ true). from_rest t past (course.at_rest t)) (λ (f : touched es ≡ false). from_row f past (course.in_row f)) (cases_Bool (touched es))

-- along a whole run: at each place of it, with the step from there
pub record CourseAt (es : List Event) : Type 0 where
  pub past : List ℕ
  pub course : Course es past

module _ (handed : StatesAreHanded) (all : List Event) (run : IsRun all) (folds : HasFolds all) (opens : (before after : List Event) (p : ℕ) → all ≡ before ++ event.Reopen p ∷ after → RowAt before) (makes : MakesWell all) where
  pub course_next : (before after : List Event) (e : Event) → all ≡ before ++ e ∷ after → (past : List ℕ) → Course before past → CourseNext before e past
  course_next before after e parts past course =
      let whole = parts ∙ sym (append_assoc before (e ∷ []) after) in
      let run' = fronts_are_runs (before ++ e ∷ []) after (subst IsRun whole run) in
      step_on handed before e (place before after e (subst IsRun parts run)) run' (fronts_fold handed (before ++ e ∷ []) after (subst IsRun whole run) (subst HasFolds whole folds))
      (makes.linked before (e ∷ after) parts) (makes.linked (before ++ e ∷ []) after whole)
      (λ n node from is. makes.made before after n node from (parts ∙ ap (λ z. before ++ z ∷ after) is)) (λ p is. opens before after p (parts ∙ ap (λ z. before ++ z ∷ after) is))
      (each_is_last Source same_source all run (λ b a n node from p kind. (makes.made b a n node from p).source kind) before (e ∷ after) parts)
      (each_is_last Sink same_sink all run (λ b a n node from p kind. (makes.made b a n node from p).sink kind) before (e ∷ after) parts) past course

  course_from : (done xs after : List Event) → all ≡ done ++ (xs ++ after) → CourseAt done → CourseAt (done ++ xs)
  course_from done [] after parts at = subst CourseAt (sym (append-nil done)) at
  course_from done (e ∷ xs) after parts at =
      let on = course_next done (xs ++ after) e parts at.past at.course in
      subst CourseAt (append_assoc done (e ∷ []) xs) (course_from (done ++ e ∷ []) xs after (parts ∙ sym (append_assoc done (e ∷ []) (xs ++ after))) (record { past = on.next; course = on.course }))

  pub course_at : (before after : List Event) → all ≡ before ++ after → CourseAt before
  course_at before after parts = course_from [] before after parts (record { past = []; course = start_course })
