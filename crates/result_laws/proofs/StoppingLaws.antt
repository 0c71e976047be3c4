-- A run at its end: nothing is open, each node made has a log and a fold, and a live node's state went to no other.
use Rattle.std.proofs.Common.{◌≡◌, ◌∙◌, ℕ, Bool, true, false, cond, not, List, [], ◌∷◌, ◌++◌, length, map, filter, Option, Some, None, refl, sym, ap, subst, arith, ⊎_elim}
use Rattle.std.specs.Prelude.{◌==◌, ◌&&◌, ◌||◌, All, Contains, filter_map, is_some, slice_get}
use Rattle.std.specs.List.{list_any, range_with_len}
use Rattle.std.specs.Option.{option_map_or}
use Rattle.std.proofs.lemmas.Bool.{and_parts, both_ways, eq-eqb, eqb-true, not-true, or_cases, or_left, or_right}
use Rattle.std.proofs.lemmas.List.Elements.{All-contains}
use Rattle.std.proofs.lemmas.Option.{same_Some, slice_get_within}
use Rattle.base.proofs.ContainsLaws.{Contains-at}
use Rattle.base.proofs.FindLaws.{find_passes}
use Rattle.base.proofs.OptionLaws.{map_or_true}
use Rattle.base.proofs.PlaceLaws.{slice_get-map_some}
use Rattle.config_graph.specs.declared.node.Node.{Node}
use Rattle.component_trait.specs.Moves as moves
use Rattle.component_trait.specs.States.{NodeState}
use Rattle.quiesce_word.specs.Phases.{is_idle}
use Rattle.quiesce_core.specs.Runs.{IsRun, is_open_after, state_after}
use Rattle.quiesce_core.specs.Effect.{effect}
use Rattle.quiesce_core.specs.Rules.{is_kind, was_moved}
use Rattle.quiesce_core.specs.State.{Configuration, State, exchange, slot}
use Rattle.quiesce_core.specs.declared.event.Event.{Event}
use Rattle.quiesce_core.specs.declared.event.Event.TheVariants as event
use Rattle.quiesce_core.specs.declared.state.Slot.{Slot}
use Rattle.quiesce_core.specs.Doers.{is_of_change}
use Rattle.quiesce_core.proofs.AlterLaws.{reconfigured}
use Rattle.quiesce_core.proofs.ConfigurationLaws.{removed_stays}
use Rattle.quiesce_core.proofs.InductionLaws.{IsNext, along, none_barred, place, unbarred}
use Rattle.quiesce_laws.specs.Steps.{change_all}
use Rattle.quiesce_core.specs.State as state
use Rattle.report_types.specs.declared.report.HistoryLine.{HistoryLine}
use Rattle.report_types.specs.declared.report.HistoryLine.TheVariants as to
use Rattle.report_types.specs.declared.report.Last.{Last}
use Rattle.report_types.specs.declared.report.Last.TheVariants as last
use Rattle.report_types.specs.declared.report.NodeLog.{NodeLog}
use Rattle.report_types.specs.declared.report.Report.{Report}
use Rattle.change_spec.specs.Endings.{is_made_from, moved_to}
use Rattle.change_spec.specs.Follows.{Follows}
use Rattle.change_spec.specs.Lawful.{EndsAs, IsDrainedAt, IsFolded, Merge}
use Rattle.change_spec.specs.Members.{Member, events, is_root, lines, of_history, state_at, without_roots}
use Rattle.change_spec.specs.Opening.{fold_of_node}
use Rattle.change_spec.specs.Scene.{config_after}
use Rattle.change_spec.proofs.MemberLaws.{changes_are_lines, config_of_lines, events_parts, events_without_roots, line_there}
use Rattle.change_round_laws.proofs.AloneLaws.{changes_run}
use Rattle.change_round_laws.proofs.LineLaws.{changes, config_of}
use Rattle.change_round_laws.proofs.RoundLaws.{made_lines, slots_made}
use Rattle.quiesce_laws.proofs.OrderLaws.{open_is_seen}
use Rattle.result_laws.specs.Coming.{HasFolds}
use Rattle.result_laws.proofs.ReopenedLaws.{kept, rooted}
use Rattle.base.specs.Each.{Each}
use Rattle.change_spec.specs.Statements.{Statement}
use Rattle.base.proofs.RangeLaws.{range_at}

-- nothing is open where each drained port was seen so: a law of change_spec
abbrev pub NothingIsOpen : Type 0
NothingIsOpen = (statements : List Statement) (report : Report) (m : List Member) → Follows statements report.history → Merge m report → IsRun (events m) → Each IsDrainedAt m → (p k : ℕ) → is_open_after (events m) p k ≡ false

pub open_nowhere : (es : List Event) → IsRun es → ((p k : ℕ) → is_open_after es p k ≡ false) → (p : ℕ) → is_idle (exchange (state_after es) p).phase ≡ true
open_nowhere es run none p = by (is_idle (exchange (state_after es) p).phase) (sym (open_is_seen es p (exchange (state_after es) p).serial run) ∙ none p (exchange (state_after es) p).serial)
  where
    by : (b : Bool) → (not b && (exchange (state_after es) p).serial == (exchange (state_after es) p).serial) ≡ false → b ≡ true
    by true h = refl
    by false h = absurd (both_ways _ h (eq-eqb (exchange (state_after es) p).serial (exchange (state_after es) p).serial refl))

-- ---- each node made has a log, and a fold

pub folded : (o : Option NodeState) (j : Option ℕ) (l : Last) → EndsAs o j l → is_some o ≡ true
folded None None l h = absurd h
folded None (Some j) l h = absurd h
folded (Some s) j l h = refl

pub state_told : (o : Option NodeState) (l : Last) → EndsAs o None l → (s : NodeState) → o ≡ Some s → l ≡ last.State (moves.numbers s)
state_told None l h s is = absurd h
state_told (Some t) (last.State xs) h s is = ap last.State (sym h ∙ ap moves.numbers (same_Some t s is))
state_told (Some t) (last.Moved j) h s is = absurd h

-- a line that passes stands among those that aren't on what was open
pub any_rootless : (test : HistoryLine → Bool) → ((l : HistoryLine) → is_root l ≡ true → test l ≡ false) → (xs : List HistoryLine) → list_any test xs ≡ true → list_any test (without_roots xs) ≡ true
any_rootless test none [] h = h
any_rootless test none (l ∷ xs) h = by (is_root l) refl (any_rootless test none xs)
  where
    by : (b : Bool) → is_root l ≡ b → (list_any test xs ≡ true → list_any test (without_roots xs) ≡ true) → list_any test (without_roots (l ∷ xs)) ≡ true
    by true is later = ap (list_any test) (rooted l xs is) ∙ later (sym (ap (λ b. b || list_any test xs) (none l is)) ∙ h)
    by false is later = ap (list_any test) (kept l xs is) ∙ ⊎_elim
        (λ (here : test l ≡ true). or_left (test l) (list_any test (without_roots xs)) here)
        (λ (there : list_any test xs ≡ true). or_right (test l) (list_any test (without_roots xs)) (later there))
        (or_cases (test l) (list_any test xs) h)

-- a line by which node j takes over from node n
pub takes_over : (n j : ℕ) (l : HistoryLine) → is_made_from n j l ≡ true → (k : ℕ) × (made : Node) × (l ≡ to.Make k made (Some n))
takes_over n j (to.Make i node from) h = by (i == j) from h
  where
    by : (b : Bool) (o : Option ℕ) → cond b (option_map_or (λ k. k == n) o false) false ≡ true → (k : ℕ) × (made : Node) × (to.Make i node o ≡ to.Make k made (Some n))
    by true (Some k) e = (i, node, ap (λ x. to.Make i node (Some x)) (eqb-true k n e))
    by true None e = absurd (both_ways false refl e)
    by false o e = absurd (both_ways false refl e)
takes_over n j _ h = absurd (both_ways false refl h)

-- ---- what is gone stays gone

record IsGone (es : List Event) (n : ℕ) : Type 0 where
  old : Slot
  there : slot (state_after es).config n ≡ Some old
  removed : old.live ≡ false

gone_next : (n : ℕ) (es : List Event) (e : Event) → IsNext es e → unbarred e ≡ false → IsGone es n → IsGone (es ++ e ∷ []) n
gone_next n es e here free w = record {
  old = w.old;
  there = ap (λ (s : State). slot s.config n) here.next ∙ removed_stays (state_after es).config (effect (state_after es) e).config e (reconfigured (state_after es) e here.legal) n w.old w.there w.removed;
  removed = w.removed;
}

gone_from : (es : List Event) (i n : ℕ) (node : Node) → IsNext es (event.Make i node (Some n)) → IsGone es n
gone_from es i n node here =
    let c = (state_after es).config in
    let both = and_parts (option_map_or (λ (m : Slot). not m.live && is_kind m.node.kind node.kind) (slot c n) false) (not (was_moved c n)) here.legal.moves in
    let x = map_or_true (λ (m : Slot). not m.live && is_kind m.node.kind node.kind) (slot c n) both.0 in
    record { old = x.0; there = x.1; removed = not-true x.0.live (and_parts (not x.0.live) (is_kind x.0.node.kind node.kind) x.2).0 }

module _ (m : List Member) (report : Report) (merge : Merge m report) (run : IsRun (events m)) where
  pub slots_of_logs : map (λ (l : NodeLog). l.slot) report.logs ≡ range_with_len 0 (length (state_after (events m)).config.slots)
  slots_of_logs =
      let h = report.history in
      let all : filter is_of_change (events m) ≡ changes h = changes_are_lines m merge.by_nodes ∙ ap changes merge.history ∙ events_without_roots h in
      let run_so : IsRun (changes h) = subst IsRun all (changes_run (events m) run) in
      let same : config_after h ≡ (state_after (events m)).config =
      sym (config_of_lines m merge.by_nodes ∙ ap config_after merge.history ∙ ap (change_all state.empty.config) (events_without_roots h)) in
      merge.one_log_a_node ∙ sym (made_lines h) ∙ slots_made (changes h) run_so ∙ ap (λ (c : Configuration). range_with_len 0 (length c.slots)) (config_of h ∙ same)

  -- a node made has a log
  pub log_of : (n : ℕ) (x : Slot) → slot (state_after (events m)).config n ≡ Some x → (l : NodeLog) × Contains report.logs l × (l.slot ≡ n)
  log_of n x there =
      let c = (state_after (events m)).config in
      let at : slice_get (map (λ (l : NodeLog). l.slot) report.logs) n ≡ Some n =
      ap (λ xs. slice_get xs n) slots_of_logs ∙ range_at 0 (length c.slots) n (slice_get_within c.slots n x there) ∙ ap Some (omega arith) in
      let l = slice_get-map_some (λ (l : NodeLog). l.slot) report.logs n n at in
      (l.0, Contains-at report.logs n l.0 l.1, l.2)

  pub logs_fold : All (IsFolded m report.history) report.logs → HasFolds (events m)
  logs_fold folds = record {
    all = λ n x there.
        let l = log_of n x there in
        let has = All-contains (IsFolded m report.history) report.logs l.0 folds l.1 in
        ap (λ k. is_some (fold_of_node (events m) k)) (sym l.2) ∙ folded (fold_of_node (events m) l.0.slot) (moved_to report.history l.0.slot) l.0.last has;
  }

  -- the state of a live node went to no other
  pub live_is_unmoved : (n : ℕ) (x : Slot) → slot (state_at m).config n ≡ Some x → x.live ≡ true → moved_to report.history n ≡ None
  live_is_unmoved n x there live = by (moved_to report.history n) refl
    where
      by : (o : Option ℕ) → moved_to report.history n ≡ o → moved_to report.history n ≡ None
      by None is = is
      by (Some j) is =
          let any = find_passes (λ j. list_any (is_made_from n j) report.history) (filter_map Rattle.change_spec.specs.Members.made_slot report.history) j is in
          let w = line_there (is_made_from n j) m (ap (list_any (is_made_from n j)) merge.history ∙ any_rootless (is_made_from n j) (λ l h. rootless l h) report.history any) in
          let t = takes_over n j w.line w.passes in
          let e = event.Make t.0 t.1 (Some n) in
          let parts : events m ≡ events w.before ++ e ∷ events w.after =
          ap events (w.parts ∙ ap (λ l. w.before ++ of_history l ∷ w.after) t.2) ∙ events_parts w.before (of_history (to.Make t.0 t.1 (Some n)) ∷ w.after) in
          let here = place (events w.before) (events w.after) e (subst IsRun parts run) in
          let gone = gone_from (events w.before) t.0 n t.1 here in
          let end_ = along (λ xs. IsGone xs n) unbarred (gone_next n) (events w.before) (e ∷ events w.after) (subst IsRun parts run) (none_barred (e ∷ events w.after)) gone in
          let old : slot (state_at m).config n ≡ Some end_.old = ap (λ xs. slot (state_after xs).config n) parts ∙ end_.there in
          absurd (both_ways x.live (ap (λ (s : Slot). s.live) (same_Some x end_.old (sym there ∙ old)) ∙ end_.removed) live)
        where
          rootless : (l : HistoryLine) → is_root l ≡ true → is_made_from n j l ≡ false
          rootless (to.Root p k) h = refl
          rootless (to.Make i node from) h = absurd (both_ways false refl h)
          rootless _ h = refl
