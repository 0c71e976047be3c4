-- What the last states of a report tell of a measure is what the nodes of its run have.
use Rattle.std.proofs.Common.{◌≡◌, ◌∙◌, ℕ, ◌+◌, Bool, true, false, cond, List, [], ◌∷◌, length, filter, Option, Some, None, refl, sym, ap, subst, arith, ⊎_elim}
use Rattle.std.proofs.lemmas.Map.Keys.{any_passes_from_place}
use Rattle.std.specs.Prelude.{◌==◌, ◌||◌, Contains, filter_map, is_some, option_map, slice_get, sum_by, unwrap_or}
use Rattle.std.specs.List.{cons_option, list_any, range_with_len}
use Rattle.std.specs.Option.{option_map_or}
use Rattle.std.proofs.lemmas.Bool.{and_parts, both_ways, cases_Bool, eq-eqb, eqb-true, false_from_ne_true, ne_eqb}
use Rattle.std.proofs.lemmas.List.Elements.{All-contains}
use Rattle.std.proofs.lemmas.List.Folds.{list_any-append}
use Rattle.base.proofs.ContainsLaws.{Contains-filter_map}
use Rattle.base.proofs.FindLaws.{find_passes, is_some-find_from}
use Rattle.base.proofs.OptionLaws.{Some-from_is_some}
use Rattle.base.proofs.SumLaws.{sum_longer, sum_each, sum_mapped}
use Rattle.config_graph.specs.declared.TheConstants.{MAX_NODES}
use Rattle.config_graph.specs.declared.kind.Kind.{Kind}
use Rattle.config_graph.specs.declared.kind.Kind.TheVariants.{Fork}
use Rattle.config_graph.specs.declared.node.Node.{Node}
use Rattle.component_trait.specs.States.{Kept, NodeState, at_rest, nothing}
use Rattle.component_trait.specs.States as node
use Rattle.component_trait.specs.Tables.{numbers}
use Rattle.quiesce_word.specs.Phases.{is_idle}
use Rattle.quiesce_word.proofs.PhaseLaws.{serving_busy}
use Rattle.quiesce_core.specs.Alters.{slot_next}
use Rattle.quiesce_core.specs.Doers.{is_make, is_of_change}
use Rattle.quiesce_core.specs.Effect.{effect}
use Rattle.quiesce_core.specs.Legal.{Legal}
use Rattle.quiesce_core.specs.Rules.{has_room}
use Rattle.quiesce_core.specs.Runs.{IsRun, state_after}
use Rattle.quiesce_core.specs.State.{Configuration, State, exchange, slot}
use Rattle.quiesce_core.specs.declared.event.Event.{Event}
use Rattle.quiesce_core.specs.declared.event.Event.TheVariants as event
use Rattle.quiesce_core.specs.declared.state.Slot.{Slot}
use Rattle.quiesce_core.proofs.AlterLaws.{reconfigured}
use Rattle.quiesce_core.proofs.InductionLaws.{IsNext, always}
use Rattle.report_types.specs.declared.report.HistoryLine.{HistoryLine}
use Rattle.report_types.specs.declared.report.HistoryLine.TheVariants as to
use Rattle.report_types.specs.declared.report.Last.{Last}
use Rattle.report_types.specs.declared.report.Last.TheVariants as last
use Rattle.report_types.specs.declared.report.NodeLog.{NodeLog}
use Rattle.report_types.specs.declared.report.Report.{Report}
use Rattle.change_spec.specs.Endings.{is_made_from, moved_to}
use Rattle.change_spec.specs.Lawful.{EndsAs, IsFolded, Lawful}
use Rattle.change_spec.specs.Members.{event_of, events, made_slot}
use Rattle.change_spec.specs.Opening.{fold_of_node}
use Rattle.change_spec.specs.Statements.{Statement}
use Rattle.change_spec.proofs.MemberLaws.{changes_are_lines, events_without_roots}
use Rattle.change_round_laws.proofs.FoldLaws.{StatesAreHanded}
use Rattle.change_round_laws.proofs.LineLaws.{changes}
use Rattle.result_laws.specs.Coming.{HasFolds, come}
use Rattle.result_laws.proofs.ComingLaws.{facts, fits_of}
use Rattle.result_laws.proofs.StoppingLaws.{NothingIsOpen, logs_fold, open_nowhere, slots_of_logs, state_told, takes_over}
use Rattle.result_laws.specs.Describing.{makes}
use Rattle.result_laws.proofs.Giving.{hands_on}
use Rattle.result_laws.proofs.Measures.{has, nothing_or, past_slot, unmade_has}
use Rattle.base.proofs.PlaceLaws.{any_there}

-- ---- lines and events

-- a test of lines that goes by their events
pub any_of_lines : (p : HistoryLine → Bool) (q : Event → Bool) → ((l : HistoryLine) → p l ≡ option_map_or q (event_of l) false) → (ls : List HistoryLine) → list_any p ls ≡ list_any q (changes ls)
any_of_lines p q same [] = refl
any_of_lines p q same (l ∷ ls) = (λ i. same l i || any_of_lines p q same ls i) ∙ by (event_of l)
  where
    by : (o : Option Event) → (option_map_or q o false || list_any q (changes ls)) ≡ list_any q (cons_option o (changes ls))
    by None = refl
    by (Some e) = refl

-- and one of events that only the change does
pub any_change : (q : Event → Bool) → ((e : Event) → is_of_change e ≡ false → q e ≡ false) → (es : List Event) → list_any q (filter is_of_change es) ≡ list_any q es
any_change q none_ [] = refl
any_change q none_ (e ∷ es) = by (is_of_change e) refl (any_change q none_ es)
  where
    by : (b : Bool) → is_of_change e ≡ b → list_any q (filter is_of_change es) ≡ list_any q es → list_any q (filter is_of_change (e ∷ es)) ≡ list_any q (e ∷ es)
    by true is later = rw is (ap (λ x. q e || x) later)
    by false is later = rw is (later ∙ ap (λ x. x || list_any q es) (sym (none_ e is)))

-- ---- which slots have nodes of some kinds

makes_at : (Kind → Bool) → ℕ → Event → Bool
makes_at test n (event.Make i made from) = cond (i == n) (test made.kind) false
makes_at test n _ = false

abbrev pub passes_at : (Kind → Bool) → Configuration → ℕ → Bool
passes_at test c n = option_map_or (λ (m : Slot). test m.node.kind) (slot c n) false

makes_line : (test : Kind → Bool) (n : ℕ) (l : HistoryLine) → makes test n l ≡ option_map_or (makes_at test n) (event_of l) false
unfolding makes_at
makes_line test n (to.Make i made from) = refl
makes_line test n (to.Link p k x) = refl
makes_line test n (to.Unlink p) = refl
makes_line test n (to.Remove k) = refl
makes_line test n (to.Close p) = refl
makes_line test n (to.Reopen p) = refl
makes_line test n _ = refl

makes_none : (test : Kind → Bool) (n : ℕ) (e : Event) → is_of_change e ≡ false → makes_at test n e ≡ false
unfolding makes_at
makes_none test n (event.Make i made from) h = absurd (both_ways true h refl)
makes_none test n _ h = refl

or_none : (b : Bool) → (b || (false || false)) ≡ b
or_none true = refl
or_none false = refl

kinds_made : (test : Kind → Bool) (es : List Event) → IsRun es → (n : ℕ) → list_any (makes_at test n) es ≡ passes_at test (state_after es).config n
unfolding makes_at
kinds_made test es run =
    always (λ xs. (n : ℕ) → list_any (makes_at test n) xs ≡ passes_at test (state_after xs).config n)
    (λ before e here so_far n. list_any-append (makes_at test n) before (e ∷ []) ∙ ap (λ b. b || (makes_at test n e || false)) (so_far n) ∙ grows before e here n ∙ sym (ap (λ (s : State). passes_at test s.config n) here.next))
    (λ n. refl) es run
  where
    grows : (before : List Event) (e : Event) → IsNext before e → (n : ℕ) → (passes_at test (state_after before).config n || (makes_at test n e || false)) ≡ passes_at test (effect (state_after before) e).config n
    grows before e here n = by e refl
      where
        slots : slot (effect (state_after before) e).config n ≡ slot_next (state_after before).config n e
        slots = (reconfigured (state_after before) e here.legal).slots n

        -- an event that makes none leaves the kinds
        calm : (z : Event) → e ≡ z → is_make z ≡ false → makes_at test n z ≡ false → (passes_at test (state_after before).config n || (makes_at test n e || false)) ≡ passes_at test (effect (state_after before) e).config n
        calm z at none_made none_ =
            ap (λ b. passes_at test (state_after before).config n || (b || false)) (ap (makes_at test n) at ∙ none_)
            ∙ or_none (passes_at test (state_after before).config n)
            ∙ sym (ap (λ o. option_map_or (λ (m : Slot). test m.node.kind) o false) (slots ∙ ap (slot_next (state_after before).config n) at) ∙ kept z none_made)
          where
            removed : (b : Bool) (o : Option Slot) → option_map_or (λ (m : Slot). test m.node.kind) (cond b (option_map (λ (k : Slot). record k { live = false }) o) o) false ≡ option_map_or (λ (m : Slot). test m.node.kind) o false
            removed true None = refl
            removed true (Some m) = refl
            removed false o = refl

            kept : (z : Event) → is_make z ≡ false → option_map_or (λ (m : Slot). test m.node.kind) (slot_next (state_after before).config n z) false ≡ passes_at test (state_after before).config n
            kept (event.Make k made from) h = absurd (both_ways true h refl)
            kept (event.Remove k) h = removed (n == k) (slot (state_after before).config n)
            kept _ h = refl

        by : (z : Event) → e ≡ z → (passes_at test (state_after before).config n || (makes_at test n e || false)) ≡ passes_at test (effect (state_after before) e).config n
        by (event.Make i made from) at = ap (λ x. passes_at test (state_after before).config n || (makes_at test n x || false)) at ∙ either (n == length (state_after before).config.slots) refl ∙ sym (ap (λ o. option_map_or (λ (m : Slot). test m.node.kind) o false) (slots ∙ ap (slot_next (state_after before).config n) at))
          where
            new_one : Slot
            new_one = record { node = made; first_port = length (state_after before).config.gates; from = from; live = true }

            is_next : i ≡ length (state_after before).config.slots
            is_next = eqb-true i (length (state_after before).config.slots) (first_of (subst (Legal (state_after before)) at here.legal).room)
              where
                first_of : has_room (state_after before).config i made ≡ true → (i == length (state_after before).config.slots) ≡ true
                first_of h = (and_parts (i == length (state_after before).config.slots) _ (and_parts _ _ h).0).0

            either : (b : Bool) → (n == length (state_after before).config.slots) ≡ b → (passes_at test (state_after before).config n || (makes_at test n (event.Make i made from) || false)) ≡ option_map_or (λ (m : Slot). test m.node.kind) (cond (n == length (state_after before).config.slots) (Some new_one) (slot (state_after before).config n)) false
            either true same =
                let here_ : n ≡ length (state_after before).config.slots = eqb-true n (length (state_after before).config.slots) same in
                let none_ : passes_at test (state_after before).config n ≡ false = ap (λ o. option_map_or (λ (m : Slot). test m.node.kind) o false) (past_slot (state_after before).config n (omega (arith, here_))) in
                (λ k. none_ k || (cond (eq-eqb i n (is_next ∙ sym here_) k) (test made.kind) false || false))
                ∙ last_false (test made.kind)
                ∙ sym (ap (λ b. option_map_or (λ (m : Slot). test m.node.kind) (cond b (Some new_one) (slot (state_after before).config n)) false) same)
              where
                last_false : (b : Bool) → (false || (b || false)) ≡ b
                last_false true = refl
                last_false false = refl
            either false other =
                let apart : (i == n) ≡ false = ne_eqb i n (λ h. both_ways (n == length (state_after before).config.slots) other (eq-eqb n (length (state_after before).config.slots) (sym h ∙ is_next))) in
                ap (λ b. passes_at test (state_after before).config n || (cond b (test made.kind) false || false)) apart
                ∙ or_none (passes_at test (state_after before).config n)
                ∙ sym (ap (λ b. option_map_or (λ (m : Slot). test m.node.kind) (cond b (Some new_one) (slot (state_after before).config n)) false) other)
        by (event.Remove k) at = calm (event.Remove k) at refl refl
        by _ at = calm _ at refl refl

-- ---- which states went on

gives_line : ℕ → HistoryLine → Bool
gives_line n (to.Make i made from) = option_map_or (λ k. k == n) from false
gives_line n _ = false

given_lines : (n : ℕ) (l : HistoryLine) → gives_line n l ≡ option_map_or (hands_on n) (event_of l) false
unfolding gives_line
given_lines n (to.Make i made from) = refl
given_lines n _ = refl

gives_none : (n : ℕ) (e : Event) → is_of_change e ≡ false → hands_on n e ≡ false
gives_none n (event.Make i made from) h = absurd (both_ways true h refl)
gives_none n _ h = refl

-- a line makes a node from that in slot n
line_gives : (n i : ℕ) (made : Node) (from : Option ℕ) → option_map_or (λ k. k == n) from false ≡ true → is_made_from n i (to.Make i made from) ≡ true
line_gives n i made from h = ap (λ b. cond b (option_map_or (λ k. k == n) from false) false) (eq-eqb i i refl) ∙ h

moved_so : (history : List HistoryLine) (n : ℕ) → is_some (moved_to history n) ≡ list_any (gives_line n) history
unfolding gives_line
moved_so history n = ⊎_elim
    (λ (h : list_any (gives_line n) history ≡ true). forth h ∙ sym h)
    (λ (h : list_any (gives_line n) history ≡ false).
    false_from_ne_true (is_some (moved_to history n)) (λ some_. let w = Some-from_is_some (moved_to history n) some_ in both_ways (list_any (gives_line n) history) h (back w.0 w.1)) ∙ sym h)
    (cases_Bool (list_any (gives_line n) history))
  where
    of_line : (l : HistoryLine) (at : ℕ) → slice_get history at ≡ Some l → gives_line n l ≡ true → is_some (moved_to history n) ≡ true
    of_line (to.Make i made from) at there h =
        is_some-find_from (λ j. list_any (is_made_from n j) history) (filter_map made_slot history) i (Contains-filter_map made_slot history at (to.Make i made from) i there refl)
        (any_passes_from_place (is_made_from n i) history at (to.Make i made from) there (line_gives n i made from h))
    of_line _ at there h = absurd (both_ways false refl h)

    forth : list_any (gives_line n) history ≡ true → is_some (moved_to history n) ≡ true
    forth h = let w = any_there (gives_line n) history h in of_line w.1 w.0 w.2 w.3

    back : (j : ℕ) → moved_to history n ≡ Some j → list_any (gives_line n) history ≡ true
    back j is =
        let any = find_passes (λ j. list_any (is_made_from n j) history) (filter_map made_slot history) j is in
        let w = any_there (is_made_from n j) history any in
        let t = takes_over n j w.1 w.3 in
        any_passes_from_place (gives_line n) history w.0 (to.Make t.0 t.1 (Some n)) (w.2 ∙ ap Some t.2) (eq-eqb n n refl)

-- ---- sums over logs

-- ---- what a last state tells of a measure

pub record Tells (test : Kind → Bool) (measure : Kind → Kept → ℕ) (told : Last → ℕ) : Type 0 where
  pub on : (k : Kind) (s : Kept) → test k ≡ true → told (last.State (numbers k s)) ≡ measure k s
  pub off : (k : Kind) (s : Kept) → test k ≡ false → measure k s ≡ 0
  pub moved : (j : ℕ) → told (last.Moved j) ≡ 0

-- ---- the run behind a report

pub log_folds : (statements : List Statement) (report : Report) (l : Lawful statements report) → HasFolds (events l.members)
log_folds statements report l = logs_fold l.members report l.by_them.merge l.by_them.runs l.by_them.folds

-- its events of the change are those of the lines
pub lines_changed : (statements : List Statement) (report : Report) (l : Lawful statements report) → filter is_of_change (events l.members) ≡ changes report.history
lines_changed statements report l = changes_are_lines l.members l.by_them.merge.by_nodes ∙ ap changes l.by_them.merge.history ∙ events_without_roots report.history

pub idle_at_end : NothingIsOpen → (statements : List Statement) (report : Report) (l : Lawful statements report) (p : ℕ) → is_idle (exchange (state_after (events l.members)) p).phase ≡ true
idle_at_end none_open statements report l = open_nowhere (events l.members) l.by_them.runs (none_open statements report l.members l.follows l.by_them.merge l.by_them.runs l.by_them.drained)

pub rests_at_end : StatesAreHanded → NothingIsOpen → (statements : List Statement) (report : Report) (l : Lawful statements report) (n : ℕ) → (come (events l.members) n).service ≡ None
rests_at_end handed none_open statements report l n = by (come (events l.members) n).service refl
  where
    by : (o : Option node.Service) → (come (events l.members) n).service ≡ o → (come (events l.members) n).service ≡ None
    by None is = is
    by (Some w) is =
        let f = facts handed (events l.members) l.by_them.runs (log_folds statements report l) in
        let v = f.served n w is in
        let it = f.traffic.serving n v.0 v.1 in
        absurd (both_ways (is_idle (exchange (state_after (events l.members)) v.0.port).phase) (serving_busy (exchange (state_after (events l.members)) v.0.port).phase it.busy) (idle_at_end none_open statements report l v.0.port))

module _ (handed : StatesAreHanded) (statements : List Statement) (report : Report) (l : Lawful statements report) where
  abbrev es : List Event
  es = events l.members

  run : IsRun es
  run = l.by_them.runs

  folds : HasFolds es
  folds = log_folds statements report l

  changed : filter is_of_change es ≡ changes report.history
  changed = lines_changed statements report l

  made_so : (test : Kind → Bool) (n : ℕ) → list_any (makes test n) report.history ≡ passes_at test (state_after es).config n
  made_so test n =
      any_of_lines (makes test n) (makes_at test n) (makes_line test n) report.history ∙ ap (list_any (makes_at test n)) (sym changed) ∙ any_change (makes_at test n) (makes_none test n) es ∙ kinds_made test es run n

  given_so : (n : ℕ) → is_some (moved_to report.history n) ≡ list_any (hands_on n) es
  given_so n =
      moved_so report.history n ∙ any_of_lines (gives_line n) (hands_on n) (given_lines n) report.history ∙ ap (list_any (hands_on n)) (sym changed) ∙ any_change (hands_on n) (gives_none n) es

  -- ---- what a log tells is what the node has

  module _ (test : Kind → Bool) (measure : Kind → Kept → ℕ) (unmade : measure Fork nothing ≡ 0) (told : Last → ℕ) (tells : Tells test measure told) where
    log_tells : NodeLog → ℕ
    log_tells x = cond (list_any (makes test x.slot) report.history) (told x.last) 0

    log_has : (x : NodeLog) → Contains report.logs x → log_tells x ≡ has measure es x.slot
    unfolding log_tells
    log_has x there = ap (λ b. cond b (told x.last) 0) (made_so test x.slot) ∙ by (slot (state_after es).config x.slot) refl
      where
        ends : EndsAs (fold_of_node es x.slot) (moved_to report.history x.slot) x.last
        ends = All-contains (IsFolded l.members report.history) report.logs x l.by_them.folds there

        by : (o : Option Slot) → slot (state_after es).config x.slot ≡ o → cond (passes_at test (state_after es).config x.slot) (told x.last) 0 ≡ has measure es x.slot
        by None is = ap (λ o. cond (option_map_or (λ (m : Slot). test m.node.kind) o false) (told x.last) 0) is ∙ sym (unmade_has measure unmade es x.slot is)
        by (Some made) is = ap (λ o. cond (option_map_or (λ (m : Slot). test m.node.kind) o false) (told x.last) 0) is ∙ by_test (test made.node.kind) refl
          where
            kind : (come es x.slot).kind ≡ made.node.kind
            kind = (fits_of handed es run folds).kinds x.slot made is

            fold : (s : NodeState) × (fold_of_node es x.slot ≡ Some s)
            fold = Some-from_is_some (fold_of_node es x.slot) (folds.all x.slot made is)

            come_is : come es x.slot ≡ fold.0
            come_is = ap (λ o. unwrap_or o (at_rest Fork 0 nothing)) fold.1

            moved_is : (o : Option NodeState) (j : ℕ) (y : Last) → EndsAs o (Some j) y → told y ≡ 0
            moved_is (Some s) j (last.Moved i) h = tells.moved i
            moved_is (Some s) j (last.State xs) h = absurd h
            moved_is None j y h = absurd h

            by_test : (b : Bool) → test made.node.kind ≡ b → cond (test made.node.kind) (told x.last) 0 ≡ has measure es x.slot
            by_test false h = ap (λ b. cond b (told x.last) 0) h ∙ sym (nothing_or (list_any (hands_on x.slot) es) _ (tells.off (come es x.slot).kind (come es x.slot).kept (ap test kind ∙ h)))
            by_test true h = ap (λ b. cond b (told x.last) 0) h ∙ by_moved (moved_to report.history x.slot) refl ends
              where
                by_moved : (o : Option ℕ) → moved_to report.history x.slot ≡ o → EndsAs (fold_of_node es x.slot) o x.last → told x.last ≡ has measure es x.slot
                by_moved None is_none_ w =
                    let says = state_told (fold_of_node es x.slot) x.last w fold.0 fold.1 in
                    let none_ : list_any (hands_on x.slot) es ≡ false = sym (given_so x.slot) ∙ ap is_some is_none_ in
                    ap told says ∙ tells.on fold.0.kind fold.0.kept (ap (λ (s : NodeState). test s.kind) (sym come_is) ∙ ap test kind ∙ h)
                    ∙ sym (ap (λ (s : NodeState). measure s.kind s.kept) come_is)
                    ∙ sym (ap (λ b. cond b 0 (measure (come es x.slot).kind (come es x.slot).kept)) none_)
                by_moved (Some j) is_some_ w =
                    let given : list_any (hands_on x.slot) es ≡ true = sym (given_so x.slot) ∙ ap is_some is_some_ in
                    moved_is (fold_of_node es x.slot) j x.last w ∙ sym (ap (λ b. cond b 0 (measure (come es x.slot).kind (come es x.slot).kept)) given)

    pub told_so : sum_by (λ (x : NodeLog). cond (list_any (makes test x.slot) report.history) (told x.last) 0) report.logs ≡ sum_by (has measure es) (range_with_len 0 (length (state_after es).config.slots + MAX_NODES))
    unfolding log_tells
    told_so =
        sum_each log_tells (λ (x : NodeLog). has measure es x.slot) report.logs log_has
        ∙ sum_mapped (λ (x : NodeLog). x.slot) (has measure es) report.logs
        ∙ ap (sum_by (has measure es)) (slots_of_logs l.members report l.by_them.merge run)
        ∙ sym (sum_longer (has measure es) 0 (length (state_after es).config.slots) MAX_NODES (λ i past. unmade_has measure unmade es i (past_slot (state_after es).config i (omega (arith, past)))))
