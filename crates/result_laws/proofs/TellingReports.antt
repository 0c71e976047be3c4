-- A consistent report of statements as a script gives them is one that can be written, and read again.
use Rattle.std.proofs.Common.{◌≡◌, ◌∙◌, ℕ, ◌<◌, ◌==◌, Bool, true, false, not, cond, List, [], ◌∷◌, ◌++◌, append_assoc, length, set, Option, Some, None, refl, sym, ap, subst}
use Rattle.std.specs.Prelude.{All, IfSome, IsTrue, filter, filter_map, find}
use Rattle.std.specs.List.{AllByRecursion, cons_option, list_all, list_any, range_with_len}
use Rattle.std.specs.Option.{option_map_or}
use Rattle.std.proofs.lemmas.Bool.{and_parts, both_ways, eqb-true}
use Rattle.std.proofs.lemmas.List.Elements.{All-from_recursion}
use Rattle.base.specs.Each.{EachAfter}
use Rattle.config_graph.specs.Graph.{Graph}
use Rattle.config_graph.specs.declared.node.Node.{Node}
use Rattle.quiesce_core.specs.declared.event.Event.{Event}
use Rattle.quiesce_core.specs.declared.event.Event.TheVariants as events
use Rattle.quiesce_core.specs.declared.state.Slot.{Slot}
use Rattle.quiesce_core.specs.Doers.{is_of_change}
use Rattle.quiesce_core.specs.Effect.{change_next}
use Rattle.quiesce_core.specs.Live.{IsGraphOf}
use Rattle.quiesce_core.specs.Runs.{IsRun, state_after}
use Rattle.quiesce_core.specs.State.{Configuration, empty, exchange, slot}
use Rattle.quiesce_core.proofs.GraphExistsLaws.{graphs_are_sound}
use Rattle.quiesce_core.proofs.RunLaws.{fronts_are_runs, nodes_are_named, runs_are_well_formed}
use Rattle.quiesce_laws.specs.Steps.{change_all}
use Rattle.quiesce_word.specs.Words as words
use Rattle.quiesce_core.specs.Fields.{fields_of}
use Rattle.report_types.specs.declared.report.HistoryLine.{HistoryLine}
use Rattle.report_types.specs.declared.report.HistoryLine.TheVariants as to
use Rattle.report_types.specs.declared.report.Report.{Report}
use Rattle.change_script.specs.Written.{IsNumber}
use Rattle.report_texts.specs.Limits.{is_slot}
use Rattle.report_texts.specs.ReportTexts.{CanBeShown, CanStand, IsReport, IsWord, StandsBehind}
use Rattle.report_texts.specs.declared.version.Version.TheVariants as versions
use Rattle.change_spec.specs.Consistent.{Consistent, keeps_to_limit}
use Rattle.change_spec.specs.Lawful.{IsDrainedAt, IsGraphAt, IsOfItsKind, Merge, StoodOpenWhereSaid, is_unfinished, unfinished_of}
use Rattle.change_spec.specs.Members as members
use Rattle.change_spec.specs.Members.{Member, by_node, of_history, event_of, made_slot, state_at, without_roots}
use Rattle.change_spec.specs.Statements.{Statement, is_finish}
use Rattle.change_spec.specs.Scene.{config_after}
use Rattle.change_spec.proofs.MemberLaws.{changes_are_lines, config_of_lines, events_parts, events_without_roots, lines_parts}
use Rattle.change_round_laws.proofs.AloneLaws.{changes_run}
use Rattle.change_round_laws.proofs.LineLaws.{changes, config_of}
use Rattle.change_round_laws.proofs.RoundLaws as rounds
use Rattle.result_laws.specs.Telling.{AreStated, CountFits, NumbersFit}
use Rattle.result_laws.proofs.NumberLemmas.{serial_number}
use Rattle.result_laws.proofs.TellingLines.{HasEventNumbers, IsSaid, MakesWord, history_numbers, history_said}
use Rattle.result_laws.proofs.TellingLogs.{IsNextSlot, logs_are, next_slots, numbers_of_run, slots_are_numbers, slots_made, status_small}
use Rattle.result_laws.proofs.TellingOpens.{OpensBehind, history_opens}
use Rattle.result_laws.proofs.TellingTexts.{HasSerial, HasTold, can_stand}
use Rattle.base.proofs.ListLaws.{AllByRecursion-push, all_parts}
use Rattle.base.proofs.FindLaws.{found_has}
use Rattle.base.proofs.AllLaws.{all_split, all_at, all_put, all_contained}

-- ---- the paths of the nodes of a configuration

abbrev SlotHasWord : Slot → Type 0
SlotHasWord m = IsWord m.node.path

words_next : (c : Configuration) (e : Event) → MakesWord e → AllByRecursion SlotHasWord c.slots → AllByRecursion SlotHasWord (change_next c e).slots
words_next c (events.Make n node from) word all = AllByRecursion-push SlotHasWord c.slots (record { node = node; first_port = length c.gates; from = from; live = true }) all word
words_next c (events.Remove n) word all = by (slot c n) refl
  where
    by : (o : Option Slot) → slot c n ≡ o → AllByRecursion SlotHasWord (option_map_or (λ (m : Slot). set c.slots n (record m { live = false })) o c.slots)
    by None is = all
    by (Some m) is = all_put SlotHasWord c.slots n (record m { live = false }) all (all_at SlotHasWord c.slots n m all is)
words_next c _ word all = all

words_all : (c : Configuration) (es : List Event) → AllByRecursion MakesWord es → AllByRecursion SlotHasWord c.slots → AllByRecursion SlotHasWord (change_all c es).slots
words_all c [] make all = all
words_all c (e ∷ es) make all = words_all (change_next c e) es make.1 (words_next c e make.0 all)

word_of_line : (l : HistoryLine) → IsSaid l → IfSome (event_of l) MakesWord
word_of_line (to.Make n node from) said = said
word_of_line _ said = tt

made_words : (lines : List HistoryLine) → AllByRecursion IsSaid lines → AllByRecursion MakesWord (filter_map event_of lines)
made_words [] all = tt
made_words (l ∷ lines) all = by (event_of l) (word_of_line l all.0) (made_words lines all.1)
  where
    by : (o : Option Event) → IfSome o MakesWord → AllByRecursion MakesWord (filter_map event_of lines) → AllByRecursion MakesWord (cons_option o (filter_map event_of lines))
    by None h rest = rest
    by (Some e) h rest = (h, rest)

-- the graph at a place can be shown
can_be_shown : (before : List Member) (g : Graph) → IsRun (members.events before) → All IsOfItsKind before → AllByRecursion IsSaid (members.lines before) → IsGraphOf (state_at before).config g → CanBeShown g
can_be_shown before g run kinds said is =
    let es = members.events before in
    let c = (state_after es).config in
    let all : AllByRecursion SlotHasWord c.slots
    = subst (λ (d : Configuration). AllByRecursion SlotHasWord d.slots) (sym (config_of_lines before kinds)) (words_all empty.config (filter_map event_of (members.lines before)) (made_words (members.lines before) said) tt) in
    record {
      sound = graphs_are_sound c g (runs_are_well_formed es run).sound (nodes_are_named es run) is;
      paths = All-from_recursion (λ (n : Node). IsWord n.path) g.nodes
          (all_contained (λ (n : Node). IsWord n.path) g.nodes
          (λ n there. let live = (is.nodes_are n).0 there in subst (λ (m : Node). IsWord m.path) live.1.is_node (all_at SlotHasWord c.slots live.0 live.1.made all live.1.there)));
    }

-- ---- what is told in lines

module _ (statements : List Statement) (m : List Member) (run : IsRun (members.events m)) (kinds : All IsOfItsKind m) (said : AllByRecursion IsSaid (members.lines m)) where
  front_run : (front rest : List Member) → m ≡ front ++ rest → IsRun (members.events front)
  front_run front rest is = fronts_are_runs (members.events front) (members.events rest) (subst IsRun (ap members.events is ∙ events_parts front rest) run)

  told_at : (l : HistoryLine) (before rest : List Member) → m ≡ before ++ rest → IsDrainedAt before (of_history l) → IsGraphAt statements before (of_history l) → HasTold l
  told_at (to.Drained p k) before rest is drained graph =
      subst IsNumber drained.1 (serial_number (state_at before) (runs_are_well_formed (members.events before) (front_run before rest is)) p)
  told_at (to.Show g) before rest is drained graph =
      can_be_shown before g (front_run before rest is) (all_parts IsOfItsKind before rest (subst (All IsOfItsKind) is kinds)).0
      (all_split IsSaid (members.lines before) (members.lines rest) (subst (AllByRecursion IsSaid) (ap members.lines is ∙ lines_parts before rest) said)).0 graph
  told_at _ before rest is drained graph = tt

  told_lines : (before rest : List Member) → m ≡ before ++ rest → EachAfter IsDrainedAt before rest → EachAfter (IsGraphAt statements) before rest → AllByRecursion HasTold (members.lines rest)
  told_lines before [] is drained graphs = tt
  told_lines before (by_node e ∷ rest) is drained graphs = told_lines (before ++ by_node e ∷ []) rest (is ∙ sym (append_assoc before (by_node e ∷ []) rest)) drained.1 graphs.1
  told_lines before (of_history l ∷ rest) is drained graphs = (
    told_at l before (of_history l ∷ rest) is drained.0 graphs.0,
    told_lines (before ++ of_history l ∷ []) rest (is ∙ sym (append_assoc before (of_history l ∷ []) rest)) drained.1 graphs.1,
  )

  serial_at : (l : HistoryLine) (before : List HistoryLine) → StoodOpenWhereSaid m before l → HasSerial l
  serial_at (to.Root p k) before stood =
      let both = and_parts (words.has_root (fields_of (state_at stood.front) p)) ((exchange (state_at stood.front) p).serial == k) stood.open_there in
      subst IsNumber (eqb-true (exchange (state_at stood.front) p).serial k both.1)
      (serial_number (state_at stood.front) (runs_are_well_formed (members.events stood.front) (front_run stood.front stood.rest stood.parts)) p)
  serial_at _ before stood = tt

  serials : (before rest : List HistoryLine) → EachAfter (StoodOpenWhereSaid m) before rest → AllByRecursion HasSerial rest
  serials before [] stood = tt
  serials before (l ∷ rest) stood = (serial_at l before stood.0, serials (before ++ l ∷ []) rest stood.1)

-- what all lines but those on roots have, these have too
with_roots : (P : HistoryLine → Type 0) → ((p k : ℕ) → P (to.Root p k)) → (history : List HistoryLine) → AllByRecursion P (without_roots history) → AllByRecursion P history
with_roots P root [] all = tt
with_roots P root (l ∷ history) all = by (members.is_root l) refl all (with_roots P root history)
  where
    is_one : (l : HistoryLine) → members.is_root l ≡ true → P l
    is_one (to.Root p k) is = root p k
    is_one _ is = absurd (both_ways false refl is)

    by : (b : Bool) → members.is_root l ≡ b → AllByRecursion P (cond (not b) (l ∷ without_roots history) (without_roots history)) → (AllByRecursion P (without_roots history) → AllByRecursion P history)
        → P l × AllByRecursion P history
    by true is all rest = (is_one l is, rest all)
    by false is all rest = (all.0, rest all.1)

without : (P : HistoryLine → Type 0) (history : List HistoryLine) → AllByRecursion P history → AllByRecursion P (without_roots history)
without P [] all = tt
without P (l ∷ history) all = by (members.is_root l) (without P history all.1)
  where
    by : (b : Bool) → AllByRecursion P (without_roots history) → AllByRecursion P (cond (not b) (l ∷ without_roots history) (without_roots history))
    by true rest = rest
    by false rest = (all.0, rest)

-- ---- all of it

can_all_stand : (history : List HistoryLine) → AllByRecursion IsSaid history → AllByRecursion HasEventNumbers history → AllByRecursion HasTold history → AllByRecursion HasSerial history
    → AllByRecursion CountFits history → IsTrue (list_all keeps_to_limit history) → AllByRecursion (CanStand versions.Second) history
can_all_stand [] said has told serials fit few = tt
can_all_stand (l ∷ history) said has told serials fit few =
    let both = and_parts (keeps_to_limit l) (list_all keeps_to_limit history) few in
    (can_stand l said.0 has.0 told.0 serials.0 fit.0 both.0, can_all_stand history said.1 has.1 told.1 serials.1 fit.1 both.1)

each_stands : (before rest : List HistoryLine) → EachAfter IsNextSlot before rest → EachAfter OpensBehind before rest → AllByRecursion (CanStand versions.Second) rest → EachAfter (StandsBehind versions.Second) before rest
each_stands before [] slots opens can = tt
each_stands before (l ∷ rest) slots opens can = (record { can = can.0; slot = slots.0; opens = opens.0 }, each_stands (before ++ l ∷ []) rest slots.1 opens.1 can.1)

unfinished_number : (statements : List Statement) (es : List Event) → IsRun es → IfSome (unfinished_of statements es) (λ slot. IsNumber slot × (is_slot versions.Second slot ≡ true))
unfinished_number statements es run = by (list_any is_finish statements)
  where
    found : (o : Option ℕ) → IfSome o IsNumber → IfSome o (λ slot. IsNumber slot × (is_slot versions.Second slot ≡ true))
    found None h = tt
    found (Some n) h = (h, refl)

    slots : List ℕ
    slots = range_with_len 0 (length (state_after es).config.slots)

    by : (b : Bool) → IfSome (cond b (find (is_unfinished es) (range_with_len 0 (length (state_after es).config.slots))) None) (λ slot. IsNumber slot × (is_slot versions.Second slot ≡ true))
    by true = found (find (is_unfinished es) (range_with_len 0 (length (state_after es).config.slots))) (found_has IsNumber (is_unfinished es) (range_with_len 0 (length (state_after es).config.slots)) (slots_are_numbers es run))
    by false = tt

-- the slots of the nodes that the history makes
slots_of_makes : (m : List Member) (report : Report) → Merge m report → IsRun (members.events m) → filter_map made_slot report.history ≡ range_with_len 0 (length (state_after (members.events m)).config.slots)
slots_of_makes m report merge run =
    let h = report.history in
    let all : filter is_of_change (members.events m) ≡ changes h = changes_are_lines m merge.by_nodes ∙ ap changes merge.history ∙ events_without_roots h in
    let run_so : IsRun (changes h) = subst IsRun all (changes_run (members.events m) run) in
    let same : (state_after (changes h)).config ≡ (state_after (members.events m)).config
    = config_of h ∙ sym (ap (change_all empty.config) (events_without_roots h)) ∙ sym (ap config_after merge.history) ∙ sym (config_of_lines m merge.by_nodes) in
    sym (rounds.made_lines h) ∙ rounds.slots_made (changes h) run_so ∙ ap (λ (c : Configuration). range_with_len 0 (length c.slots)) same

pub tells_itself : (statements : List Statement) (report : Report) → AreStated statements → Consistent statements report → NumbersFit report → IsReport versions.Second report
tells_itself statements report stated consistent fit =
    let m = consistent.lawful.members in
    let l = consistent.lawful.by_them in
    let es = members.events m in
    let history = report.history in
    let has = history_numbers m history (ap (filter_map event_of) l.merge.history ∙ events_without_roots history) (numbers_of_run es l.runs) in
    let said = history_said statements history stated consistent.lawful.follows has in
    let told_said = subst (AllByRecursion IsSaid) (sym l.merge.history) (without IsSaid history said) in
    let told = with_roots HasTold (λ p k. tt) history
    (subst (AllByRecursion HasTold) l.merge.history (told_lines statements m l.runs l.merge.by_nodes told_said [] m refl l.drained l.graphs)) in
    let serial = serials statements m l.runs l.merge.by_nodes told_said [] history l.stood_open in
    let numbered = slots_of_makes m report l.merge l.runs in
    record {
      history = each_stands [] history (next_slots [] history 0 (length (state_after es).config.slots) refl numbered) (history_opens statements history consistent.lawful.follows)
          (can_all_stand history said has told serial fit.counts consistent.few_rounds);
      logs = l.merge.one_log_a_node ∙ sym (slots_made history);
      each_log = logs_are m history l.runs (subst (AllByRecursion IsNumber) (sym numbered) (slots_are_numbers es l.runs)) report.logs l.merge.logs l.folds fit.states;
      unfinished = subst (λ o. IfSome o (λ slot. IsNumber slot × (is_slot versions.Second slot ≡ true))) (sym l.unfinished) (unfinished_number statements es l.runs);
      status = subst (λ n. n < 256) (sym l.status) (status_small history report.unfinished);
    }
