-- Wrong numbers of runs, and logs that no node has.
use Rattle.std.proofs.Common.{◌≡◌, ◌∙◌, ℕ, ◌+◌, ◌≤◌, true, false, List, [], ◌∷◌, ◌++◌, append_assoc, drop, length, map, take, Option, Some, None, refl, sym, ap, subst, ⊎_elim, arith}
use Rattle.std.specs.Prelude.{All, codes, filter_map, slice_get}
use Rattle.std.specs.List.{count_by}
use Rattle.std.specs.Option.{option_map_or}
use Rattle.base.specs.Each.{Each}
use Rattle.base.proofs.EachLaws.{each_at}
use Rattle.base.proofs.MapLaws.{count_by-append}
use Rattle.base.proofs.PlaceLaws.{heads_are, tails_are, parted_at}
use Rattle.component_trait.specs.Moves as moves
use Rattle.component_trait.specs.States.{NodeState}
use Rattle.component_trait.specs.Tables.{opening}
use Rattle.config_graph.specs.declared.kind.Kind.TheVariants as kind
use Rattle.quiesce_core.specs.declared.event.Event.{Event}
use Rattle.quiesce_core.specs.declared.state.Slot.{Slot}
use Rattle.quiesce_core.specs.Runs.{IsRun, done_by, state_after}
use Rattle.quiesce_core.specs.State.{slot}
use Rattle.quiesce_laws.specs.Events.{ends_transaction}
use Rattle.report_types.specs.declared.report.HistoryLine.{HistoryLine}
use Rattle.report_types.specs.declared.report.HistoryLine.TheVariants as to
use Rattle.report_types.specs.declared.report.Last.TheVariants as last
use Rattle.report_types.specs.declared.report.Report.{Report}
use Rattle.change_spec.specs.Lawful.{CameToRest, EndedSince, EndsAs, IsEndedAt, IsFolded, IsRunAt, Merge, is_done}
use Rattle.change_spec.specs.Members.{Member, by_node, of_history, event_of, events}
use Rattle.change_spec.specs.Opening.{fold_of_node}
use Rattle.change_spec.specs.Serial.{Serial}
use Rattle.change_spec.proofs.MemberLaws.{at_line, events_of_nodes, events_parts}
use Rattle.change_spec.proofs.SerialLaws.{one_serial}
use Rattle.worked_report_laws.specs.RunOut.{history, report, script}
use Rattle.change_plan_laws.specs.Systems.{source_at}
use Rattle.worked_report_laws.specs.WrongRuns.{counted_twice, ended_idly, logged_twice, misleading, misled, unlogged}
use Rattle.worked_report_laws.proofs.LaterSerialLemmas.{run_out_is_serial}
use Rattle.worked_report_laws.proofs.PlaceLemmas.{passes_there}
use Rattle.worked_report_laws.proofs.WrongLineLemmas.{never_rests}
use Rattle.worked_report_laws.proofs.WrongLogLemmas.{AreFew, ends_by_sources, few_behind, some_log}
use Rattle.worked_report_laws.proofs.WrongStateLemmas.{folds_so}

-- the first run ends with nothing, though neither anything rests nor the rounds end so

abbrev pub first_source : Slot
first_source = record { node = source_at (codes "a") 2; first_port = 0; from = None; live = true }

pub never_done : (es : List Event) → slot (state_after es).config 0 ≡ Some first_source → done_by 0 es ≡ [] → is_done es 0 ≡ false
never_done es there did = ap (λ (o : Option NodeState). option_map_or moves.is_done o false) (folds_so es 0 0 first_source [] (opening kind.Source 2) there did refl)

abbrev starts : List HistoryLine
starts = take 10 history

abbrev ended_in : Option HistoryLine → ℕ
ended_in (Some (to.Run k n)) = n
ended_in _ = 0

-- the rounds end with two
pub not_idle_in_rounds : Serial script ended_idly → ⊥
not_idle_in_rounds serial =
    let ended : 0 ≡ 2 = ap (λ (r : Report). ended_in (slice_get r.history 10)) (one_serial script ended_idly report serial run_out_is_serial) in omega (arith, ended)

pub not_ended_idly : (m : List Member) → Merge m ended_idly → Each IsRunAt m → ⊥
not_ended_idly m merge runs =
    let line_ = to.Run 1 0 in
    let w = at_line m starts line_ (drop 11 ended_idly.history) merge.history in
    let said = (each_at IsRunAt w.before w.after (of_history line_) (subst (Each IsRunAt) w.parts runs)).1 in
    ⊎_elim (λ (all : 1 ≤ 0). omega (arith, all))
    (λ (rest : CameToRest w.before).
    never_rests 0 first_source never_done starts refl refl m w.before w.after line_ w.parts merge.by_nodes (merge.logs 0 some_log (omega arith)) w.lines_before rest) said

-- what ended before a line isn't counted behind it

no_line_of_nodes : (es : List Event) (z a : List Member) (l : HistoryLine) → map by_node es ≡ z ++ of_history l ∷ a → ⊥
no_line_of_nodes [] [] a l h = absurd (cc h)
no_line_of_nodes [] (x ∷ z) a l h = absurd (cc h)
no_line_of_nodes (e ∷ es) [] a l h = absurd (cc (heads_are (by_node e) (of_history l) (map by_node es) a h))
no_line_of_nodes (e ∷ es) (x ∷ z) a l h = no_line_of_nodes es z a l (tails_are (by_node e) x (map by_node es) (z ++ of_history l ∷ a) h)

-- behind a line, events of nodes alone stand behind it too
pub behind_line : (b a front : List Member) (l : HistoryLine) (later : List Event) → b ++ of_history l ∷ a ≡ front ++ map by_node later → (z : List Member) × (front ≡ b ++ of_history l ∷ z)
behind_line b a front l later h = ⊎_elim
    (λ (there : (z : List Member) × (front ≡ b ++ of_history l ∷ z)). there)
    (λ (never : (z : List Member) × (map by_node later ≡ z ++ of_history l ∷ a) × (b ≡ front ++ z)). absurd (no_line_of_nodes later never.0 a l never.1))
    (parted_at b (of_history l) a front (map by_node later) h)

pub ends_in : (before : List Member) (n : ℕ) (s : EndedSince before n) → n + count_by ends_transaction (events s.front) ≤ count_by ends_transaction (events before)
ends_in before n s =
    let all = ap (count_by ends_transaction) (ap events s.parts ∙ events_parts s.front (map by_node s.later) ∙ ap (λ xs. events s.front ++ xs) (events_of_nodes s.later))
    ∙ count_by-append ends_transaction (events s.front) s.later in
    let enough = s.enough in
    omega (arith, all, enough)

pub not_counted_twice : (m : List Member) → Merge m counted_twice → IsRun (events m) → Each IsEndedAt m → ⊥
not_counted_twice m merge run runs =
    let w = at_line m (take 11 history) (to.Run 9 4) (drop 12 history) merge.history in
    let second : EndedSince w.before 4 = each_at IsEndedAt w.before w.after (of_history (to.Run 9 4)) (subst (Each IsEndedAt) w.parts runs) in
    let v = at_line w.before starts (to.Run 1 2) [] w.lines_before in
    let whole : m ≡ v.before ++ of_history (to.Run 1 2) ∷ (v.after ++ of_history (to.Run 9 4) ∷ w.after) =
    w.parts ∙ ap (λ k. k ++ of_history (to.Run 9 4) ∷ w.after) v.parts ∙ append_assoc v.before (of_history (to.Run 1 2) ∷ v.after) (of_history (to.Run 9 4) ∷ w.after) in
    let first : EndedSince v.before 2 =
    each_at IsEndedAt v.before (v.after ++ of_history (to.Run 9 4) ∷ w.after) (of_history (to.Run 1 2)) (subst (Each IsEndedAt) whole runs) in
    let front = behind_line v.before v.after second.front (to.Run 1 2) second.later (sym v.parts ∙ second.parts) in
    let in_front = ap (count_by ends_transaction) (ap events front.1 ∙ events_parts v.before (of_history (to.Run 1 2) ∷ front.0)) ∙ count_by-append ends_transaction (events v.before) (events front.0) in
    let few : AreFew (events m) = few_behind (events m) run
    (λ before after is. passes_there ends_by_sources (filter_map event_of counted_twice.history) refl m merge.by_nodes (ap (filter_map event_of) merge.history) before after is)
    [] (events m) refl (omega arith) in
    let a : count_by ends_transaction (done_by 0 (events m)) ≡ 2 = ap (count_by ends_transaction) (merge.logs 0 some_log (omega arith)) in
    let b : count_by ends_transaction (done_by 1 (events m)) ≡ 2 = ap (count_by ends_transaction) (merge.logs 1 some_log (omega arith)) in
    let in_all = ap (count_by ends_transaction) (ap events w.parts ∙ events_parts w.before (of_history (to.Run 9 4) ∷ w.after)) ∙ count_by-append ends_transaction (events w.before) (events w.after) in
    omega (arith, few, a, b, in_all, ends_in w.before 4 second, ends_in v.before 2 first, in_front)

-- each node has one log

pub not_unlogged : (m : List Member) → Merge m unlogged → ⊥
not_unlogged m merge = let none : 0 ≡ 1 = ap length merge.one_log_a_node in omega (arith, none)

pub not_logged_twice : (m : List Member) → Merge m logged_twice → ⊥
not_logged_twice m merge = let two_ : 2 ≡ 1 = ap length merge.one_log_a_node in omega (arith, two_)

-- a state went to the node that was made from it

led_elsewhere : (o : Option NodeState) → EndsAs o (Some 4) (last.Moved 3) → ⊥
led_elsewhere (Some s) h = let same : 3 ≡ 4 = h in omega (arith, same)
led_elsewhere None h = h

pub not_misled : (m : List Member) → All (IsFolded m misleading.history) misleading.logs → ⊥
not_misled m folds =
    let h : IsFolded m misleading.history misled = folds 0 some_log (omega arith) in led_elsewhere (fold_of_node (events m) 0) h
