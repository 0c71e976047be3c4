-- The logs of a lawful report, and the slots of its nodes.
use Rattle.std.proofs.Common.{◌≡◌, ◌∙◌, ℕ, zero, suc, ◌+◌, ◌<◌, ◌≤◌, Bool, true, false, cond, List, [], ◌∷◌, ◌++◌, append_assoc, length, map, Option, Some, None, refl, sym, ap, subst, arith}
use Rattle.std.specs.Prelude.{All, IfSome, filter_map}
use Rattle.std.specs.List.{AllByRecursion, cons_option, list_any, range_with_len}
use Rattle.std.proofs.lemmas.Bool.{both_ways}
use Rattle.std.proofs.lemmas.List.{length-append}
use Rattle.std.proofs.lemmas.List.Elements.{All-cons, All-from_recursion, All-head, All-nil, All-tail, filter_map-append}
use Rattle.base.specs.Each.{EachAfter}
use Rattle.base.proofs.PlaceLaws.{heads_are, tails_are}
use Rattle.base.proofs.FindLaws.{found_has}
use Rattle.base.proofs.AllLaws.{all_follow}
use Rattle.component_trait.specs.States.{NodeState}
use Rattle.quiesce_core.specs.declared.event.Event.{Event}
use Rattle.quiesce_core.specs.declared.event.Event.TheVariants as events
use Rattle.quiesce_core.specs.Effect.{effect}
use Rattle.quiesce_core.specs.Runs.{IsRun, done_by, done_from, is_doer, state_after}
use Rattle.quiesce_core.specs.State.{State, empty}
use Rattle.quiesce_core.proofs.InductionLaws.{place}
use Rattle.quiesce_core.proofs.RunLaws.{runs_are_well_formed}
use Rattle.report_types.specs.declared.report.HistoryLine.{HistoryLine}
use Rattle.report_types.specs.declared.report.HistoryLine.TheVariants as to
use Rattle.report_types.specs.declared.report.Last.{Last}
use Rattle.report_types.specs.declared.report.Last.TheVariants as lasts
use Rattle.report_types.specs.declared.report.NodeLog.{NodeLog}
use Rattle.report_writing.specs.Reports.{SlotPath, made_by, makes}
use Rattle.change_script.specs.Written.{IsNumber}
use Rattle.report_lines.specs.ReportLines.{IsLast, IsNodeEvent}
use Rattle.report_texts.specs.Limits.{event_keeps, last_keeps}
use Rattle.report_texts.specs.ReportTexts.{IsLog}
use Rattle.report_texts.specs.declared.version.Version.TheVariants as versions
use Rattle.change_spec.specs.Endings.{is_made_from, moved_to, status_of}
use Rattle.change_spec.specs.Lawful.{EndsAs, IsFolded, IsLogIn}
use Rattle.change_spec.specs.Members as members
use Rattle.change_spec.specs.Members.{Member, is_pending, made_slot}
use Rattle.result_laws.specs.Telling.{StateFits}
use Rattle.result_laws.proofs.NumberLemmas.{HasNumbers, numbers, slot_number}

-- ---- events

-- each event of a run has small numbers
numbers_behind : (before rest : List Event) → IsRun (before ++ rest) → AllByRecursion HasNumbers rest
numbers_behind before [] run = tt
numbers_behind before (e ∷ rest) run =
    let here = place before rest e run in (
      numbers (state_after before) here.well e here.legal,
      numbers_behind (before ++ e ∷ []) rest (subst IsRun (sym (append_assoc before (e ∷ []) rest)) run),
    )

pub numbers_of_run : (es : List Event) → IsRun es → AllByRecursion HasNumbers es
numbers_of_run es run = numbers_behind [] es run

abbrev CanBeLogged : Event → Type 0
CanBeLogged e = IsNodeEvent e × (event_keeps versions.Second e ≡ true)

logged : (s : State) (n : ℕ) (e : Event) → is_doer s n e ≡ true → HasNumbers e → CanBeLogged e
logged s n (events.Begin p k v) does has = (has, refl)
logged s n (events.Call p k v) does has = (has, refl)
logged s n (events.Take p k v) does has = (has, refl)
logged s n (events.More p k v) does has = (has, refl)
logged s n (events.Ask p k v) does has = (has, refl)
logged s n (events.Hear p k v) does has = (has, refl)
logged s n (events.Give p k v) does has = (has, refl)
logged s n (events.End p k v) does has = (has, refl)
logged s n (events.Miss p) does has = (has, refl)
logged s n (events.Close p) does has = absurd (both_ways false refl does)
logged s n (events.Reopen p) does has = absurd (both_ways false refl does)
logged s n (events.Make k node from) does has = absurd (both_ways false refl does)
logged s n (events.Link p k x) does has = absurd (both_ways false refl does)
logged s n (events.Unlink p) does has = absurd (both_ways false refl does)
logged s n (events.Remove k) does has = absurd (both_ways false refl does)

all_logged : (s : State) (n : ℕ) (es : List Event) → AllByRecursion HasNumbers es → AllByRecursion CanBeLogged (done_from s n es)
all_logged s n [] all = tt
all_logged s n (e ∷ es) all = by (is_doer s n e) refl (all_logged (effect s e) n es all.1)
  where
    by : (b : Bool) → is_doer s n e ≡ b → AllByRecursion CanBeLogged (done_from (effect s e) n es)
        → AllByRecursion CanBeLogged (cond b (e ∷ done_from (effect s e) n es) (done_from (effect s e) n es))
    by true does rest = (logged s n e does all.0, rest)
    by false does rest = rest

-- what a node did in a run can stand in its log
pub log_events : (es : List Event) → IsRun es → (n : ℕ) (own : List Event) → done_by n es ≡ own → All CanBeLogged own
log_events es run n own is = subst (All CanBeLogged) is (All-from_recursion CanBeLogged (done_by n es) (all_logged empty n es (numbers_of_run es run)))

-- ---- slots

pub range_below : (a n limit : ℕ) → a + n ≤ limit → AllByRecursion (λ k. k < limit) (range_with_len a n)
range_below a zero limit few = tt
range_below a (suc n) limit few = (omega (arith, few), range_below (a + 1) n limit (omega (arith, few)))

-- the slots of a run's nodes are numbers
pub slots_are_numbers : (es : List Event) → IsRun es → AllByRecursion IsNumber (range_with_len 0 (length (state_after es).config.slots))
slots_are_numbers es run =
    let n = length (state_after es).config.slots in
    all_follow (λ k. k < n) IsNumber (λ k low. slot_number (state_after es) (runs_are_well_formed es run) k low) (range_with_len 0 n) (range_below 0 n n (omega arith))

-- ---- the ends of logs

last_can : (o : Option NodeState) (j : Option ℕ) (l : Last) → EndsAs o j l → IfSome j IsNumber → StateFits l → IsLast l
last_can None None (lasts.State xs) ends slot fits = absurd ends
last_can None None (lasts.Moved i) ends slot fits = absurd ends
last_can None (Some j) (lasts.State xs) ends slot fits = absurd ends
last_can None (Some j) (lasts.Moved i) ends slot fits = absurd ends
last_can (Some s) None (lasts.State xs) ends slot fits = fits
last_can (Some s) None (lasts.Moved i) ends slot fits = absurd ends
last_can (Some s) (Some j) (lasts.State xs) ends slot fits = absurd ends
last_can (Some s) (Some j) (lasts.Moved i) ends slot fits = subst IsNumber (sym ends) slot

last_kept : (l : Last) → last_keeps versions.Second l ≡ true
last_kept (lasts.State xs) = refl
last_kept (lasts.Moved i) = refl

module _ (m : List Member) (history : List HistoryLine) (run : IsRun (members.events m)) (slots : AllByRecursion IsNumber (filter_map made_slot history)) where
  moved_number : (n : ℕ) → IfSome (moved_to history n) IsNumber
  moved_number n = found_has IsNumber (λ j. list_any (is_made_from n j) history) (filter_map made_slot history) slots

  -- each log of a lawful report is one
  pub logs_are : (logs : List NodeLog) → All (IsLogIn m) logs → All (IsFolded m history) logs → AllByRecursion (λ (l : NodeLog). StateFits l.last) logs → All (IsLog versions.Second) logs
  logs_are [] own folds fit = All-nil (IsLog versions.Second)
  logs_are (l ∷ logs) own folds fit =
      let mine = All-head (IsLogIn m) l logs own in
      let fold = All-head (IsFolded m history) l logs folds in
      All-cons (IsLog versions.Second) l logs
      (record {
        events = log_events (members.events m) run l.slot l.events mine;
        last = last_can _ (moved_to history l.slot) l.last fold (moved_number l.slot) fit.0;
        keeps = last_kept l.last;
      })
      (logs_are logs (All-tail (IsLogIn m) l logs own) (All-tail (IsFolded m history) l logs folds) fit.1)

-- ---- the lines that make nodes

pub data MakesOrNot (l : HistoryLine) : Type 0 where
  makes_it : (made : SlotPath) → made_by l ≡ Some made → made_slot l ≡ Some made.slot → MakesOrNot l
  makes_none : made_by l ≡ None → made_slot l ≡ None → MakesOrNot l

makes_or_not : (l : HistoryLine) → MakesOrNot l
makes_or_not (to.Make slot node from) = makes_it (record { slot = slot; path = node.path }) refl refl
makes_or_not _ = makes_none refl refl

pub slots_made : (history : List HistoryLine) → map (λ (made : SlotPath). made.slot) (makes history) ≡ filter_map made_slot history
slots_made [] = refl
slots_made (l ∷ history) = by (makes_or_not l) (slots_made history)
  where
    by : MakesOrNot l → map (λ (made : SlotPath). made.slot) (makes history) ≡ filter_map made_slot history → map (λ (made : SlotPath). made.slot) (makes (l ∷ history)) ≡ filter_map made_slot (l ∷ history)
    by (makes_it made it slot) rest =
        ap (λ o. map (λ (m : SlotPath). m.slot) (cons_option o (makes history))) it ∙ ap (λ ks. made.slot ∷ ks) rest
        ∙ ap (λ o. cons_option o (filter_map made_slot history)) (sym slot)
    by (makes_none it slot) rest =
        ap (λ o. map (λ (m : SlotPath). m.slot) (cons_option o (makes history))) it ∙ rest ∙ ap (λ o. cons_option o (filter_map made_slot history)) (sym slot)

abbrev pub IsNextSlot : List HistoryLine → HistoryLine → Type 0
IsNextSlot before l = IfSome (made_by l) (λ (made : SlotPath). made.slot ≡ length (makes before))

told_makes_more : (before : List HistoryLine) (l : HistoryLine) (o : Option SlotPath) → made_by l ≡ o → makes (before ++ l ∷ []) ≡ makes before ++ cons_option o []
told_makes_more before l o is = filter_map-append made_by before (l ∷ []) ∙ ap (λ (v : Option SlotPath). makes before ++ cons_option v []) is

-- where the slots that lines make are numbered, each make is of the next slot
pub next_slots : (before rest : List HistoryLine) (k n : ℕ) → length (makes before) ≡ k → filter_map made_slot rest ≡ range_with_len k n → EachAfter IsNextSlot before rest
next_slots before [] k n long are = tt
next_slots before (l ∷ rest) k n long are = by (makes_or_not l) n are (next_slots (before ++ l ∷ []) rest)
  where
    by : MakesOrNot l → (n : ℕ) → filter_map made_slot (l ∷ rest) ≡ range_with_len k n
        → ((i j : ℕ) → length (makes (before ++ l ∷ [])) ≡ i → filter_map made_slot rest ≡ range_with_len i j → EachAfter IsNextSlot (before ++ l ∷ []) rest)
        → EachAfter IsNextSlot before (l ∷ rest)
    by (makes_none it slot) n are below = (
      subst (λ o. IfSome o (λ (made : SlotPath). made.slot ≡ length (makes before))) (sym it) tt,
      below k n (ap length (told_makes_more before l None it) ∙ length-append (makes before) [] ∙ omega (arith, long))
          (ap (λ o. cons_option o (filter_map made_slot rest)) (sym slot) ∙ are),
    )
    by (makes_it made it slot) zero are below =
        let none : made.slot ∷ filter_map made_slot rest ≡ [] = ap (λ o. cons_option o (filter_map made_slot rest)) (sym slot) ∙ are in absurd (cc none)
    by (makes_it made it slot) (suc n) are below =
        let listed : made.slot ∷ filter_map made_slot rest ≡ k ∷ range_with_len (k + 1) n = ap (λ o. cons_option o (filter_map made_slot rest)) (sym slot) ∙ are in (
          subst (λ o. IfSome o (λ (x : SlotPath). x.slot ≡ length (makes before))) (sym it)
              (heads_are made.slot k (filter_map made_slot rest) (range_with_len (k + 1) n) listed ∙ sym long),
          below (k + 1) n
              (ap length (told_makes_more before l (Some made) it) ∙ length-append (makes before) (made ∷ []) ∙ ap (λ i. i + 1) long)
              (tails_are made.slot k (filter_map made_slot rest) (range_with_len (k + 1) n) listed),
        )

pub status_small : (history : List HistoryLine) (o : Option ℕ) → status_of history o < 256
status_small history None = by (list_any is_pending history)
  where
    by : (b : Bool) → cond b 7 0 < 256
    by true = omega arith
    by false = omega arith
status_small history (Some n) = by (list_any is_pending history)
  where
    by : (b : Bool) → cond b 7 8 < 256
    by true = omega arith
    by false = omega arith
