-- The logs of a report, and the lines behind them: what is written is read, and what is read was written.
use Rattle.std.proofs.Common.{◌≡◌, ◌==◌, ◌+◌, ◌<◌, ◌%◌, ◌^◌, ℕ, Bool, true, not, inl, inr, List, [], ◌∷◌, ◌++◌, Option, Some, None, codes, decimal, bytes_eq, refl, sym, ap, subst, ◌∙◌, append_assoc, arith, All}
use Rattle.std.specs.Prelude.{flat_map, Result, Ok, Err}
use Rattle.std.specs.Option.{option_map_or}
use Rattle.std.proofs.lemmas.Bool.{and_from, and_parts, cases_Bool, cond-true, cond-false}
use Rattle.std.proofs.lemmas.Fmt.{decimal_by_steps}
use Rattle.std.proofs.lemmas.List.{append-nil}
use Rattle.std.proofs.lemmas.List.Elements.{All-cons, All-head, All-tail, All-nil}
use Rattle.std.proofs.lemmas.Option.{same_Some}
use Rattle.base.proofs.BytesLaws.{bytes_eq_self, same_bytes}
use Rattle.base.proofs.DecimalLaws.{no_feed}
use Rattle.quiesce_core.specs.declared.event.Event.{Event}
use Rattle.quiesce_core.specs.declared.event.Event.TheVariants as events
use Rattle.report_writing.specs.Reports.{SlotPath, ended, event_text, last_text, log_head, log_text, path_in}
use Rattle.report_writing.specs.Writing.{spaced, with_one, with_three, written}
use Rattle.change_script.specs.Written.{AreNumbers}
use Rattle.report_types.specs.declared.report.Last.{Last}
use Rattle.report_types.specs.declared.report.Last.TheVariants as lasts
use Rattle.report_types.specs.declared.report.NodeLog.{NodeLog}
use Rattle.report_lines.proofs.TextLaws.{lacks_append}
use Rattle.report_lines.specs.Parts.{words}
use Rattle.report_lines.specs.Readings.{event_in, last_in}
use Rattle.report_lines.specs.ReportLines.{Are64, IsLast, IsNodeEvent, lacks}
use Rattle.report_lines.proofs.ReadingLaws.{event_of as read_event, event_says, last_of as read_last, last_says}
use Rattle.report_texts.specs.declared.error.ReportFault.{ReportFault}
use Rattle.report_texts.specs.declared.version.Version.{Version}
use Rattle.report_texts.specs.Limits.{event_keeps, last_keeps}
use Rattle.report_texts.specs.ReportTexts.{IsLog, written_by}
use Rattle.report_texts.specs.Stages.{Front, Stage, after, ended_from, event_of, events_from, front, head_in, keeping, last_from, last_of, log_from, log_with, logs_from, named}
use Rattle.report_texts.specs.TextLines.{lines}
use Rattle.report_texts.proofs.LineLemmas.{AllLack, line_at}
use Rattle.report_texts.proofs.HistoryLemmas.{keep_true, none_some}

-- ---- lines have no line feed

pub lacks_parts : (at : ℕ) (text more : List ℕ) → lacks at (text ++ more) ≡ true → (lacks at text ≡ true) × (lacks at more ≡ true)
lacks_parts at [] more is = (refl, is)
lacks_parts at (byte ∷ bytes) more is =
    let parts = and_parts (not (byte == at)) (lacks at (bytes ++ more)) is in
    let rest = lacks_parts at bytes more parts.1 in
    (and_from (not (byte == at)) (lacks at bytes) parts.0 rest.0, rest.1)

pub decimal_lacks : (n : ℕ) → n < 2 ^ 64 → lacks 10 (decimal n) ≡ true
decimal_lacks =
    decimal_by_steps (λ n ds. lacks 10 ds ≡ true) (λ n h. and_from (not (48 + n == 10)) true (no_feed n) refl)
    (λ n ds h f. lacks_append 10 ds ((48 + n % 10) ∷ []) f (and_from (not (48 + n % 10 == 10)) true (no_feed (n % 10)) refl))

pub one_lacks : (verb : List ℕ) (n : ℕ) → lacks 10 verb ≡ true → n < 2 ^ 64 → lacks 10 (with_one verb n) ≡ true
one_lacks verb n is low = lacks_append 10 verb (32 ∷ (decimal n ++ [])) is (lacks_append 10 (decimal n) [] (decimal_lacks n low) refl)

three_lack : (verb : List ℕ) (a b c : ℕ) → lacks 10 verb ≡ true → AreNumbers a b c → lacks 10 (with_three verb a b c) ≡ true
three_lack verb a b c is low =
    lacks_append 10 verb (spaced (decimal a ∷ decimal b ∷ decimal c ∷ [])) is
    (lacks_append 10 (decimal a) (spaced (decimal b ∷ decimal c ∷ [])) (decimal_lacks a (omega (arith, low.0)))
    (lacks_append 10 (decimal b) (spaced (decimal c ∷ [])) (decimal_lacks b (omega (arith, low.1)))
    (lacks_append 10 (decimal c) [] (decimal_lacks c (omega (arith, low.2))) refl)))

event_lacks : (event : Event) → IsNodeEvent event → lacks 10 (written event) ≡ true
event_lacks (events.Begin p k v) is = three_lack (codes "begin") p k v refl is
event_lacks (events.Call p k v) is = three_lack (codes "call") p k v refl is
event_lacks (events.Take p k v) is = three_lack (codes "take") p k v refl is
event_lacks (events.More p k v) is = three_lack (codes "more") p k v refl is
event_lacks (events.Ask p k v) is = three_lack (codes "ask") p k v refl is
event_lacks (events.Hear p k v) is = three_lack (codes "hear") p k v refl is
event_lacks (events.Give p k v) is = three_lack (codes "give") p k v refl is
event_lacks (events.End p k v) is = three_lack (codes "end") p k v refl is
event_lacks (events.Miss p) is = one_lacks (codes "miss") p refl (omega (arith, is))
event_lacks (events.Close p) is = absurd is
event_lacks (events.Reopen p) is = absurd is
event_lacks (events.Make slot node from) is = absurd is
event_lacks (events.Link p n x) is = absurd is
event_lacks (events.Unlink p) is = absurd is
event_lacks (events.Remove n) is = absurd is

numbers_lack : (numbers : List ℕ) → Are64 numbers → lacks 10 (flat_map (λ number. codes " " ++ decimal number) numbers) ≡ true
numbers_lack [] all = refl
numbers_lack (n ∷ more) all =
    lacks_append 10 (codes " " ++ decimal n) (flat_map (λ number. codes " " ++ decimal number) more) (decimal_lacks n all.0) (numbers_lack more all.1)

-- ---- the end of a log

no_event : (ws : List (List ℕ)) (last : Last) → last_in ws ≡ Some last → event_in ws ≡ None
no_event [] last e = refl
no_event (verb ∷ rest) last e =
    elim (cases_Bool (bytes_eq verb (codes "state"))) [
      | inl state ↦ ap (λ w. event_in (w ∷ rest)) (same_bytes verb (codes "state") state)
      | inr other ↦
          let e' = sym (cond-false _ _ _ other) ∙ e in
          elim (cases_Bool (bytes_eq verb (codes "moved"))) [
            | inl moved ↦ ap (λ w. event_in (w ∷ rest)) (same_bytes verb (codes "moved") moved)
            | inr neither ↦ none_some last (sym (cond-false _ _ _ neither) ∙ e')
          ]
    ]

pub record LastLine (last : Last) : Type 0 where
  pub line : List ℕ
  pub is : last_text last ≡ ended line
  pub lack : lacks 10 line ≡ true
  pub says : last_in (words line) ≡ Some last
  pub other : event_in (words line) ≡ None

last_at : (last : Last) (line : List ℕ) → IsLast last → last_text last ≡ ended line → lacks 10 line ≡ true → LastLine last
last_at last line can is lack =
    let says = read_last line last can (sym is) in
    record { line = line; is = is; lack = lack; says = says; other = no_event (words line) last says }

last_line : (last : Last) → IsLast last → LastLine last
last_line (lasts.State numbers) can =
    let line : List ℕ = codes "state" ++ flat_map (λ number. codes " " ++ decimal number) numbers in
    last_at (lasts.State numbers) line can refl (lacks_append 10 (codes "state") (flat_map (λ number. codes " " ++ decimal number) numbers) refl (numbers_lack numbers can))
last_line (lasts.Moved slot) can = last_at (lasts.Moved slot) (with_one (codes "moved") slot) can refl (one_lacks (codes "moved") slot refl (omega (arith, can)))

-- ---- events

abbrev pub IsEvent : Version → Event → Type 0
IsEvent version event = IsNodeEvent event × (event_keeps version event ≡ true)

events_written : (version : Version) (rest line : List ℕ) (more : List (List ℕ)) → lines rest ≡ line ∷ more → event_in (words line) ≡ None → (later past : List Event) (number : ℕ) → All (IsEvent version) later
    → (n : ℕ) × (events_from version past number (lines (flat_map event_text later ++ rest)) ≡ front (past ++ later) n (lines rest))
events_written version rest line more rest_is other [] past number all = (
  number,
  ap (events_from version past number) rest_is ∙ ap (λ o. option_map_or (λ event. events_from version (past ++ event ∷ []) (number + 1) more) (keeping (event_keeps version) o) (front past number (line ∷ more))) other
      ∙ (λ i. front (sym (append-nil past) i) number (sym rest_is i)),
)
events_written version rest line more rest_is other (event ∷ later) past number all =
    let can = All-head (IsEvent version) event later all in
    let text : List ℕ = flat_map event_text later ++ rest in
    let front_is : lines (flat_map event_text (event ∷ later) ++ rest) ≡ written event ∷ lines text
    = ap lines (append_assoc (event_text event) (flat_map event_text later) rest ∙ append_assoc (written event) (codes "\n") text) ∙ (line_at (written event) text (event_lacks event can.0)).ls in
    let found : event_of version (written event) ≡ Some event = ap (keeping (event_keeps version)) (read_event event can.0) ∙ keep_true (event_keeps version) event can.1 in
    let on = events_written version rest line more rest_is other later (past ++ event ∷ []) (number + 1) (All-tail (IsEvent version) event later all) in (
      on.0,
      ap (events_from version past number) front_is
          ∙ ap (λ o. option_map_or (λ event. events_from version (past ++ event ∷ []) (number + 1) (lines text)) o (front past number (written event ∷ lines text))) found
          ∙ on.1 ∙ ap (λ es. front es on.0 (lines rest)) (append_assoc past (event ∷ []) later),
    )

-- ---- a log

regroup_log : (a b c rest : List ℕ) → ((a ++ b) ++ c) ++ rest ≡ a ++ (b ++ (c ++ rest))
regroup_log a b c rest = append_assoc (a ++ b) c rest ∙ append_assoc a b (c ++ rest)

-- a log and the node that it is of
pub record IsOf (version : Version) (all : List SlotPath) (made : SlotPath) (log : NodeLog) : Type 0 where
  pub path : path_in all log.slot ≡ made.path
  pub slot : log.slot ≡ made.slot
  pub lack : lacks 10 (log_head (written_by version) made.path made.slot) ≡ true
  pub is : IsLog version log

pub log_written : (version : Version) (all : List SlotPath) (made : SlotPath) (log : NodeLog) (rest : List ℕ) (number : ℕ) → IsOf version all made log
    → (n : ℕ) × (log_from version made number (lines (log_text (written_by version) all log ++ rest)) ≡ Ok (front log n (lines rest)))
log_written version all made log rest number of_it =
    let head : List ℕ = log_head (written_by version) made.path made.slot in
    let last = last_line log.last of_it.is.last in
    let behind : List ℕ = last_text log.last ++ rest in
    let inside : List ℕ = flat_map event_text log.events ++ behind in
    let whole : log_text (written_by version) all log ++ rest ≡ head ++ 10 ∷ inside
    = (λ i. ((ended (log_head (written_by version) (of_it.path i) (of_it.slot i)) ++ flat_map event_text log.events) ++ last_text log.last) ++ rest)
    ∙ regroup_log (ended head) (flat_map event_text log.events) (last_text log.last) rest ∙ append_assoc head (codes "\n") inside in
    let behind_is : lines behind ≡ last.line ∷ lines rest
    = ap (λ t. lines (t ++ rest)) last.is ∙ ap lines (append_assoc last.line (codes "\n") rest) ∙ (line_at last.line rest last.lack).ls in
    let read = events_written version behind last.line (lines rest) behind_is last.other log.events [] (number + 1) of_it.is.events in
    let found : last_of version last.line ≡ Some log.last = ap (keeping (last_keeps version)) last.says ∙ keep_true (last_keeps version) log.last of_it.is.keeps in
    let here : head_in version made head ≡ Some made = cond-true _ _ _ (bytes_eq_self head) in (
      read.0 + 1,
      ap (log_from version made number) (ap lines whole ∙ (line_at head inside of_it.lack).ls)
          ∙ ap (λ o. after (named o number (lines inside)) (λ (h : Front SlotPath). ended_from version made.slot (events_from version [] h.number h.left))) here
          ∙ ap (ended_from version made.slot) (read.1 ∙ ap (front log.events read.0) behind_is)
          ∙ ap (λ o. after (named o read.0 (lines rest)) (λ (l : Front Last). Ok (log_with made.slot log.events l))) found
          ∙ ap (λ s. Ok (front (record { slot = s; events = log.events; last = log.last }) (read.0 + 1) (lines rest))) (sym of_it.slot),
    )

abbrev pub AllOf : Version → List SlotPath → List SlotPath → List NodeLog → Type 0
AllOf version all [] [] = Unit {0}
AllOf version all (made ∷ others) [] = ⊥
AllOf version all [] (log ∷ logs) = ⊥
AllOf version all (made ∷ others) (log ∷ logs) = IsOf version all made log × AllOf version all others logs

pub logs_written : (version : Version) (all : List SlotPath) (rest : List ℕ) (mades : List SlotPath) (logs past : List NodeLog) (number : ℕ) → AllOf version all mades logs
    → (n : ℕ) × (logs_from version mades past number (lines (flat_map (log_text (written_by version) all) logs ++ rest)) ≡ Ok (front (past ++ logs) n (lines rest)))
logs_written version all rest [] [] past number of_them = (number, ap (λ p. Ok (front p number (lines rest))) (sym (append-nil past)))
logs_written version all rest (made ∷ others) [] past number of_them = absurd of_them
logs_written version all rest [] (log ∷ logs) past number of_them = absurd of_them
logs_written version all rest (made ∷ others) (log ∷ logs) past number of_them =
    let text : List ℕ = flat_map (log_text (written_by version) all) logs ++ rest in
    let one = log_written version all made log text number of_them.0 in
    let on = logs_written version all rest others logs (past ++ log ∷ []) one.0 of_them.1 in (
      on.0,
      ap (λ t. logs_from version (made ∷ others) past number (lines t)) (append_assoc (log_text (written_by version) all log) (flat_map (log_text (written_by version) all) logs) rest)
          ∙ ap (λ s. after s (λ (l : Front NodeLog). logs_from version others (past ++ l.read ∷ []) l.number l.left)) one.1
          ∙ on.1 ∙ ap (λ ls. Ok (front ls on.0 (lines rest))) (append_assoc past (log ∷ []) logs),
    )

-- ---- what is read was written

pub after_ok : {A B : Type 0} (s : Stage A) (next : Front A → Result B ReportFault) (r : B) → after s next ≡ Ok r → (f : Front A) × (s ≡ Ok f) × (next f ≡ Ok r)
after_ok (Err fault) next r e = let never : ⊥ = cc in absurd never
after_ok (Ok f) next r e = (f, refl, e)

abbrev right : {A : Type 0} → A → Result A ReportFault
right a = Ok a

pub ok_is : {A : Type 0} (a b : A) → right a ≡ right b → a ≡ b
ok_is a b e = cc

pub named_ok : {A : Type 0} (o : Option A) (number : ℕ) (left : List (List ℕ)) (f : Front A) → named o number left ≡ Ok f → (a : A) × (o ≡ Some a) × (f ≡ front a (number + 1) left)
named_ok None number left f e = let never : ⊥ = cc in absurd never
named_ok (Some a) number left f e = (a, refl, sym (ok_is (front a (number + 1) left) f e))

pub kept : {A : Type 0} (test : A → Bool) (o : Option A) (a : A) → keeping test o ≡ Some a → (o ≡ Some a) × (test a ≡ true)
kept test None a e = none_some a e
kept test (Some b) a e =
    elim (cases_Bool (test b)) [
      | inl holds ↦
          let is : b ≡ a = same_Some b a (sym (cond-true _ _ _ holds) ∙ e) in
          (ap Some is, subst (λ x. test x ≡ true) is holds)
      | inr fails ↦ none_some a (sym (cond-false _ _ _ fails) ∙ e)
    ]

record EventsRead (version : Version) (past all : List Event) (said left : List (List ℕ)) : Type 0 where
  more : List Event
  is : all ≡ past ++ more
  text : flat_map ended said ≡ flat_map event_text more ++ flat_map ended left
  each : All (IsEvent version) more
  lack : AllLack left

abbrev EventsGo : Version → Front (List Event) → List (List ℕ) → Type 0
EventsGo version f ls = (past : List Event) (number : ℕ) → events_from version past number ls ≡ f → EventsRead version past f.read ls f.left

events_by : (version : Version) (f : Front (List Event)) (line : List ℕ) (more : List (List ℕ)) → AllLack (line ∷ more) → EventsGo version f more → (past : List Event) (number : ℕ)
    → events_from version past number (line ∷ more) ≡ f → (o : Option Event) → event_of version line ≡ o → EventsRead version past f.read (line ∷ more) f.left
events_by version f line more lack on past number e None is =
    let here : front past number (line ∷ more) ≡ f
    = sym (ap (λ o. option_map_or (λ event. events_from version (past ++ event ∷ []) (number + 1) more) o (front past number (line ∷ more))) is) ∙ e in
    subst (λ (g : Front (List Event)). EventsRead version past g.read (line ∷ more) g.left) here
    (record { more = []; is = sym (append-nil past); text = refl; each = All-nil (IsEvent version); lack = lack })
events_by version f line more lack on past number e (Some event) is =
    let onward : events_from version (past ++ event ∷ []) (number + 1) more ≡ f
    = sym (ap (λ o. option_map_or (λ event. events_from version (past ++ event ∷ []) (number + 1) more) o (front past number (line ∷ more))) is) ∙ e in
    let rest = on (past ++ event ∷ []) (number + 1) onward in
    let found = kept (event_keeps version) (event_in (words line)) event is in
    let says = event_says line event found.0 in
    record {
      more = event ∷ rest.more;
      is = rest.is ∙ append_assoc past (event ∷ []) rest.more;
      text = (λ i. ended (says.0 i) ++ rest.text i) ∙ sym (append_assoc (event_text event) (flat_map event_text rest.more) (flat_map ended f.left));
      each = All-cons (IsEvent version) event rest.more (says.1, found.1) rest.each;
      lack = rest.lack;
    }

events_read : (version : Version) (f : Front (List Event)) (ls : List (List ℕ)) → AllLack ls → EventsGo version f ls
events_read version f [] lack past number e =
    subst (λ (g : Front (List Event)). EventsRead version past g.read [] g.left) e (record { more = []; is = sym (append-nil past); text = refl; each = All-nil (IsEvent version); lack = tt })
events_read version f (line ∷ more) lack past number e =
    events_by version f line more lack (λ p n g. events_read version f more lack.1 p n g) past number e (event_of version line) refl

-- the text of a log by its node
abbrev pub text_of : Version → SlotPath → NodeLog → List ℕ
text_of version made log = ended (log_head (written_by version) made.path made.slot) ++ flat_map event_text log.events ++ last_text log.last

record LogRead (version : Version) (made : SlotPath) (log : NodeLog) (said left : List (List ℕ)) : Type 0 where
  slot : log.slot ≡ made.slot
  text : flat_map ended said ≡ text_of version made log ++ flat_map ended left
  is : IsLog version log
  lack : AllLack left

head_read : (version : Version) (made : SlotPath) (line : List ℕ) (a : SlotPath) → head_in version made line ≡ Some a → line ≡ log_head (written_by version) made.path made.slot
head_read version made line a e =
    let head : List ℕ = log_head (written_by version) made.path made.slot in
    elim (cases_Bool (bytes_eq line head)) [
      | inl same ↦ same_bytes line head same
      | inr other ↦ none_some a (sym (cond-false _ _ _ other) ∙ e)
    ]

last_read : (version : Version) (slot : ℕ) (events : Front (List Event)) (f : Front NodeLog) → AllLack events.left → ended_from version slot events ≡ Ok f
    → (last : Last) × (f.read ≡ record { slot = slot; events = events.read; last = last }) × (flat_map ended events.left ≡ last_text last ++ flat_map ended f.left)
    × IsLast last × (last_keeps version last ≡ true) × AllLack f.left
last_read version slot events f lack e =
    let step = after_ok (last_from version events.number events.left) (λ (l : Front Last). Ok (log_with slot events.read l)) f e in
    let is : log_with slot events.read step.0 ≡ f = ok_is (log_with slot events.read step.0) f step.2 in
    by events.left lack step.0 step.1 is
  where
    by : (left : List (List ℕ)) → AllLack left → (l : Front Last) → last_from version events.number left ≡ Ok l → log_with slot events.read l ≡ f
        → (last : Last) × (f.read ≡ record { slot = slot; events = events.read; last = last }) × (flat_map ended left ≡ last_text last ++ flat_map ended f.left)
        × IsLast last × (last_keeps version last ≡ true) × AllLack f.left
    by [] lack l found is = let never : ⊥ = cc in absurd never
    by (line ∷ more) lack l found is =
        let name = named_ok (last_of version line) events.number more l found in
        let test = kept (last_keeps version) (last_in (words line)) name.0 name.1 in
        let says = last_says line name.0 test.0 in
        let f_is : log_with slot events.read (front name.0 (events.number + 1) more) ≡ f = ap (log_with slot events.read) (sym name.2) ∙ is in
        let left_is : more ≡ f.left = ap (λ (g : Front NodeLog). g.left) f_is in
        (name.0, sym (ap (λ (g : Front NodeLog). g.read) f_is), (λ i. says.0 i ++ flat_map ended (left_is i)), says.1, test.1, subst AllLack left_is lack.1)

log_read : (version : Version) (made : SlotPath) (ls : List (List ℕ)) (number : ℕ) (f : Front NodeLog) → AllLack ls → log_from version made number ls ≡ Ok f → LogRead version made f.read ls f.left
log_read version made [] number f lack e = let never : ⊥ = cc in absurd never
log_read version made (line ∷ more) number f lack e =
    let step = after_ok (named (head_in version made line) number more) (λ (h : Front SlotPath). ended_from version made.slot (events_from version [] h.number h.left)) f e in
    let name = named_ok (head_in version made line) number more step.0 step.1 in
    let onward : ended_from version made.slot (events_from version [] (number + 1) more) ≡ Ok f = ap (λ (h : Front SlotPath). ended_from version made.slot (events_from version [] h.number h.left)) (sym name.2) ∙ step.2 in
    let evs : Front (List Event) = events_from version [] (number + 1) more in
    let read = events_read version evs more lack.1 [] (number + 1) refl in
    let last = last_read version made.slot evs f read.lack onward in
    let head = head_read version made line name.0 name.1 in
    let log_is : f.read ≡ record { slot = made.slot; events = read.more; last = last.0 } = last.1 ∙ ap (λ es. record { slot = made.slot; events = es; last = last.0 }) read.is in
    let result : LogRead version made (record { slot = made.slot; events = read.more; last = last.0 }) (line ∷ more) f.left = record {
      slot = refl;
      text = (λ i. ended (head i) ++ (read.text ∙ ap (λ t. flat_map event_text read.more ++ t) last.2) i)
          ∙ sym (regroup_log (ended (log_head (written_by version) made.path made.slot)) (flat_map event_text read.more) (last_text last.0) (flat_map ended f.left));
      is = record { events = read.each; last = last.3; keeps = last.4 };
      lack = last.5;
    } in
    subst (λ log. LogRead version made log (line ∷ more) f.left) (sym log_is) result

-- logs that were read of nodes, in order
abbrev pub AllRead : Version → List SlotPath → List NodeLog → Type 0
AllRead version [] [] = Unit {0}
AllRead version (made ∷ others) [] = ⊥
AllRead version [] (log ∷ logs) = ⊥
AllRead version (made ∷ others) (log ∷ logs) = (log.slot ≡ made.slot) × IsLog version log × AllRead version others logs

abbrev pub texts_of : Version → List SlotPath → List NodeLog → List ℕ
texts_of version [] logs = []
texts_of version (made ∷ others) [] = []
texts_of version (made ∷ others) (log ∷ logs) = text_of version made log ++ texts_of version others logs

pub record LogsRead (version : Version) (mades : List SlotPath) (past all : List NodeLog) (said left : List (List ℕ)) : Type 0 where
  pub more : List NodeLog
  pub is : all ≡ past ++ more
  pub text : flat_map ended said ≡ texts_of version mades more ++ flat_map ended left
  pub each : AllRead version mades more
  pub lack : AllLack left

pub logs_read : (version : Version) (mades : List SlotPath) (past : List NodeLog) (ls : List (List ℕ)) (number : ℕ) (f : Front (List NodeLog)) → AllLack ls
    → logs_from version mades past number ls ≡ Ok f → LogsRead version mades past f.read ls f.left
logs_read version [] past ls number f lack e =
    subst (λ (g : Front (List NodeLog)). LogsRead version [] past g.read ls g.left) (ok_is (front past number ls) f e)
    (record { more = []; is = sym (append-nil past); text = refl; each = tt; lack = lack })
logs_read version (made ∷ others) past ls number f lack e =
    let step = after_ok (log_from version made number ls) (λ (l : Front NodeLog). logs_from version others (past ++ l.read ∷ []) l.number l.left) f e in
    let one = log_read version made ls number step.0 lack step.1 in
    let rest = logs_read version others (past ++ step.0.read ∷ []) step.0.left step.0.number f one.lack step.2 in
    record {
      more = step.0.read ∷ rest.more;
      is = rest.is ∙ append_assoc past (step.0.read ∷ []) rest.more;
      text = one.text ∙ ap (λ t. text_of version made step.0.read ++ t) rest.text ∙ sym (append_assoc (text_of version made step.0.read) (texts_of version others rest.more) (flat_map ended f.left));
      each = (one.slot, one.is, rest.each);
      lack = rest.lack;
    }

-- where no line is left, none is left behind
pub logs_at_end : (version : Version) (mades : List SlotPath) (past : List NodeLog) (number : ℕ) (f : Front (List NodeLog)) → logs_from version mades past number [] ≡ Ok f → f.left ≡ []
logs_at_end version [] past number f e = sym (ap (λ (g : Front (List NodeLog)). g.left) (ok_is (front past number []) f e))
logs_at_end version (made ∷ others) past number f e = let never : ⊥ = cc in absurd never
