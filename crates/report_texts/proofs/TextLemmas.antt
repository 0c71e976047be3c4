-- Whole texts: the text of a report is read as this report, and what is read of a text is a report whose text it is.
use Rattle.std.proofs.Common.{◌≡◌, ◌==◌, ◌+◌, ◌≤◌, ℕ, true, false, inl, inr, List, [], ◌∷◌, ◌++◌, Option, Some, None, IfSome, codes, decimal, bytes_eq, refl, sym, ap, subst, ◌∙◌, append_assoc, arith}
use Rattle.std.specs.Prelude.{flat_map, Ok, Err, slice_get}
use Rattle.std.specs.Option.{option_map_or}
use Rattle.std.proofs.lemmas.Bool.{cases_Bool, cond-true, cond-false, false≢true}
use Rattle.std.proofs.lemmas.Fmt.{decimal_digit}
use Rattle.std.proofs.lemmas.List.{append-nil}
use Rattle.std.proofs.lemmas.Option.{same_Some}
use Rattle.base.proofs.BytesLaws.{bytes_eq_self, same_bytes}
use Rattle.base.proofs.PlaceLaws.{heads_are}
use Rattle.report_writing.specs.Reports as reports
use Rattle.report_writing.specs.Reports.{LogsAreMade, SlotPath, ended, history_text, log_head, log_text, makes, text_by, unfinished_text, version_number}
use Rattle.report_writing.specs.Writing.{spaced, with_one}
use Rattle.change_script.specs.Written.{IsNumber}
use Rattle.report_types.specs.declared.report.HistoryLine.{HistoryLine}
use Rattle.report_types.specs.declared.report.NodeLog.{NodeLog}
use Rattle.report_types.specs.declared.report.Report.{Report}
use Rattle.report_lines.specs.Ends.{status_in, unfinished_in}
use Rattle.report_lines.specs.GraphLines.{is_graph_line}
use Rattle.report_lines.specs.Numbers.{max32}
use Rattle.report_lines.specs.Parts.{words}
use Rattle.report_lines.specs.Readings.{line_in}
use Rattle.report_lines.specs.ReportLines.{lacks}
use Rattle.report_lines.proofs.EndLaws.{head_with_path_words, head_words, status_of, status_says, status_words, unfinished_of as read_unfinished, unfinished_says, unfinished_words}
use Rattle.report_texts.specs.declared.history.LineAbove.TheVariants as aboves
use Rattle.report_texts.specs.declared.version.Version.{Version}
use Rattle.report_texts.specs.declared.version.Version.TheVariants as versions
use Rattle.report_texts.specs.Limits.{is_slot}
use Rattle.report_texts.specs.ReportTexts.{CanBeShown, IsReport, IsReportText, StandsBehind, written_by}
use Rattle.base.specs.Each.{EachAfter}
use Rattle.config_graph.specs.Graph.{Graph}
use Rattle.report_texts.specs.Stages.{Found, Front, after, after_history, after_logs, after_unfinished, after_version, front, history_from, is_over, keeping, logs_from, named, over, reading, status_from, unfinished_from, unfinished_of, version_from, version_in}
use Rattle.report_texts.specs.TextLines.{lines, onto_line, onto_tail, tail}
use Rattle.report_texts.proofs.LineLemmas.{AllLack, line_at, lines_lack, whole}
use Rattle.report_texts.proofs.HistoryLemmas.{IsTold, Reads, Stops, history_read, history_written, keep_true, none_some}
use Rattle.report_texts.proofs.LogLemmas.{AllOf, AllRead, after_ok, kept, logs_at_end, logs_read, logs_written, named_ok, ok_is, one_lacks, texts_of}
use Rattle.report_texts.proofs.SlotLemmas.{AllHead, CanHead, FoundBy, all_head, all_of, are_logs, found_by, logs_made, same_slots, same_texts, slots_in_order}

-- ---- a text that ends with a line feed

record FeedEnds (text : List ℕ) : Type 0 where
  line : List ℕ
  more : List (List ℕ)
  is : lines text ≡ line ∷ more
  ends : tail text ≡ []

feed_ends : (text : List ℕ) → FeedEnds (text ++ 10 ∷ [])
feed_ends [] = record { line = []; more = []; is = refl; ends = refl }
feed_ends (b ∷ bs) =
    let rest = feed_ends bs in
    elim (cases_Bool (b == 10)) [
      | inl feed ↦ record { line = []; more = lines (bs ++ 10 ∷ []); is = cond-true _ _ _ feed; ends = cond-true _ _ _ feed ∙ rest.ends }
      | inr other ↦
          record {
            line = b ∷ rest.line;
            more = rest.more;
            is = cond-false _ _ _ other ∙ ap (onto_line b) rest.is;
            ends = cond-false _ _ _ other ∙ ap (λ ls. onto_tail b ls (tail (bs ++ 10 ∷ []))) rest.is ∙ rest.ends;
          }
    ]

pub ends_whole : (text line : List ℕ) → tail (text ++ ended line) ≡ []
ends_whole text line = ap tail (sym (append_assoc text line (codes "\n"))) ∙ (feed_ends (text ++ line)).ends

-- ---- lines that end a history

show_not : (line first : List ℕ) (rest : List (List ℕ)) → words line ≡ first ∷ rest → bytes_eq first (codes "show") ≡ false → bytes_eq line (codes "show") ≡ false
show_not line first rest is other =
    elim (cases_Bool (bytes_eq line (codes "show"))) [
      | inl same ↦
          let ws : first ∷ rest ≡ codes "show" ∷ [] = sym is ∙ ap words (same_bytes line (codes "show") same) in
          let name : first ≡ codes "show" = heads_are first (codes "show") rest [] ws in
          absurd (false≢true (sym other ∙ ap (λ w. bytes_eq w (codes "show")) name ∙ bytes_eq_self (codes "show")))
      | inr differs ↦ differs
    ]

-- a text whose first line ends a history
record Begins (text : List ℕ) : Type 0 where
  line : List ℕ
  more : List (List ℕ)
  is : lines text ≡ line ∷ more
  stops : Stops line

begins_with : (line rest : List ℕ) → lacks 10 line ≡ true → Stops line → Begins (ended line ++ rest)
begins_with line rest lack stops = record { line = line; more = lines rest; is = ap lines (append_assoc line (codes "\n") rest) ∙ (line_at line rest lack).ls; stops = stops }

status_stops : (n : ℕ) → n ≤ 255 → Stops (with_one (codes "status") n)
status_stops n low =
    let ws = status_words n low in
    record { graph = ap is_graph_line ws; show = show_not (with_one (codes "status") n) (codes "status") (decimal n ∷ []) ws refl; says = ap line_in ws }

unfinished_stops : (n : ℕ) → n ≤ max32 → Stops (with_one (codes "unfinished") n)
unfinished_stops n low =
    let ws = unfinished_words n low in
    record { graph = ap is_graph_line ws; show = show_not (with_one (codes "unfinished") n) (codes "unfinished") (decimal n ∷ []) ws refl; says = ap line_in ws }

head_stops : (version : Version) (made : SlotPath) → CanHead version made → Stops (log_head (written_by version) made.path made.slot)
head_stops versions.First made can =
    let ws = head_words made.slot can.low in
    record { graph = ap is_graph_line ws; show = show_not (with_one (codes "log") made.slot) (codes "log") (decimal made.slot ∷ []) ws refl; says = ap line_in ws }
head_stops versions.Second made can =
    let ws = head_with_path_words made.slot made.path can.low can.word in
    record {
      graph = ap is_graph_line ws;
      show = show_not (codes "log" ++ spaced (decimal made.slot ∷ made.path ∷ [])) (codes "log") (decimal made.slot ∷ made.path ∷ []) ws refl;
      says = ap line_in ws;
    }

status_line_lacks : (n : ℕ) → n ≤ 255 → lacks 10 (with_one (codes "status") n) ≡ true
status_line_lacks n low = one_lacks (codes "status") n refl (omega (arith, low))

unfinished_line_lacks : (n : ℕ) → n ≤ max32 → lacks 10 (with_one (codes "unfinished") n) ≡ true
unfinished_line_lacks n low = one_lacks (codes "unfinished") n refl (omega (arith, low))

-- ---- the lines behind the logs

abbrev CanEnd : Version → Option ℕ → Type 0
CanEnd version unfinished = IfSome unfinished (λ slot. IsNumber slot × (is_slot version slot ≡ true))

begins_ends : (version : Version) (unfinished : Option ℕ) (status : ℕ) → CanEnd version unfinished → status ≤ 255 → Begins (unfinished_text unfinished ++ ended (with_one (codes "status") status))
begins_ends version None status can low =
    let b = begins_with (with_one (codes "status") status) [] (status_line_lacks status low) (status_stops status low) in
    subst Begins (append-nil (ended (with_one (codes "status") status))) b
begins_ends version (Some slot) status can low =
    begins_with (with_one (codes "unfinished") slot) (ended (with_one (codes "status") status)) (unfinished_line_lacks slot (omega (arith, can.0))) (unfinished_stops slot (omega (arith, can.0)))

status_front : (n : ℕ) → n ≤ 255 → lines (ended (with_one (codes "status") n)) ≡ with_one (codes "status") n ∷ []
status_front n low = (line_at (with_one (codes "status") n) [] (status_line_lacks n low)).ls

unfinished_written : (version : Version) (unfinished : Option ℕ) (status number : ℕ) → CanEnd version unfinished → status ≤ 255
    → (n : ℕ) × (unfinished_from version number (lines (unfinished_text unfinished ++ ended (with_one (codes "status") status))) ≡ front unfinished n (lines (ended (with_one (codes "status") status))))
unfinished_written version None status number can low =
    let line : List ℕ = with_one (codes "status") status in
    let none : unfinished_of version line ≡ None = ap (λ ws. keeping (is_slot version) (unfinished_in ws)) (status_words status low) in (
      number,
      ap (unfinished_from version number) (status_front status low)
          ∙ ap (λ o. option_map_or (λ slot. front (Some slot) (number + 1) []) o (front None number (line ∷ []))) none
          ∙ ap (front None number) (sym (status_front status low)),
    )
unfinished_written version (Some slot) status number can low =
    let line : List ℕ = with_one (codes "unfinished") slot in
    let rest : List ℕ = ended (with_one (codes "status") status) in
    let small : slot ≤ max32 = omega (arith, can.0) in
    let found : unfinished_of version line ≡ Some slot = ap (keeping (is_slot version)) (read_unfinished slot small) ∙ keep_true (is_slot version) slot can.1 in (
      number + 1,
      ap (unfinished_from version number) (ap lines (append_assoc line (codes "\n") rest) ∙ (line_at line rest (unfinished_line_lacks slot small)).ls)
          ∙ ap (λ o. option_map_or (λ slot. front (Some slot) (number + 1) (lines rest)) o (front None number (line ∷ lines rest))) found,
    )

status_written : (n number : ℕ) → n ≤ 255 → status_from number (lines (ended (with_one (codes "status") n))) ≡ Ok (front n (number + 1) [])
status_written n number low =
    ap (status_from number) (status_front n low) ∙ ap (λ o. named o number []) (status_of n low)

-- ---- the text of a report is read

regroup_text : (a b c d e : List ℕ) → (((a ++ b) ++ c) ++ d) ++ e ≡ a ++ (b ++ (c ++ (d ++ e)))
regroup_text a b c d e =
    append_assoc ((a ++ b) ++ c) d e ∙ append_assoc (a ++ b) c (d ++ e) ∙ append_assoc a b (c ++ (d ++ e))

first_text : with_one (codes "report") 1 ≡ codes "report 1"
first_text = ap (λ ds. codes "report" ++ (32 ∷ (ds ++ []))) (decimal_digit 1 (omega arith))

second_text : with_one (codes "report") 2 ≡ codes "report 2"
second_text = ap (λ ds. codes "report" ++ (32 ∷ (ds ++ []))) (decimal_digit 2 (omega arith))

first_is : (version : Version) → (lacks 10 (with_one (codes "report") (version_number (written_by version))) ≡ true) × (version_in (with_one (codes "report") (version_number (written_by version))) ≡ Some version)
first_is versions.First = (ap (lacks 10) first_text, ap version_in first_text)
first_is versions.Second = (ap (lacks 10) second_text, ap version_in second_text)

begins_logs : (version : Version) (all mades : List SlotPath) (logs : List NodeLog) (rest : List ℕ) → AllOf version all mades logs → AllHead version mades → Begins rest
    → Begins (flat_map (log_text (written_by version) all) logs ++ rest)
begins_logs version all [] [] rest of_them heads begins = begins
begins_logs version all (made ∷ others) [] rest of_them heads begins = absurd of_them
begins_logs version all [] (log ∷ logs) rest of_them heads begins = absurd of_them
begins_logs version all (made ∷ others) (log ∷ logs) rest of_them heads begins =
    let head : List ℕ = log_head (written_by version) made.path made.slot in
    let later : List ℕ = flat_map (log_text (written_by version) all) logs ++ rest in
    let of_it = of_them.0 in
    let one = begins_with head (flat_map reports.event_text log.events ++ (reports.last_text log.last ++ later)) of_it.lack (head_stops version made heads.0) in
    let same : flat_map (log_text (written_by version) all) (log ∷ logs) ++ rest ≡ ended head ++ (flat_map reports.event_text log.events ++ (reports.last_text log.last ++ later))
    = append_assoc (log_text (written_by version) all log) (flat_map (log_text (written_by version) all) logs) rest
    ∙ (λ i. ((ended (log_head (written_by version) (of_it.path i) (of_it.slot i)) ++ flat_map reports.event_text log.events) ++ reports.last_text log.last) ++ later)
    ∙ append_assoc (ended head ++ flat_map reports.event_text log.events) (reports.last_text log.last) later
    ∙ append_assoc (ended head) (flat_map reports.event_text log.events) (reports.last_text log.last ++ later) in
    subst Begins (sym same) one

-- the nodes of a report are found by their slots
pub found_in : (version : Version) (report : Report) → IsReport version report → (k : ℕ) (m : SlotPath) → slice_get (makes report.history) k ≡ Some m → FoundBy (makes report.history) m
found_in version report is k m at = (found_by 0 (makes report.history) k m (slots_in_order version [] report.history is.history refl) at).0

module _ (tells : (graph : Graph) → CanBeShown graph → IsTold graph) (version : Version) (report : Report) (is : IsReport version report) where
  abbrev by_version : reports.Version
  by_version = written_by version

  abbrev made : List SlotPath
  made = makes report.history

  abbrev status_text : List ℕ
  status_text = ended (with_one (codes "status") report.status)

  abbrev ends_text : List ℕ
  ends_text = unfinished_text report.unfinished ++ status_text

  abbrev logs_text : List ℕ
  logs_text = flat_map (log_text by_version made) report.logs ++ ends_text

  abbrev later_text : List ℕ
  later_text = flat_map history_text report.history ++ logs_text

  low : report.status ≤ 255
  low = omega (arith, is.status)

  of_them : AllOf version made made report.logs
  of_them = all_of version made made report.logs (found_in version report is) (all_head version [] report.history is.history) is.logs is.each_log

  ends_read : (number : ℕ) → after_unfinished version report.history report.logs [] (unfinished_from version number (lines ends_text)) ≡ Ok (record { version = version; report = report })
  ends_read number =
      let u = unfinished_written version report.unfinished report.status number is.unfinished low in
      ap (after_unfinished version report.history report.logs []) u.1
      ∙ ap (λ s. after s (over version report.history report.logs report.unfinished [])) (status_written report.status u.0 low)

  logs_are_read : (number : ℕ) → after_history version [] (front report.history number (lines logs_text)) ≡ Ok (record { version = version; report = report })
  logs_are_read number =
      let l = logs_written version made ends_text made report.logs [] number of_them in
      ap (λ s. after s (after_logs version report.history [])) l.1 ∙ ends_read l.0

  pub is_read : (text : List ℕ) → text ≡ text_by by_version report → reading text ≡ Ok (record { version = version; report = report })
  is_read text text_is =
      let head : List ℕ = with_one (codes "report") (version_number by_version) in
      let line = first_is version in
      let whole_is : text ≡ ended head ++ later_text
      = text_is ∙ regroup_text (ended head) (flat_map history_text report.history) (flat_map (log_text by_version made) report.logs) (unfinished_text report.unfinished) status_text in
      let f = line_at head later_text line.0 in
      let text_at : text ≡ head ++ 10 ∷ later_text = whole_is ∙ append_assoc head (codes "\n") later_text in
      let nothing : tail text ≡ []
      = ap tail text_is ∙ ends_whole (((ended head ++ flat_map history_text report.history) ++ flat_map (log_text by_version made) report.logs) ++ unfinished_text report.unfinished) (with_one (codes "status") report.status) in
      let lines_are : lines text ≡ head ∷ lines later_text = ap lines text_at ∙ f.ls in
      let begins = begins_logs version made made report.logs ends_text of_them (all_head version [] report.history is.history) (begins_ends version report.unfinished report.status is.unfinished low) in
      let past = history_written version logs_text begins.line begins.more begins.is begins.stops tells report.history [] aboves.Other (1 + 1) refl is.history in
      (λ i. after (version_from 1 (lines_are i)) (after_version (nothing i)))
      ∙ ap (λ o. after (named o 1 (lines later_text)) (after_version [])) line.1
      ∙ ap (after_history version []) past.reads ∙ logs_are_read past.last

-- ---- what is read of a text is a report whose text it is

over_lines : (left : List (List ℕ)) (rest : List ℕ) → is_over left rest ≡ true → (left ≡ []) × (rest ≡ [])
over_lines [] [] is = (refl, refl)
over_lines [] (b ∷ rest) is = absurd (false≢true is)
over_lines (l ∷ left) rest is = absurd (false≢true is)

over_ok : (version : Version) (past : List HistoryLine) (logs : List NodeLog) (unfinished : Option ℕ) (rest : List ℕ) (status : Front ℕ) (found : Found)
    → over version past logs unfinished rest status ≡ Ok found
    → (status.left ≡ []) × (rest ≡ []) × (record { version = version; report = record { history = past; logs = logs; unfinished = unfinished; status = status.read } } ≡ found)
over_ok version past logs unfinished rest status found e =
    elim (cases_Bool (is_over status.left rest)) [
      | inl yes_over ↦
          let both = over_lines status.left rest yes_over in
          (both.0, both.1, ok_is _ found (sym (cond-true _ _ _ yes_over) ∙ e))
      | inr no_over ↦ let never : Err _ ≡ Ok found = sym (cond-false _ _ _ no_over) ∙ e in let no : ⊥ = cc in absurd no
    ]

record UnfinishedRead (version : Version) (unfinished : Option ℕ) (said left : List (List ℕ)) : Type 0 where
  text : flat_map ended said ≡ unfinished_text unfinished ++ flat_map ended left
  can : CanEnd version unfinished

unfinished_read : (version : Version) (number : ℕ) (ls : List (List ℕ)) → UnfinishedRead version (unfinished_from version number ls).read ls (unfinished_from version number ls).left
unfinished_read version number [] = record { text = refl; can = tt }
unfinished_read version number (line ∷ more) = by (unfinished_of version line) refl
  where
    with_found : Option ℕ → Front (Option ℕ)
    with_found o = option_map_or (λ slot. front (Some slot) (number + 1) more) o (front None number (line ∷ more))

    by : (o : Option ℕ) → unfinished_of version line ≡ o → UnfinishedRead version (unfinished_from version number (line ∷ more)).read (line ∷ more) (unfinished_from version number (line ∷ more)).left
    by None is = subst (λ (f : Front (Option ℕ)). UnfinishedRead version f.read (line ∷ more) f.left) (sym (ap with_found is)) (record { text = refl; can = tt })
    by (Some slot) is =
        let test = kept (is_slot version) (unfinished_in (words line)) slot is in
        let says = unfinished_says line slot test.0 in
        subst (λ (f : Front (Option ℕ)). UnfinishedRead version f.read (line ∷ more) f.left) (sym (ap with_found is))
        (record { text = ap (λ l. ended l ++ flat_map ended more) says.0; can = (omega (arith, says.1), test.1) })

status_read : (number : ℕ) (ls : List (List ℕ)) (f : Front ℕ) → status_from number ls ≡ Ok f → (flat_map ended ls ≡ ended (with_one (codes "status") f.read) ++ flat_map ended f.left) × (f.read ≤ 255)
status_read number [] f e = let never : ⊥ = cc in absurd never
status_read number (line ∷ more) f e =
    let name = named_ok (status_in (words line)) number more f e in
    let says = status_says line name.0 name.1 in
    let read_is : name.0 ≡ f.read = sym (ap (λ (g : Front ℕ). g.read) name.2) in
    let left_is : more ≡ f.left = sym (ap (λ (g : Front ℕ). g.left) name.2) in
    ((λ i. ended (says.0 i) ++ flat_map ended (left_is i)) ∙ ap (λ n. ended (with_one (codes "status") n) ++ flat_map ended f.left) read_is, subst (λ n. n ≤ 255) read_is says.1)

version_line : (line : List ℕ) (version : Version) → version_in line ≡ Some version → line ≡ with_one (codes "report") (version_number (written_by version))
version_line line version e =
    elim (cases_Bool (bytes_eq line (codes "report 1"))) [
      | inl one ↦
          let is : versions.First ≡ version = same_Some versions.First version (sym (cond-true _ _ _ one) ∙ e) in
          same_bytes line (codes "report 1") one ∙ sym first_text ∙ ap (λ v. with_one (codes "report") (version_number (written_by v))) is
      | inr not_one ↦
          let e' = sym (cond-false _ _ _ not_one) ∙ e in
          elim (cases_Bool (bytes_eq line (codes "report 2"))) [
            | inl two ↦
                let is : versions.Second ≡ version = same_Some versions.Second version (sym (cond-true _ _ _ two) ∙ e') in
                same_bytes line (codes "report 2") two ∙ sym second_text ∙ ap (λ v. with_one (codes "report") (version_number (written_by v))) is
            | inr neither ↦ none_some version (sym (cond-false _ _ _ neither) ∙ e')
          ]
    ]

-- what was read of a text, stage by stage
record ReadSo (text : List ℕ) (version : Version) (line : List ℕ) (more : List (List ℕ)) (hf : Front (List HistoryLine)) (lf : Front (List NodeLog)) (sf : Front ℕ) : Type 0 where
  lines_are : lines text ≡ line ∷ more
  version_is : version_in line ≡ Some version
  past : history_from version [] aboves.Other (1 + 1) more ≡ hf
  logs : logs_from version (makes hf.read) [] hf.number hf.left ≡ Ok lf
  status : status_from (unfinished_from version lf.number lf.left).number (unfinished_from version lf.number lf.left).left ≡ Ok sf
  ends : sf.left ≡ []
  whole : tail text ≡ []

abbrev unfinished_after : Version → Front (List NodeLog) → Front (Option ℕ)
unfinished_after version lf = unfinished_from version lf.number lf.left

abbrev report_of : Version → Front (List HistoryLine) → Front (List NodeLog) → Front ℕ → Report
report_of version hf lf sf = record { history = hf.read; logs = lf.read; unfinished = (unfinished_after version lf).read; status = sf.read }

nothing_left : {P : Type 0} (version : Version) (hf : Front (List HistoryLine)) (lf : Front (List NodeLog)) (sf : Front ℕ) → hf.left ≡ []
    → logs_from version (makes hf.read) [] hf.number hf.left ≡ Ok lf → status_from (unfinished_after version lf).number (unfinished_after version lf).left ≡ Ok sf → P
nothing_left version hf lf sf none logs status =
    let left : lf.left ≡ [] = logs_at_end version (makes hf.read) [] hf.number lf (ap (logs_from version (makes hf.read) [] hf.number) (sym none) ∙ logs) in
    let short : status_from lf.number [] ≡ Ok sf = ap (λ ls. status_from (unfinished_from version lf.number ls).number (unfinished_from version lf.number ls).left) (sym left) ∙ status in
    let never : ⊥ = cc in
    absurd never

module _ (reads : Reads) (text : List ℕ) (version : Version) (line : List ℕ) (more : List (List ℕ)) (hf : Front (List HistoryLine)) (lf : Front (List NodeLog)) (sf : Front ℕ) (so : ReadSo text version line more hf lf sf) where
  lacking : AllLack (line ∷ more)
  lacking = subst AllLack so.lines_are (lines_lack text)

  is_report_at : (l : List ℕ) (left : List (List ℕ)) → hf.left ≡ l ∷ left → IsReportText version text (report_of version hf lf sf)
  is_report_at l left left_is =
      let past_is : history_from version [] aboves.Other (1 + 1) more ≡ front hf.read hf.number (l ∷ left) = so.past ∙ ap (front hf.read hf.number) left_is in
      let past = history_read version reads hf.read hf.number l left more lacking.1 [] aboves.Other (1 + 1) refl past_is in
      let logs = logs_read version (makes hf.read) [] hf.left hf.number lf (subst AllLack (sym left_is) past.lack) so.logs in
      let ends = unfinished_read version lf.number lf.left in
      let status = status_read (unfinished_after version lf).number (unfinished_after version lf).left sf so.status in
      let report : Report = report_of version hf lf sf in
      let history_is : hf.read ≡ past.more = past.is in
      let logs_are : lf.read ≡ logs.more = logs.is in
      let each = subst (λ h. EachAfter (StandsBehind version) [] h) (sym history_is) past.each in
      let read = subst (AllRead version (makes hf.read)) (sym logs_are) logs.each in
      let report_is : IsReport version report = record {
        history = each;
        logs = same_slots version (makes hf.read) lf.read read;
        each_log = are_logs version (makes hf.read) lf.read read;
        unfinished = ends.can;
        status = omega (arith, status.1);
      } in
      let last : flat_map ended (unfinished_after version lf).left ≡ ended (with_one (codes "status") sf.read)
      = status.0 ∙ ap (λ ls. ended (with_one (codes "status") sf.read) ++ flat_map ended ls) so.ends ∙ append-nil (ended (with_one (codes "status") sf.read)) in
      let logs_text : texts_of version (makes hf.read) logs.more ≡ flat_map (log_text (written_by version) (makes hf.read)) lf.read
      = ap (texts_of version (makes hf.read)) (sym logs_are) ∙ same_texts version (makes hf.read) (makes hf.read) lf.read (found_in version report report_is) read in
      let text_is : text ≡ ended (with_one (codes "report") (version_number (written_by version))) ++ (flat_map history_text hf.read ++ (flat_map (log_text (written_by version) (makes hf.read)) lf.read ++ (unfinished_text (unfinished_after version lf).read ++ ended (with_one (codes "status") sf.read))))
      = sym (whole text) ∙ (λ i. flat_map ended (so.lines_are i) ++ so.whole i) ∙ append-nil (flat_map ended (line ∷ more))
      ∙ (λ i. ended (version_line line version so.version_is i) ++ past.text i)
      ∙ (λ i. ended (with_one (codes "report") (version_number (written_by version))) ++ (flat_map history_text (sym history_is i) ++ flat_map ended (sym left_is i)))
      ∙ (λ i. ended (with_one (codes "report") (version_number (written_by version))) ++ (flat_map history_text hf.read ++ logs.text i))
      ∙ (λ i. ended (with_one (codes "report") (version_number (written_by version))) ++ (flat_map history_text hf.read ++ (logs_text i ++ ends.text i)))
      ∙ (λ i. ended (with_one (codes "report") (version_number (written_by version))) ++ (flat_map history_text hf.read ++ (flat_map (log_text (written_by version) (makes hf.read)) lf.read ++ (unfinished_text (unfinished_after version lf).read ++ last i)))) in (
        text_is ∙ sym (regroup_text (ended (with_one (codes "report") (version_number (written_by version)))) (flat_map history_text hf.read) (flat_map (log_text (written_by version) (makes hf.read)) lf.read) (unfinished_text (unfinished_after version lf).read) (ended (with_one (codes "status") sf.read))),
        report_is,
      )

  is_report : IsReportText version text (report_of version hf lf sf)
  is_report = by hf.left refl
    where
      by : (ls : List (List ℕ)) → hf.left ≡ ls → IsReportText version text (report_of version hf lf sf)
      by [] is = nothing_left version hf lf sf is so.logs so.status
      by (l ∷ left) is = is_report_at l left is

pub is_written : (reads : Reads) (text : List ℕ) (found : Found) → reading text ≡ Ok found → IsReportText found.version text found.report
is_written reads text found e =
    let step = after_ok (version_from 1 (lines text)) (after_version (tail text)) found e in
    by (lines text) refl step.0 step.1 step.2
  where
    by : (ls : List (List ℕ)) → lines text ≡ ls → (f : Front Version) → version_from 1 ls ≡ Ok f → after_version (tail text) f ≡ Ok found → IsReportText found.version text found.report
    by [] is f first e = let never : ⊥ = cc in absurd never
    by (line ∷ more) is f first e =
        let name = named_ok (version_in line) 1 more f first in
        let version = name.0 in
        let e' : after_history version (tail text) (history_from version [] aboves.Other (1 + 1) more) ≡ Ok found = ap (after_version (tail text)) (sym name.2) ∙ e in
        let hf : Front (List HistoryLine) = history_from version [] aboves.Other (1 + 1) more in
        let logs = after_ok (logs_from version (makes hf.read) [] hf.number hf.left) (after_logs version hf.read (tail text)) found e' in
        let lf = logs.0 in
        let status = after_ok (status_from (unfinished_after version lf).number (unfinished_after version lf).left) (over version hf.read lf.read (unfinished_after version lf).read (tail text)) found logs.2 in
        let end = over_ok version hf.read lf.read (unfinished_after version lf).read (tail text) status.0 found status.2 in
        let so : ReadSo text version line more hf lf status.0 = record {
          lines_are = is;
          version_is = name.1;
          past = refl;
          logs = logs.1;
          status = status.1;
          ends = end.0;
          whole = end.1;
        } in
        subst (λ (g : Found). IsReportText g.version text g.report) end.2 (is_report reads text version line more hf lf status.0 so)

-- the logs of a report are of nodes that were made once
pub made_once : (version : Version) (report : Report) → IsReport version report → LogsAreMade report
made_once version report is = logs_made report.history (makes report.history) report.logs (found_in version report is) is.logs
