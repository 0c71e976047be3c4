-- The nodes that a history makes: their slots are 0, 1 and on, so that each is found by its slot.
use Rattle.std.proofs.Common.{◌≡◌, ◌==◌, ◌+◌, ◌<◌, ◌≤◌, ◌^◌, ℕ, zero, suc, true, List, [], ◌∷◌, ◌++◌, length, length-append, map, Option, Some, None, IfSome, codes, decimal, refl, sym, ap, subst, ◌∙◌, append_assoc, arith, All}
use Rattle.std.specs.Prelude.{filter, flat_map, slice_get}
use Rattle.std.specs.List.{range_with_len}
use Rattle.std.specs.Option.{option_map_or}
use Rattle.std.proofs.lemmas.Bool.{cond-true, cond-false, eq-eqb, ne_eqb}
use Rattle.std.proofs.lemmas.List.{append-nil}
use Rattle.std.proofs.lemmas.List.Elements.{All-cons, filter_map-append}
use Rattle.std.proofs.lemmas.Option.{same_Some}
use Rattle.base.specs.Each.{EachAfter}
use Rattle.base.proofs.PlaceLaws.{heads_are, tails_are}
use Rattle.base.proofs.RisingLaws.{places_more}
use Rattle.report_writing.specs.Reports.{HasOneMake, SlotPath, ended, event_text, last_text, log_head, log_text, made_by, makes, path_in}
use Rattle.report_writing.specs.Writing.{from_words, spaced}
use Rattle.report_types.specs.declared.report.HistoryLine.{HistoryLine}
use Rattle.report_types.specs.declared.report.HistoryLine.TheVariants as history
use Rattle.report_types.specs.declared.report.NodeLog.{NodeLog}
use Rattle.config_graph.specs.GraphText.{kind_text}
use Rattle.report_lines.proofs.TextLaws.{lacks_append, line_is}
use Rattle.report_lines.specs.Numbers.{max32}
use Rattle.report_lines.specs.ReportLines.{lacks}
use Rattle.report_texts.specs.declared.version.Version.{Version}
use Rattle.report_texts.specs.declared.version.Version.TheVariants as versions
use Rattle.report_texts.specs.ReportTexts.{CanStand, IsLog, StandsBehind, written_by}
use Rattle.report_texts.proofs.HistoryLemmas.{none_some}
use Rattle.report_texts.proofs.LogLemmas.{AllOf, AllRead, lacks_parts, one_lacks, texts_of}

abbrev pub slots : List SlotPath → List ℕ
slots made = map (λ (m : SlotPath). m.slot) made

abbrev pub InOrder : List SlotPath → Type 0
InOrder made = slots made ≡ range_with_len 0 (length made)

slots_more : (made : List SlotPath) (m : SlotPath) → slots (made ++ m ∷ []) ≡ slots made ++ m.slot ∷ []
slots_more [] m = refl
slots_more (x ∷ xs) m = ap (λ ss. x.slot ∷ ss) (slots_more xs m)

in_order_more : (made : List SlotPath) (m : SlotPath) → InOrder made → m.slot ≡ length made → InOrder (made ++ m ∷ [])
in_order_more made m so is =
    let long : length (made ++ m ∷ []) ≡ length made + 1 = omega (arith, length-append made (m ∷ [])) in
    slots_more made m ∙ (λ i. so i ++ is i ∷ []) ∙ sym (places_more (length made)) ∙ ap (range_with_len 0) (sym long)

makes_one : (o : Option SlotPath) (says : HistoryLine) → made_by says ≡ o → (made : List SlotPath) → InOrder made → IfSome o (λ (m : SlotPath). m.slot ≡ length made) → InOrder (made ++ makes (says ∷ []))
makes_one None says is made so slot =
    let none : makes (says ∷ []) ≡ [] = rw is refl in
    subst InOrder (sym (ap (λ ms. made ++ ms) none ∙ append-nil made)) so
makes_one (Some m) says is made so slot =
    let one : makes (says ∷ []) ≡ m ∷ [] = rw is refl in
    subst InOrder (sym (ap (λ ms. made ++ ms) one)) (in_order_more made m so slot)

-- the slots of a history in which each line can stand
pub slots_in_order : (version : Version) (before later : List HistoryLine) → EachAfter (StandsBehind version) before later → InOrder (makes before) → InOrder (makes (before ++ later))
slots_in_order version before [] each so = subst (λ h. InOrder (makes h)) (sym (append-nil before)) so
slots_in_order version before (says ∷ later) each so =
    let one = makes_one (made_by says) says refl (makes before) so each.0.slot in
    let here : InOrder (makes (before ++ says ∷ [])) = subst InOrder (sym (filter_map-append made_by before (says ∷ []))) one in
    subst (λ h. InOrder (makes h)) (append_assoc before (says ∷ []) later) (slots_in_order version (before ++ says ∷ []) later each.1 here)

-- ---- each node is found by its slot

abbrev counted : ℕ → List SlotPath → List SlotPath
counted slot made = filter (λ (m : SlotPath). m.slot == slot) made

none_above : (slot a : ℕ) (made : List SlotPath) → slots made ≡ range_with_len a (length made) → slot < a → counted slot made ≡ []
none_above slot a [] so low = refl
none_above slot a (x ∷ xs) so low =
    let here = heads_are x.slot a (slots xs) (range_with_len (a + 1) (length xs)) so in
    let more = tails_are x.slot a (slots xs) (range_with_len (a + 1) (length xs)) so in
    cond-false _ _ _ (ne_eqb x.slot slot (λ e. omega (arith, here, e))) ∙ none_above slot (a + 1) xs more (omega arith)

pub record FoundBy (made : List SlotPath) (m : SlotPath) : Type 0 where
  pub path : path_in made m.slot ≡ m.path
  pub one : length (counted m.slot made) ≡ 1

pub found_by : (a : ℕ) (made : List SlotPath) (k : ℕ) (m : SlotPath) → slots made ≡ range_with_len a (length made) → slice_get made k ≡ Some m → FoundBy made m × (m.slot ≡ a + k)
found_by a [] k m so at = none_some m at
found_by a (x ∷ xs) zero m so at =
    let is : x ≡ m = same_Some x m at in
    let here = heads_are x.slot a (slots xs) (range_with_len (a + 1) (length xs)) so in
    let more = tails_are x.slot a (slots xs) (range_with_len (a + 1) (length xs)) so in
    let self : (x.slot == x.slot) ≡ true = eq-eqb x.slot x.slot refl in
    let found : FoundBy (x ∷ xs) x = record {
      path = ap (λ o. option_map_or (λ (m : SlotPath). m.path) o []) (cond-true _ _ _ self);
      one = ap length (cond-true _ _ _ self ∙ ap (λ ms. x ∷ ms) (none_above x.slot (a + 1) xs more (omega (arith, here))));
    } in
    (subst (FoundBy (x ∷ xs)) is found, sym (ap (λ (m : SlotPath). m.slot) is) ∙ here ∙ (let e : a ≡ a + 0 = omega arith in e))
found_by a (x ∷ xs) (suc k) m so at =
    let here = heads_are x.slot a (slots xs) (range_with_len (a + 1) (length xs)) so in
    let more = tails_are x.slot a (slots xs) (range_with_len (a + 1) (length xs)) so in
    let rest = found_by (a + 1) xs k m more at in
    let other = ne_eqb x.slot m.slot (λ e. omega (arith, here, rest.1, e)) in (
      record {
        path = ap (λ o. option_map_or (λ (m : SlotPath). m.path) o []) (cond-false _ _ _ other) ∙ rest.0.path;
        one = ap length (cond-false _ _ _ other) ∙ rest.0.one;
      },
      omega (arith, rest.1),
    )

-- ---- the lines above logs

pub record CanHead (version : Version) (made : SlotPath) : Type 0 where
  pub low : made.slot ≤ max32
  pub word : lacks 32 made.path ≡ true
  pub lack : lacks 10 (log_head (written_by version) made.path made.slot) ≡ true

head_lacks : (version : Version) (slot : ℕ) (path : List ℕ) → slot < 2 ^ 32 → lacks 10 (decimal slot) ≡ true → lacks 10 path ≡ true → lacks 10 (log_head (written_by version) path slot) ≡ true
head_lacks versions.First slot path low number word = one_lacks (codes "log") slot refl (omega (arith, low))
head_lacks versions.Second slot path low number word =
    lacks_append 10 (codes "log") (spaced (decimal slot ∷ path ∷ [])) refl
    (lacks_append 10 (32 ∷ decimal slot) (spaced (path ∷ [])) number (lacks_append 10 (32 ∷ path) [] word refl))

heads_of : (version : Version) (says : HistoryLine) (made : SlotPath) → CanStand version says → made_by says ≡ Some made → CanHead version made
heads_of version (history.Make slot node from) made can is =
    let line : List ℕ = codes "make" ++ spaced (decimal slot ∷ node.path ∷ kind_text node.kind node.arg ∷ from_words from) in
    let text = line_is can.1.0 line (sym can.1.1) in
    let all = subst (λ t. lacks 10 t ≡ true) text can.1.2 in
    let first = lacks_parts 10 (codes "make") (spaced (decimal slot ∷ node.path ∷ kind_text node.kind node.arg ∷ from_words from)) all in
    let second = lacks_parts 10 (32 ∷ decimal slot) (spaced (node.path ∷ kind_text node.kind node.arg ∷ from_words from)) first.1 in
    let third = lacks_parts 10 (32 ∷ node.path) (spaced (kind_text node.kind node.arg ∷ from_words from)) second.1 in
    let head : CanHead version (record { slot = slot; path = node.path }) = record {
      low = omega (arith, can.0.0);
      word = can.0.1.1;
      lack = head_lacks version slot node.path can.0.0 second.0 third.0;
    } in
    subst (CanHead version) (same_Some (record { slot = slot; path = node.path }) made is) head
heads_of version (history.Show graph) made can is = none_some made is
heads_of version (history.Start name args) made can is = none_some made is
heads_of version (history.Change name args) made can is = none_some made is
heads_of version (history.Link port node provide) made can is = none_some made is
heads_of version (history.Unlink port) made can is = none_some made is
heads_of version (history.Remove node) made can is = none_some made is
heads_of version (history.Close port) made can is = none_some made is
heads_of version (history.Reopen port) made can is = none_some made is
heads_of version (history.Drained port serial) made can is = none_some made is
heads_of version history.Commit made can is = none_some made is
heads_of version history.Abandon made can is = none_some made is
heads_of version history.Skipped made can is = none_some made is
heads_of version (history.Pending rounds) made can is = none_some made is
heads_of version (history.Root port serial) made can is = none_some made is
heads_of version (history.Run k done) made can is = none_some made is
heads_of version (history.Finish n rounds) made can is = none_some made is
heads_of version history.Stop made can is = none_some made is

abbrev pub AllHead : Version → List SlotPath → Type 0
AllHead version [] = Unit {0}
AllHead version (made ∷ others) = CanHead version made × AllHead version others

head_more : (version : Version) (says : HistoryLine) (later : List HistoryLine) → CanStand version says → AllHead version (makes later) → (o : Option SlotPath) → made_by says ≡ o → AllHead version (makes (says ∷ later))
head_more version says later can rest None is = let same : makes (says ∷ later) ≡ makes later = rw is refl in subst (AllHead version) (sym same) rest
head_more version says later can rest (Some made) is =
    let same : makes (says ∷ later) ≡ made ∷ makes later = rw is refl in
    subst (AllHead version) (sym same) (heads_of version says made can is, rest)

pub all_head : (version : Version) (before later : List HistoryLine) → EachAfter (StandsBehind version) before later → AllHead version (makes later)
all_head version before [] each = tt
all_head version before (says ∷ later) each = head_more version says later each.0.can (all_head version (before ++ says ∷ []) later each.1) (made_by says) refl

-- ---- logs and their nodes

abbrev pub log_slots : List NodeLog → List ℕ
log_slots logs = map (λ (log : NodeLog). log.slot) logs

pub all_of : (version : Version) (all mades : List SlotPath) (logs : List NodeLog) → ((k : ℕ) (m : SlotPath) → slice_get mades k ≡ Some m → FoundBy all m) → AllHead version mades → log_slots logs ≡ slots mades
    → All (IsLog version) logs → AllOf version all mades logs
all_of version all [] [] found heads same are = tt
all_of version all [] (log ∷ logs) found heads same are = let never : ⊥ = cc in absurd never
all_of version all (made ∷ others) [] found heads same are = let never : ⊥ = cc in absurd never
all_of version all (made ∷ others) (log ∷ logs) found heads same are =
    let slot = heads_are log.slot made.slot (log_slots logs) (slots others) same in
    let more = tails_are log.slot made.slot (log_slots logs) (slots others) same in (
      record { path = ap (path_in all) slot ∙ (found 0 made refl).path; slot = slot; lack = heads.0.lack; is = are 0 log (omega arith) },
      all_of version all others logs (λ k m at. found (suc k) m at) heads.1 more (λ k d low. are (suc k) d (omega arith)),
    )

-- the texts of logs by their nodes, and by their slots
pub same_texts : (version : Version) (all mades : List SlotPath) (logs : List NodeLog) → ((k : ℕ) (m : SlotPath) → slice_get mades k ≡ Some m → FoundBy all m) → AllRead version mades logs
    → texts_of version mades logs ≡ flat_map (log_text (written_by version) all) logs
same_texts version all [] [] found read = refl
same_texts version all [] (log ∷ logs) found read = absurd read
same_texts version all (made ∷ others) [] found read = absurd read
same_texts version all (made ∷ others) (log ∷ logs) found read =
    let path : path_in all log.slot ≡ made.path = ap (path_in all) read.0 ∙ (found 0 made refl).path in
    (λ i. (ended (log_head (written_by version) (sym path i) (sym read.0 i)) ++ flat_map event_text log.events ++ last_text log.last)
    ++ same_texts version all others logs (λ k m at. found (suc k) m at) read.2 i)

pub same_slots : (version : Version) (mades : List SlotPath) (logs : List NodeLog) → AllRead version mades logs → log_slots logs ≡ slots mades
same_slots version [] [] read = refl
same_slots version [] (log ∷ logs) read = absurd read
same_slots version (made ∷ others) [] read = absurd read
same_slots version (made ∷ others) (log ∷ logs) read = (λ i. read.0 i ∷ same_slots version others logs read.2 i)

pub are_logs : (version : Version) (mades : List SlotPath) (logs : List NodeLog) → AllRead version mades logs → All (IsLog version) logs
are_logs version [] [] read = λ k d low. absurd (omega arith)
are_logs version [] (log ∷ logs) read = absurd read
are_logs version (made ∷ others) [] read = absurd read
are_logs version (made ∷ others) (log ∷ logs) read = All-cons (IsLog version) log logs read.1 (are_logs version others logs read.2)

-- each log is of a node that was made once
pub logs_made : (history : List HistoryLine) (mades : List SlotPath) (logs : List NodeLog) → ((k : ℕ) (m : SlotPath) → slice_get mades k ≡ Some m → FoundBy (makes history) m) → log_slots logs ≡ slots mades
    → All (λ (log : NodeLog). HasOneMake history log.slot) logs
logs_made history [] [] found same = λ k d low. absurd (omega arith)
logs_made history [] (log ∷ logs) found same = let never : ⊥ = cc in absurd never
logs_made history (made ∷ others) [] found same = let never : ⊥ = cc in absurd never
logs_made history (made ∷ others) (log ∷ logs) found same =
    let slot = heads_are log.slot made.slot (log_slots logs) (slots others) same in
    let more = tails_are log.slot made.slot (log_slots logs) (slots others) same in
    All-cons (λ (log : NodeLog). HasOneMake history log.slot) log logs (subst (HasOneMake history) (sym slot) (found 0 made refl).one)
    (logs_made history others logs (λ k m at. found (suc k) m at) more)
