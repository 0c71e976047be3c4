-- The history of a report: what is written is read, and what is read was written.
use Rattle.std.proofs.Common.{◌≡◌, ◌+◌, ◌&&◌, ℕ, Bool, true, false, inl, inr, ◌⊎◌, List, [], ◌∷◌, ◌++◌, length, Option, Some, None, IfSome, option_map, codes, bytes_eq, refl, sym, ap, subst, ◌∙◌, append_assoc, cond}
use Rattle.std.specs.Prelude.{flat_map}
use Rattle.std.specs.Option.{option_map_or}
use Rattle.std.specs.List.{list_all}
use Rattle.std.proofs.lemmas.Bool.{and_parts, cases_Bool, cond-true, cond-false, eq-eqb, eqb-true, false≢true, and_right, and_from}
use Rattle.std.proofs.lemmas.List.{append-nil}
use Rattle.std.proofs.lemmas.Option.{same_Some}
use Rattle.base.specs.Each.{EachAfter}
use Rattle.base.proofs.BytesLaws.{same_bytes}
use Rattle.base.proofs.FindLaws.{find_passes}
use Rattle.base.proofs.BoolLaws.{no_is_yes}
use Rattle.config_graph.specs.Graph.{Graph}
use Rattle.config_graph.specs.GraphText.{graph_text}
use Rattle.report_writing.specs.Reports.{SlotPath, ended, history_text, made_by, makes}
use Rattle.report_types.specs.declared.report.HistoryLine.{HistoryLine}
use Rattle.report_types.specs.declared.report.HistoryLine.TheVariants as history
use Rattle.report_lines.specs.declared.verbs.Bare.TheVariants as bares
use Rattle.report_lines.specs.declared.verbs.TwoNumbers.TheVariants as doubles
use Rattle.report_lines.specs.declared.verbs.OneNumber.TheVariants as singles
use Rattle.report_lines.specs.declared.verbs.HistoryVerb.{HistoryVerb}
use Rattle.report_lines.specs.declared.verbs.HistoryVerb.TheVariants as verbs
use Rattle.report_lines.specs.GraphLines.{is_graph_line}
use Rattle.report_lines.specs.Parts.{is_used_up as no_parts, words}
use Rattle.report_lines.specs.Readings.{history_verbs, line_in, line_named, history_verb_bytes, history_verb_named}
use Rattle.report_lines.specs.ReportLines.{IsLine, lacks}
use Rattle.report_lines.proofs.ReadingLaws.{line_of, line_says}
use Rattle.report_texts.specs.declared.history.LineAbove.{LineAbove}
use Rattle.report_texts.specs.declared.history.LineAbove.TheVariants as aboves
use Rattle.report_texts.specs.declared.version.Version.{Version}
use Rattle.report_texts.specs.GraphTexts.{behind_graph, graph_in, graph_lines, has_form}
use Rattle.report_texts.specs.Limits.{line_keeps}
use Rattle.report_texts.specs.ReportTexts.{CanBeShown, CanStand, IsOneLine, StandsBehind, ends_pending, is_pending_or_root, is_root}
use Rattle.report_texts.specs.Stages.{Front, Past, front, history_from, is_after_pending, is_after_show, keeping, line_above, past_with, shown_in, stands, with_line}
use Rattle.report_texts.specs.TextLines.{lines, tail}
use Rattle.report_texts.proofs.LineLemmas.{AllLack, joined, line_at}
use Rattle.report_texts.proofs.PendingLaws.{ends_so}

-- ---- lines that are no graph's

graph_verb : (verb : HistoryVerb) (rest : List (List ℕ)) → is_graph_line (history_verb_bytes verb ∷ rest) ≡ false
graph_verb verbs.Start rest = refl
graph_verb verbs.Change rest = refl
graph_verb verbs.Make rest = refl
graph_verb verbs.Link rest = refl
graph_verb verbs.Run rest = refl
graph_verb (verbs.Bare bares.Commit) rest = refl
graph_verb (verbs.Bare bares.Abandon) rest = refl
graph_verb (verbs.Bare bares.Skipped) rest = refl
graph_verb (verbs.Bare bares.Stop) rest = refl
graph_verb (verbs.OneNumber singles.Unlink) rest = refl
graph_verb (verbs.OneNumber singles.Remove) rest = refl
graph_verb (verbs.OneNumber singles.Close) rest = refl
graph_verb (verbs.OneNumber singles.Reopen) rest = refl
graph_verb (verbs.OneNumber singles.Pending) rest = refl
graph_verb (verbs.TwoNumbers doubles.Drained) rest = refl
graph_verb (verbs.TwoNumbers doubles.Root) rest = refl
graph_verb (verbs.TwoNumbers doubles.Finish) rest = refl

-- a line that says something of a history is no line of a graph
no_graph : (ws : List (List ℕ)) (says : HistoryLine) → line_in ws ≡ Some says → is_graph_line ws ≡ false
no_graph [] says e = refl
no_graph (verb ∷ rest) says e = by (history_verb_named verb) refl e
  where
    by : (o : Option HistoryVerb) → history_verb_named verb ≡ o → line_named o rest ≡ Some says → is_graph_line (verb ∷ rest) ≡ false
    by None is f = let never : ⊥ = cc in absurd never
    by (Some v) is f =
        let name : history_verb_bytes v ≡ verb = same_bytes (history_verb_bytes v) verb (find_passes (λ w. bytes_eq (history_verb_bytes w) verb) history_verbs v is) in
        ap (λ w. is_graph_line (w ∷ rest)) (sym name) ∙ graph_verb v rest

nothing_shown : line_in (words (codes "show")) ≡ None
nothing_shown = refl

no_show : (line : List ℕ) (says : HistoryLine) → line_in (words line) ≡ Some says → bytes_eq line (codes "show") ≡ false
no_show line says e =
    elim (cases_Bool (bytes_eq line (codes "show"))) [
      | inl is ↦ let none : None ≡ Some says = sym nothing_shown ∙ ap (λ l. line_in (words l)) (sym (same_bytes line (codes "show") is)) ∙ e in let never : ⊥ = cc in absurd never
      | inr other ↦ other
    ]

-- ---- what a line of its own can be

plain_or_shown : (version : Version) (says : HistoryLine) → CanStand version says
    → ((graph : Graph) × (says ≡ history.Show graph) × CanBeShown graph) ⊎ (IsLine says × IsOneLine says × (line_keeps version says ≡ true))
plain_or_shown version (history.Show graph) can = inl (graph, refl, can)
plain_or_shown version (history.Start name args) can = inr can
plain_or_shown version (history.Change name args) can = inr can
plain_or_shown version (history.Make slot node from) can = inr can
plain_or_shown version (history.Link port node provide) can = inr can
plain_or_shown version (history.Unlink port) can = inr can
plain_or_shown version (history.Remove node) can = inr can
plain_or_shown version (history.Close port) can = inr can
plain_or_shown version (history.Reopen port) can = inr can
plain_or_shown version (history.Drained port serial) can = inr can
plain_or_shown version history.Commit can = inr can
plain_or_shown version history.Abandon can = inr can
plain_or_shown version history.Skipped can = inr can
plain_or_shown version (history.Pending rounds) can = inr can
plain_or_shown version (history.Root port serial) can = inr can
plain_or_shown version (history.Run k done) can = inr can
plain_or_shown version (history.Finish n rounds) can = inr can
plain_or_shown version history.Stop can = inr can

-- a line that has its own form can stand
stands_plain : (version : Version) (says : HistoryLine) → IsLine says → IsOneLine says → line_keeps version says ≡ true → CanStand version says
stands_plain version (history.Show graph) is one keeps = absurd is
stands_plain version (history.Start name args) is one keeps = (is, one, keeps)
stands_plain version (history.Change name args) is one keeps = (is, one, keeps)
stands_plain version (history.Make slot node from) is one keeps = (is, one, keeps)
stands_plain version (history.Link port node provide) is one keeps = (is, one, keeps)
stands_plain version (history.Unlink port) is one keeps = (is, one, keeps)
stands_plain version (history.Remove node) is one keeps = (is, one, keeps)
stands_plain version (history.Close port) is one keeps = (is, one, keeps)
stands_plain version (history.Reopen port) is one keeps = (is, one, keeps)
stands_plain version (history.Drained port serial) is one keeps = (is, one, keeps)
stands_plain version history.Commit is one keeps = (is, one, keeps)
stands_plain version history.Abandon is one keeps = (is, one, keeps)
stands_plain version history.Skipped is one keeps = (is, one, keeps)
stands_plain version (history.Pending rounds) is one keeps = (is, one, keeps)
stands_plain version (history.Root port serial) is one keeps = (is, one, keeps)
stands_plain version (history.Run k done) is one keeps = (is, one, keeps)
stands_plain version (history.Finish n rounds) is one keeps = (is, one, keeps)
stands_plain version history.Stop is one keeps = (is, one, keeps)

-- the test of a place, both ways
stands_by : (made : ℕ) (above : LineAbove) (says : HistoryLine) → IfSome (made_by says) (λ (m : SlotPath). m.slot ≡ made) → (is_root says ≡ true → is_after_pending above ≡ true) → stands made above says ≡ true
stands_by made above (history.Make slot node from) slots opens = eq-eqb slot made slots
stands_by made above (history.Root port serial) slots opens = opens refl
stands_by made above (history.Show graph) slots opens = refl
stands_by made above (history.Start name args) slots opens = refl
stands_by made above (history.Change name args) slots opens = refl
stands_by made above (history.Link port node provide) slots opens = refl
stands_by made above (history.Unlink port) slots opens = refl
stands_by made above (history.Remove node) slots opens = refl
stands_by made above (history.Close port) slots opens = refl
stands_by made above (history.Reopen port) slots opens = refl
stands_by made above (history.Drained port serial) slots opens = refl
stands_by made above history.Commit slots opens = refl
stands_by made above history.Abandon slots opens = refl
stands_by made above history.Skipped slots opens = refl
stands_by made above (history.Pending rounds) slots opens = refl
stands_by made above (history.Run k done) slots opens = refl
stands_by made above (history.Finish n rounds) slots opens = refl
stands_by made above history.Stop slots opens = refl

record Placed (made : ℕ) (above : LineAbove) (says : HistoryLine) : Type 0 where
  slot : IfSome (made_by says) (λ (m : SlotPath). m.slot ≡ made)
  opens : is_root says ≡ true → is_after_pending above ≡ true

placed : (made : ℕ) (above : LineAbove) (says : HistoryLine) → stands made above says ≡ true → Placed made above says
placed made above (history.Make slot node from) is = record { slot = eqb-true slot made is; opens = λ e. no_is_yes _ e }
placed made above (history.Root port serial) is = record { slot = tt; opens = λ e. is }
placed made above (history.Show graph) is = record { slot = tt; opens = λ e. no_is_yes _ e }
placed made above (history.Start name args) is = record { slot = tt; opens = λ e. no_is_yes _ e }
placed made above (history.Change name args) is = record { slot = tt; opens = λ e. no_is_yes _ e }
placed made above (history.Link port node provide) is = record { slot = tt; opens = λ e. no_is_yes _ e }
placed made above (history.Unlink port) is = record { slot = tt; opens = λ e. no_is_yes _ e }
placed made above (history.Remove node) is = record { slot = tt; opens = λ e. no_is_yes _ e }
placed made above (history.Close port) is = record { slot = tt; opens = λ e. no_is_yes _ e }
placed made above (history.Reopen port) is = record { slot = tt; opens = λ e. no_is_yes _ e }
placed made above (history.Drained port serial) is = record { slot = tt; opens = λ e. no_is_yes _ e }
placed made above history.Commit is = record { slot = tt; opens = λ e. no_is_yes _ e }
placed made above history.Abandon is = record { slot = tt; opens = λ e. no_is_yes _ e }
placed made above history.Skipped is = record { slot = tt; opens = λ e. no_is_yes _ e }
placed made above (history.Pending rounds) is = record { slot = tt; opens = λ e. no_is_yes _ e }
placed made above (history.Run k done) is = record { slot = tt; opens = λ e. no_is_yes _ e }
placed made above (history.Finish n rounds) is = record { slot = tt; opens = λ e. no_is_yes _ e }
placed made above history.Stop is = record { slot = tt; opens = λ e. no_is_yes _ e }

after_so : (b : Bool) → is_after_pending (cond b aboves.Pending aboves.Other) ≡ b
after_so true = refl
after_so false = refl

line_after : (past : List HistoryLine) (says : HistoryLine) → is_after_pending (line_above says) ≡ ends_pending (past ++ says ∷ [])
line_after past says = after_so (is_pending_or_root says) ∙ sym (ends_so past says)

-- ---- what is written is read

-- a line that ends a history, whatever stands before it
pub record Stops (line : List ℕ) : Type 0 where
  pub graph : is_graph_line (words line) ≡ false
  pub show : bytes_eq line (codes "show") ≡ false
  pub says : line_in (words line) ≡ None

past_stops : (version : Version) (past : List HistoryLine) (above : LineAbove) (line : List ℕ) (more : List (List ℕ)) → Stops line → past_with version past above line more ≡ None
past_stops version past above line more s =
    cond-false _ _ _ (and_right (is_after_show above) _ s.graph) ∙ cond-false _ _ _ s.show
    ∙ ap (λ o. option_map (with_line past) (keeping (λ says. line_keeps version says && stands (length (makes past)) above says) o)) s.says

stop_here : (version : Version) (past : List HistoryLine) (above : LineAbove) (number : ℕ) (line : List ℕ) (more : List (List ℕ)) → Stops line
    → history_from version past above number (line ∷ more) ≡ front past number (line ∷ more)
stop_here version past above number line more s =
    ap (λ o. option_map_or (λ (next : Past). history_from version next.0 next.1 (number + 1) more) o (front past number (line ∷ more))) (past_stops version past above line more s)

go_on : (version : Version) (past : List HistoryLine) (above : LineAbove) (number : ℕ) (line : List ℕ) (more : List (List ℕ)) (next : Past) → past_with version past above line more ≡ Some next
    → history_from version past above number (line ∷ more) ≡ history_from version next.0 next.1 (number + 1) more
go_on version past above number line more next is =
    ap (λ o. option_map_or (λ (next : Past). history_from version next.0 next.1 (number + 1) more) o (front past number (line ∷ more))) is

pub keep_true : {A : Type 0} (test : A → Bool) (a : A) → test a ≡ true → keeping test (Some a) ≡ Some a
keep_true test a is = cond-true _ _ _ is

past_says : (version : Version) (past : List HistoryLine) (above : LineAbove) (line : List ℕ) (more : List (List ℕ)) (says : HistoryLine) → line_in (words line) ≡ Some says
    → line_keeps version says ≡ true → stands (length (makes past)) above says ≡ true → past_with version past above line more ≡ Some (past ++ says ∷ [], line_above says)
past_says version past above line more says is keeps there =
    let test : HistoryLine → Bool = λ s. line_keeps version s && stands (length (makes past)) above s in
    cond-false _ _ _ (and_right (is_after_show above) _ (no_graph (words line) says is)) ∙ cond-false _ _ _ (no_show line says is)
    ∙ ap (λ o. option_map (with_line past) (keeping test o)) is ∙ ap (option_map (with_line past)) (keep_true test says (and_from _ _ keeps there))

-- lines of a graph stand for themselves once it was shown
abbrev pub AllGraph : List (List ℕ) → Type 0
AllGraph [] = Unit {0}
AllGraph (line ∷ more) = (is_graph_line (words line) ≡ true) × AllGraph more

pass_graph : (version : Version) (past : List HistoryLine) (number : ℕ) (shown left : List (List ℕ)) → AllGraph shown
    → (n : ℕ) × (history_from version past aboves.Show number (shown ++ left) ≡ history_from version past aboves.Show n left)
pass_graph version past number [] left all = (number, refl)
pass_graph version past number (line ∷ more) left all =
    let rest = pass_graph version past (number + 1) more left all.1 in
    (rest.0, go_on version past aboves.Show number line (more ++ left) (past, aboves.Show) (cond-true _ _ _ all.0) ∙ rest.1)

-- the lines of a graph's text, before a line that is none
pub graph_front : (shown : List (List ℕ)) (line : List ℕ) (more : List (List ℕ)) → AllGraph shown → is_graph_line (words line) ≡ false
    → (graph_lines (shown ++ line ∷ more) ≡ shown) × (behind_graph (shown ++ line ∷ more) ≡ line ∷ more)
graph_front [] line more all other = (cond-false _ _ _ other, cond-false _ _ _ other)
graph_front (first ∷ shown) line more all other =
    let rest = graph_front shown line more all.1 other in
    (cond-true _ _ _ all.0 ∙ ap (λ ls. first ∷ ls) rest.0, cond-true _ _ _ all.0 ∙ rest.1)

-- what is asked of the texts of graphs: that they are read again
pub record IsTold (graph : Graph) : Type 0 where
  pub told : graph_in (lines (graph_text graph)) ≡ Some graph
  pub all : AllGraph (lines (graph_text graph))
  pub ends : tail (graph_text graph) ≡ []

pub record Read (version : Version) (past : List HistoryLine) (above : LineAbove) (number : ℕ) (more : List HistoryLine) (rest : List ℕ) : Type 0 where
  pub last : ℕ
  pub reads : history_from version past above number (lines (flat_map history_text more ++ rest)) ≡ front (past ++ more) last (lines rest)

-- a text whose first line is no line of a graph
record Apart (text : List ℕ) : Type 0 where
  line : List ℕ
  more : List (List ℕ)
  is : lines text ≡ line ∷ more
  other : is_graph_line (words line) ≡ false

plain_front : (says : HistoryLine) (line text : List ℕ) → history_text says ≡ ended line → lacks 10 line ≡ true → lines (history_text says ++ text) ≡ line ∷ lines text
plain_front says line text is lack =
    ap (λ t. lines (t ++ text)) is ∙ ap lines (append_assoc line (codes "\n") text) ∙ (line_at line text lack).ls

show_front : (graph : Graph) (text : List ℕ) → lines (history_text (history.Show graph) ++ text) ≡ codes "show" ∷ lines (graph_text graph ++ text)
show_front graph text = ap lines (append_assoc (ended (codes "show")) (graph_text graph) text) ∙ (line_at (codes "show") (graph_text graph ++ text) refl).ls

-- `show` before the lines of its graph
past_shows : (version : Version) (past : List HistoryLine) (above : LineAbove) (graph : Graph) (shown : List (List ℕ)) (line : List ℕ) (more : List (List ℕ)) → AllGraph shown → graph_in shown ≡ Some graph
    → is_graph_line (words line) ≡ false → past_with version past above (codes "show") (shown ++ line ∷ more) ≡ Some (past ++ history.Show graph ∷ [], aboves.Show)
past_shows version past above graph shown line more all told other =
    let parted = graph_front shown line more all other in
    cond-false _ _ _ (and_right (is_after_show above) _ refl) ∙ cond-false _ _ _ (ap no_parts parted.1)
    ∙ ap (λ ls. option_map (λ g. (past ++ history.Show g ∷ [], aboves.Show)) (graph_in ls)) parted.0 ∙ ap (option_map (λ g. (past ++ history.Show g ∷ [], aboves.Show))) told

module _ (version : Version) (rest line : List ℕ) (more : List (List ℕ)) (rest_is : lines rest ≡ line ∷ more) (stops : Stops line) (tells : (graph : Graph) → CanBeShown graph → IsTold graph) where
  apart : (past lines_ : List HistoryLine) → EachAfter (StandsBehind version) past lines_ → Apart (flat_map history_text lines_ ++ rest)
  apart past [] each = record { line = line; more = more; is = rest_is; other = stops.graph }
  apart past (says ∷ later) each =
      let text : List ℕ = flat_map history_text later ++ rest in
      let whole : flat_map history_text (says ∷ later) ++ rest ≡ history_text says ++ text = append_assoc (history_text says) (flat_map history_text later) rest in
      elim (plain_or_shown version says each.0.can) [
        | inl shown ↦
            record {
              line = codes "show";
              more = lines (graph_text shown.0 ++ text);
              is = ap lines whole ∙ ap (λ s. lines (history_text s ++ text)) shown.1 ∙ show_front shown.0 text;
              other = refl;
            }
        | inr plain ↦
            record {
              line = plain.1.0;
              more = lines text;
              is = ap lines whole ∙ plain_front says plain.1.0 text plain.1.1 plain.1.2;
              other = no_graph (words plain.1.0) says (line_of plain.1.0 says plain.0 (sym plain.1.1));
            }
      ]

  pub history_written : (later past : List HistoryLine) (above : LineAbove) (number : ℕ) → is_after_pending above ≡ ends_pending past → EachAfter (StandsBehind version) past later
      → Read version past above number later rest
  history_written [] past above number so each = record {
    last = number;
    reads = ap (history_from version past above number) rest_is ∙ stop_here version past above number line more stops
        ∙ (λ i. front (sym (append-nil past) i) number (sym rest_is i));
  }
  history_written (says ∷ later) past above number so each =
      let text : List ℕ = flat_map history_text later ++ rest in
      let whole : flat_map history_text (says ∷ later) ++ rest ≡ history_text says ++ text = append_assoc (history_text says) (flat_map history_text later) rest in
      let joined_past = append_assoc past (says ∷ []) later in
      elim (plain_or_shown version says each.0.can) [
        | inl shown ↦
            let told = tells shown.0 shown.2 in
            let next = apart (past ++ says ∷ []) later each.1 in
            let front_is : lines (history_text says ++ text) ≡ codes "show" ∷ (lines (graph_text shown.0) ++ next.line ∷ next.more)
            = ap (λ s. lines (history_text s ++ text)) shown.1 ∙ show_front shown.0 text
            ∙ ap (λ ls. codes "show" ∷ ls) ((joined (graph_text shown.0) text told.ends).ls ∙ ap (λ ls. lines (graph_text shown.0) ++ ls) next.is) in
            let with_graph : past_with version past above (codes "show") (lines (graph_text shown.0) ++ next.line ∷ next.more) ≡ Some (past ++ says ∷ [], aboves.Show)
            = past_shows version past above shown.0 (lines (graph_text shown.0)) next.line next.more told.all told.told next.other ∙ ap (λ s. Some (past ++ s ∷ [], aboves.Show)) (sym shown.1) in
            let passed = pass_graph version (past ++ says ∷ []) (number + 1) (lines (graph_text shown.0)) (next.line ∷ next.more) told.all in
            let none : false ≡ ends_pending (past ++ says ∷ []) = sym (ends_so past says ∙ ap is_pending_or_root shown.1) in
            let on = history_written later (past ++ says ∷ []) aboves.Show passed.0 none each.1 in
            record {
              last = on.last;
              reads = ap (λ t. history_from version past above number (lines t)) whole ∙ ap (history_from version past above number) front_is
                  ∙ go_on version past above number (codes "show") (lines (graph_text shown.0) ++ next.line ∷ next.more) (past ++ says ∷ [], aboves.Show) with_graph ∙ passed.1
                  ∙ ap (history_from version (past ++ says ∷ []) aboves.Show passed.0) (sym next.is) ∙ on.reads ∙ ap (λ h. front h on.last (lines rest)) joined_past;
            }
        | inr plain ↦
            let l = plain.1.0 in
            let said = line_of l says plain.0 (sym plain.1.1) in
            let there = stands_by (length (makes past)) above says each.0.slot (λ e. so ∙ each.0.opens e) in
            let on = history_written later (past ++ says ∷ []) (line_above says) (number + 1) (line_after past says) each.1 in
            record {
              last = on.last;
              reads = ap (λ t. history_from version past above number (lines t)) whole ∙ ap (history_from version past above number) (plain_front says l text plain.1.1 plain.1.2)
                  ∙ go_on version past above number l (lines text) (past ++ says ∷ [], line_above says) (past_says version past above l (lines text) says said plain.2 there)
                  ∙ on.reads ∙ ap (λ h. front h on.last (lines rest)) joined_past;
            }
      ]

-- ---- what is read was written

-- why the next line fits
data Fits (version : Version) (past : List HistoryLine) (above : LineAbove) (line : List ℕ) (more : List (List ℕ)) (next : Past) : Type 0 where
  of_graph : is_after_show above ≡ true → is_graph_line (words line) ≡ true → next ≡ (past, aboves.Show) → Fits version past above line more next
  unjudged : behind_graph more ≡ [] → next ≡ (past, aboves.Show) → Fits version past above line more next
  shows : (graph : Graph) → line ≡ codes "show" → graph_in (graph_lines more) ≡ Some graph → next ≡ (past ++ history.Show graph ∷ [], aboves.Show) → Fits version past above line more next
  says : (says : HistoryLine) → line_in (words line) ≡ Some says → line_keeps version says ≡ true → stands (length (makes past)) above says ≡ true
      → next ≡ (past ++ says ∷ [], line_above says) → Fits version past above line more next

pub none_some : {A : Type 0} {P : Type 0} (b : A) → None ≡ Some b → P
none_some b e = let never : ⊥ = cc in absurd never

no_lines : (ls : List (List ℕ)) → no_parts ls ≡ true → ls ≡ []
no_lines [] e = refl
no_lines (l ∷ ls) e = absurd (false≢true e)

module _ (version : Version) (past : List HistoryLine) (above : LineAbove) (line : List ℕ) (more : List (List ℕ)) (next : Past) where
  fits_said : (o : Option HistoryLine) → line_in (words line) ≡ o
      → option_map (with_line past) (keeping (λ s. line_keeps version s && stands (length (makes past)) above s) o) ≡ Some next → Fits version past above line more next
  fits_said None is e = none_some next e
  fits_said (Some s) is e =
      let test : HistoryLine → Bool = λ s. line_keeps version s && stands (length (makes past)) above s in
      elim (cases_Bool (test s)) [
        | inl holds ↦
            let kept : keeping test (Some s) ≡ Some s = cond-true _ _ _ holds in
            let both = and_parts (line_keeps version s) (stands (length (makes past)) above s) holds in
            says s is both.0 both.1 (sym (same_Some (past ++ s ∷ [], line_above s) next (sym (ap (option_map (with_line past)) kept) ∙ e)))
        | inr fails ↦
            let kept : keeping test (Some s) ≡ None = cond-false _ _ _ fails in
            none_some next (sym (ap (option_map (with_line past)) kept) ∙ e)
      ]

  fits_graph : (o : Option Graph) → graph_in (graph_lines more) ≡ o → line ≡ codes "show" → option_map (λ graph. (past ++ history.Show graph ∷ [], aboves.Show)) o ≡ Some next → Fits version past above line more next
  fits_graph None is show e = none_some next e
  fits_graph (Some graph) is show e = shows graph show is (sym (same_Some (past ++ history.Show graph ∷ [], aboves.Show) next e))

  unjudged_next : (b : Bool) → cond b (Some (past, aboves.Show)) None ≡ Some next → next ≡ (past, aboves.Show)
  unjudged_next true e = sym (same_Some (past, aboves.Show) next e)
  unjudged_next false e = none_some next e

  fits_shown : line ≡ codes "show" → shown_in past more ≡ Some next → Fits version past above line more next
  fits_shown show e =
      elim (cases_Bool (no_parts (behind_graph more))) [
        | inl none ↦ unjudged (no_lines (behind_graph more) none) (unjudged_next (list_all has_form (graph_lines more)) (sym (cond-true _ _ _ none) ∙ e))
        | inr some ↦ fits_graph (graph_in (graph_lines more)) refl show (sym (cond-false _ _ _ some) ∙ e)
      ]

  fits_because : past_with version past above line more ≡ Some next → Fits version past above line more next
  fits_because e =
      elim (cases_Bool (is_after_show above && is_graph_line (words line))) [
        | inl graph ↦
            let both = and_parts (is_after_show above) (is_graph_line (words line)) graph in
            of_graph both.0 both.1 (sym (same_Some (past, aboves.Show) next (sym (cond-true _ _ _ graph) ∙ e)))
        | inr other ↦
            let e' = sym (cond-false _ _ _ other) ∙ e in
            elim (cases_Bool (bytes_eq line (codes "show"))) [
              | inl show ↦ fits_shown (same_bytes line (codes "show") show) (sym (cond-true _ _ _ show) ∙ e')
              | inr no_show ↦ fits_said (line_in (words line)) refl (sym (cond-false _ _ _ no_show) ∙ e')
            ]
      ]

-- what is left to be said, where the lines of a graph that was shown are said already
abbrev pub unsaid : LineAbove → List (List ℕ) → List (List ℕ)
unsaid above ls = cond (is_after_show above) (behind_graph ls) ls

pub record Written (version : Version) (past : List HistoryLine) (all : List HistoryLine) (said left : List (List ℕ)) : Type 0 where
  pub more : List HistoryLine
  pub is : all ≡ past ++ more
  pub text : flat_map ended said ≡ flat_map history_text more ++ flat_map ended left
  pub each : EachAfter (StandsBehind version) past more
  pub lack : AllLack left

graph_parted : (ls : List (List ℕ)) → flat_map ended ls ≡ flat_map ended (graph_lines ls) ++ flat_map ended (behind_graph ls)
graph_parted [] = refl
graph_parted (line ∷ more) =
    elim (cases_Bool (is_graph_line (words line))) [
      | inl graph ↦
          let front : graph_lines (line ∷ more) ≡ line ∷ graph_lines more = cond-true _ _ _ graph in
          let back : behind_graph (line ∷ more) ≡ behind_graph more = cond-true _ _ _ graph in
          ap (λ t. ended line ++ t) (graph_parted more) ∙ sym (append_assoc (ended line) (flat_map ended (graph_lines more)) (flat_map ended (behind_graph more)))
          ∙ (λ i. flat_map ended (sym front i) ++ flat_map ended (sym back i))
      | inr other ↦
          let front : graph_lines (line ∷ more) ≡ [] = cond-false _ _ _ other in
          let back : behind_graph (line ∷ more) ≡ line ∷ more = cond-false _ _ _ other in
          (λ i. flat_map ended (sym front i) ++ flat_map ended (sym back i))
    ]

-- Where nothing stands behind the lines of a graph, all of them are passed over.
passes_all : (version : Version) (past : List HistoryLine) (number : ℕ) (ls : List (List ℕ)) → behind_graph ls ≡ [] → (n : ℕ) × (history_from version past aboves.Show number ls ≡ front past n [])
passes_all version past number [] none = (number, refl)
passes_all version past number (line ∷ more) none =
    elim (cases_Bool (is_graph_line (words line))) [
      | inl graph ↦
          let rest = passes_all version past (number + 1) more (sym (cond-true _ _ _ graph) ∙ none) in
          (rest.0, go_on version past aboves.Show number line more (past, aboves.Show) (cond-true _ _ _ graph) ∙ rest.1)
      | inr other ↦ let never : line ∷ more ≡ [] = sym (cond-false _ _ _ other) ∙ none in let no : ⊥ = cc in absurd no
    ]

nothing_left : {P : Type 0} (all past : List HistoryLine) (n last : ℕ) (l : List ℕ) (left : List (List ℕ)) → front past n [] ≡ front all last (l ∷ left) → P
nothing_left all past n last l left e = let never : [] ≡ l ∷ left = ap (λ (f : Front _). f.left) e in let no : ⊥ = cc in absurd no

unsaid_plain : (above : LineAbove) (line : List ℕ) (more : List (List ℕ)) → is_graph_line (words line) ≡ false → unsaid above (line ∷ more) ≡ line ∷ more
unsaid_plain aboves.Show line more other = cond-false _ _ _ other
unsaid_plain aboves.Pending line more other = refl
unsaid_plain aboves.Other line more other = refl

shown_so : (above : LineAbove) → is_after_show above ≡ true → is_after_pending above ≡ false
shown_so aboves.Show e = refl
shown_so aboves.Pending e = absurd (false≢true e)
shown_so aboves.Other e = absurd (false≢true e)

stops_plain : (version : Version) (past : List HistoryLine) (above : LineAbove) (line : List ℕ) (more : List (List ℕ)) → past_with version past above line more ≡ None → unsaid above (line ∷ more) ≡ line ∷ more
stops_plain version past aboves.Pending line more none = refl
stops_plain version past aboves.Other line more none = refl
stops_plain version past aboves.Show line more none =
    elim (cases_Bool (is_graph_line (words line))) [
      | inl graph ↦ none_some (past, aboves.Show) (sym none ∙ cond-true _ _ _ graph)
      | inr other ↦ cond-false _ _ _ other
    ]

-- what is asked of graphs that are read: that their lines are their text
abbrev pub Reads : Type 0
Reads = (shown : List (List ℕ)) (graph : Graph) → graph_in shown ≡ Some graph → (flat_map ended shown ≡ graph_text graph) × CanBeShown graph

after_line : (b : Bool) (ls : List (List ℕ)) → unsaid (cond b aboves.Pending aboves.Other) ls ≡ ls
after_line true ls = refl
after_line false ls = refl

module _ (version : Version) (reads : Reads) (all : List HistoryLine) (last : ℕ) (l : List ℕ) (left : List (List ℕ)) where
  abbrev Goes : List (List ℕ) → Type 0
  Goes ls = (past : List HistoryLine) (above : LineAbove) (number : ℕ) → is_after_pending above ≡ ends_pending past → history_from version past above number ls ≡ front all last (l ∷ left)
      → Written version past all (unsaid above ls) (l ∷ left)

  goes : (line : List ℕ) (more : List (List ℕ)) → lacks 10 line ≡ true → Goes more → (past : List HistoryLine) (above : LineAbove) (number : ℕ) → is_after_pending above ≡ ends_pending past
      → (next : Past) → history_from version next.0 next.1 (number + 1) more ≡ front all last (l ∷ left) → Fits version past above line more next → Written version past all (unsaid above (line ∷ more)) (l ∷ left)
  goes line more lack on past above number so next onward (of_graph after graph next_is) =
      let e = subst (λ (n : Past). history_from version n.0 n.1 (number + 1) more ≡ front all last (l ∷ left)) next_is onward in
      let rest = on past aboves.Show (number + 1) (sym (shown_so above after) ∙ so) e in
      let same : unsaid above (line ∷ more) ≡ behind_graph more = cond-true _ _ _ after ∙ cond-true _ _ _ graph in
      record { more = rest.more; is = rest.is; text = ap (flat_map ended) same ∙ rest.text; each = rest.each; lack = rest.lack }
  goes line more lack on past above number so next onward (unjudged none next_is) =
      let e = subst (λ (n : Past). history_from version n.0 n.1 (number + 1) more ≡ front all last (l ∷ left)) next_is onward in
      let passed = passes_all version past (number + 1) more none in
      nothing_left all past passed.0 last l left (sym passed.1 ∙ e)
  goes line more lack on past above number so next onward (shows graph show told next_is) =
      let s = history.Show graph in
      let e = subst (λ (n : Past). history_from version n.0 n.1 (number + 1) more ≡ front all last (l ∷ left)) next_is onward in
      let rest = on (past ++ s ∷ []) aboves.Show (number + 1) (sym (ends_so past s)) e in
      let drawn = reads (graph_lines more) graph told in
      let no_line : is_graph_line (words line) ≡ false = ap (λ w. is_graph_line (words w)) show in
      record {
        more = s ∷ rest.more;
        is = rest.is ∙ append_assoc past (s ∷ []) rest.more;
        text = ap (flat_map ended) (unsaid_plain above line more no_line) ∙ (λ i. ended (show i) ++ graph_parted more i)
            ∙ (λ i. ended (codes "show") ++ (drawn.0 i ++ rest.text i))
            ∙ sym (append_assoc (ended (codes "show")) (graph_text graph) (flat_map history_text rest.more ++ flat_map ended (l ∷ left)))
            ∙ sym (append_assoc (history_text s) (flat_map history_text rest.more) (flat_map ended (l ∷ left)));
        each = (record { can = drawn.1; slot = tt; opens = λ r. no_is_yes _ r }, rest.each);
        lack = rest.lack;
      }
  goes line more lack on past above number so next onward (says s said keeps there next_is) =
      let e = subst (λ (n : Past). history_from version n.0 n.1 (number + 1) more ≡ front all last (l ∷ left)) next_is onward in
      let rest = on (past ++ s ∷ []) (line_above s) (number + 1) (line_after past s) e in
      let line_is = line_says line s said in
      let place = placed (length (makes past)) above s there in
      let same : unsaid (line_above s) more ≡ more = after_line (is_pending_or_root s) more in
      record {
        more = s ∷ rest.more;
        is = rest.is ∙ append_assoc past (s ∷ []) rest.more;
        text = ap (flat_map ended) (unsaid_plain above line more (no_graph (words line) s said))
            ∙ (λ i. line_is.0 i ++ (ap (flat_map ended) (sym same) ∙ rest.text) i)
            ∙ sym (append_assoc (history_text s) (flat_map history_text rest.more) (flat_map ended (l ∷ left)));
        each = (record { can = stands_plain version s line_is.1 (line, sym line_is.0, lack) keeps; slot = place.slot; opens = λ r. sym so ∙ place.opens r }, rest.each);
        lack = rest.lack;
      }

  stops_so : (line : List ℕ) (more : List (List ℕ)) → AllLack (line ∷ more) → (past : List HistoryLine) (above : LineAbove) (number : ℕ) → past_with version past above line more ≡ None
      → history_from version past above number (line ∷ more) ≡ front all last (l ∷ left) → Written version past all (unsaid above (line ∷ more)) (l ∷ left)
  stops_so line more lack past above number none e =
      let here : front past number (line ∷ more) ≡ front all last (l ∷ left)
      = sym (ap (λ o. option_map_or (λ (next : Past). history_from version next.0 next.1 (number + 1) more) o (front past number (line ∷ more))) none) ∙ e in
      let lines_are : line ∷ more ≡ l ∷ left = ap (λ (f : Front (List HistoryLine)). f.left) here in
      record {
        more = [];
        is = sym (ap (λ (f : Front (List HistoryLine)). f.read) here) ∙ sym (append-nil past);
        text = ap (flat_map ended) (stops_plain version past above line more none ∙ lines_are);
        each = tt;
        lack = subst AllLack lines_are lack;
      }

  either_way : (line : List ℕ) (more : List (List ℕ)) → AllLack (line ∷ more) → Goes more → (past : List HistoryLine) (above : LineAbove) (number : ℕ) → is_after_pending above ≡ ends_pending past
      → history_from version past above number (line ∷ more) ≡ front all last (l ∷ left) → (o : Option Past) → past_with version past above line more ≡ o → Written version past all (unsaid above (line ∷ more)) (l ∷ left)
  either_way line more lack on past above number so e None is = stops_so line more lack past above number is e
  either_way line more lack on past above number so e (Some next) is =
      goes line more lack.0 on past above number so next (sym (go_on version past above number line more next is) ∙ e) (fits_because version past above line more next is)

  pub history_read : (ls : List (List ℕ)) → AllLack ls → Goes ls
  history_read [] lack past above number so e = nothing_left all past number last l left e
  history_read (line ∷ more) lack past above number so e =
      either_way line more lack (λ p b n s f. history_read more lack.1 p b n s f) past above number so e (past_with version past above line more) refl
