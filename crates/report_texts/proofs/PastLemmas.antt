-- A history with one line more, as the code adds it.
use Rattle.std.proofs.Common.{◌≡◌, ◌+◌, ◌≤◌, ◌&&◌, ℕ, Bool, true, false, List, [], ◌∷◌, ◌++◌, length, length-append, Option, Some, None, option_map, refl, sym, ap, ◌∙◌, arith}
use Rattle.std.proofs.lemmas.Bool.{cond-false}
use Rattle.std.proofs.lemmas.List.Elements.{filter_map-append}
use Rattle.config_graph.specs.Graph.{Graph}
use Rattle.report_writing.specs.Reports.{SlotPath, made_by, makes}
use Rattle.report_types.specs.declared.report.HistoryLine.{HistoryLine}
use Rattle.report_types.specs.declared.report.HistoryLine.TheVariants as history
use Rattle.report_lines.specs.Parts.{is_used_up, words}
use Rattle.report_lines.specs.Readings.{line_in}
use Rattle.report_texts.specs.declared.history.LineAbove.{LineAbove}
use Rattle.report_texts.specs.declared.history.LineAbove.TheVariants as aboves
use Rattle.report_texts.specs.declared.version.Version.{Version}
use Rattle.report_texts.specs.GraphTexts.{behind_graph, graph_in, graph_lines}
use Rattle.report_texts.specs.Limits.{line_keeps}
use Rattle.report_texts.specs.Stages.{keeping, line_above, said_in, shown_in, stands, with_line}
use Rattle.report_texts.proofs.HistoryLemmas.{keep_true}

makes_few : (says : HistoryLine) (o : Option SlotPath) → made_by says ≡ o → length (makes (says ∷ [])) ≤ 1
makes_few says None is = let none : makes (says ∷ []) ≡ [] = rw is refl in omega (arith, ap length none)
makes_few says (Some m) is = let one : makes (says ∷ []) ≡ m ∷ [] = rw is refl in omega (arith, ap length one)

makes_more : (past : List HistoryLine) (says : HistoryLine) → length (makes (past ++ says ∷ [])) ≡ length (makes past) + length (makes (says ∷ []))
makes_more past says = ap length (filter_map-append made_by past (says ∷ [])) ∙ length-append (makes past) (makes (says ∷ []))

pub said_step : (version : Version) (past new : List HistoryLine) (above next_above : LineAbove) (line : List ℕ) (says : HistoryLine) (made next_made : ℕ) → line_in (words line) ≡ Some says
    → (line_keeps version says && stands made above says) ≡ true → made ≡ length (makes past) → next_made ≡ made + length (makes (says ∷ [])) → next_above ≡ line_above says → new ≡ past ++ says ∷ []
    → (said_in version past above line ≡ Some (new, next_above)) × (next_made ≡ length (makes new)) × (next_made ≤ made + 1)
said_step version past new above next_above line says made next_made said fits made_is next_is above_is new_is =
    let test : HistoryLine → Bool = λ s. line_keeps version s && stands (length (makes past)) above s in
    let passes : test says ≡ true = ap (λ m. line_keeps version says && stands m above says) (sym made_is) ∙ fits in (
      ap (λ o. option_map (with_line past) (keeping test o)) said ∙ ap (option_map (with_line past)) (keep_true test says passes) ∙ (λ i. Some (sym new_is i, sym above_is i)),
      next_is ∙ ap (λ m. m + length (makes (says ∷ []))) made_is ∙ sym (makes_more past says) ∙ ap (λ h. length (makes h)) (sym new_is),
      omega (arith, next_is, makes_few says (made_by says) refl),
    )

pub shown_step : (past new : List HistoryLine) (graph : Graph) (ls : List (List ℕ)) (made : ℕ) → is_used_up (behind_graph ls) ≡ false → graph_in (graph_lines ls) ≡ Some graph
    → made ≡ length (makes past) → new ≡ past ++ history.Show graph ∷ [] → (shown_in past ls ≡ Some (new, aboves.Show)) × (made ≡ length (makes new)) × (made ≡ made)
shown_step past new graph ls made behind told made_is new_is = (
  cond-false _ _ _ behind ∙ ap (option_map (λ g. (past ++ history.Show g ∷ [], aboves.Show))) told ∙ ap (λ h. Some (h, aboves.Show)) (sym new_is),
  made_is ∙ (let e : length (makes past) ≡ length (makes past) + 0 = omega arith in e) ∙ sym (makes_more past (history.Show graph)) ∙ ap (λ h. length (makes h)) (sym new_is),
  refl,
)
