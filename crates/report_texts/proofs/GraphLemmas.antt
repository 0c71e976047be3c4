-- The lines of a graph at the front of a text, and the graph that they show.
use Rattle.std.proofs.Common.{◌≡◌, ℕ, true, List, [], ◌∷◌, ◌++◌, codes, sym, ap, subst, ◌∙◌, append_assoc}
use Rattle.std.proofs.lemmas.Bool.{cond-true}
use Rattle.report_writing.specs.Reports.{ended}
use Rattle.report_lines.specs.ReportLines.{lacks}
use Rattle.report_lines.specs.GraphLines.{is_graph_line}
use Rattle.report_lines.specs.Parts.{words}
use Rattle.report_texts.specs.GraphTexts.{behind_graph, graph_lines}
use Rattle.report_texts.specs.TextLines.{lines, tail}
use Rattle.report_texts.proofs.LineLemmas.{AllLack, joined, lines_lack, one_line}

-- a text in two parts, the first of which is lines of a graph
pub record Split (text left : List ℕ) : Type 0 where
  pub shown : List ℕ
  pub whole : text ≡ shown ++ left
  pub graph : graph_lines (lines text) ≡ lines shown ++ graph_lines (lines left)
  pub behind : behind_graph (lines text) ≡ behind_graph (lines left)
  pub ends : tail shown ≡ []

first_lacks : (line : List ℕ) (more ls : List (List ℕ)) → ls ≡ line ∷ more → AllLack ls → lacks 10 line ≡ true
first_lacks line more ls is all = (subst AllLack is all).0

pub split_goes_on : (text left line behind : List ℕ) → Split text left → lines left ≡ line ∷ lines behind → left ≡ line ++ 10 ∷ behind → is_graph_line (words line) ≡ true → Split text behind
split_goes_on text left line behind s ls is graph =
    let lack = first_lacks line (lines behind) (lines left) ls (lines_lack left) in
    let one = one_line line lack in
    let both = joined s.shown (ended line) s.ends in
    let front : graph_lines (lines left) ≡ line ∷ graph_lines (lines behind) = ap graph_lines ls ∙ cond-true _ _ _ graph in
    record {
      shown = s.shown ++ ended line;
      whole = s.whole ∙ ap (λ t. s.shown ++ t) (is ∙ sym (append_assoc line (codes "\n") behind)) ∙ sym (append_assoc s.shown (ended line) behind);
      graph = s.graph ∙ ap (λ g. lines s.shown ++ g) front ∙ sym (append_assoc (lines s.shown) (line ∷ []) (graph_lines (lines behind)))
          ∙ ap (λ g. g ++ graph_lines (lines behind)) (ap (λ g. lines s.shown ++ g) (sym one.0) ∙ sym both.ls);
      behind = s.behind ∙ ap behind_graph ls ∙ cond-true _ _ _ graph;
      ends = both.end ∙ one.1;
    }
