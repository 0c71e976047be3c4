-- How records and histories grow.
use Rattle.std.proofs.Common.{◌≡◌, List, ◌++◌, append_assoc, [], sym, ap, ◌∙◌, subst}
use Rattle.std.proofs.lemmas.List.{append-nil}
use Rattle.report_types.specs.declared.report.HistoryLine.{HistoryLine}
use Rattle.txn_records.specs.declared.entry.Entry.{Entry}
use Rattle.txn_records.specs.Records.{Adds}
use Rattle.change_board.specs.Transcripts.{Item, entries, lines}
use Rattle.change_engine.specs.Growing.{Grew, telling}
use Rattle.change_board.specs.declared.board.Board.{Ghosts as BoardWords}
use Rattle.change_engine.proofs.ItemLaws.{entries_both, lines_both}

module _ {B : Type 0} (W : BoardWords B) where
  pub adds_both : (a b c : B) (es fs : List Entry) → Adds W.stands_for a b es → Adds W.stands_for b c fs → Adds W.stands_for a c (es ++ fs)
  adds_both a b c es fs x y r s = subst (λ zs. W.stands_for c zs) (append_assoc r es fs) (y (r ++ es) (x r s))

  pub grew_both : (a b c : B) (h i j : List HistoryLine) (t u : List Item) → Grew W (telling a h) (telling b i) t → Grew W (telling b i) (telling c j) u → Grew W (telling a h) (telling c j) (t ++ u)
  grew_both a b c h i j t u x y = record {
    adds = subst (λ zs. Adds W.stands_for a c zs) (sym (entries_both t u)) (adds_both a b c (entries t) (entries u) x.adds y.adds);
    adds_lines = y.adds_lines ∙ ap (λ zs. zs ++ lines u) x.adds_lines ∙ append_assoc h (lines t) (lines u) ∙ ap (λ zs. h ++ zs) (sym (lines_both t u));
  }

-- nothing is told and recorded
pub grew_none : {B : Type 0} (W : BoardWords B) (a : B) (h i : List HistoryLine) → i ≡ h → Grew W (telling a h) (telling a i) []
grew_none W a h i same = record { adds = λ r s. subst (W.stands_for a) (sym (append-nil r)) s; adds_lines = same ∙ sym (append-nil h) }
