-- The line of a node that takes over another's state.
use Rattle.std.proofs.Common.{◌≡◌, ◌∙◌, ℕ, List, [], ◌∷◌, ◌++◌, map, Option, Some, None, refl, sym, ap}
use Rattle.std.proofs.lemmas.List.{map_push}
use Rattle.config_graph.specs.declared.kind.Kind.{Kind}
use Rattle.txn_spec.specs.declared.view.NodeView.{NodeView}
use Rattle.live_hall.specs.Lines.{LinePlace, LineWord, line_words, seen_word}

abbrev pub word_at : Kind → Option ℕ → LinePlace → LineWord
word_at k from x = record { slot = x.slot; kind = k; first = x.first; arg = x.arg; from = from }

words_snoc : (k : Kind) (from : Option ℕ) (ls : List LinePlace) (y z : LinePlace) → line_words k from ((ls ++ y ∷ []) ++ z ∷ []) ≡ line_words k from (ls ++ y ∷ []) ++ word_at k (Some y.slot) z ∷ []
words_snoc k from [] y z = refl
words_snoc k from (x ∷ ls) y z = ap (λ l. word_at k from x ∷ l) (words_snoc k (Some x.slot) ls y z)

pub line_handed : {A : Type 0} (w : A → LineWord) (l : A → LinePlace) (past before past' : List A) (p : A) (own new : NodeView) (k k' : Kind) (y z : LinePlace)
    → map w past ++ seen_word own ∷ [] ≡ line_words k None (map l past ++ y ∷ [])
    → past' ≡ before ++ p ∷ [] → before ≡ past → w p ≡ seen_word own → l p ≡ y → k' ≡ k → seen_word new ≡ word_at k' (Some y.slot) z
    → map w past' ++ seen_word new ∷ [] ≡ line_words k' None (map l past' ++ z ∷ [])
line_handed w l past before past' p own new k k' y z was grew_ same word place kind seen =
    let grew : past' ≡ past ++ p ∷ [] = grew_ ∙ ap (λ b. b ++ p ∷ []) same in
    ap (λ ps. map w ps ++ seen_word new ∷ []) grew ∙ ap (λ ws. ws ++ seen_word new ∷ []) (map_push w past p ∙ ap (λ v. map w past ++ v ∷ []) word ∙ was)
    ∙ (λ i. line_words k None (map l past ++ y ∷ []) ++ seen i ∷ []) ∙ (λ i. line_words k None (map l past ++ y ∷ []) ++ word_at (kind i) (Some y.slot) z ∷ [])
    ∙ sym (words_snoc k None (map l past) y z)
    ∙ (λ i. line_words (sym kind i) None ((map l past ++ y ∷ []) ++ z ∷ []))
    ∙ ap (λ ls. line_words k' None (ls ++ z ∷ [])) (sym (map_push l past p ∙ ap (λ v. map l past ++ v ∷ []) place))
    ∙ ap (λ ps. line_words k' None (map l ps ++ z ∷ [])) (sym grew)
