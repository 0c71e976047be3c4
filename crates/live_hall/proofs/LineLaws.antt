-- What a line's seats say stays so in a turn.
use Rattle.std.proofs.Common.{◌≡◌, ◌∙◌, ℕ, List, [], ◌∷◌, ◌++◌, map, None, sym, ap}
use Rattle.std.specs.Prelude.{Option, option_to_list}
use Rattle.node_host.specs.Moved.{Moved}
use Rattle.quiesce_core.specs.State.{State}
use Rattle.component_trait.specs.Making.{argument_or_0}
use Rattle.component_trait.specs.States.{NodeState}
use Rattle.component_trait.proofs.FoldLaws.{fold_keeps_argument, fold_keeps_kind}
use Rattle.config_graph.specs.declared.kind.Kind.{Kind}
use Rattle.txn_spec.specs.Views.{node_at}
use Rattle.txn_spec.specs.declared.view.NodeView.{NodeView}
use Rattle.node_host.specs.Hosted.{SeatSeen, node_of}
use Rattle.node_gate.specs.Seats.{NodeAt}
use Rattle.quiesce_core.specs.declared.event.Event.{Event}
use Rattle.live_hall.specs.Lines.{LinePlace, LineWord, line_words, seen_word}

abbrev pub place_of : ℕ → ℕ → NodeState → LinePlace
place_of slot first t = record { slot = slot; first = first; arg = t.arg }

pub turned : {A : Type 0} (w : A → LineWord) (l : A → LinePlace) (past past' : List A) (n n' : NodeView) (t t' : NodeState) (slot slot' first first' : ℕ) (q : NodeAt) (ev : Option Event) (log log' : List Event) (se se' : SeatSeen) (x x' : Option State)
    → map w past ++ seen_word n ∷ [] ≡ line_words t.kind None (map l past ++ place_of slot first t ∷ [])
    → past' ≡ past → n'.made ≡ n.made → node_at n ≡ node_of slot first t → node_at n' ≡ node_of slot' first' t' → slot' ≡ slot → first' ≡ first → Moved q ev t t' log log' se se' x x'
    → map w past' ++ seen_word n' ∷ [] ≡ line_words t'.kind None (map l past' ++ place_of slot' first' t' ∷ [])
turned w l past past' n n' t t' slot slot' first first' q ev log log' se se' x x' was same made at at' slot_is first_is m =
    let kind : t'.kind ≡ t.kind = fold_keeps_kind q.first t t' (option_to_list ev) m.folds in
    let arg : t'.arg ≡ t.arg = fold_keeps_argument q.first t t' (option_to_list ev) m.folds in
    let own : n'.slot ≡ n.slot = ap (λ (x : NodeAt). x.slot) at' ∙ slot_is ∙ sym (ap (λ (x : NodeAt). x.slot) at) in
    let seen : seen_word n' ≡ seen_word n = λ i. record { slot = own i; kind = (made i).kind; first = (made i).first_port; arg = argument_or_0 (made i).arg; from = (made i).from } in
    let place : place_of slot' first' t' ≡ place_of slot first t = λ i. record { slot = slot_is i; first = first_is i; arg = arg i } in
    (λ i. map w (same i) ++ seen i ∷ []) ∙ was ∙ (λ i. line_words (sym kind i) None (map l (sym same i) ++ sym place i ∷ []))

-- what a line's seats say stays so where they and the line do
pub line_with : (ws ws' : List LineWord) (ls ls' : List LinePlace) (k : Kind) (m m' : NodeView) (own : LinePlace) → ws ++ seen_word m ∷ [] ≡ line_words k None (ls ++ own ∷ [])
    → ws' ≡ ws → ls' ≡ ls → m' ≡ m → ws' ++ seen_word m' ∷ [] ≡ line_words k None (ls' ++ own ∷ [])
line_with ws ws' ls ls' k m m' own was w l n = (λ i. w i ++ seen_word (n i) ∷ []) ∙ was ∙ (λ i. line_words k None (sym l i ++ own ∷ []))
