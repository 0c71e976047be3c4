-- The fold of a node by what was seen of its line.
use Rattle.std.proofs.Common.{◌≡◌, ◌∙◌, ℕ, zero, suc, ◌<◌, List, [], ◌∷◌, ◌++◌, map, Option, Some, None, refl, ap, arith}
use Rattle.std.specs.Prelude.{option_and_then, option_map}
use Rattle.std.specs.Option.{option_map_or}
use Rattle.std.specs.List.{AllByRecursion}
use Rattle.change_board.specs.Sights.{fold_seen, fold_seen_within}
use Rattle.change_spec.specs.Opening.{argument_of, fold_at}
use Rattle.component_trait.specs.Fold.{fold_from}
use Rattle.component_trait.specs.States.{Kept, NodeState, at_rest}
use Rattle.component_trait.specs.Tables.{opening}
use Rattle.config_graph.specs.declared.kind.Kind.{Kind}
use Rattle.node_host.specs.Lines.{LineNode, line_node_state, line_state}
use Rattle.quiesce_core.specs.State.{Configuration, slot}
use Rattle.quiesce_core.specs.declared.event.Event.{Event}
use Rattle.quiesce_core.specs.declared.state.Slot.{Slot}
use Rattle.change_spec.proofs.LowerLaws.{SourcesAreLower}
use Rattle.live_board.specs.Lines.{IsMadeLine, IsMadeSo, LineSight, line_node}

module _ (c : Configuration) (seen : ℕ → Option (List Event)) (low : SourcesAreLower c) where
  -- what a node opens with, by the state of the one before it
  abbrev opened : Slot → Option ℕ → (ℕ → Option NodeState) → Option Kept
  opened m from before = option_map_or (λ k. option_map (λ (s : NodeState). s.kept) (before k)) from (Some (opening m.node.kind (argument_of m)))

  abbrev of_slot : (ℕ → Option NodeState) → ℕ → Slot → Option NodeState
  of_slot before n m = option_and_then (λ own. option_and_then (fold_at m own) (opened m m.from before)) (seen n)

  -- the fuel is enough where it is more than the slot
  enough : (f g n : ℕ) → n < f → n < g → fold_seen_within c seen f n ≡ fold_seen_within c seen g n
  enough zero g n few few' = absurd (omega arith)
  enough (suc f) zero n few few' = absurd (omega arith)
  enough (suc f) (suc g) n few few' = by (λ j b b'. enough f g j b b') (slot c n) refl
    where
      from_is : ((j : ℕ) → j < f → j < g → fold_seen_within c seen f j ≡ fold_seen_within c seen g j) → (m : Slot) → slot c n ≡ Some m → (o : Option ℕ) → m.from ≡ o → opened m o (fold_seen_within c seen f) ≡ opened m o (fold_seen_within c seen g)
      from_is rec m at None is = refl
      from_is rec m at (Some k) is = ap (option_map (λ (s : NodeState). s.kept)) (let b = low.lower n k m at is in rec k (omega arith) (omega arith))

      by : ((j : ℕ) → j < f → j < g → fold_seen_within c seen f j ≡ fold_seen_within c seen g j) → (o : Option Slot) → slot c n ≡ o → option_and_then (of_slot (fold_seen_within c seen f) n) o ≡ option_and_then (of_slot (fold_seen_within c seen g) n) o
      by rec None at = refl
      by rec (Some m) at = ap (λ (x : Option Kept). option_and_then (λ own. option_and_then (fold_at m own) x) (seen n)) (from_is rec m at m.from refl)

  abbrev F : ℕ → Option NodeState
  F n = fold_seen c seen n

  module _ (k : Kind) where
    -- a node's own part
    own_part : (from : Option ℕ) (x : LineSight) (h : IsMadeSo c k from x) → seen x.slot ≡ Some x.log
        → F x.slot ≡ option_and_then (fold_at h.made x.log) (opened h.made h.made.from (fold_seen_within c seen x.slot))
    own_part from x h at = ap (option_and_then (of_slot (fold_seen_within c seen x.slot) x.slot)) h.there
        ∙ ap (option_and_then (λ own. option_and_then (fold_at h.made own) (opened h.made h.made.from (fold_seen_within c seen x.slot)))) at

    same_fold : (from : Option ℕ) (x : LineSight) (h : IsMadeSo c k from x) (kept : Kept) → fold_at h.made x.log kept ≡ fold_from x.first (at_rest k x.arg kept) x.log
    same_fold from x h kept = λ i. fold_from (h.first i) (at_rest (h.kind i) (h.arg i) kept) x.log

    alone : (x : LineSight) (h : IsMadeSo c k None x) → seen x.slot ≡ Some x.log → F x.slot ≡ line_node_state k None (line_node x)
    alone x h at = own_part None x h at ∙ ap (λ o. option_and_then (fold_at h.made x.log) (opened h.made o (fold_seen_within c seen x.slot))) h.from_is
        ∙ same_fold None x h (opening h.made.node.kind (argument_of h.made)) ∙ (λ i. fold_from x.first (at_rest k x.arg (opening (h.kind i) (h.arg i))) x.log)

    behind : (j : ℕ) (x : LineSight) (h : IsMadeSo c k (Some j) x) → seen x.slot ≡ Some x.log
        → F x.slot ≡ option_and_then (λ (s : NodeState). line_node_state k (Some s.kept) (line_node x)) (F j)
    behind j x h at =
        let b = low.lower x.slot j h.made h.there h.from_is in
        own_part (Some j) x h at ∙ ap (λ o. option_and_then (fold_at h.made x.log) (opened h.made o (fold_seen_within c seen x.slot))) h.from_is
        ∙ ap (λ o. option_and_then (fold_at h.made x.log) (option_map (λ (s : NodeState). s.kept) o)) (enough x.slot (suc j) j b (omega arith))
        ∙ by (F j)
      where
        by : (o : Option NodeState) → option_and_then (fold_at h.made x.log) (option_map (λ (s : NodeState). s.kept) o) ≡ option_and_then (λ (s : NodeState). line_node_state k (Some s.kept) (line_node x)) o
        by None = refl
        by (Some s) = same_fold (Some j) x h s.kept

    abbrev Seen : List LineSight → Type 0
    Seen xs = AllByRecursion (λ (x : LineSight). seen x.slot ≡ Some x.log) xs

    then_ : (o : Option NodeState) (x last : LineNode) (xs : List LineNode)
        → option_and_then (λ (u : NodeState). line_state k (Some u.kept) xs last) (option_and_then (λ (s : NodeState). line_node_state k (Some s.kept) x) o)
        ≡ option_and_then (λ (s : NodeState). line_state k (Some s.kept) (x ∷ xs) last) o
    then_ None x last xs = refl
    then_ (Some s) x last xs = refl

    on : (j : ℕ) (xs : List LineSight) (last : LineSight) → IsMadeLine c k (Some j) (xs ++ last ∷ []) → Seen (xs ++ last ∷ [])
        → F last.slot ≡ option_and_then (λ (s : NodeState). line_state k (Some s.kept) (map line_node xs) (line_node last)) (F j)
    on j [] last h s = behind j last h.0 s.0
    on j (x ∷ xs) last h s =
        on x.slot xs last h.1 s.1
        ∙ ap (option_and_then (λ (u : NodeState). line_state k (Some u.kept) (map line_node xs) (line_node last))) (behind j x h.0 s.0)
        ∙ then_ (F j) (line_node x) (line_node last) (map line_node xs)

    pub whole : (past : List LineSight) (last : LineSight) → IsMadeLine c k None (past ++ last ∷ []) → Seen (past ++ last ∷ [])
        → F last.slot ≡ line_state k None (map line_node past) (line_node last)
    whole [] last h s = alone last h.0 s.0
    whole (x ∷ xs) last h s = on x.slot xs last h.1 s.1 ∙ ap (option_and_then (λ (u : NodeState). line_state k (Some u.kept) (map line_node xs) (line_node last))) (alone x h.0 s.0)
